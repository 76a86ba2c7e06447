-- The book that a document finds which goes on from another.
use Rattle.std.proofs.Common.{◌≡◌, ◌≢◌, ℕ, zero, suc, ◌+◌, ◌<◌, ◌≤◌, Bool, true, false, not, List, [], ◌∷◌, ◌++◌, length, take, get_or, Option, Some, None, refl, sym, ap, subst, ◌∙◌, arith, inl, inr, length-append}
use Rattle.std.specs.Prelude.{slice_get, option_map, is_some, option_to_list, ◌==◌, ◌||◌, ◌&&◌, if◌then◌else◌, ◌-◌}
use Rattle.std.specs.List.{list_any}
use Rattle.std.specs.Str.{bytes_eq}
use Rattle.std.proofs.lemmas.Bool.{lt-leb, le-ltb, ne_eqb}
use Rattle.std.proofs.lemmas.List.{length-map}
use Rattle.std.proofs.lemmas.List.Quantifiers.{position-Some}
use Rattle.std.proofs.lemmas.Slice.Eq.{bytes_eq-Decides}
use Rattle.propagation.specs.Lists.{AreDistinct, Has, is_among}
use Rattle.propagation.proofs.Lists.{Has-append_left, Has-append_right}
use Rattle.svc_expr.specs.Tree.{tree_of}
use Rattle.svc_expr.specs.Types.{takes_numbers, is_same}
use Rattle.svc_graph.proofs.AreDistinct.{AreDistinct-right, AreDistinct-disjoint}
use Rattle.svc_graph.proofs.Changed.{kind_at-roster}
use Rattle.svc_graph.specs.Accepting.{IsChangeOf, HasForm}
use Rattle.svc_expr.specs.Names.{Differ}
use Rattle.svc_graph.specs.Book.{IsBook, IsDefinitionOf, IsFormulaOf}
use Rattle.svc_graph.specs.Central.{AreBorn}
use Rattle.svc_graph.specs.declared.definition.Change.TheVariants.{Birth}
use Rattle.svc_graph.specs.declared.definition.Definition.{Definition}
use Rattle.svc_graph.specs.declared.definition.Definition.TheVariants.{Input, Derived}
use Rattle.svc_graph.specs.declared.definition.Formula.{Formula}
use Rattle.svc_graph.specs.declared.kind.Kind.{Kind}
use Rattle.svc_graph.specs.History.{Row, rows_after_change, declared_row, history_of, kind_of, names_in, find_service, present, roster_of, row_at}
use Rattle.svc_graph.specs.Refusals.{AcceptsChange, kind_at, any_named, is_unknown, is_high, is_text, is_type, is_ill_typed, is_large, repeats, first_error, refusal_of}
use Rattle.svc_value.specs.declared.value.ValueType.{ValueType}
use Rattle.svc_value.specs.declared.value.ValueType.TheVariants as type
use Rattle.svc_plan.specs.Rows.{present_rows}
use Rattle.document_reading.specs.Present.{bare_rows, half_present}
use Rattle.document_reading.specs.Sound.{IsStart}
use Rattle.document_reading.specs.State.{start}
use Rattle.document_reading.proofs.NumberLemmas.{any_none}
use Rattle.document_reading.proofs.RefusalLemmas.{error_of}

-- ---- declarations

bare_suc : (rows : List Row) (n : ℕ) → n < length rows
    → bare_rows (take (suc n) rows) ≡ bare_rows (take n rows) ++ declared_row (row_at rows n).name (row_at rows n).rank (row_at rows n).ty ∷ []
bare_suc [] n h = absurd (omega arith)
bare_suc (row ∷ rows) zero h = refl
bare_suc (row ∷ rows) (suc n) h = ap (λ (rs : List Row). record row { history = [] } ∷ rs) (bare_suc rows n (omega arith))

next_is : (n : ℕ) → n + 1 ≡ suc n
next_is n = omega arith

pub bare_more : (rows : List Row) (n : ℕ) → n < length rows
    → bare_rows (take (n + 1) rows) ≡ bare_rows (take n rows) ++ declared_row (row_at rows n).name (row_at rows n).rank (row_at rows n).ty ∷ []
bare_more rows n h = ap (λ (k : ℕ). bare_rows (take k rows)) (next_is n) ∙ bare_suc rows n h

pub length-bare : (rows : List Row) (n : ℕ) → n < length rows → length (bare_rows (take n rows)) ≡ n
length-bare [] n h = absurd (omega arith)
length-bare (row ∷ rows) zero h = refl
length-bare (row ∷ rows) (suc n) h = ap suc (length-bare rows n (omega arith))

-- the names before a place are those of the rows
name_before : (rows : List Row) (n i : ℕ) → i < n → n < length rows → get_or (names_in (bare_rows (take n rows))) i [] ≡ (row_at rows i).name
name_before [] n i h k = absurd (omega arith)
name_before (row ∷ rows) zero i h k = absurd (omega arith)
name_before (row ∷ rows) (suc n) zero h k = refl
name_before (row ∷ rows) (suc n) (suc i) h k = name_before rows n i (omega arith) (omega arith)

has_name : (rows : List Row) (n : ℕ) → n < length rows → Has (names_in rows) (row_at rows n).name
has_name [] n h = absurd (omega arith)
has_name (row ∷ rows) zero h = inl refl
has_name (row ∷ rows) (suc n) h = inr (has_name rows n (omega arith))

-- names at two places differ
names_apart : (rows : List Row) (i n : ℕ) → Differ (names_in rows) → i < n → n < length rows → (row_at rows n).name ≡ (row_at rows i).name → ⊥
names_apart [] i n d h k e = absurd (omega arith)
names_apart (row ∷ rows) i zero d h k e = absurd (omega arith)
names_apart (row ∷ rows) zero (suc n) d h k e = d.0 (subst (Has (names_in rows)) e (has_name rows n (omega arith)))
names_apart (row ∷ rows) (suc i) (suc n) d h k e = names_apart rows i n d.1 (omega arith) (omega arith) e

pub new_name : (rows : List Row) (n : ℕ) → IsBook rows → n < length rows → find_service (bare_rows (take n rows)) (row_at rows n).name ≡ None
new_name rows n b h = by (find_service (bare_rows (take n rows)) (row_at rows n).name) refl
  where
    before : List (List ℕ)
    before = names_in (bare_rows (take n rows))

    by : (found : Option ℕ) → find_service (bare_rows (take n rows)) (row_at rows n).name ≡ found → find_service (bare_rows (take n rows)) (row_at rows n).name ≡ None
    by None e = e
    by (Some i) e =
        let at = position-Some (bytes_eq (row_at rows n).name) before i [] e in
        let within : i < n = subst (λ (k : ℕ). i < k) (length-map (bare_rows (take n rows)) (λ row. row.name) ∙ length-bare rows n h) at.0 in
        let same : (row_at rows n).name ≡ (row_at rows i).name = (bytes_eq-Decides (row_at rows n).name (get_or before i [])).0 at.1 ∙ name_before rows n i within h in
        absurd (names_apart rows i n b.names within h same)

-- ---- births

half_suc : (rows : List Row) (n : ℕ) (d : Definition) → n < length rows → present (history_of rows n) ≡ Some d → rows_after_change (half_present n rows) n (Birth d) ≡ half_present (suc n) rows
half_suc [] n d h e = absurd (omega arith)
half_suc (row ∷ rows) zero d h e = λ i. record row { history = option_to_list (sym e i) } ∷ bare_rows rows
half_suc (row ∷ rows) (suc n) d h e = ap (λ (rs : List Row). record row { history = option_to_list (present row.history) } ∷ rs) (half_suc rows n d (omega arith) e)

pub half_changed : (rows : List Row) (n : ℕ) (d : Definition) → n < length rows → present (history_of rows n) ≡ Some d → rows_after_change (half_present n rows) n (Birth d) ≡ half_present (n + 1) rows
half_changed rows n d h e = half_suc rows n d h e ∙ ap (λ (k : ℕ). half_present k rows) (sym (next_is n))

pub half_all : (rows : List Row) (n : ℕ) → n ≡ length rows → half_present n rows ≡ present_rows rows
half_all [] zero e = refl
half_all [] (suc n) e = refl
half_all (row ∷ rows) zero e = absurd (omega (arith, e))
half_all (row ∷ rows) (suc n) e = ap (λ (rs : List Row). record row { history = option_to_list (present row.history) } ∷ rs) (half_all rows n (omega (arith, e)))

pub bare_all : (rows : List Row) (n : ℕ) → n ≡ length rows → bare_rows (take n rows) ≡ bare_rows rows
bare_all [] zero e = refl
bare_all [] (suc n) e = refl
bare_all (row ∷ rows) zero e = absurd (omega (arith, e))
bare_all (row ∷ rows) (suc n) e = ap (λ (rs : List Row). record row { history = [] } ∷ rs) (bare_all rows n (omega (arith, e)))

roster-bare : (rows : List Row) → roster_of (bare_rows rows) ≡ roster_of rows
roster-bare [] = refl
roster-bare (row ∷ rows) = ap (λ (ks : List Kind). kind_of row ∷ ks) (roster-bare rows)

roster-half : (n : ℕ) (rows : List Row) → roster_of (half_present n rows) ≡ roster_of rows
roster-half zero rows = roster-bare rows
roster-half (suc n) [] = refl
roster-half (suc n) (row ∷ rows) = ap (λ (ks : List Kind). kind_of row ∷ ks) (roster-half n rows)

half_empty : (n : ℕ) (rows : List Row) → history_of (half_present n rows) n ≡ []
half_empty zero [] = refl
half_empty zero (row ∷ rows) = refl
half_empty (suc n) [] = refl
half_empty (suc n) (row ∷ rows) = half_empty n rows

length-roster : (rows others : List Row) → roster_of rows ≡ roster_of others → length rows ≡ length others
length-roster rows others e = sym (length-map rows kind_of) ∙ ap length e ∙ length-map others kind_of

-- ---- a definition of a book is accepted as a birth

not_among : (ps : List ℕ) (q : ℕ) → (Has ps q → ⊥) → is_among ps q ≡ false
not_among [] q h = refl
not_among (p ∷ ps) q h = (λ i. if ne_eqb p q (λ e. h (inl e)) i then true else is_among ps q) ∙ not_among ps q (λ has. h (inr has))

no_repeats : (names members : List ℕ) → AreDistinct members → ((q : ℕ) → Has names q → Has members q → ⊥) → repeats names members ≡ false
no_repeats names [] a h = refl
no_repeats names (m ∷ ms) a h =
    λ i. (not_among names m (λ has. h m has (inl refl)) i || not_among ms m a.0 i) || no_repeats names ms a.1 (λ q left right. h q left (inr right)) i

same_type : (ty : ValueType) → is_same ty ty ≡ true
same_type type.Int = refl
same_type type.Text = refl

module _ (kinds : List Kind) (n : ℕ) (formula : Formula) (f : IsFormulaOf kinds n formula) where
  none_named : (test : ℕ → Bool) → ((p : ℕ) → Has (formula.fixed ++ formula.members) p → test p ≡ false) → any_named test formula ≡ false
  none_named test h =
      λ i. any_none test formula.fixed (λ p has. h p (Has-append_left formula.fixed formula.members p has)) i
      || any_none test formula.members (λ p has. h p (Has-append_right formula.fixed formula.members p has)) i

  all_known : any_named (λ p. is_unknown kinds p || p == n) formula ≡ false
  all_known = none_named (λ p. is_unknown kinds p || p == n)
      (λ p has. let b = f.below p has in λ i. lt-leb (length kinds) p b.declared i
      || ne_eqb p n (λ e. let r = b.rank in let s = ap (λ (q : ℕ). (kind_at kinds q).rank) e in omega (arith, r, s)) i)

  all_lower : any_named (is_high kinds n) formula ≡ false
  all_lower = none_named (is_high kinds n) (λ p has. lt-leb (kind_at kinds n).rank (kind_at kinds p).rank (f.below p has).rank)

  all_numbers : (b : Bool) → takes_numbers (tree_of formula.expr) ≡ b → (b && list_any (is_text kinds) formula.members) ≡ false
  all_numbers false e = refl
  all_numbers true e = any_none (is_text kinds) formula.members (λ p has. ap (λ (ty : ValueType). is_same type.Text ty) (f.numbers e p has))

  well_typed : is_ill_typed kinds n formula ≡ false
  well_typed =
      (λ i. not (is_type (f.typed i) (kind_at kinds n).ty) || all_numbers (takes_numbers (tree_of formula.expr)) refl i)
      ∙ (λ i. not (same_type (kind_at kinds n).ty i) || false)

  few : is_large formula ≡ false
  few = let l = f.few in le-ltb 16 (length formula.fixed + length formula.members) (omega (arith, length-append formula.fixed formula.members, l))

  alone : repeats formula.fixed formula.members ≡ false
  alone = no_repeats formula.fixed formula.members (AreDistinct-right formula.fixed formula.members f.apart) (AreDistinct-disjoint formula.fixed formula.members f.apart)

birth_passes : (kinds : List Kind) (n : ℕ) (d : Definition) → IsDefinitionOf kinds n d → first_error kinds n None (Birth d) ≡ None
birth_passes kinds n (Input value) h = λ i. error_of false false (not (h.1 i)) false false false false false
birth_passes kinds n (Derived formula) h =
    λ i. error_of (all_known kinds n formula h.1 i) (all_lower kinds n formula h.1 i) (well_typed kinds n formula h.1 i) (few kinds n formula h.1 i) false false (alone kinds n formula h.1 i) false

birth_form : (kinds : List Kind) (n : ℕ) (d : Definition) → IsDefinitionOf kinds n d → HasForm (kind_at kinds n).rank (Birth d)
birth_form kinds n (Input value) h = (h.0, h.2)
birth_form kinds n (Derived formula) h = (h.0, h.1.written)

has_present : (history : List Definition) (i : ℕ) (d : Definition) → slice_get history i ≡ Some d → Has history d
has_present [] i d e = absurd (cc)
has_present (x ∷ xs) zero d e = inl (cc)
has_present (x ∷ xs) (suc i) d e = inr (has_present xs i d e)

module _ (rows : List Row) (n : ℕ) (d : Definition) (b : IsBook rows) (h : n < length rows) (e : present (history_of rows n) ≡ Some d) where
  defined : IsDefinitionOf (roster_of rows) n d
  defined = (b.each n h).definitions d (has_present (history_of rows n) (length (history_of rows n) - 1) d e)

  rank_there : (kind_at (roster_of rows) n).rank ≡ (row_at (half_present n rows) n).rank
  rank_there = ap (λ (ks : List Kind). (kind_at ks n).rank) (sym (roster-half n rows)) ∙ ap (λ (k : Kind). k.rank) (kind_at-roster (half_present n rows) n)

  half_form : IsChangeOf (half_present n rows) n (Birth d)
  half_form = record {
    declared = subst (λ (k : ℕ). n < k) (sym (length-roster (half_present n rows) rows (roster-half n rows))) h;
    first = (λ _. half_empty n rows, λ _. refl);
    form = subst (λ (r : ℕ). HasForm r (Birth d)) rank_there (birth_form (roster_of rows) n d defined);
    clock = subst (λ (ds : List Definition). length ds < 1024000) (sym (half_empty n rows)) (omega arith);
  }

  half_passes : refusal_of (half_present n rows) n (Birth d) ≡ None
  half_passes =
      (λ i. first_error (roster-half n rows i) n (present (half_empty n rows i)) (Birth d))
      ∙ birth_passes (roster_of rows) n d defined

  pub half_accepts : AcceptsChange (half_present n rows) n (Birth d)
  half_accepts = record { form = half_form; passes = half_passes }

-- what is made of something that may be there is there where that is
pub there_is : {A B : Type 0} (f : A → B) (o : Option A) (made : B) → option_map f o ≡ Some made → is_some o ≡ true
there_is f None made e = absurd (cc)
there_is f (Some x) made e = refl

-- ---- the start

pub born_present : (rows : List Row) (n : ℕ) → AreBorn rows → n < length rows → (d : Definition) × (present (history_of rows n) ≡ Some d)
born_present rows n b h = by (history_of rows n) (b n h)
  where
    by : (history : List Definition) → 0 < length history → (d : Definition) × (present history ≡ Some d)
    by [] k = absurd (omega arith)
    by (x ∷ xs) k = last (x ∷ xs) (length (x ∷ xs) - 1) (omega arith)
      where
        last : (history : List Definition) (i : ℕ) → i < length history → (d : Definition) × (slice_get history i ≡ Some d)
        last [] i k = absurd (omega arith)
        last (x ∷ xs) zero k = (x, refl)
        last (x ∷ xs) (suc i) k = last xs i (omega arith)

history_present : (rows : List Row) (n : ℕ) → history_of (present_rows rows) n ≡ option_to_list (present (history_of rows n))
history_present [] n = refl
history_present (row ∷ rows) zero = refl
history_present (row ∷ rows) (suc n) = history_present rows n

pub present_start : (rows : List Row) (before : ℕ) → AreBorn rows → before ≤ 1000 → IsStart (start (present_rows rows) before)
present_start rows before b h = record {
  begins = refl;
  born = λ n k e.
      let d = born_present rows n b (subst (λ (l : ℕ). n < l) (length-map rows _) k) in
      let one : history_of (present_rows rows) n ≡ d.0 ∷ [] = history_present rows n ∙ ap option_to_list d.1 in
      not_nil d.0 (sym one ∙ e);
  clocks = λ n. subst (λ (ds : List Definition). length ds ≤ 1) (sym (history_present rows n)) (at_most (present (history_of rows n)));
  legs = h;
}
  where
    not_nil : (d : Definition) → d ∷ [] ≢ []
    not_nil d e = cc

    at_most : (o : Option Definition) → length (option_to_list o) ≤ 1
    at_most None = omega arith
    at_most (Some d) = omega arith
