-- A change that a book accepts is accepted where more services are declared.
use Rattle.std.proofs.Common.{◌≡◌, ℕ, zero, suc, ◌<◌, Bool, true, false, not, List, [], ◌∷◌, ◌++◌, length, length-append, Option, Some, None, refl, sym, ap, subst, ◌∙◌, arith, inl, inr, ⊎_elim}
use Rattle.std.specs.Prelude.{map, ◌==◌, ◌||◌, ◌&&◌, nat_le, nat_lt, if◌then◌else◌}
use Rattle.std.specs.List.{list_any}
use Rattle.std.proofs.lemmas.Bool.{leb-false, lt-leb}
use Rattle.std.proofs.lemmas.List.{length-map, map-append}
use Rattle.propagation.specs.Lists.{Has, is_among}
use Rattle.propagation.proofs.Lists.{Has-append_cases, Has-append_left, Has-append_right}
use Rattle.svc_expr.specs.Tree.{tree_of}
use Rattle.svc_expr.specs.Types.{takes_numbers, type_in, is_same}
use Rattle.svc_graph.proofs.AreDistinct.{or_left, or_right, Has-list_any}
use Rattle.svc_graph.specs.Accepting.{HasForm}
use Rattle.svc_graph.specs.declared.definition.Change.{Change}
use Rattle.svc_graph.specs.declared.definition.Change.TheVariants.{Birth, Set, Add, Drop, Define}
use Rattle.svc_graph.specs.declared.definition.Definition.{Definition}
use Rattle.svc_graph.specs.declared.definition.Definition.TheVariants.{Input, Derived}
use Rattle.svc_graph.specs.declared.definition.Formula.{Formula}
use Rattle.svc_graph.specs.declared.errors.ChangeError.{ChangeError}
use Rattle.svc_graph.specs.declared.errors.ChangeError.TheVariants.{Unknown}
use Rattle.svc_graph.specs.declared.kind.Kind.{Kind}
use Rattle.svc_graph.specs.History.{Row, rows_after_change, history_of, kind_of, present, roster_of, row_at}
use Rattle.svc_graph.specs.Refusals.{AcceptsChange, kind_at, is_unknown, any_named, names_unknown, is_high, names_high, is_text, is_type, is_ill_typed, has_wrong_type, has_too_many, is_large, sets_derived, changes_input, brings_again, repeats, drops_other, last_dependencies, last_members, last_takes_numbers, first_error}
use Rattle.svc_value.specs.Value.{has_type}
use Rattle.svc_value.specs.declared.value.ValueType.TheVariants.{Text}
use Rattle.svc_plan.specs.declared.plan.PlanChange.{PlanChange}
use Rattle.svc_plan.specs.Rows.{with_changes, AreAcceptedAfter}
use Rattle.svc_plan.proofs.RowLemmas.{changed-append, row_at-append, long-append}
use Rattle.document_reading.proofs.NumberLemmas.{any_none}
use Rattle.document_reading.proofs.RefusalLemmas.{error_of}

-- the services that a change names
abbrev named : Change → List ℕ
named (Birth (Input value)) = []
named (Birth (Derived formula)) = formula.fixed ++ formula.members
named (Set value) = []
named (Add member) = member ∷ []
named (Drop member) = member ∷ []
named (Define formula) = formula.fixed ++ formula.members

-- ---- lists

any_same : (test other : ℕ → Bool) (ps : List ℕ) → ((p : ℕ) → Has ps p → test p ≡ other p) → list_any test ps ≡ list_any other ps
any_same test other [] h = refl
any_same test other (p ∷ ps) h = λ i. h p (inl refl) i || any_same test other ps (λ q has. h q (inr has)) i

map_same : {A : Type 0} (f g : ℕ → A) (ps : List ℕ) → ((p : ℕ) → Has ps p → f p ≡ g p) → map f ps ≡ map g ps
map_same f g [] h = refl
map_same f g (p ∷ ps) h = λ i. h p (inl refl) i ∷ map_same f g ps (λ q has. h q (inr has)) i

named_same : (test other : ℕ → Bool) (formula : Formula) → ((p : ℕ) → Has (formula.fixed ++ formula.members) p → test p ≡ other p) → any_named test formula ≡ any_named other formula
named_same test other formula h =
    λ i. any_same test other formula.fixed (λ p has. h p (Has-append_left formula.fixed formula.members p has)) i
    || any_same test other formula.members (λ p has. h p (Has-append_right formula.fixed formula.members p has)) i

no_named : (test : ℕ → Bool) (formula : Formula) → any_named test formula ≡ false → (p : ℕ) → Has (formula.fixed ++ formula.members) p → test p ≡ false
no_named test formula h p has =
    ⊎_elim (Has-list_any test formula.fixed p (or_left (list_any test formula.fixed) (list_any test formula.members) h))
    (Has-list_any test formula.members p (or_right (list_any test formula.fixed) (list_any test formula.members) h))
    (Has-append_cases formula.fixed formula.members p has)

-- ---- tests over rosters that agree on what the change names

module _ (kinds others : List Kind) (n : ℕ) (last : Option Definition) (here : kind_at others n ≡ kind_at kinds n) where
  high_same : (change : Change) → ((p : ℕ) → Has (named change) p → kind_at others p ≡ kind_at kinds p) → names_high others n change ≡ names_high kinds n change
  high_same (Birth (Input value)) h = refl
  high_same (Birth (Derived formula)) h = named_same (is_high others n) (is_high kinds n) formula (λ p has. λ i. nat_le (here i).rank (h p has i).rank)
  high_same (Set value) h = refl
  high_same (Add member) h = λ i. nat_lt 0 (here i).rank && nat_le (here i).rank (h member (inl refl) i).rank
  high_same (Drop member) h = refl
  high_same (Define formula) h = λ i. nat_lt 0 (here i).rank && named_same (is_high others n) (is_high kinds n) formula (λ p has. λ j. nat_le (here j).rank (h p has j).rank) i

  ill_same : (formula : Formula) → ((p : ℕ) → Has (formula.fixed ++ formula.members) p → kind_at others p ≡ kind_at kinds p) → is_ill_typed others n formula ≡ is_ill_typed kinds n formula
  ill_same formula h =
      let types = map_same (λ p. (kind_at others p).ty) (λ p. (kind_at kinds p).ty) formula.fixed (λ p has. ap (λ (k : Kind). k.ty) (h p (Has-append_left formula.fixed formula.members p has))) in
      let texts = any_same (is_text others) (is_text kinds) formula.members (λ p has. ap (λ (k : Kind). is_same Text k.ty) (h p (Has-append_right formula.fixed formula.members p has))) in
      λ i. not (is_type (type_in (tree_of formula.expr) (types i)) (here i).ty) || (takes_numbers (tree_of formula.expr) && texts i)

  type_same : (change : Change) → ((p : ℕ) → Has (named change) p → kind_at others p ≡ kind_at kinds p) → has_wrong_type others n last change ≡ has_wrong_type kinds n last change
  type_same (Birth (Input value)) h = λ i. not (has_type value (here i).ty)
  type_same (Birth (Derived formula)) h = ill_same formula h
  type_same (Set value) h = λ i. not (nat_lt 0 (here i).rank) && not (has_type value (here i).ty)
  type_same (Add member) h = λ i. nat_lt 0 (here i).rank && (last_takes_numbers last && is_same Text (h member (inl refl) i).ty)
  type_same (Drop member) h = refl
  type_same (Define formula) h = λ i. nat_lt 0 (here i).rank && ill_same formula h i

  many_same : (change : Change) → has_too_many others n last change ≡ has_too_many kinds n last change
  many_same (Birth (Input value)) = refl
  many_same (Birth (Derived formula)) = refl
  many_same (Set value) = refl
  many_same (Add member) = λ i. nat_lt 0 (here i).rank && (not (is_among (last_dependencies last) member) && nat_le 16 (length (last_dependencies last)))
  many_same (Drop member) = refl
  many_same (Define formula) = λ i. nat_lt 0 (here i).rank && is_large formula

  set_same : (change : Change) → sets_derived others n change ≡ sets_derived kinds n change
  set_same (Birth first) = refl
  set_same (Set value) = λ i. nat_lt 0 (here i).rank
  set_same (Add member) = refl
  set_same (Drop member) = refl
  set_same (Define formula) = refl

  input_same : (change : Change) → changes_input others n change ≡ changes_input kinds n change
  input_same (Birth first) = refl
  input_same (Set value) = refl
  input_same (Add member) = λ i. not (nat_lt 0 (here i).rank)
  input_same (Drop member) = λ i. not (nat_lt 0 (here i).rank)
  input_same (Define formula) = λ i. not (nat_lt 0 (here i).rank)

  again_same : (change : Change) → brings_again others n last change ≡ brings_again kinds n last change
  again_same (Birth (Input value)) = refl
  again_same (Birth (Derived formula)) = refl
  again_same (Set value) = refl
  again_same (Add member) = refl
  again_same (Drop member) = refl
  again_same (Define formula) = λ i. nat_lt 0 (here i).rank && repeats formula.fixed formula.members

  drop_same : (change : Change) → drops_other others n last change ≡ drops_other kinds n last change
  drop_same (Birth first) = refl
  drop_same (Set value) = refl
  drop_same (Add member) = refl
  drop_same (Drop member) = λ i. nat_lt 0 (here i).rank && not (is_among (last_members last) member)
  drop_same (Define formula) = refl

  refused_same : (change : Change) → ((p : ℕ) → Has (named change) p → kind_at others p ≡ kind_at kinds p) → names_unknown others n change ≡ names_unknown kinds n change
      → first_error others n last change ≡ first_error kinds n last change
  refused_same change h known =
      λ i. error_of (known i) (high_same change h i) (type_same change h i) (many_same change i) (set_same change i) (input_same change i) (again_same change i) (drop_same change i)

-- ---- more services behind

kind_more : (kinds more : List Kind) (p : ℕ) → p < length kinds → kind_at (kinds ++ more) p ≡ kind_at kinds p
kind_more [] more p h = absurd (omega arith)
kind_more (kind ∷ kinds) more zero h = refl
kind_more (kind ∷ kinds) more (suc p) h = kind_more kinds more p (omega arith)

below : (a p : ℕ) → nat_le a p ≡ false → p < a
below a p h = leb-false a p h

-- what a change names is declared where it is not refused
all_known : (kinds : List Kind) (n : ℕ) (change : Change) → names_unknown kinds n change ≡ false → (p : ℕ) → Has (named change) p → p < length kinds
all_known kinds n (Birth (Input value)) h p has = absurd has
all_known kinds n (Birth (Derived formula)) h p has = below (length kinds) p (or_left (is_unknown kinds p) (p == n) (no_named (λ q. is_unknown kinds q || q == n) formula h p has))
all_known kinds n (Set value) h p has = absurd has
all_known kinds n (Add member) h p (inl same) = subst (λ (q : ℕ). q < length kinds) same (below (length kinds) member h)
all_known kinds n (Add member) h p (inr none) = absurd none
all_known kinds n (Drop member) h p (inl same) = subst (λ (q : ℕ). q < length kinds) same (below (length kinds) member h)
all_known kinds n (Drop member) h p (inr none) = absurd none
all_known kinds n (Define formula) h p has = below (length kinds) p (no_named (is_unknown kinds) formula h p has)

module _ (kinds more : List Kind) where
  unknown_more : (p : ℕ) → is_unknown kinds p ≡ false → is_unknown (kinds ++ more) p ≡ false
  unknown_more p h = lt-leb (length (kinds ++ more)) p (let k = below (length kinds) p h in omega (arith, length-append kinds more, k))

  named_none : (test : ℕ → Bool) (formula : Formula) → ((p : ℕ) → Has (formula.fixed ++ formula.members) p → test p ≡ false) → any_named test formula ≡ false
  named_none test formula h =
      λ i. any_none test formula.fixed (λ p has. h p (Has-append_left formula.fixed formula.members p has)) i
      || any_none test formula.members (λ p has. h p (Has-append_right formula.fixed formula.members p has)) i

  known_more : (n : ℕ) (change : Change) → names_unknown kinds n change ≡ false → names_unknown (kinds ++ more) n change ≡ false
  known_more n (Birth (Input value)) h = refl
  known_more n (Birth (Derived formula)) h =
      named_none (λ p. is_unknown (kinds ++ more) p || p == n) formula
      (λ p has. let k = no_named (λ q. is_unknown kinds q || q == n) formula h p has in
      λ i. unknown_more p (or_left (is_unknown kinds p) (p == n) k) i || or_right (is_unknown kinds p) (p == n) k i)
  known_more n (Set value) h = refl
  known_more n (Add member) h = unknown_more member h
  known_more n (Drop member) h = unknown_more member h
  known_more n (Define formula) h = named_none (is_unknown (kinds ++ more)) formula (λ p has. unknown_more p (no_named (is_unknown kinds) formula h p has))

  refused_more : (n : ℕ) (last : Option Definition) (change : Change) → n < length kinds → names_unknown kinds n change ≡ false
      → first_error (kinds ++ more) n last change ≡ first_error kinds n last change
  refused_more n last change within h =
      refused_same kinds (kinds ++ more) n last (kind_more kinds more n within) change (λ p has. kind_more kinds more p (all_known kinds n change h p has))
      (known_more n change h ∙ sym h)

no_unknown : (b : Bool) (rest : Option ChangeError) → (if b then Some Unknown else rest) ≡ None → b ≡ false
no_unknown true rest h = absurd (cc)
no_unknown false rest h = refl

module _ (rows more : List Row) where
  more_accepted : (n : ℕ) (change : Change) → AcceptsChange rows n change → AcceptsChange (rows ++ more) n change
  more_accepted n change h =
      let at = row_at-append rows more n h.form.declared in
      let history : history_of (rows ++ more) n ≡ history_of rows n = ap (λ (row : Row). row.history) at in
      let rank : (row_at (rows ++ more) n).rank ≡ (row_at rows n).rank = ap (λ (row : Row). row.rank) at in
      let known = no_unknown (names_unknown (roster_of rows) n change) _ h.passes in
      record {
        form = record {
          declared = long-append rows more n h.form.declared;
          first = (λ is. history ∙ h.form.first.0 is, λ none. h.form.first.1 (sym history ∙ none));
          form = subst (λ (r : ℕ). HasForm r change) (sym rank) h.form.form;
          clock = subst (λ (ds : List Definition). length ds < 1024000) (sym history) h.form.clock;
        };
        passes =
            (λ i. first_error (map-append kind_of rows more i) n (present (history i)) change)
            ∙ refused_more (roster_of rows) (roster_of more) n (present (history_of rows n)) change (subst (λ (k : ℕ). n < k) (sym (length-map rows kind_of)) h.form.declared) known
            ∙ h.passes;
      }

pub accepted-more : (rows more : List Row) (changes : List PlanChange) → AreAcceptedAfter rows changes → AreAcceptedAfter (rows ++ more) changes
accepted-more rows more [] h = tt
accepted-more rows more (c ∷ changes) h = (
  more_accepted rows more c.id c.change h.0,
  subst (λ (rs : List Row). AreAcceptedAfter rs changes) (sym (changed-append rows more c.id c.change h.0.form.declared)) (accepted-more (rows_after_change rows c.id c.change) more changes h.1),
)

pub with_changes-more : (rows more : List Row) (changes : List PlanChange) → AreAcceptedAfter rows changes → with_changes (rows ++ more) changes ≡ with_changes rows changes ++ more
with_changes-more rows more [] h = refl
with_changes-more rows more (c ∷ changes) h =
    ap (λ (rs : List Row). with_changes rs changes) (changed-append rows more c.id c.change h.0.form.declared)
    ∙ with_changes-more (rows_after_change rows c.id c.change) more changes h.1

-- ---- more changes behind

pub with_changes-append : (rows : List Row) (front behind : List PlanChange) → with_changes rows (front ++ behind) ≡ with_changes (with_changes rows front) behind
with_changes-append rows [] behind = refl
with_changes-append rows (c ∷ front) behind = with_changes-append (rows_after_change rows c.id c.change) front behind

pub accepted-append : (rows : List Row) (front behind : List PlanChange) → AreAcceptedAfter rows front → AreAcceptedAfter (with_changes rows front) behind → AreAcceptedAfter rows (front ++ behind)
accepted-append rows [] behind h k = k
accepted-append rows (c ∷ front) behind h k = (h.0, accepted-append (rows_after_change rows c.id c.change) front behind h.1 k)
