-- An accepted change keeps a definition that is accepted, and what is accepted stays so when services are declared.
use Rattle.std.proofs.Common.{◌≡◌, ℕ, ◌+◌, ◌<◌, ◌≤◌, Bool, true, false, not, ◌&&◌, ◌||◌, ◌==◌, nat_le, filter, map, if◌then◌else◌, List, [], ◌∷◌, ◌++◌, length, length-append, append_assoc, Option, Some, None, refl, sym, ap, ◌∙◌, subst, inl, inr, ◌⊎◌, true≢false, arith}
use Rattle.std.proofs.lemmas.Bool.{leb-false, ltb-false, ltb-true}
use Rattle.std.specs.List.{list_any}
use Rattle.propagation.proofs.Lists.{Has-append_cases, Has-append_left, Has-append_right}
use Rattle.propagation.specs.Lists.{AreDistinct, Has, is_among}
use Rattle.svc_expr.specs.Tree.{tree_of}
use Rattle.svc_expr.specs.Types.{is_same, takes_numbers, type_in}
use Rattle.svc_graph.proofs.AreDistinct.{or_left, or_right, Has-list_any, not_among, AreDistinct-append, AreDistinct-left, AreDistinct-right, AreDistinct-disjoint, Has-filter, AreDistinct-filter, AreDistinct-repeats}
use Rattle.svc_graph.specs.Accepting.{HasForm, IsProper, IsWritten}
use Rattle.svc_graph.specs.Book.{IsBelow, IsDefinitionOf, IsFormulaOf}
use Rattle.svc_graph.specs.declared.definition.Change.{Change}
use Rattle.svc_graph.specs.declared.definition.Change.TheVariants.{Birth, Set, Add, Drop, Define}
use Rattle.svc_graph.specs.declared.definition.Definition.{Definition}
use Rattle.svc_graph.specs.declared.definition.Definition.TheVariants.{Input, Derived}
use Rattle.svc_graph.specs.declared.definition.Formula.{Formula}
use Rattle.svc_graph.specs.declared.errors.ChangeError.{ChangeError}
use Rattle.svc_graph.specs.declared.errors.ChangeError.TheVariants.{Unknown, RankNotLower, WrongType, TooMany, NotInput, NotDerived, Already, NotMember}
use Rattle.svc_graph.specs.declared.kind.Kind.{Kind}
use Rattle.svc_graph.specs.History.{definitions_brought, next_definition}
use Rattle.svc_graph.specs.Refusals.{any_named, brings_again, changes_input, drops_other, has_too_many, has_wrong_type, is_derived, is_high, is_ill_typed, is_large, is_text, is_type, is_unknown, kind_at, names_high, names_unknown, first_error, repeats, sets_derived}
use Rattle.svc_value.specs.Value.{has_type}
use Rattle.svc_value.specs.declared.value.Value.{Value}
use Rattle.svc_value.specs.declared.value.ValueType.{ValueType}
use Rattle.svc_value.specs.declared.value.ValueType.TheVariants.{Int, Text}

-- ---- more services

map-Has : {B : Type 0} (f g : ℕ → B) (ps : List ℕ) → ((p : ℕ) → Has ps p → f p ≡ g p) → map f ps ≡ map g ps
map-Has f g [] same = refl
map-Has f g (p ∷ ps) same = λ i. same p (inl refl) i ∷ map-Has f g ps (λ q has. same q (inr has)) i

-- the ranks and types of the services that were declared stay
pub record IsMore (old new : List Kind) : Type 0 where
  pub longer : length old ≤ length new
  pub same : (p : ℕ) → p < length old → kind_at new p ≡ kind_at old p

formula-more : {old new : List Kind} → IsMore old new → (n : ℕ) (formula : Formula) → n < length old → IsFormulaOf old n formula → IsFormulaOf new n formula
formula-more {old} {new} more n formula within h =
    record {
      written = h.written;
      apart = h.apart;
      few = h.few;
      below = below;
      typed = ap (type_in (tree_of formula.expr)) (map-Has (λ p. (kind_at new p).ty) (λ p. (kind_at old p).ty) formula.fixed (λ p has. ap (λ k. k.ty) (more.same p (h.below p (Has-append_left formula.fixed formula.members p has)).declared)))
          ∙ h.typed ∙ ap (λ k. Some k.ty) (sym (more.same n within));
      numbers = λ takes p has. ap (λ k. k.ty) (more.same p (h.below p (Has-append_right formula.fixed formula.members p has)).declared) ∙ h.numbers takes p has;
    }
  where
    below : (p : ℕ) → Has (formula.fixed ++ formula.members) p → IsBelow new n p
    below p has =
        let b = h.below p has in
        record { declared = omega (arith, b.declared, more.longer); rank = rw (more.same p b.declared, more.same n within) b.rank }

pub IsDefinitionOf-more : {old new : List Kind} → IsMore old new → (n : ℕ) (d : Definition) → n < length old → IsDefinitionOf old n d → IsDefinitionOf new n d
IsDefinitionOf-more more n (Input value) within h = rw (more.same n within) h
IsDefinitionOf-more more n (Derived formula) within h = (rw (more.same n within) h.0, formula-more more n formula within h.1)

-- ---- tests that don't hold

not_false : (b : Bool) → not b ≡ false → b ≡ true
not_false true h = refl
not_false false h = absurd (true≢false h)

and_false : (a b : Bool) → a ≡ true → (a && b) ≡ false → b ≡ false
and_false true b e h = h
and_false false b e h = absurd (true≢false (sym e))

is_same-true : (x y : ValueType) → is_same x y ≡ true → x ≡ y
is_same-true Int Int h = refl
is_same-true Int Text h = absurd (true≢false (sym h))
is_same-true Text Int h = absurd (true≢false (sym h))
is_same-true Text Text h = refl

is_text-false : (x : ValueType) → is_same Text x ≡ false → x ≡ Int
is_text-false Int h = refl
is_text-false Text h = absurd (true≢false h)

is_type-true : (o : Option ValueType) (ty : ValueType) → is_type o ty ≡ true → o ≡ Some ty
is_type-true None ty h = absurd (true≢false (sym h))
is_type-true (Some x) ty h = ap Some (is_same-true x ty h)

any_named-Has : (test : ℕ → Bool) (formula : Formula) → any_named test formula ≡ false → (p : ℕ) → Has (formula.fixed ++ formula.members) p → test p ≡ false
any_named-Has test formula h p has =
    elim (Has-append_cases formula.fixed formula.members p has) [
      | inl left ↦ Has-list_any test formula.fixed p (or_left (list_any test formula.fixed) (list_any test formula.members) h) left
      | inr right ↦ Has-list_any test formula.members p (or_right (list_any test formula.fixed) (list_any test formula.members) h) right
    ]

-- none of the tests of a change holds
record Passed (kinds : List Kind) (n : ℕ) (last : Option Definition) (change : Change) : Type 0 where
  unknown : names_unknown kinds n change ≡ false
  high : names_high kinds n change ≡ false
  wrong : has_wrong_type kinds n last change ≡ false
  many : has_too_many kinds n last change ≡ false
  derived : sets_derived kinds n change ≡ false
  input : changes_input kinds n change ≡ false
  again : brings_again kinds n last change ≡ false
  other : drops_other kinds n last change ≡ false

first_false : (b : Bool) (e : ChangeError) (o : Option ChangeError) → (if b then Some e else o) ≡ None → (b ≡ false) × (o ≡ None)
first_false true e o h = cc
first_false false e o h = (refl, h)

passed : (kinds : List Kind) (n : ℕ) (last : Option Definition) (change : Change) → first_error kinds n last change ≡ None → Passed kinds n last change
passed kinds n last change h =
    let h1 = first_false (names_unknown kinds n change) Unknown _ h in
    let h2 = first_false (names_high kinds n change) RankNotLower _ h1.1 in
    let h3 = first_false (has_wrong_type kinds n last change) WrongType _ h2.1 in
    let h4 = first_false (has_too_many kinds n last change) TooMany _ h3.1 in
    let h5 = first_false (sets_derived kinds n change) NotInput _ h4.1 in
    let h6 = first_false (changes_input kinds n change) NotDerived _ h5.1 in
    let h7 = first_false (brings_again kinds n last change) Already _ h6.1 in
    let h8 = first_false (drops_other kinds n last change) NotMember _ h7.1 in
    record { unknown = h1.0; high = h2.0; wrong = h3.0; many = h4.0; derived = h5.0; input = h6.0; again = h7.0; other = h8.0 }

-- ---- formulas

-- a formula of which no test holds is accepted
formula-passed : (kinds : List Kind) (n : ℕ) (formula : Formula) → IsWritten formula → ((p : ℕ) → Has (formula.fixed ++ formula.members) p → is_unknown kinds p ≡ false) →
    any_named (is_high kinds n) formula ≡ false → is_ill_typed kinds n formula ≡ false → is_large formula ≡ false → repeats formula.fixed formula.members ≡ false → IsFormulaOf kinds n formula
formula-passed kinds n formula written known high typed large again =
    record {
      written = written;
      apart = AreDistinct-repeats formula.fixed formula.members written.apart again;
      few = rw length-append (ltb-false 16 (length formula.fixed + length formula.members) large);
      below = λ p has. record {
        declared = leb-false (length kinds) p (known p has);
        rank = leb-false (kind_at kinds n).rank (kind_at kinds p).rank (any_named-Has (is_high kinds n) formula high p has);
      };
      typed = is_type-true found ty (not_false (is_type found ty) (or_left (not (is_type found ty)) texts typed));
      numbers = λ takes p has. is_text-false (kind_at kinds p).ty (Has-list_any (is_text kinds) formula.members p (and_false (takes_numbers (tree_of formula.expr)) (list_any (is_text kinds) formula.members) takes (or_right (not (is_type found ty)) texts typed)) has);
    }
  where
    ty : ValueType
    ty = (kind_at kinds n).ty

    found : Option ValueType
    found = type_in (tree_of formula.expr) (map (λ p. (kind_at kinds p).ty) formula.fixed)

    texts : Bool
    texts = takes_numbers (tree_of formula.expr) && list_any (is_text kinds) formula.members

-- a dependency of a formula with one member more is one of the formula or is that member
added-cases : (formula : Formula) (member p : ℕ) → Has (formula.fixed ++ (formula.members ++ member ∷ [])) p → Has (formula.fixed ++ formula.members) p ⊎ (member ≡ p)
added-cases formula member p has =
    elim (Has-append_cases (formula.fixed ++ formula.members) (member ∷ []) p (subst (λ ps. Has ps p) (sym (append_assoc formula.fixed formula.members (member ∷ []))) has)) [
      | inl there ↦ inl there
      | inr last ↦ elim last [ inl same ↦ inr same | inr none ↦ absurd none ]
    ]

-- a formula with one member more, of which no test holds
formula-added : (kinds : List Kind) (n : ℕ) (formula : Formula) (member : ℕ) → IsFormulaOf kinds n formula → Passed kinds n (Some (Derived formula)) (Add member) →
    IsFormulaOf kinds n (record formula { members = formula.members ++ member ∷ [] })
formula-added kinds n formula member h test =
    record {
      written = record { small = h.written.small; names = h.written.names; apart = h.written.apart };
      apart = subst AreDistinct (append_assoc formula.fixed formula.members (member ∷ []))
          (AreDistinct-append (formula.fixed ++ formula.members) (member ∷ []) h.apart ((λ none. none), tt) (λ q left right. apart q left right));
      few = subst (λ ps. length ps ≤ 16) (append_assoc formula.fixed formula.members (member ∷ [])) (rw length-append room);
      below = λ p has. elim (added-cases formula member p has) [
        | inl there ↦ h.below p there
        | inr same ↦ subst (IsBelow kinds n) same (record {
          declared = leb-false (length kinds) member test.unknown;
          rank = leb-false (kind_at kinds n).rank (kind_at kinds member).rank (and_false (is_derived kinds n) (is_high kinds n member) derived test.high);
        })
      ];
      typed = h.typed;
      numbers = λ takes p has. elim (Has-append_cases formula.members (member ∷ []) p has) [
        | inl there ↦ h.numbers takes p there
        | inr last ↦ elim last [
          | inl same ↦ subst (λ q. (kind_at kinds q).ty ≡ Int) same (is_text-false (kind_at kinds member).ty
              (and_false (takes_numbers (tree_of formula.expr)) (is_text kinds member) takes (and_false (is_derived kinds n) (takes_numbers (tree_of formula.expr) && is_text kinds member) derived test.wrong)))
          | inr none ↦ absurd none
        ]
      ];
    }
  where
    derived : is_derived kinds n ≡ true
    derived = not_false (is_derived kinds n) test.input

    apart : (q : ℕ) → Has (formula.fixed ++ formula.members) q → Has (member ∷ []) q → ⊥
    apart q left (inl same) = not_among (formula.fixed ++ formula.members) member test.again (subst (Has (formula.fixed ++ formula.members)) (sym same) left)
    apart q left (inr none) = none

    room : length (formula.fixed ++ formula.members) + length (member ∷ []) ≤ 16
    room =
        let deps = formula.fixed ++ formula.members in
        let full = and_false (is_derived kinds n) (not (is_among deps member) && nat_le 16 (length deps)) derived test.many in
        let below : length deps < 16 = leb-false 16 (length deps) (and_false (not (is_among deps member)) (nat_le 16 (length deps)) (ap not test.again) full) in
        omega arith

-- a filter makes no list longer
filter-short : (test : ℕ → Bool) (ps : List ℕ) → length (filter test ps) ≤ length ps
filter-short test [] = omega arith
filter-short test (p ∷ ps) = by (test p) (filter-short test ps)
  where
    by : (b : Bool) → length (filter test ps) ≤ length ps → length (if b then p ∷ filter test ps else filter test ps) ≤ length (p ∷ ps)
    by true h = omega arith
    by false h = omega arith

-- a formula with members less
formula-dropped : (kinds : List Kind) (n : ℕ) (formula : Formula) (keeps : ℕ → Bool) → IsFormulaOf kinds n formula → IsFormulaOf kinds n (record formula { members = filter keeps formula.members })
formula-dropped kinds n formula keeps h =
    record {
      written = record { small = h.written.small; names = h.written.names; apart = h.written.apart };
      apart = AreDistinct-append formula.fixed (filter keeps formula.members) (AreDistinct-left formula.fixed formula.members h.apart) (AreDistinct-filter keeps formula.members (AreDistinct-right formula.fixed formula.members h.apart))
          (λ q left right. AreDistinct-disjoint formula.fixed formula.members h.apart q left (Has-filter keeps formula.members q right));
      few = rw length-append (omega (arith, filter-short keeps formula.members, length-append formula.fixed formula.members, h.few));
      below = λ p has. elim (Has-append_cases formula.fixed (filter keeps formula.members) p has) [
        | inl left ↦ h.below p (Has-append_left formula.fixed formula.members p left)
        | inr right ↦ h.below p (Has-append_right formula.fixed formula.members p (Has-filter keeps formula.members p right))
      ];
      typed = h.typed;
      numbers = λ takes p has. h.numbers takes p (Has-filter keeps formula.members p has);
    }

-- ---- definitions

-- a value of which no test holds
value-passed : (kinds : List Kind) (n : ℕ) (value : Value) → (kind_at kinds n).rank ≡ 0 → not (has_type value (kind_at kinds n).ty) ≡ false → IsProper value → IsDefinitionOf kinds n (Input value)
value-passed kinds n value rank typed proper = (rank, not_false (has_type value (kind_at kinds n).ty) typed, proper)

-- the first definition
birth-passed : (kinds : List Kind) (n : ℕ) (last : Option Definition) (first : Definition) → HasForm (kind_at kinds n).rank (Birth first) → Passed kinds n last (Birth first) → IsDefinitionOf kinds n first
birth-passed kinds n last (Input value) form test = value-passed kinds n value form.0 test.wrong form.1
birth-passed kinds n last (Derived formula) form test =
    (form.0, formula-passed kinds n formula form.1 (λ p has. or_left (is_unknown kinds p) (p == n) (any_named-Has (λ q. is_unknown kinds q || q == n) formula test.unknown p has)) test.high test.wrong test.many test.again)

-- a definition after another
next-passed : (kinds : List Kind) (n : ℕ) (before : Definition) (change : Change) → IsDefinitionOf kinds n before → HasForm (kind_at kinds n).rank change → Passed kinds n (Some before) change →
    IsDefinitionOf kinds n (next_definition before change)
next-passed kinds n before (Birth first) h form test = birth-passed kinds n (Some before) first form test
next-passed kinds n before (Set value) h form test =
    let rank : (kind_at kinds n).rank ≡ 0 = omega (arith, ltb-false 0 (kind_at kinds n).rank test.derived) in
    value-passed kinds n value rank (and_false (not (is_derived kinds n)) (not (has_type value (kind_at kinds n).ty)) (ap not test.derived) test.wrong) form
next-passed kinds n (Input value) (Add member) h form test = h
next-passed kinds n (Derived formula) (Add member) h form test = (h.0, formula-added kinds n formula member h.1 test)
next-passed kinds n (Input value) (Drop member) h form test = h
next-passed kinds n (Derived formula) (Drop member) h form test = (h.0, formula-dropped kinds n formula (λ p. not (p == member)) h.1)
next-passed kinds n before (Define formula) h form test =
    let derived : is_derived kinds n ≡ true = not_false (is_derived kinds n) test.input in (
      ltb-true 0 (kind_at kinds n).rank derived,
      formula-passed kinds n formula form (any_named-Has (is_unknown kinds) formula test.unknown)
          (and_false (is_derived kinds n) (any_named (is_high kinds n) formula) derived test.high)
          (and_false (is_derived kinds n) (is_ill_typed kinds n formula) derived test.wrong)
          (and_false (is_derived kinds n) (is_large formula) derived test.many)
          (and_false (is_derived kinds n) (repeats formula.fixed formula.members) derived test.again),
    )

-- what a change brings that is not refused, where the last definition is accepted
pub brought-accepted : (kinds : List Kind) (n : ℕ) (last : Option Definition) (change : Change) → ((before : Definition) → last ≡ Some before → IsDefinitionOf kinds n before) →
    HasForm (kind_at kinds n).rank change → first_error kinds n last change ≡ None → (d : Definition) → Has (definitions_brought last change) d → IsDefinitionOf kinds n d
brought-accepted kinds n None (Birth first) h form none d (inl same) = subst (IsDefinitionOf kinds n) same (birth-passed kinds n None first form (passed kinds n None (Birth first) none))
brought-accepted kinds n None (Birth first) h form none d (inr never) = absurd never
brought-accepted kinds n None (Set value) h form none d has = absurd has
brought-accepted kinds n None (Add member) h form none d has = absurd has
brought-accepted kinds n None (Drop member) h form none d has = absurd has
brought-accepted kinds n None (Define formula) h form none d has = absurd has
brought-accepted kinds n (Some before) change h form none d (inl same) =
    subst (IsDefinitionOf kinds n) same (next-passed kinds n before change (h before refl) form (passed kinds n (Some before) change none))
brought-accepted kinds n (Some before) change h form none d (inr never) = absurd never
