-- The canonical line of an accepted change says what its line said.
use Rattle.std.proofs.Common.{◌≡◌, ℕ, ◌≤◌, Bool, false, List, [], ◌∷◌, ◌++◌, length, map, All, refl, sym, ap, ap₂, subst, arith}
use Rattle.std.specs.Prelude.{◌||◌, nat_lt}
use Rattle.std.specs.List.{list_any}
use Rattle.std.proofs.lemmas.Bool.Decides.{nat_tests}
use Rattle.svc_expr.specs.Tree.{tree_of}
use Rattle.svc_graph.proofs.AreDistinct.{or_left, or_right}
use Rattle.svc_graph.specs.declared.definition.Change.TheVariants as change
use Rattle.svc_graph.specs.declared.definition.Definition.TheVariants as definition
use Rattle.svc_graph.specs.History.{Row}
use Rattle.svc_token.specs.Word.{IsName}
use Rattle.svc_plan.specs.declared.plan.Mode.{Mode}
use Rattle.svc_plan.specs.declared.plan.ServiceLine.{ServiceLine}
use Rattle.document_reading.specs.declared.statement.Body.{Body}
use Rattle.document_reading.specs.declared.statement.Body.TheVariants.{Formula, TooLarge}
use Rattle.document_reading.specs.declared.statement.NamedFormula.{NamedFormula}
use Rattle.document_reading.specs.declared.statement.Statement.{Statement}
use Rattle.document_reading.specs.declared.statement.Statement.TheVariants.{Silence, Input, Derived, Set, Add, Drop, Define, Settle, Do, Take, Turn}
use Rattle.document_reading.specs.Document.{IsLine}
use Rattle.document_reading.specs.Refusals.{is_unknown}
use Rattle.document_reading.specs.State.{State, declares, changes, formula_of, service_named}
use Rattle.document_printing.specs.Canonical.{service_at, name_of, change_text}
use Rattle.document_printing.proofs.CanonicalBytes.{HasNoEnd}
use Rattle.document_printing.proofs.CanonicalFormulas.{IsReadable, body_of}
use Rattle.document_printing.proofs.CanonicalLines.{change_line}
use Rattle.document_printing.proofs.CanonicalNames.{lines_in, known_in, known_grows, known_name, names_again, service_next}
use Rattle.document_printing.proofs.CanonicalSays.{said_formula, HasText, IsWhole}
use Rattle.document_printing.proofs.CanonicalStates.{Fits}

-- ---- what can be said by names

-- the expression is within its limits with its names in order, and each member is a name
pub record CanBeBody (formula : NamedFormula) : Type 0 where
  pub readable : IsReadable formula.names (tree_of formula.expr)
  pub members : All IsName formula.members

-- so for a body; one that is too large says nothing
abbrev pub IsBodySayable : Body → Type 0
IsBodySayable (Formula formula) = CanBeBody formula
IsBodySayable TooLarge = Unit {0}

-- its names are names, and its values and formulas can be written
abbrev pub CanBeSaid : Statement → Type 0
CanBeSaid (Input name ty value) = IsName name × IsWhole value
CanBeSaid (Derived name ty rank body) = IsName name × IsBodySayable body
CanBeSaid (Set name value) = IsName name × IsWhole value
CanBeSaid (Add reader member) = IsName reader × IsName member
CanBeSaid (Drop reader member) = IsName reader × IsName member
CanBeSaid (Define name body) = IsName name × IsBodySayable body
CanBeSaid (Do name) = IsName name
CanBeSaid (Take reader sender) = IsName reader × IsName sender
CanBeSaid (Turn name) = IsName name
CanBeSaid statement = Unit {0}

-- it makes a change
abbrev pub IsChange : Statement → Type 0
IsChange (Input name ty value) = Unit {0}
IsChange (Derived name ty rank body) = Unit {0}
IsChange (Set name value) = Unit {0}
IsChange (Add reader member) = Unit {0}
IsChange (Drop reader member) = Unit {0}
IsChange (Define name body) = Unit {0}
IsChange statement = ⊥

-- the one line of its change says it
pub record IsSaidAgain (services : List ServiceLine) (rows : List Row) (st : Statement) : Type 0 where
  pub text : List ℕ
  pub alone : map (λ c. change_text services c.id c.change) (changes rows st) ≡ text ∷ []
  pub line : length text ≤ 4096 → IsLine text st × HasNoEnd text

-- ---- lists of names

any_front : (test : List ℕ → Bool) (xs ys : List (List ℕ)) → list_any test (xs ++ ys) ≡ false → list_any test xs ≡ false
any_front test [] ys h = refl
any_front test (x ∷ xs) ys h =
    ap₂ (λ (a b : Bool). a || b) (or_left (test x) (list_any test (xs ++ ys)) h) (any_front test xs ys (or_right (test x) (list_any test (xs ++ ys)) h))

any_behind : (test : List ℕ → Bool) (xs ys : List (List ℕ)) → list_any test (xs ++ ys) ≡ false → list_any test ys ≡ false
any_behind test [] ys h = h
any_behind test (x ∷ xs) ys h = any_behind test xs ys (or_right (test x) (list_any test (xs ++ ys)) h)

low : (rank : ℕ) → (nat_lt rank 1 || nat_lt 1000 rank) ≡ false → rank ≤ 1000
low rank h = grind (arith, nat_tests)

-- ---- changes

module _ (rows : List Row) (more : List ServiceLine) where
  name_is : (name : List ℕ) → is_unknown rows name ≡ false → name_of (lines_in rows ++ more) (service_named rows name) ≡ name
  name_is name h = known_name (lines_in rows ++ more) name (service_named rows name) (known_grows (lines_in rows) more name _ (known_in rows name h))

  formula_is : (formula : NamedFormula) → list_any (is_unknown rows) (formula.names ++ formula.members) ≡ false → said_formula (lines_in rows ++ more) (formula_of rows formula) ≡ Formula formula
  formula_is formula h =
      ap₂ (λ (names members : List (List ℕ)). body_of names formula.expr members)
      (names_again rows more formula.names (any_front (is_unknown rows) formula.names formula.members h))
      (names_again rows more formula.members (any_behind (is_unknown rows) formula.names formula.members h))

  formula_has : (formula : NamedFormula) → list_any (is_unknown rows) (formula.names ++ formula.members) ≡ false → CanBeBody formula → HasText (lines_in rows ++ more) (formula_of rows formula)
  formula_has formula h can = record {
    readable = subst (λ names. IsReadable names (tree_of formula.expr)) (sym (names_again rows more formula.names (any_front (is_unknown rows) formula.names formula.members h))) can.readable;
    members = subst (All IsName) (sym (names_again rows more formula.members (any_behind (is_unknown rows) formula.names formula.members h))) can.members;
  }

module _ (m : Mode) (s : State) (more : List ServiceLine) where
  pub said_again : (st : Statement) → IsChange st → Fits m s st → CanBeSaid st → IsSaidAgain (lines_in s.rows ++ (declares st ++ more)) s.rows st
  said_again (Input name ty value) is fit can =
      let here : ServiceLine = record { name = name; rank = 0; ty = ty } in
      let all = lines_in s.rows ++ here ∷ more in
      let e : service_at all (length s.rows) ≡ here = service_next s.rows here more in
      let c = change.Birth (definition.Input value) in
      record {
        text = change_text all (length s.rows) c;
        alone = refl;
        line = λ short.
            let p = change_line all (length s.rows) c (subst (λ (l : ServiceLine). IsName l.name) (sym e) can.0) can.1 short in
            (subst (IsLine (change_text all (length s.rows) c)) (ap (λ (l : ServiceLine). Input l.name l.ty value) e) p.0, p.1);
      }
  said_again (Derived name ty rank (Formula formula)) is fit can =
      let here : ServiceLine = record { name = name; rank = rank; ty = ty } in
      let all = lines_in s.rows ++ here ∷ more in
      let e : service_at all (length s.rows) ≡ here = service_next s.rows here more in
      let c = change.Birth (definition.Derived (formula_of s.rows formula)) in
      record {
        text = change_text all (length s.rows) c;
        alone = refl;
        line = λ short.
            let p = change_line all (length s.rows) c (subst (λ (l : ServiceLine). IsName l.name) (sym e) can.0)
            (formula_has s.rows (here ∷ more) formula fit.names can.1, subst (λ (l : ServiceLine). l.rank ≤ 1000) (sym e) (low rank fit.rank)) short in
            (subst (IsLine (change_text all (length s.rows) c)) (ap₂ (λ (l : ServiceLine) (body : Body). Derived l.name l.ty l.rank body) e (formula_is s.rows (here ∷ more) formula fit.names)) p.0, p.1);
      }
  said_again (Derived name ty rank TooLarge) is fit can = absurd (let never = fit.size in cc never)
  said_again (Set name value) is fit can =
      let all = lines_in s.rows ++ more in
      let e = name_is s.rows more name (or_left _ _ fit.names) in
      let c = change.Set value in
      record {
        text = change_text all (service_named s.rows name) c;
        alone = refl;
        line = λ short.
            let p = change_line all (service_named s.rows name) c (subst IsName (sym e) can.0) can.1 short in
            (subst (IsLine (change_text all (service_named s.rows name) c)) (ap (λ (n : List ℕ). Set n value) e) p.0, p.1);
      }
  said_again (Add reader member) is fit can =
      let all = lines_in s.rows ++ more in
      let e = name_is s.rows more reader (or_left _ _ fit.names) in
      let f = name_is s.rows more member (or_left _ _ (or_right _ _ fit.names)) in
      let c = change.Add (service_named s.rows member) in
      record {
        text = change_text all (service_named s.rows reader) c;
        alone = refl;
        line = λ short.
            let p = change_line all (service_named s.rows reader) c (subst IsName (sym e) can.0) (subst IsName (sym f) can.1) short in
            (subst (IsLine (change_text all (service_named s.rows reader) c)) (ap₂ (λ (a b : List ℕ). Add a b) e f) p.0, p.1);
      }
  said_again (Drop reader member) is fit can =
      let all = lines_in s.rows ++ more in
      let e = name_is s.rows more reader (or_left _ _ fit.names) in
      let f = name_is s.rows more member (or_left _ _ (or_right _ _ fit.names)) in
      let c = change.Drop (service_named s.rows member) in
      record {
        text = change_text all (service_named s.rows reader) c;
        alone = refl;
        line = λ short.
            let p = change_line all (service_named s.rows reader) c (subst IsName (sym e) can.0) (subst IsName (sym f) can.1) short in
            (subst (IsLine (change_text all (service_named s.rows reader) c)) (ap₂ (λ (a b : List ℕ). Drop a b) e f) p.0, p.1);
      }
  said_again (Define name (Formula formula)) is fit can =
      let all = lines_in s.rows ++ more in
      let e = name_is s.rows more name (or_left _ _ fit.names) in
      let c = change.Define (formula_of s.rows formula) in
      let known = or_right (is_unknown s.rows name) (list_any (is_unknown s.rows) (formula.names ++ formula.members)) fit.names in
      record {
        text = change_text all (service_named s.rows name) c;
        alone = refl;
        line = λ short.
            let p = change_line all (service_named s.rows name) c (subst IsName (sym e) can.0) (formula_has s.rows more formula known can.1) short in
            (subst (IsLine (change_text all (service_named s.rows name) c)) (ap₂ (λ (n : List ℕ) (body : Body). Define n body) e (formula_is s.rows more formula known)) p.0, p.1);
      }
  said_again (Define name TooLarge) is fit can = absurd (let never = fit.size in cc never)
  said_again Silence is fit can = absurd is
  said_again Settle is fit can = absurd is
  said_again (Do name) is fit can = absurd is
  said_again (Take reader sender) is fit can = absurd is
  said_again (Turn name) is fit can = absurd is
