-- No condition of a refusal holds of the next declaration of a generated document.
use Rattle.std.proofs.Common.{◌≡◌, ℕ, suc, ◌+◌, ◌<◌, ◌≤◌, Bool, false, not, map, List, [], ◌∷◌, ◌++◌, length, Option, None, is_none, is_some, refl, ap, ◌∙◌, inl, inr, All, arith}
use Rattle.std.specs.Prelude.{◌&&◌, ◌||◌, nat_le, ℤ}
use Rattle.std.specs.List.{list_any}
use Rattle.std.proofs.lemmas.Bool.{cases_lt}
use Rattle.std.proofs.lemmas.Bool.Decides.{nat_tests}
use Rattle.std.proofs.lemmas.List.{get_or_append_left}
use Rattle.std.proofs.lemmas.List.Elements.{All-weaker}
use Rattle.std.proofs.lemmas.List.Folds.{list_any_none}
use Rattle.std.proofs.Math.Seq.{get_or-append_seam}
use Rattle.svc_value.specs.Value.{has_type}
use Rattle.svc_value.specs.declared.value.Value.TheVariants as value
use Rattle.svc_value.specs.declared.value.ValueType.TheVariants as type
use Rattle.svc_graph.specs.declared.definition.Change.{Change}
use Rattle.svc_graph.specs.declared.definition.Change.TheVariants as change
use Rattle.svc_graph.specs.declared.definition.Definition.{Definition}
use Rattle.svc_graph.specs.declared.kind.Kind.{Kind}
use Rattle.svc_graph.specs.History.{Row, row_at, history_of, present, roster_of, find_service, kind_of, declared_row}
use Rattle.svc_graph.specs.Refusals.{kind_at, is_high, is_text, is_type, repeats, has_wrong_type, has_too_many, names_high, brings_again}
use Rattle.svc_graph.proofs.Changed.{kind_at-roster}
use Rattle.svc_expr.specs.Tree.{tree_of}
use Rattle.svc_expr.specs.Types.{is_same, takes_numbers, type_in}
use Rattle.svc_plan.specs.declared.plan.Mode.TheVariants as mode
use Rattle.document_reading.specs.declared.refusal.Code.{Code}
use Rattle.document_reading.specs.declared.refusal.Code.TheVariants.{E05, E06, E07, E08, E09, E10, E11, E15, E17, E19}
use Rattle.document_reading.specs.declared.statement.Body.TheVariants.{Formula}
use Rattle.document_reading.specs.declared.statement.Statement.{Statement}
use Rattle.document_reading.specs.declared.statement.Statement.TheVariants.{Input, Derived}
use Rattle.document_reading.specs.Refusals.{holds, is_unknown}
use Rattle.document_reading.specs.State.{State, service_named}
use Rattle.document_generator.specs.Generator.{service_name}
use Rattle.document_generator.proofs.GeneratorLines.{member_sum, sum_tree}
use Rattle.document_generator.proofs.GeneratorNames.{place_none}
use Rattle.document_generator.proofs.GeneratorStanding.{Stands, sum_of_these, rows_named, place, number, past_changes, past_legs}

-- ---- kinds of old services and of a new one

pub new_row : (rows : List Row) (row : Row) → row_at (rows ++ row ∷ []) (length rows) ≡ row
new_row rows row = get_or-append_seam rows row [] (declared_row [] 0 type.Int)

pub old_row : (rows : List Row) (row : Row) (p : ℕ) → p < length rows → row_at (rows ++ row ∷ []) p ≡ row_at rows p
old_row rows row p h = get_or_append_left rows (row ∷ []) (declared_row [] 0 type.Int) p h

new_kind : (rows : List Row) (row : Row) → kind_at (roster_of (rows ++ row ∷ [])) (length rows) ≡ kind_of row
new_kind rows row = kind_at-roster (rows ++ row ∷ []) (length rows) ∙ ap kind_of (new_row rows row)

old_kind : (rows : List Row) (row : Row) (p : ℕ) → p < length rows → kind_at (roster_of (rows ++ row ∷ [])) p ≡ kind_of (row_at rows p)
old_kind rows row p h = kind_at-roster (rows ++ row ∷ []) p ∙ ap kind_of (old_row rows row p h)

-- a test that fails of each element fails of all
pub none_of : (test : ℕ → Bool) (most : ℕ) (ps : List ℕ) → ((p : ℕ) → p < most → test p ≡ false) → All (λ p. p < most) ps → list_any test ps ≡ false
none_of test most ps f h = list_any_none test ps (All-weaker _ _ f ps h)

first_low : (most q : ℕ) (qs : List ℕ) → All (λ p. p < most) (q ∷ qs) → q < most
first_low most q qs h = h 0 0 (omega arith)

others_low : (most q : ℕ) (qs : List ℕ) → All (λ p. p < most) (q ∷ qs) → All (λ p. p < most) qs
others_low most q qs h k e g = h (suc k) e (omega arith)

module _ {inputs n c : ℕ} {members : List (List ℕ)} {state : State} (s : Stands inputs n c members state) (few : n < 64) (room : c < 1024) where
  is_new : find_service state.rows (service_name inputs n) ≡ None
  is_new = place_none inputs state.rows n (rows_named s (omega arith) room) (omega (arith, s.count)) (omega arith)

  new_name : (is_some (find_service state.rows (service_name inputs n)) || false) ≡ false
  new_name = ap (λ (o : Option ℕ). is_some o || false) is_new

  room_for_one : nat_le 64 (length state.rows) ≡ false
  room_for_one = let e = s.count in grind (arith, nat_tests)

  -- ---- an input

  pub input_holds : (v : ℤ) (code : Code) → holds mode.Plain state (Input (service_name inputs n) type.Int (value.Int v)) code ≡ false
  input_holds v E05 = new_name
  input_holds v E06 = room_for_one
  input_holds v E10 =
      ap (λ (kind : Kind). not (has_type (value.Int v) kind.ty) || false) (new_kind state.rows (declared_row (service_name inputs n) 0 type.Int))
  input_holds v E17 = past_changes s (omega arith) room
  input_holds v E19 = past_legs s (omega arith) room
  input_holds v code = refl

-- ---- a derived service

-- the sum over services, by their names
abbrev pub sum_named : ℕ → ℕ → List ℕ → Statement
sum_named inputs d ps =
    Derived (service_name inputs (inputs + d)) type.Int (d + 1) (Formula (record { expr = member_sum; names = []; members = map (service_name inputs) ps }))

module _ {inputs c : ℕ} {members : List (List ℕ)} {state : State} (d : ℕ) (s : Stands inputs (inputs + d) c members state) (few : inputs + d < 64) (room : c < 1024)
    (ps : List ℕ) (low : All (λ p. p < inputs + d) ps) where
  pub numbers_are : (qs : List ℕ) → All (λ p. p < inputs + d) qs → map (service_named state.rows) (map (service_name inputs) qs) ≡ qs
  numbers_are [] h = refl
  numbers_are (q ∷ qs) h = λ i. number s (omega arith) room q (first_low (inputs + d) q qs h) i ∷ numbers_are qs (others_low (inputs + d) q qs h) i

  all_known : (qs : List ℕ) → All (λ p. p < inputs + d) qs → list_any (is_unknown state.rows) (map (service_name inputs) qs) ≡ false
  all_known [] h = refl
  all_known (q ∷ qs) h = (λ i. is_none (place s (omega arith) room q (first_low (inputs + d) q qs h) i) || list_any (is_unknown state.rows) (map (service_name inputs) qs)) ∙ all_known qs (others_low (inputs + d) q qs h)

  abbrev row : Row
  row = declared_row (service_name inputs (inputs + d)) (d + 1) type.Int

  abbrev kinds : List Kind
  kinds = roster_of (state.rows ++ row ∷ [])

  reader : kind_at kinds (length state.rows) ≡ record { rank = d + 1; ty = type.Int }
  reader = new_kind state.rows row

  member : (p : ℕ) → p < inputs + d → kind_at kinds p ≡ record { rank = (row_at state.rows p).rank; ty = type.Int }
  member p h = old_kind state.rows row p (omega (arith, s.count)) ∙ (λ i. record { rank = (row_at state.rows p).rank; ty = (s.rows p h).ty i })

  rank_low : (p : ℕ) → p < inputs + d → (row_at state.rows p).rank < d + 1
  rank_low p h = elim (cases_lt p inputs) [
    | inl below ↦ let e = (s.rows p h).input below in omega arith
    | inr above ↦ let e = (s.rows p h).rank above in omega arith
  ]

  not_high : (p : ℕ) → p < inputs + d → is_high kinds (length state.rows) p ≡ false
  not_high p h = (λ i. nat_le (reader i).rank (member p h i).rank) ∙ (let e = rank_low p h in grind (arith, nat_tests))

  not_text : (p : ℕ) → p < inputs + d → is_text kinds p ≡ false
  not_text p h = ap (λ (kind : Kind). is_same type.Text kind.ty) (member p h)

  -- what a test says of the birth
  of_birth : (test : List Kind → ℕ → Option Definition → Change → Bool)
      → test kinds (length state.rows) (present (history_of (state.rows ++ row ∷ []) (length state.rows))) (change.Birth (sum_of_these ps)) ≡ false
      → (test kinds (length state.rows) (present (history_of (state.rows ++ row ∷ []) (length state.rows)))
      (change.Birth (sum_of_these (map (service_named state.rows) (map (service_name inputs) ps)))) || false) ≡ false
  of_birth test g =
      (λ i. test kinds (length state.rows) (present (history_of (state.rows ++ row ∷ []) (length state.rows))) (change.Birth (sum_of_these (numbers_are ps low i))) || false)
      ∙ ap (λ (b : Bool). b || false) g

  typed : (not (is_type (type_in (tree_of member_sum) []) (kind_at kinds (length state.rows)).ty)
      || (takes_numbers (tree_of member_sum) && list_any (is_text kinds) ps)) ≡ false
  typed =
      (λ i. not (is_type (type_in (sum_tree i) []) (reader i).ty) || (takes_numbers (sum_tree i) && list_any (is_text kinds) ps))
      ∙ none_of (is_text kinds) (inputs + d) ps not_text low

  pub derived_holds : length ps ≤ 16 → repeats [] ps ≡ false → (code : Code) → holds mode.Plain state (sum_named inputs d ps) code ≡ false
  derived_holds most apart E05 = new_name s few room
  derived_holds most apart E06 = room_for_one s few room
  derived_holds most apart E07 = grind (arith, nat_tests)
  derived_holds most apart E08 = all_known ps low
  derived_holds most apart E09 = of_birth (λ kinds n last made. names_high kinds n made) (none_of (is_high kinds (length state.rows)) (inputs + d) ps not_high low)
  derived_holds most apart E10 = of_birth has_wrong_type typed
  derived_holds most apart E11 = of_birth has_too_many (grind (arith, nat_tests))
  derived_holds most apart E15 = of_birth brings_again apart
  derived_holds most apart E17 = past_changes s (omega arith) room
  derived_holds most apart E19 = past_legs s (omega arith) room
  derived_holds most apart code = refl
