-- What the generated lines so far leave, and that no condition of a refusal holds of the next change.
use Rattle.std.proofs.Common.{◌≡◌, ℕ, ◌+◌, ◌-◌, ◌<◌, ◌≤◌, Bool, true, false, not, List, [], ◌++◌, length, slice_index_or, Option, Some, is_none, unwrap_or, refl, ap, ◌∙◌, inl, inr, arith}
use Rattle.std.specs.Prelude.{◌&&◌, ◌||◌, nat_lt, nat_le, ℤ}
use Rattle.std.proofs.lemmas.Bool.{cases_lt}
use Rattle.std.proofs.lemmas.Bool.Decides.{nat_tests}
use Rattle.std.proofs.lemmas.List.{append-nil}
use Rattle.propagation.specs.Lists.{is_among}
use Rattle.svc_value.specs.Value.{has_type}
use Rattle.svc_value.specs.declared.value.Value.TheVariants as value
use Rattle.svc_value.specs.declared.value.ValueType.TheVariants as type
use Rattle.svc_graph.specs.declared.definition.Change.{Change}
use Rattle.svc_graph.specs.declared.definition.Change.TheVariants as change
use Rattle.svc_graph.specs.declared.definition.Definition.{Definition}
use Rattle.svc_graph.specs.declared.definition.Definition.TheVariants as definition
use Rattle.svc_graph.specs.declared.kind.Kind.{Kind}
use Rattle.svc_graph.specs.History.{Row, row_at, history_of, present, roster_of, find_service}
use Rattle.svc_graph.specs.Refusals.{kind_at, is_derived, is_high, is_text, last_dependencies, last_members, has_wrong_type, has_too_many, names_high, sets_derived, changes_input, brings_again, drops_other}
use Rattle.svc_graph.proofs.Changed.{kind_at-roster}
use Rattle.svc_expr.specs.Types.{is_same}
use Rattle.svc_plan.specs.declared.plan.Mode.TheVariants as mode
use Rattle.document_reading.specs.declared.refusal.Code.{Code}
use Rattle.document_reading.specs.declared.refusal.Code.TheVariants.{E08, E09, E10, E11, E13, E14, E15, E16, E17, E19}
use Rattle.document_reading.specs.declared.statement.Statement.TheVariants.{Set, Add, Drop}
use Rattle.document_reading.specs.Refusals.{holds}
use Rattle.document_reading.specs.State.{State, service_named}
use Rattle.document_generator.specs.Generator.{service_name}
use Rattle.document_generator.proofs.GeneratorLines.{member_sum}
use Rattle.document_generator.proofs.GeneratorNames.{AreNamed, place_is}

-- the definition of a derived service with these members
abbrev pub sum_of_these : List ℕ → Definition
sum_of_these members = definition.Derived (record { expr = member_sum; fixed = []; members = members })

-- the row of service k
pub record IsRow (inputs : ℕ) (members : List (List ℕ)) (k : ℕ) (row : Row) : Type 0 where
  pub name : row.name ≡ service_name inputs k
  pub ty : row.ty ≡ type.Int
  pub input : k < inputs → row.rank ≡ 0
  pub rank : inputs ≤ k → row.rank ≡ k + 1 - inputs
  pub last : inputs ≤ k → present row.history ≡ Some (sum_of_these (slice_index_or members (k - inputs) []))

-- the rows and the leg after so many declarations and so many changes, births among them
pub record Stands (inputs n c : ℕ) (members : List (List ℕ)) (state : State) : Type 0 where
  pub legs : state.before + length state.ended ≡ 0
  pub changes : length state.open_leg.changes ≡ c
  pub count : length state.rows ≡ n
  pub rows : (k : ℕ) → k < n → IsRow inputs members k (row_at state.rows k)

-- no leg has ended
pub ended_none : {inputs n c : ℕ} {members : List (List ℕ)} {state : State} → Stands inputs n c members state → nat_le 1000 (state.before + length state.ended) ≡ false
ended_none s = let e = s.legs in grind (arith, nat_tests)

module _ {inputs n c : ℕ} {members : List (List ℕ)} {state : State} (s : Stands inputs n c members state) (few : n ≤ 64) (room : c < 1024) where
  pub rows_named : AreNamed inputs state.rows
  rows_named k h = (s.rows k (omega (arith, s.count))).name

  pub place : (k : ℕ) → k < n → find_service state.rows (service_name inputs k) ≡ Some k
  place k h = place_is inputs state.rows k rows_named (omega (arith, s.count)) (omega (arith, s.count))

  pub number : (k : ℕ) → k < n → service_named state.rows (service_name inputs k) ≡ k
  number k h = ap (λ (o : Option ℕ). unwrap_or o 0) (place k h)

  kind : (k rank : ℕ) → k < n → (row_at state.rows k).rank ≡ rank → kind_at (roster_of state.rows) k ≡ record { rank = rank; ty = type.Int }
  kind k rank h e = kind_at-roster state.rows k ∙ (λ i. record { rank = e i; ty = (s.rows k h).ty i })

  pub past_changes : nat_le 1024 (length state.open_leg.changes) ≡ false
  past_changes = let e = s.changes in grind (arith, nat_tests)

  pub past_legs : nat_le 1000 (state.before + length state.ended) ≡ false
  past_legs = ended_none s

-- a test of the change that a statement makes, where it declares nothing
tested : (test : List Kind → ℕ → Option Definition → Change → Bool) (rows : List Row) (id k : ℕ) (made other : Change) → id ≡ k → made ≡ other
    → test (roster_of rows) k (present (history_of rows k)) other ≡ false
    → (test (roster_of (rows ++ [])) id (present (history_of (rows ++ []) id)) made || false) ≡ false
tested test rows id k made other f g h =
    let e : rows ++ [] ≡ rows = append-nil rows in
    (λ i. test (roster_of (e i)) (f i) (present (history_of (e i) (f i))) (g i) || false) ∙ ap (λ (b : Bool). b || false) h

and_false : (a b : Bool) → b ≡ false → (a && b) ≡ false
and_false true b h = h
and_false false b h = refl

-- ---- an input is set

pub set_holds : {inputs n c : ℕ} {members : List (List ℕ)} {state : State} → Stands inputs n c members state → n ≤ 64 → c < 1024
    → (k : ℕ) (v : ℤ) → k < inputs → k < n → (code : Code) → holds mode.Plain state (Set (service_name inputs k) (value.Int v)) code ≡ false
set_holds {state = state} s few room k v i h E08 = ap (λ (o : Option ℕ). is_none o || false) (place s few room k h)
set_holds {state = state} s few room k v i h E10 =
    tested has_wrong_type state.rows _ k _ (change.Set (value.Int v)) (number s few room k h) refl
    (ap (λ (kind : Kind). not (nat_lt 0 kind.rank) && not (has_type (value.Int v) kind.ty)) (kind s few room k 0 h ((s.rows k h).input i)))
set_holds {state = state} s few room k v i h E13 =
    tested (λ kinds n last made. sets_derived kinds n made) state.rows _ k _ (change.Set (value.Int v)) (number s few room k h) refl
    (ap (λ (kind : Kind). nat_lt 0 kind.rank) (kind s few room k 0 h ((s.rows k h).input i)))
set_holds s few room k v i h E17 = past_changes s few room
set_holds s few room k v i h E19 = past_legs s few room
set_holds s few room k v i h code = refl

-- ---- members come and go

module _ {inputs n c : ℕ} {members : List (List ℕ)} {state : State} (s : Stands inputs n c members state) (few : n ≤ 64) (room : c < 1024) (d q : ℕ) (h : inputs + d < n) (low : q < inputs + d) where
  abbrev reader : ℕ
  reader = inputs + d

  reader_kind : kind_at (roster_of state.rows) (inputs + d) ≡ record { rank = d + 1; ty = type.Int }
  reader_kind = kind s few room (inputs + d) (d + 1) h ((s.rows (inputs + d) h).rank (omega arith) ∙ omega arith)

  derived_is : is_derived (roster_of state.rows) (inputs + d) ≡ true
  derived_is = ap (λ (kind : Kind). nat_lt 0 kind.rank) reader_kind ∙ grind (arith, nat_tests)

  member_rank : (row_at state.rows q).rank < d + 1
  member_rank = elim (cases_lt q inputs) [
    | inl below ↦ let e = (s.rows q (omega arith)).input below in omega arith
    | inr above ↦ let e = (s.rows q (omega arith)).rank above in omega arith
  ]

  member_kind : kind_at (roster_of state.rows) q ≡ record { rank = (row_at state.rows q).rank; ty = type.Int }
  member_kind = kind s few room q (row_at state.rows q).rank (omega arith) refl

  not_high : is_high (roster_of state.rows) (inputs + d) q ≡ false
  not_high =
      (λ i. nat_le (reader_kind i).rank (member_kind i).rank) ∙ (let e = member_rank in grind (arith, nat_tests))

  not_text : is_text (roster_of state.rows) q ≡ false
  not_text = ap (λ (kind : Kind). is_same type.Text kind.ty) member_kind

  last_is : present (history_of state.rows (inputs + d)) ≡ Some (sum_of_these (slice_index_or members d []))
  last_is = (s.rows (inputs + d) h).last (omega arith) ∙ ap (λ (k : ℕ). Some (sum_of_these (slice_index_or members k []))) (omega arith)

  both_known : (is_none (find_service state.rows (service_name inputs (inputs + d))) || (is_none (find_service state.rows (service_name inputs q)) || false)) ≡ false
  both_known = (λ i. is_none (place s few room (inputs + d) h i) || (is_none (place s few room q (omega arith) i) || false))

  -- what a test says of the change that takes or brings the member
  of_member : (test : List Kind → ℕ → Option Definition → Change → Bool) (made : ℕ → Change) → test (roster_of state.rows) (inputs + d) (present (history_of state.rows (inputs + d))) (made q) ≡ false
      → (test (roster_of (state.rows ++ [])) (service_named state.rows (service_name inputs (inputs + d))) (present (history_of (state.rows ++ []) (service_named state.rows (service_name inputs (inputs + d)))))
      (made (service_named state.rows (service_name inputs q))) || false) ≡ false
  of_member test made g = tested test state.rows _ (inputs + d) _ (made q) (number s few room (inputs + d) h) (ap made (number s few room q (omega arith))) g

  pub add_holds : is_among (slice_index_or members d []) q ≡ false → length (slice_index_or members d []) < 16 → (code : Code)
      → holds mode.Plain state (Add (service_name inputs (inputs + d)) (service_name inputs q)) code ≡ false
  add_holds new free E08 = both_known
  add_holds new free E09 = of_member (λ kinds n last made. names_high kinds n made) change.Add (and_false _ _ not_high)
  add_holds new free E10 = of_member has_wrong_type change.Add (and_false _ _ (and_false _ _ not_text))
  add_holds new free E11 =
      let few_members : nat_le 16 (length (slice_index_or members d [])) ≡ false = grind (arith, nat_tests) in
      of_member has_too_many change.Add (and_false _ _ (and_false _ _ (ap (λ (last : Option Definition). nat_le 16 (length (last_dependencies last))) last_is ∙ few_members)))
  add_holds new free E14 = of_member (λ kinds n last made. changes_input kinds n made) change.Add (ap not derived_is)
  add_holds new free E15 = of_member brings_again change.Add (ap (λ (last : Option Definition). is_among (last_dependencies last) q) last_is ∙ new)
  add_holds new free E17 = past_changes s few room
  add_holds new free E19 = past_legs s few room
  add_holds new free code = refl

  pub drop_holds : is_among (slice_index_or members d []) q ≡ true → (code : Code)
      → holds mode.Plain state (Drop (service_name inputs (inputs + d)) (service_name inputs q)) code ≡ false
  drop_holds there E08 = both_known
  drop_holds there E14 = of_member (λ kinds n last made. changes_input kinds n made) change.Drop (ap not derived_is)
  drop_holds there E16 = of_member drops_other change.Drop (and_false _ _ (ap (λ (last : Option Definition). not (is_among (last_members last) q)) last_is ∙ ap not there))
  drop_holds there E17 = past_changes s few room
  drop_holds there E19 = past_legs s few room
  drop_holds there code = refl
