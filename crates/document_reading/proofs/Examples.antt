-- The definitions at some documents.
use Rattle.std.proofs.Common.{◌≡◌, [], ◌∷◌, Some, None, refl}
use Rattle.std.specs.Prelude.{codes, pos, map, length}
use Rattle.svc_value.specs.declared.value.Value.TheVariants.{Int, Words}
use Rattle.svc_value.specs.declared.value.ValueType.TheVariants as type
use Rattle.svc_plan.specs.declared.plan.Mode.TheVariants.{Plain, Step}
use Rattle.svc_plan.specs.Rows.{rows_after_all}
use Rattle.document_reading.specs.declared.refusal.Code.TheVariants.{E05, E07, E08, E10, E12, E14, E18}
use Rattle.document_reading.specs.declared.statement.Body.TheVariants.{TooLarge}
use Rattle.document_reading.specs.declared.statement.Statement.TheVariants.{Silence, Input, Derived, Set, Add, Define, Settle, Do}
use Rattle.document_reading.specs.Document.{lines_of}
use Rattle.document_reading.specs.Refusals.{refusal}
use Rattle.document_reading.specs.State.{State, start, next, legs_in}

-- a last line without its LF, and empty lines
two_lines : lines_of (97 ∷ 10 ∷ 98 ∷ []) ≡ (97 ∷ []) ∷ (98 ∷ []) ∷ []
two_lines = refl

empty_lines : lines_of (10 ∷ 10 ∷ []) ≡ [] ∷ [] ∷ []
empty_lines = refl

no_lines : lines_of [] ≡ []
no_lines = refl

-- two inputs, a settle, and a new value
abbrev inputs : State
inputs = next (next (start [] 0) (Input (codes "a") type.Int (Int (pos 3)))) (Input (codes "t") type.Text (Words (codes "x")))

abbrev after : State
after = next (next (next inputs Settle) Silence) (Set (codes "a") (Int (pos 5)))

-- a set after the settle is in a leg of its own, whose settle is implied
leg_changes : map (λ leg. length leg.changes) (legs_in after) ≡ 2 ∷ 1 ∷ []
leg_changes = refl

leg_services : map (λ leg. length leg.services) (legs_in after) ≡ 2 ∷ 0 ∷ []
leg_services = refl

histories : map (λ row. length row.history) (rows_after_all [] (legs_in after)) ≡ 2 ∷ 1 ∷ []
histories = refl

names : map (λ row. row.name) after.rows ≡ codes "a" ∷ codes "t" ∷ []
names = refl

line_count : after.lines ≡ 5
line_count = refl

-- refusals, with the lowest-numbered code
declared_twice : refusal Plain after (Input (codes "t") type.Int (Words [])) ≡ Some E05
declared_twice = refl

rank_first : refusal Plain after (Derived (codes "d") type.Int 0 TooLarge) ≡ Some E07
rank_first = refl

too_large : refusal Plain after (Derived (codes "d") type.Int 1 TooLarge) ≡ Some E12
too_large = refl

too_large_of_nothing : refusal Plain after (Define (codes "q") TooLarge) ≡ Some E12
too_large_of_nothing = refl

not_declared : refusal Plain after (Set (codes "c") (Int (pos 4))) ≡ Some E08
not_declared = refl

wrong_type : refusal Plain after (Set (codes "t") (Int (pos 4))) ≡ Some E10
wrong_type = refl

member_of_input : refusal Plain after (Add (codes "a") (codes "t")) ≡ Some E14
member_of_input = refl

step_line : refusal Plain after (Do (codes "a")) ≡ Some E18
step_line = refl

step_line_in_its_mode : refusal Step after (Do (codes "a")) ≡ None
step_line_in_its_mode = refl

right_type : refusal Plain after (Set (codes "t") (Words [])) ≡ None
right_type = refl

empty_leg_accepted : refusal Plain after Settle ≡ None
empty_leg_accepted = refl
