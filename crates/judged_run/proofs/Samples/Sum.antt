-- Document A: two inputs, a (3) is 0 and b (4) is 1, and their sum, total, is 2; then a is set to 10. Its run is legal, and each row changes it.
use Rattle.std.proofs.Common.{◌≡◌, not, ◌==◌, ℕ, true, nat_eq, List, [], ◌∷◌, ◌++◌, map, get_or, Option, Some, None, refl}
use Rattle.propagation.specs.Stamps.{Stamps}
use Rattle.propagation.specs.Logs.{Emission, Entry}
use Rattle.propagation.specs.Logs.Frame.{Subscribe, Sources, Changed}
use Rattle.propagation.specs.Logs.Entry.{Did, Took, Computed, Sent}
use Rattle.propagation.specs.Openings.{opened_leg}
use Rattle.propagation.proofs.Samples.Book.{Linear, book_of, first_leg}
use Rattle.judged_run.specs.Texts.{RunPlan, Line, computed_lines}
use Rattle.judged_run.specs.Texts.LogLine.{entry, took_bytes, sent_bytes}
use Rattle.judged_run.specs.Texts.Line.{passed_line, log_line, settle_line, value_line, other_line}
use Rattle.judged_run.specs.LineRules.{Rule}
use Rattle.judged_run.specs.LineRules.Rule.{J1, J2, J3, J4, J5, J6, J7, J8, J9}
use Rattle.judged_run.specs.Verdicts.{verdict}
use Rattle.judged_run.specs.Machine as Machine

-- an input with this value
abbrev constant : ℕ → Linear
constant k = record { constant = k; terms = [] }

-- the sum of a and b
abbrev total : Linear
total = record { constant = 0; terms = (0, 1) ∷ (1, 1) ∷ [] }

-- the emissions before the second leg
abbrev held : List (Option (Emission ℕ))
held =
    Some (record { value = 3; stamps = (0, 1) ∷ [] }) ∷ Some (record { value = 4; stamps = (1, 1) ∷ [] })
    ∷ Some (record { value = 7; stamps = (0, 1) ∷ (1, 1) ∷ (2, 1) ∷ [] }) ∷ []

-- the two legs, the second opened by the central values of the first
abbrev plan : RunPlan ℕ Linear
plan =
    record {
      legs =
          record { leg = first_leg ((constant 3 ∷ []) ∷ (constant 4 ∷ []) ∷ (total ∷ []) ∷ []); count = 3; value = λ n. get_or (3 ∷ 4 ∷ 7 ∷ []) n 0 }
          ∷ record {
            leg = opened_leg (book_of ((constant 3 ∷ constant 10 ∷ []) ∷ (constant 4 ∷ []) ∷ (total ∷ []) ∷ [])) (λ n. get_or (1 ∷ 1 ∷ 1 ∷ []) n 0) (λ n. get_or held n None);
            count = 3;
            value = λ n. get_or (10 ∷ 4 ∷ 14 ∷ []) n 0;
          }
          ∷ [];
      has_type = λ n v. true;
    }

-- the lines of a log
abbrev log : ℕ → List (Entry ℕ) → List (Line ℕ)
log n xs = map (λ x. log_line n (entry x)) xs

-- what an input's log begins with, and its frames to total
abbrev input_log : ℕ → ℕ → List (Entry ℕ)
input_log n v = Did 1 ∷ Computed v ((n, 1) ∷ []) [] ∷ Took 2 (Subscribe 1) ∷ Sent 2 (Sources 1 (n ∷ [])) ∷ []

abbrev told : ℕ → List (Entry ℕ)
told v = Sent 2 (Changed 1 v ((0, 1) ∷ [])) ∷ []

-- the log of total
abbrev subscribed : List (Entry ℕ)
subscribed = Did 1 ∷ Sent 0 (Subscribe 1) ∷ Sent 1 (Subscribe 1) ∷ []

abbrev heard : List (Entry ℕ)
heard = Took 0 (Sources 1 (0 ∷ [])) ∷ Took 0 (Changed 1 3 ((0, 1) ∷ [])) ∷ Took 1 (Sources 1 (1 ∷ [])) ∷ []

abbrev heard_last : List (Entry ℕ)
heard_last = Took 1 (Changed 1 4 ((0, 1) ∷ [])) ∷ []

abbrev summed : ℕ → Stamps → List (Entry ℕ)
summed v S = Computed v S (1 ∷ 1 ∷ []) ∷ []

abbrev stamped : Stamps
stamped = (0, 1) ∷ (1, 1) ∷ (2, 1) ∷ []

-- the settle line of a block and its value lines
abbrev ends : ℕ → ℕ → ℕ → ℕ → List (Line ℕ)
ends k a b c = settle_line k ∷ value_line 0 a ∷ value_line 1 b ∷ value_line 2 c ∷ []

-- the first block of 22 lines
abbrev inputs : List (Line ℕ)
inputs = log 0 (input_log 0 3 ++ told 3) ++ log 1 (input_log 1 4 ++ told 4)

abbrev first_block : List (Line ℕ)
first_block = inputs ++ log 2 (subscribed ++ heard ++ heard_last ++ summed 7 stamped) ++ ends 1 3 4 7

-- and the second
abbrev second_a : List (Entry ℕ)
second_a = Did 2 ∷ Computed 10 ((0, 2) ∷ []) [] ∷ Sent 2 (Changed 1 10 ((0, 2) ∷ [])) ∷ []

abbrev second_total : List (Entry ℕ)
second_total = Took 0 (Changed 1 10 ((0, 2) ∷ [])) ∷ Computed 14 ((0, 2) ∷ (1, 1) ∷ (2, 1) ∷ []) (1 ∷ 0 ∷ []) ∷ []

abbrev second_block : List (Line ℕ)
second_block = log 0 second_a ++ log 2 second_total ++ ends 2 10 4 14

-- the verdict, by the number of lines before the one that breaks a rule
abbrev verdict_of : List (Line ℕ) → Option (ℕ × Rule)
verdict_of lines = verdict nat_eq plan lines

legal_run : verdict_of (first_block ++ second_block) ≡ None
legal_run = refl

-- lines that are passed over change nothing, wherever they stand
with_passed : verdict_of (passed_line ∷ inputs ++ passed_line ∷ log 2 (subscribed ++ heard ++ heard_last ++ summed 7 stamped) ++ passed_line ∷ ends 1 3 4 7 ++ second_block ++ passed_line ∷ []) ≡ None
with_passed = refl

-- ---- J1: no text, the end before the end, a line too many, services out of order, a wrong number
no_text : verdict_of [] ≡ Some (0, J1)
no_text = refl

-- but where no leg is due, no text is a legal one
empty_judged : verdict {D = Linear} nat_eq (record { legs = []; has_type = λ n v. true }) [] ≡ None
empty_judged = refl

half : verdict_of first_block ≡ Some (22, J1)
half = refl

too_long : verdict_of (first_block ++ second_block ++ settle_line 3 ∷ []) ≡ Some (31, J1)
too_long = refl

no_order : verdict_of (log 1 (Did 1 ∷ []) ++ log 0 (Did 1 ∷ [])) ≡ Some (1, J1)
no_order = refl

malformed : verdict_of (inputs ++ log 2 subscribed ++ other_line ∷ ends 1 3 4 7) ≡ Some (13, J1)
malformed = refl

-- but where it stands before the frame that a took, that line comes first
malformed_before : verdict_of (inputs ++ other_line ∷ log 2 subscribed) ≡ Some (2, J3)
malformed_before = refl

wrong_number : verdict_of (inputs ++ log 2 (subscribed ++ heard ++ heard_last ++ summed 7 stamped) ++ ends 2 3 4 7) ≡ Some (18, J1)
wrong_number = refl

-- ---- J2: a change too many; a clock passed over
too_many : verdict_of (inputs ++ log 2 (Did 1 ∷ Sent 0 (Subscribe 1) ∷ Sent 1 (Subscribe 1) ∷ Did 2 ∷ [])) ≡ Some (13, J2)
too_many = refl

passed_over : verdict_of (log 0 (Did 2 ∷ [])) ≡ Some (0, J2)
passed_over = refl

-- ---- J3: taken and never sent, though it comes later in the text; taken bytes that are no frame
never_sent : verdict_of (log 0 (Did 1 ∷ Computed 3 ((0, 1) ∷ []) [] ∷ Took 2 (Subscribe 2) ∷ []) ++ log 2 subscribed) ≡ Some (2, J3)
never_sent = refl

-- where the text ends before total's log, its Subscribe is missing
cut_off : verdict_of (log 0 (input_log 0 3)) ≡ Some (2, J3)
cut_off = refl

no_frame : verdict_of (log 0 (Did 1 ∷ Computed 3 ((0, 1) ∷ []) [] ∷ []) ++ log_line 0 (took_bytes 2) ∷ log 2 (Did 1 ∷ []) ++ log_line 2 (sent_bytes 0) ∷ []) ≡ Some (2, J3)
no_frame = refl

-- ---- J4: the row missing frame; a frame that is not asked; bytes that are no frame
missing_frame : verdict_of (log 0 (input_log 0 3) ++ log 1 (input_log 1 4 ++ told 4) ++ log 2 (subscribed ++ heard ++ heard_last ++ summed 7 stamped) ++ ends 1 3 4 7) ≡ Some (4, J4)
missing_frame = refl

missing_last : verdict_of (inputs ++ log 2 (Did 1 ∷ Sent 0 (Subscribe 1) ∷ []) ++ ends 1 3 4 7) ≡ Some (7, J3)
missing_last = refl

not_asked : verdict_of (log 0 (Did 1 ∷ Sent 2 (Subscribe 1) ∷ [])) ≡ Some (1, J4)
not_asked = refl

sent_junk : verdict_of (inputs ++ log 2 subscribed ++ log_line 2 (sent_bytes 1) ∷ []) ≡ Some (13, J4)
sent_junk = refl

-- ---- J5: the row missing take
missing_take : verdict_of (inputs ++ log 2 (subscribed ++ heard ++ summed 7 stamped) ++ ends 1 3 4 7 ++ second_block) ≡ Some (16, J5)
missing_take = refl

-- ---- J6: wrong stamps
wrong_stamps : verdict_of (inputs ++ log 2 (subscribed ++ heard ++ heard_last ++ summed 7 ((0, 1) ∷ (2, 1) ∷ [])) ++ ends 1 3 4 7 ++ second_block) ≡ Some (17, J6)
wrong_stamps = refl

-- ---- J7: the row wrong value
wrong_value : verdict_of (inputs ++ log 2 (subscribed ++ heard ++ heard_last ++ summed 8 stamped) ++ ends 1 3 4 7 ++ second_block) ≡ Some (17, J7)
wrong_value = refl

-- a picked value that is not of its service's type has no meaning
wrong_type : verdict nat_eq (record plan { has_type = λ n v. not (v == 4) }) (first_block ++ second_block) ≡ Some (17, J7)
wrong_type = refl

-- ---- J8: in the second block total takes nothing; it takes and does not compute
in_flight : verdict_of (first_block ++ log 0 second_a ++ ends 2 10 4 14) ≡ Some (25, J8)
in_flight = refl

not_computed : verdict_of (first_block ++ log 0 second_a ++ log 2 (Took 0 (Changed 1 10 ((0, 2) ∷ [])) ∷ []) ++ ends 2 10 4 14) ≡ Some (26, J8)
not_computed = refl

-- ---- J9: the row wrong settled line
wrong_settled : verdict_of (inputs ++ log 2 (subscribed ++ heard ++ heard_last ++ summed 7 stamped) ++ ends 1 3 4 8 ++ second_block) ≡ Some (21, J9)
wrong_settled = refl

-- ---- the machine that reads line by line says the same
abbrev by_machine : List (Line ℕ) → Option (ℕ × Rule)
by_machine lines = Machine.machine_verdict nat_eq plan lines

machine_legal : by_machine (first_block ++ second_block) ≡ None
machine_legal = refl

machine_missing_frame : by_machine (log 0 (input_log 0 3) ++ log 1 (input_log 1 4 ++ told 4) ++ log 2 (subscribed ++ heard ++ heard_last ++ summed 7 stamped) ++ ends 1 3 4 7) ≡ Some (4, J4)
machine_missing_frame = refl

machine_cut_off : by_machine (log 0 (input_log 0 3)) ≡ Some (2, J3)
machine_cut_off = refl

machine_missing_take : by_machine (inputs ++ log 2 (subscribed ++ heard ++ summed 7 stamped) ++ ends 1 3 4 7 ++ second_block) ≡ Some (16, J5)
machine_missing_take = refl

machine_not_computed : by_machine (first_block ++ log 0 second_a ++ log 2 (Took 0 (Changed 1 10 ((0, 2) ∷ [])) ∷ []) ++ ends 2 10 4 14) ≡ Some (26, J8)
machine_not_computed = refl

-- the run has five computations
five : computed_lines (first_block ++ second_block) ≡ 5
five = refl
