-- The diamond's run: what its plan gives is shown, so that the laws say of it that it is legal and settled; and the glitch in its second block.
use Rattle.std.proofs.Common.{◌≡◌, ℕ, zero, suc, ◌<◌, ◌≤◌, true, nat_eq, List, [], ◌∷◌, ◌++◌, map, length, reverse, Option, Some, None, inl, inr, refl, sym, ap, subst, arith}
use Rattle.std.proofs.lemmas.Bool.Decides.{Decides-eqb}
use Rattle.propagation.specs.Lists.{latest}
use Rattle.propagation.specs.History.{CentralAt, now}
use Rattle.propagation.specs.Logs.{Emission, Entry, Leg, emissions}
use Rattle.propagation.specs.Logs.Frame.{Changed}
use Rattle.propagation.specs.Logs.Entry.{Took, Computed}
use Rattle.propagation.specs.Rules.{Legal, Quiet, Accepted, Settled, next}
use Rattle.propagation.proofs.Settling.{quiet_is_settled}
use Rattle.propagation.proofs.Legs.{legs_go_on}
use Rattle.propagation.proofs.TestedFamily.{Decides-is_legal, Decides-is_quiet}
use Rattle.propagation.proofs.Samples.Book.{Linear, first_leg, first_opening, past_end, accepted_by}
use Rattle.propagation.proofs.Samples.Diamond.{histories, logs, more, second_logs}
use Rattle.judged_run.specs.Texts.{LegPlan, RunPlan, IsLegPlan, IsRunPlan, Line}
use Rattle.judged_run.specs.Texts.LogLine.{entry}
use Rattle.judged_run.specs.Texts.Line.{log_line, settle_line, value_line}
use Rattle.judged_run.specs.LineRules.{IsLegalRun, FirstBroken}
use Rattle.judged_run.specs.LineRules.Rule.{J5}
use Rattle.judged_run.specs.Verdicts.{verdict}
use Rattle.judged_run.specs.Runs.{EachBlock, BlockIsSettled}
use Rattle.judged_run.specs.Machine.{machine_verdict}
use Rattle.judged_run.proofs.Exact.{verdict-legal, verdict-first}
use Rattle.judged_run.proofs.Settled.{legal_runs_are_settled}

-- ---- the plan

abbrev ranks : ℕ → ℕ
ranks zero = 0
ranks (suc zero) = 1
ranks (suc (suc zero)) = 1
ranks (suc (suc (suc n))) = 2

abbrev leg : Leg ℕ Linear
leg = first_leg histories

abbrev second : Leg ℕ Linear
second = next leg logs more

silent : (n : ℕ) → 4 ≤ n → logs n ≡ []
silent zero le = absurd (omega arith)
silent (suc zero) le = absurd (omega arith)
silent (suc (suc zero)) le = absurd (omega arith)
silent (suc (suc (suc zero))) le = absurd (omega arith)
silent (suc (suc (suc (suc n)))) le = refl

second_silent : (n : ℕ) → 4 ≤ n → second_logs n ≡ []
second_silent zero le = absurd (omega arith)
second_silent (suc zero) le = absurd (omega arith)
second_silent (suc (suc zero)) le = absurd (omega arith)
second_silent (suc (suc (suc zero))) le = absurd (omega arith)
second_silent (suc (suc (suc (suc n)))) le = refl

first_unborn : (n : ℕ) → 4 ≤ n → now leg.book n ≡ 0
first_unborn n le = ap (λ (ds : List Linear). length ds) (past_end histories n le)

accepted : Accepted leg ranks
accepted = accepted_by 4 leg ranks (past_end histories) (λ n le. refl) refl (first_opening histories)

legal : Legal leg logs
legal = (Decides-is_legal nat_eq Decides-eqb 4 leg ranks accepted first_unborn logs silent).0 refl

quiet : Quiet leg logs
quiet = (Decides-is_quiet nat_eq Decides-eqb 4 leg ranks accepted first_unborn logs silent).0 refl

nothing_more : (n : ℕ) → 4 ≤ n → second.book.history n ≡ []
nothing_more zero le = absurd (omega arith)
nothing_more (suc zero) le = absurd (omega arith)
nothing_more (suc (suc zero)) le = absurd (omega arith)
nothing_more (suc (suc (suc zero))) le = absurd (omega arith)
nothing_more (suc (suc (suc (suc n)))) le = refl

second_unborn : (n : ℕ) → 4 ≤ n → now second.book n ≡ 0
second_unborn n le = ap (λ (ds : List Linear). length ds) (nothing_more n le)

second_accepted : Accepted second ranks
second_accepted = accepted_by 4 second ranks nothing_more (λ n le. ap (λ (ds : List Linear). length ds) (past_end histories n le)) refl (legs_go_on ℕ Linear leg ranks logs more accepted legal quiet)

second_legal : Legal second second_logs
second_legal = (Decides-is_legal nat_eq Decides-eqb 4 second ranks second_accepted second_unborn second_logs second_silent).0 refl

second_quiet : Quiet second second_logs
second_quiet = (Decides-is_quiet nat_eq Decides-eqb 4 second ranks second_accepted second_unborn second_logs second_silent).0 refl

-- the value of what may be missing
abbrev value_of : Option (Emission ℕ) → ℕ
value_of None = 0
value_of (Some m) = m.value

-- the last emission of a settled family is central
central_by : (g : Leg ℕ Linear) (of_all : ℕ → List (Entry ℕ)) → Settled g of_all → (n : ℕ) → 0 < now g.book n → CentralAt g.book (now g.book) n (value_of (latest (emissions g n (of_all n))))
central_by g of_all rest n pos =
    let (m, is, central, cut) = rest.born n pos in subst (λ o. CentralAt g.book (now g.book) n (value_of o)) (sym is) central

born : (n : ℕ) → n < 4 → 0 < now leg.book n
born zero lt = omega arith
born (suc zero) lt = omega arith
born (suc (suc zero)) lt = omega arith
born (suc (suc (suc zero))) lt = omega arith
born (suc (suc (suc (suc n)))) lt = absurd (omega arith)

second_born : (n : ℕ) → n < 4 → 0 < now second.book n
second_born zero lt = omega arith
second_born (suc zero) lt = omega arith
second_born (suc (suc zero)) lt = omega arith
second_born (suc (suc (suc zero))) lt = omega arith
second_born (suc (suc (suc (suc n)))) lt = absurd (omega arith)

abbrev first_stage : LegPlan ℕ Linear
first_stage = record { leg = leg; count = 4; value = λ n. value_of (latest (emissions leg n (logs n))) }

abbrev second_stage : LegPlan ℕ Linear
second_stage = record { leg = second; count = 4; value = λ n. value_of (latest (emissions second n (second_logs n))) }

abbrev plan : RunPlan ℕ Linear
plan = record { legs = first_stage ∷ second_stage ∷ []; has_type = λ n v. true }

is_plan : IsRunPlan plan
is_plan s (inl e) =
    subst (λ t. IsLegPlan plan.has_type t) e
    (record { rank = ranks; accepted = accepted; unborn = first_unborn; central = λ n lt. central_by leg logs (quiet_is_settled ℕ Linear leg ranks logs accepted legal quiet) n (born n lt); typed = λ n c d vs is all. refl })
is_plan s (inr (inl e)) =
    subst (λ t. IsLegPlan plan.has_type t) e
    (record { rank = ranks; accepted = second_accepted; unborn = second_unborn; central = λ n lt. central_by second second_logs (quiet_is_settled ℕ Linear second ranks second_logs second_accepted second_legal second_quiet) n (second_born n lt); typed = λ n c d vs is all. refl })
is_plan s (inr (inr none)) = absurd none

-- ---- the run

-- the lines of the log of n
abbrev log : ℕ → List (Entry ℕ) → List (Line ℕ)
log n xs = map (λ x. log_line n (entry x)) (reverse xs)

abbrev ends : ℕ → ℕ → ℕ → ℕ → ℕ → List (Line ℕ)
ends k a b c d = settle_line k ∷ value_line 0 a ∷ value_line 1 b ∷ value_line 2 c ∷ value_line 3 d ∷ []

abbrev block : (ℕ → List (Entry ℕ)) → List (Line ℕ)
block of_all = log 0 (of_all 0) ++ log 1 (of_all 1) ++ log 2 (of_all 2) ++ log 3 (of_all 3)

abbrev lines : List (Line ℕ)
lines = block logs ++ ends 1 1 2 10 12 ++ block second_logs ++ ends 2 2 3 20 23

-- the row judged diamond
legal_verdict : verdict nat_eq plan lines ≡ None
legal_verdict = refl

by_machine : machine_verdict nat_eq plan lines ≡ None
by_machine = refl

legal_run : IsLegalRun plan lines
legal_run = verdict-legal nat_eq Decides-eqb plan is_plan lines legal_verdict

settled_run : EachBlock BlockIsSettled plan [] lines
settled_run = legal_runs_are_settled ℕ Linear plan lines is_plan legal_run

-- the row glitch: in its 50th line both takes left's new value with right's old one
abbrev glitch : List (Line ℕ)
glitch =
    block logs ++ ends 1 1 2 10 12 ++ log 0 (second_logs 0) ++ log 1 (second_logs 1) ++ log 2 (second_logs 2)
    ++ log_line 3 (entry (Took 1 (Changed 1 3 ((0, 2) ∷ [])))) ∷ log_line 3 (entry (Took 2 (Changed 1 20 ((0, 2) ∷ []))))
    ∷ log_line 3 (entry (Computed 13 ((0, 2) ∷ (1, 1) ∷ (2, 1) ∷ (3, 1) ∷ []) (1 ∷ 0 ∷ []))) ∷ ends 2 2 3 20 23

glitch_breaks : FirstBroken plan glitch 49 J5
glitch_breaks = verdict-first nat_eq Decides-eqb plan is_plan glitch 49 J5 refl
