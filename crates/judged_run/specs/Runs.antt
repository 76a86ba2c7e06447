-- A legal run block by block.
use Rattle.std.specs.Prelude.{◌≡◌, ℕ, true, List, [], ◌∷◌}
use Rattle.std.proofs.Common.{Some}
use Rattle.propagation.specs.Lists.{Has}
use Rattle.propagation.specs.History.{CentralAt, now}
use Rattle.propagation.specs.Stamps.{Stamps}
use Rattle.propagation.specs.Logs.Entry.{Computed}
use Rattle.propagation.specs.Rules.{Legal, Quiet, Settled, TrueOf}
use Rattle.judged_run.specs.Texts.{LegPlan, RunPlan, Line, IsWhole, leg_plan, blocks, log_lines, family, all_frames}
use Rattle.judged_run.specs.Texts.Line.{settle_line, value_line}
use Rattle.judged_run.specs.LineRules.{leg_plan_shown}

-- these lines, newest first, behind those before
abbrev pub after_lines : {V : Type 0} → List (Line V) → List (Line V) → List (Line V)
after_lines past [] = past
after_lines past (x ∷ ahead) = after_lines (x ∷ past) ahead

-- at each settle line it holds of its leg and the lines before
abbrev pub EachBlock : {V D : Type 0} → (LegPlan V D → List (Line V) → Type 0) → RunPlan V D → List (Line V) → List (Line V) → Type 0
EachBlock P plan past [] = Unit {0}
EachBlock {V} {D} P plan past (settle_line k ∷ ahead) = ((s : LegPlan V D) → leg_plan plan (blocks past) ≡ Some s → P s past) × EachBlock P plan (settle_line k ∷ past) ahead
EachBlock P plan past (x ∷ ahead) = EachBlock P plan (x ∷ past) ahead

-- at each value line it holds of its leg, the service and the value
abbrev pub EachValue : {V D : Type 0} → (LegPlan V D → ℕ → V → Type 0) → RunPlan V D → List (Line V) → List (Line V) → Type 0
EachValue P plan past [] = Unit {0}
EachValue {V} {D} P plan past (value_line n v ∷ ahead) = ((s : LegPlan V D) → leg_plan_shown plan (blocks past) ≡ Some s → P s n v) × EachValue P plan (value_line n v ∷ past) ahead
EachValue P plan past (x ∷ ahead) = EachValue P plan (x ∷ past) ahead

-- the logs of the block are a legal and quiet family
pub record BlockIsLegal {V D : Type 0} (s : LegPlan V D) (past : List (Line V)) : Type 0 where
  pub frames : (n : ℕ) → all_frames (log_lines n past) ≡ true
  pub legal : Legal s.leg (family past)
  pub quiet : Quiet s.leg (family past)

-- the value is the service's central one after the leg
abbrev pub IsCentral : {V D : Type 0} → LegPlan V D → ℕ → V → Type 0
IsCentral s n v = CentralAt s.leg.book (now s.leg.book) n v

-- the block is settled, and each of its computations is true
pub record BlockIsSettled {V D : Type 0} (s : LegPlan V D) (past : List (Line V)) : Type 0 where
  pub settled : Settled s.leg (family past)
  pub true_all : (n : ℕ) (v : V) (S : Stamps) (picks : List ℕ) → Has (family past n) (Computed v S picks) → TrueOf s.leg.book n (record { value = v; stamps = S })

-- the lines have the form of a run, each block is legal and quiet, and each value is central
pub record IsRun {V D : Type 0} (plan : RunPlan V D) (lines : List (Line V)) : Type 0 where
  pub whole : IsWhole plan (after_lines [] lines)
  pub legal : EachBlock BlockIsLegal plan [] lines
  pub central : EachValue IsCentral plan [] lines
