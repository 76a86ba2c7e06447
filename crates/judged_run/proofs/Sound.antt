-- Where no line of a run breaks a rule, each block is legal and quiet.
use Rattle.std.proofs.Common.{◌≡◌, ℕ, suc, Bool, true, false, ◌==◌, List, [], ◌∷◌, Option, Some, None, is_some, inl, inr, refl, sym, ap, ◌∙◌, subst, if◌then◌else◌}
use Rattle.std.specs.Prelude.{option_and_then}
use Rattle.std.proofs.lemmas.Bool.{cases_Bool, cond-true}
use Rattle.std.proofs.lemmas.Bool.Decides.{Decides-eqb}
use Rattle.propagation.specs.Logs.{Frame, Leg}
use Rattle.propagation.specs.Rules.{Quiet}
use Rattle.propagation.specs.Lines.{Answers}
use Rattle.propagation.proofs.Lines.{lines_are_enough}
use Rattle.propagation.proofs.Lists.{slice_get-Has}
use Rattle.propagation.proofs.ByTest.{by_test}
use Rattle.judged_run.specs.Texts.{LegPlan, RunPlan, IsRunPlan, LogLine, Line, Position, leg_plan, next_position, position_after, IsWhole, log_lines, entries, family, frames_given, block_end, last_log, all_frames}
use Rattle.judged_run.specs.Texts.LogLine.{entry, took_bytes, sent_bytes}
use Rattle.judged_run.specs.Texts.Line.{passed_line, log_line, settle_line, value_line, other_line}
use Rattle.judged_run.specs.Texts.Position.{in_logs, in_values}
use Rattle.judged_run.specs.LineRules.{Rule, LogLineKeeps, EndedLogAnswers, RuleKept, leg_plan_of, LineKeeps, KeepsAt, IsLegalRun}
use Rattle.judged_run.specs.LineRules.Rule.{J1, J2, J3, J4, J5, J6, J7, J8, J9}
use Rattle.judged_run.specs.Runs.{after_lines, EachBlock, EachValue, BlockIsLegal, IsCentral, IsRun}
use Rattle.judged_run.proofs.Fitting.{Fits, fits, if-some, some-same}
use Rattle.judged_run.proofs.Kept.{SaidAll, said-frames, said-kept}

-- the form one line later
pub form-later : {V D : Type 0} (plan : RunPlan V D) (past : List (Line V)) (x : Line V) (st after : Position) → position_after plan past ≡ Some st → position_after plan (x ∷ past) ≡ Some after → next_position plan st x ≡ Some after
form-later plan past x st after before is = sym (ap (λ o. option_and_then (λ s. next_position plan s x) o) before) ∙ is

pub form-next : {V D : Type 0} (plan : RunPlan V D) (past : List (Line V)) (x : Line V) (st after : Position) → position_after plan past ≡ Some st → next_position plan st x ≡ Some after → position_after plan (x ∷ past) ≡ Some after
form-next plan past x st after before is = ap (λ o. option_and_then (λ s. next_position plan s x) o) before ∙ is

module _ {V D : Type 0} (plan : RunPlan V D) where
  -- where the form goes on, the block ends where it did
  pub end-later : (past : List (Line V)) (x : Line V) (ahead : List (Line V)) (after : Position) → position_after plan (x ∷ past) ≡ Some after → (if is_some (position_after plan (x ∷ past)) then block_end plan (x ∷ past) ahead else past) ≡ block_end plan (x ∷ past) ahead
  end-later past x ahead after is = cond-true (is_some (position_after plan (x ∷ past))) (block_end plan (x ∷ past) ahead) past (ap (λ o. is_some o) is)

  -- what is kept of a block that ends so: each line so far keeps its rules, and no asked frame is missing to the logs that ended
  abbrev pub Kept : LegPlan V D → List (Line V) → List (Line V) → Type 0
  Kept s end past = (m : ℕ) → SaidAll plan.has_type s.leg (λ p. log_lines p end) m (log_lines m past) × ((last_log past ≡ Some m → ⊥) → Answers s.leg m (family past m))

  kept-none : (s : LegPlan V D) (end past : List (Line V)) → ((m : ℕ) → log_lines m past ≡ []) → Kept s end past
  kept-none s end past none m = (
    subst (λ xs. SaidAll plan.has_type s.leg (λ p. log_lines p end) m xs) (sym (none m)) tt,
    λ apart. subst (λ xs. Answers s.leg m (entries xs)) (sym (none m)) (λ q. refl),
  )

  -- the rules of a log line
  said-rules : (s : LegPlan V D) (end past : List (Line V)) (n : ℕ) (y : LogLine V) (ahead : List (Line V)) → block_end plan past (log_line n y ∷ ahead) ≡ end → ((rule : Rule) → RuleKept plan past (log_line n y) ahead rule s) →
      (rule : Rule) → LogLineKeeps plan.has_type s.leg (λ p. frames_given n (log_lines p end)) n rule y (log_lines n past)
  said-rules s end past n y ahead e all J1 = subst (λ b. LogLineKeeps plan.has_type s.leg (λ p. frames_given n (log_lines p b)) n J1 y (log_lines n past)) e (all J1)
  said-rules s end past n y ahead e all J2 = subst (λ b. LogLineKeeps plan.has_type s.leg (λ p. frames_given n (log_lines p b)) n J2 y (log_lines n past)) e (all J2)
  said-rules s end past n y ahead e all J3 = subst (λ b. LogLineKeeps plan.has_type s.leg (λ p. frames_given n (log_lines p b)) n J3 y (log_lines n past)) e (all J3)
  said-rules s end past n (entry x) ahead e all J4 = (all J4).0
  said-rules s end past n (took_bytes p) ahead e all J4 = (all J4).0
  said-rules s end past n (sent_bytes q) ahead e all J4 = (all J4).0
  said-rules s end past n y ahead e all J5 = subst (λ b. LogLineKeeps plan.has_type s.leg (λ p. frames_given n (log_lines p b)) n J5 y (log_lines n past)) e (all J5)
  said-rules s end past n y ahead e all J6 = subst (λ b. LogLineKeeps plan.has_type s.leg (λ p. frames_given n (log_lines p b)) n J6 y (log_lines n past)) e (all J6)
  said-rules s end past n y ahead e all J7 = subst (λ b. LogLineKeeps plan.has_type s.leg (λ p. frames_given n (log_lines p b)) n J7 y (log_lines n past)) e (all J7)
  said-rules s end past n y ahead e all J8 = subst (λ b. LogLineKeeps plan.has_type s.leg (λ p. frames_given n (log_lines p b)) n J8 y (log_lines n past)) e (all J8)
  said-rules s end past n y ahead e all J9 = subst (λ b. LogLineKeeps plan.has_type s.leg (λ p. frames_given n (log_lines p b)) n J9 y (log_lines n past)) e (all J9)

  -- the logs before this line have answered, if the one that ended here has
  answered-before : (s : LegPlan V D) (end past : List (Line V)) (goes_on : ℕ → Bool) → Kept s end past → EndedLogAnswers s.leg past goes_on → (m : ℕ) → goes_on m ≡ false → Answers s.leg m (family past m)
  answered-before s end past goes_on kept ended m off = go (last_log past) refl
    where
      go : (o : Option ℕ) → last_log past ≡ o → Answers s.leg m (family past m)
      go None is = (kept m).1 (λ e. cc (sym is ∙ e))
      go (Some l) is =
          elim (cases_Bool (l == m)) [
            | inl t ↦ ended m (is ∙ ap (λ i. Some i) ((Decides-eqb l m).0 t)) off
            | inr f ↦ (kept m).1 (λ e. let same : l ≡ m = some-same l m (sym is ∙ e) in cc (f, (Decides-eqb l m).1 same))
          ]

  kept-logged : (s : LegPlan V D) (end past : List (Line V)) (n : ℕ) (y : LogLine V) → Kept s end past → ((rule : Rule) → LogLineKeeps plan.has_type s.leg (λ p. frames_given n (log_lines p end)) n rule y (log_lines n past)) → EndedLogAnswers s.leg past (λ m. m == n) →
      Kept s end (log_line n y ∷ past)
  kept-logged s end past n y kept rules ended m = (
    by_test (n == m) (λ xs. SaidAll plan.has_type s.leg (λ p. log_lines p end) m xs)
        (λ t. (subst (λ i. (rule : Rule) → LogLineKeeps plan.has_type s.leg (λ p. frames_given i (log_lines p end)) i rule y (log_lines i past)) ((Decides-eqb n m).0 t) rules, (kept m).0))
        (λ f. (kept m).0),
    λ apart. by_test (n == m) (λ xs. Answers s.leg m (entries xs))
        (λ t. absurd (apart (ap (λ i. Some i) ((Decides-eqb n m).0 t))))
        (λ f. answered-before s end past (λ i. i == n) kept ended m (off f)),
  )
    where
      off : (n == m) ≡ false → (m == n) ≡ false
      off f = elim (cases_Bool (m == n)) [ inl t ↦ absurd (cc (f, (Decides-eqb n m).1 (sym ((Decides-eqb m n).0 t)))) | inr g ↦ g ]

  module _ (good : IsRunPlan plan) where
    block-legal : (s : LegPlan V D) (past : List (Line V)) (k : ℕ) → leg_plan plan k ≡ Some s → Kept s past past → EndedLogAnswers s.leg past (λ m. false) → Quiet s.leg (family past) → BlockIsLegal s past
    block-legal s past k is kept ended quiet =
        let frames : (n : ℕ) → all_frames (log_lines n past) ≡ true = λ n. said-frames plan.has_type s.leg (λ p. log_lines p past) n (log_lines n past) (kept n).0 in
        let st = good s (slice_get-Has plan.legs k s is) in
        record {
          frames = frames;
          legal = (lines_are_enough V D s.leg st.rank (family past) st.accepted).0
              (λ n. (said-kept plan.has_type s.leg (λ p. log_lines p past) frames n (log_lines n past) (kept n).0, answered-before s past past (λ m. false) kept ended n refl));
          quiet = quiet;
        }

    -- what is known where the form stands so
    abbrev Open : List (Line V) → List (Line V) → Position → Type 0
    Open past rest (in_logs k least) = (s : LegPlan V D) → leg_plan plan k ≡ Some s → Kept s (block_end plan past rest) past
    Open past rest (in_values k next) = Unit {0}

    open-none : (past rest : List (Line V)) (st : Position) → ((m : ℕ) → log_lines m past ≡ []) → Open past rest st
    open-none past rest (in_logs k least) none = λ s is. kept-none s (block_end plan past rest) past none
    open-none past rest (in_values k next) none = tt

    abbrev Sound : List (Line V) → List (Line V) → Type 0
    Sound past rest = EachBlock BlockIsLegal plan past rest × EachValue IsCentral plan past rest

    -- the rules of the line at hand, for its leg
    rules-here : (past : List (Line V)) (x : Line V) (ahead : List (Line V)) → ((rule : Rule) → LineKeeps plan past (x ∷ ahead) rule) → (s : LegPlan V D) → leg_plan_of plan past x ≡ Some s → ((rule : Rule) → (rule ≡ J1 → ⊥) → RuleKept plan past x ahead rule s)
    rules-here past x ahead all s is J1 apart = absurd (apart refl)
    rules-here past x ahead all s is J2 apart = all J2 s is
    rules-here past x ahead all s is J3 apart = all J3 s is
    rules-here past x ahead all s is J4 apart = all J4 s is
    rules-here past x ahead all s is J5 apart = all J5 s is
    rules-here past x ahead all s is J6 apart = all J6 s is
    rules-here past x ahead all s is J7 apart = all J7 s is
    rules-here past x ahead all s is J8 apart = all J8 s is
    rules-here past x ahead all s is J9 apart = all J9 s is

    said-J1 : (given : ℕ → List (Option (Frame V))) (g : Leg V D) (n : ℕ) (y : LogLine V) (before : List (LogLine V)) → LogLineKeeps plan.has_type g given n J1 y before
    said-J1 given g n (entry x) before = tt
    said-J1 given g n (took_bytes p) before = tt
    said-J1 given g n (sent_bytes q) before = tt

    logged-rules : (past : List (Line V)) (n : ℕ) (y : LogLine V) (ahead : List (Line V)) (s : LegPlan V D) → ((rule : Rule) → (rule ≡ J1 → ⊥) → RuleKept plan past (log_line n y) ahead rule s) → (rule : Rule) → RuleKept plan past (log_line n y) ahead rule s
    logged-rules past n y ahead s all J1 = said-J1 (λ p. frames_given n (log_lines p (block_end plan past (log_line n y ∷ ahead)))) s.leg n y (log_lines n past)
    logged-rules past n y ahead s all J2 = all J2 (λ e. cc e)
    logged-rules past n y ahead s all J3 = all J3 (λ e. cc e)
    logged-rules past n y ahead s all J4 = all J4 (λ e. cc e)
    logged-rules past n y ahead s all J5 = all J5 (λ e. cc e)
    logged-rules past n y ahead s all J6 = all J6 (λ e. cc e)
    logged-rules past n y ahead s all J7 = all J7 (λ e. cc e)
    logged-rules past n y ahead s all J8 = all J8 (λ e. cc e)
    logged-rules past n y ahead s all J9 = all J9 (λ e. cc e)

    open-passed : (past ahead : List (Line V)) (st : Position) → position_after plan (passed_line ∷ past) ≡ Some st → Open past (passed_line ∷ ahead) st → Open (passed_line ∷ past) ahead st
    open-passed past ahead (in_logs k least) at here = λ s is. subst (λ b. Kept s b past) (end-later past passed_line ahead (in_logs k least) at) (here s is)
    open-passed past ahead (in_values k next) at here = tt

    sound-line : (past : List (Line V)) (x : Line V) (ahead : List (Line V)) (st after : Position) → position_after plan past ≡ Some st → next_position plan st x ≡ Some after → position_after plan (x ∷ past) ≡ Some after → Open past (x ∷ ahead) st →
        ((rule : Rule) → LineKeeps plan past (x ∷ ahead) rule) → (Open (x ∷ past) ahead after → Sound (x ∷ past) ahead) → Sound past (x ∷ ahead)
    sound-line past passed_line ahead st after is next at here all more =
        more (let e : st ≡ after = some-same st after next in subst (λ f. Open (passed_line ∷ past) ahead f) e (open-passed past ahead st (at ∙ ap (λ f. Some f) (sym e)) here))
    sound-line past (log_line n y) ahead (in_logs k least) after is next at here all more =
        let e : in_logs k n ≡ after = (if-some _ (in_logs k n) after next).1 in
        let fit : Fits plan past (in_logs k least) = fits plan past (in_logs k least) is in
        more (subst (λ f. Open (log_line n y ∷ past) ahead f) e
        (λ s there.
        let rules = logged-rules past n y ahead s (rules-here past (log_line n y) ahead all s (ap (λ i. leg_plan plan i) fit.0 ∙ there)) in
        let ends = end-later past (log_line n y) ahead after at in
        kept-logged s (block_end plan (log_line n y ∷ past) ahead) past n y (subst (λ b. Kept s b past) ends (here s there))
        (said-rules s (block_end plan (log_line n y ∷ past) ahead) past n y ahead ends rules) (rules J4).1))
    sound-line past (log_line n y) ahead (in_values k next_n) after is next at here all more = absurd (cc next)
    sound-line past (settle_line j) ahead (in_logs k least) after is next at here all more =
        let fit : Fits plan past (in_logs k least) = fits plan past (in_logs k least) is in
        let (b, v) = more (open-none (settle_line j ∷ past) ahead after (λ m. refl)) in (
          (
            λ s there.
                let there_k : leg_plan plan k ≡ Some s = ap (λ i. leg_plan plan i) (sym fit.0) ∙ there in
                block-legal s past k there_k (here s there_k) (all J4 s there) (all J8 s there),
            b,
          ),
          v,
        )
    sound-line past (settle_line j) ahead (in_values k next_n) after is next at here all more = absurd (cc next)
    sound-line past (value_line n v) ahead st after is next at here all more =
        let (b, w) = more (open-none (value_line n v ∷ past) ahead after (λ m. refl)) in (b, (λ s there. all J9 s there, w))
    sound-line past other_line ahead (in_logs k least) after is next at here all more = absurd (cc next)
    sound-line past other_line ahead (in_values k next_n) after is next at here all more = absurd (cc next)

    whole-after : (rest past : List (Line V)) → ((k : ℕ) (rule : Rule) → KeepsAt plan past rest k rule) → IsWhole plan (after_lines past rest)
    whole-after [] past all = all 0 J1
    whole-after (x ∷ ahead) past all = whole-after ahead (x ∷ past) (λ k rule. all (suc k) rule)

    sound-from : (rest past : List (Line V)) (st : Position) → position_after plan past ≡ Some st → Open past rest st → ((k : ℕ) (rule : Rule) → KeepsAt plan past rest k rule) → Sound past rest
    sound-from [] past st is here all = (tt, tt)
    sound-from (x ∷ ahead) past st is here all =
        let (after, at) = all 0 J1 in
        sound-line past x ahead st after is (form-later plan past x st after is at) at here (λ rule. all 0 rule) (λ later. sound-from ahead (x ∷ past) after at later (λ k rule. all (suc k) rule))

    pub legal-run : (lines : List (Line V)) → IsLegalRun plan lines → IsRun plan lines
    legal-run lines all =
        let (b, v) = sound-from lines [] (in_logs 0 0) refl (open-none [] lines (in_logs 0 0) (λ m. refl)) all in record { whole = whole-after lines [] all; legal = b; central = v }
