-- The table of the judge's rules: for each rule what a line must be that keeps it. A line breaks a rule where it does not keep it.
use Rattle.std.specs.Prelude.{◌≡◌, ◌≢◌, ◌⊎◌, ◌≤◌, ℕ, suc, Bool, true, false, List, [], ◌∷◌, map, ◌==◌}
use Rattle.std.specs.List.{AllZip}
use Rattle.std.proofs.Common.{Some}
use Rattle.propagation.specs.Lists.{Has, IsOlderPart, numbered}
use Rattle.propagation.specs.History.{CentralAt, definition_at, deps, now}
use Rattle.propagation.specs.Stamps.{Stamps, NotBelow}
use Rattle.propagation.specs.Logs.{Emission, Frame, own, emissions, last_work}
use Rattle.propagation.specs.Logs.Entry.{Did, Took, Computed, Sent}
use Rattle.propagation.specs.Rules.{IsUnion, Quiet}
use Rattle.propagation.specs.Lines.{sent_since, frames_asked, Answers, IsPaired, PicksAgree}
use Rattle.judged_run.specs.Texts.{LegPlan, RunPlan, Line, leg_plan, Begins, IsWhole, blocks, log_lines, family, frames_given, count_taken, block_end, last_log}
use Rattle.judged_run.specs.Texts.LogLine.{entry, took_bytes, sent_bytes}
use Rattle.judged_run.specs.Texts.Line.{log_line, settle_line, value_line}
use Rattle.judged_run.specs.LineRules.{Rule, leg_plan_of, LineKeeps}
use Rattle.judged_run.specs.LineRules.Rule.{J1, J2, J3, J4, J5, J6, J7, J8, J9}

-- the two statements say the same
abbrev pub Same : Type 0 → Type 0 → Type 0
Same A B = (A → B) × (B → A)

-- the rule asks something of this line
abbrev pub is_about : {V : Type 0} → Rule → Line V → Bool
is_about J1 x = true
is_about J2 (log_line n (entry (Did c))) = true
is_about J3 (log_line n (entry (Took p f))) = true
is_about J3 (log_line n (took_bytes p)) = true
is_about J4 (log_line n x) = true
is_about J4 (settle_line k) = true
is_about J5 (log_line n (entry (Computed v S picks))) = true
is_about J6 (log_line n (entry (Computed v S picks))) = true
is_about J7 (log_line n (entry (Computed v S picks))) = true
is_about J8 (settle_line k) = true
is_about J9 (value_line n v) = true
is_about rule x = false

-- Of the log lines of a leg, behind the lines `past` and before the lines `ahead`. The log of n so far is `family past n`.
pub record LogTable {V D : Type 0} (plan : RunPlan V D) (s : LegPlan V D) (past ahead : List (Line V)) : Type 0 where
  -- a did line has the own clock plus 1, and no more than the number of the service's changes
  pub j2 : (n c : ℕ) → Same (LineKeeps plan past (log_line n (entry (Did c)) ∷ ahead) J2) ((c ≡ suc (own s.leg n (family past n))) × (c ≤ now s.leg.book n))
  -- the i-th line that takes from p has the i-th frame that p sends in the block, and it leaves no announced key without a clock
  pub j3 : (n p : ℕ) (f : Frame V) → Same (LineKeeps plan past (log_line n (entry (Took p f)) ∷ ahead) J3)
      ((numbered (frames_given n (log_lines p (block_end plan past (log_line n (entry (Took p f)) ∷ ahead)))) (count_taken p (log_lines n past)) ≡ Some (Some f)) × IsPaired s.leg n p f (family past n))
  -- bytes that are no frame are never taken
  pub j3_bytes : (n p : ℕ) → LineKeeps plan past (log_line n (took_bytes p) ∷ ahead) J3 → ⊥
  -- what is sent goes on with what is asked; and where the log before ends here, it has sent all
  pub j4_sent : (n q : ℕ) (f : Frame V) → Same (LineKeeps plan past (log_line n (entry (Sent q f)) ∷ ahead) J4)
      (IsOlderPart (f ∷ sent_since q (family past n)) (frames_asked s.leg n q (family past n)) × ((m : ℕ) → last_log past ≡ Some m → (m == n) ≡ false → Answers s.leg m (family past m)))
  -- bytes that are no frame are never sent
  pub j4_bytes : (n q : ℕ) → LineKeeps plan past (log_line n (sent_bytes q) ∷ ahead) J4 → ⊥
  -- before another line all that is asked was sent
  pub j4_did : (n c : ℕ) → Same (LineKeeps plan past (log_line n (entry (Did c)) ∷ ahead) J4)
      (Answers s.leg n (family past n) × ((m : ℕ) → last_log past ≡ Some m → (m == n) ≡ false → Answers s.leg m (family past m)))
  pub j4_took : (n p : ℕ) (f : Frame V) → Same (LineKeeps plan past (log_line n (entry (Took p f)) ∷ ahead) J4)
      (Answers s.leg n (family past n) × ((m : ℕ) → last_log past ≡ Some m → (m == n) ≡ false → Answers s.leg m (family past m)))
  pub j4_took_bytes : (n p : ℕ) → Same (LineKeeps plan past (log_line n (took_bytes p) ∷ ahead) J4)
      (Answers s.leg n (family past n) × ((m : ℕ) → last_log past ≡ Some m → (m == n) ≡ false → Answers s.leg m (family past m)))
  pub j4_computed : (n : ℕ) (v : V) (S : Stamps) (picks : List ℕ) → Same (LineKeeps plan past (log_line n (entry (Computed v S picks)) ∷ ahead) J4)
      (Answers s.leg n (family past n) × ((m : ℕ) → last_log past ≡ Some m → (m == n) ≡ false → Answers s.leg m (family past m)))
  -- the picks are there and agree, on no key it is below what was emitted, and it is not the last computation again
  pub j5 : (n : ℕ) (v : V) (S : Stamps) (picks : List ℕ) → Same (LineKeeps plan past (log_line n (entry (Computed v S picks)) ∷ ahead) J5)
      (((ms : List (Emission V)) × PicksAgree s.leg n (family past n) picks ms) × ((m : Emission V) → Has (emissions s.leg n (family past n)) m → NotBelow S m.stamps)
      × ((own s.leg n (family past n) ≡ 0) ⊎ (last_work s.leg n (family past n) ≢ (own s.leg n (family past n), picks))))
  -- where the picks agree, the stamps are their union with the own clock, and there is a definition
  pub j6 : (n : ℕ) (v : V) (S : Stamps) (picks : List ℕ) → Same (LineKeeps plan past (log_line n (entry (Computed v S picks)) ∷ ahead) J6)
      ((ms : List (Emission V)) → PicksAgree s.leg n (family past n) picks ms →
      IsUnion n (own s.leg n (family past n)) S ms × (d : D) × (definition_at s.leg.book n (own s.leg n (family past n)) ≡ Some d))
  -- where the picks agree, the value is the meaning of the definition over theirs, and each of these is of its service's type
  pub j7 : (n : ℕ) (v : V) (S : Stamps) (picks : List ℕ) → Same (LineKeeps plan past (log_line n (entry (Computed v S picks)) ∷ ahead) J7)
      (((ms : List (Emission V)) → PicksAgree s.leg n (family past n) picks ms → (d : D) → definition_at s.leg.book n (own s.leg n (family past n)) ≡ Some d → v ≡ s.leg.book.meaning d (map (λ m. m.value) ms))
      × ((ms : List (Emission V)) → PicksAgree s.leg n (family past n) picks ms → AllZip (λ p w. plan.has_type p w ≡ true) (deps s.leg.book n (own s.leg n (family past n))) (map (λ m. m.value) ms)))

-- of the other lines of a leg
pub record LegTable {V D : Type 0} (plan : RunPlan V D) (s : LegPlan V D) (past ahead : List (Line V)) : Type 0 where
  -- the log before a settle line has sent all that is asked
  pub j4_settle : (k : ℕ) → Same (LineKeeps plan past (settle_line k ∷ ahead) J4) ((m : ℕ) → last_log past ≡ Some m → Answers s.leg m (family past m))
  -- at a settle line the block is quiet
  pub j8 : (k : ℕ) → Same (LineKeeps plan past (settle_line k ∷ ahead) J8) (Quiet s.leg (family past))

-- J1: the lines up to this one begin a text of the form; and behind the last line the form is ended. Each other rule as above; J9: a value line's value
-- is central after the leg of the last settle line. A line of which a rule asks nothing keeps it.
pub record RuleTable {V D : Type 0} (plan : RunPlan V D) : Type 0 where
  pub j1 : (past : List (Line V)) (x : Line V) (ahead : List (Line V)) → Same (LineKeeps plan past (x ∷ ahead) J1) (Begins plan (x ∷ past))
  pub j1_end : (past : List (Line V)) → Same (LineKeeps plan past [] J1) (IsWhole plan past)
  pub log : (s : LegPlan V D) (past ahead : List (Line V)) → leg_plan plan (blocks past) ≡ Some s → LogTable plan s past ahead
  pub leg : (s : LegPlan V D) (past ahead : List (Line V)) → leg_plan plan (blocks past) ≡ Some s → LegTable plan s past ahead
  pub j9 : (s : LegPlan V D) (past ahead : List (Line V)) (n : ℕ) (v : V) → leg_plan_of plan past (value_line n v) ≡ Some s →
      Same (LineKeeps plan past (value_line n v ∷ ahead) J9) (CentralAt s.leg.book (now s.leg.book) n v)
  pub others : (past : List (Line V)) (x : Line V) (ahead : List (Line V)) (rule : Rule) → is_about rule x ≡ false → LineKeeps plan past (x ∷ ahead) rule

-- The rules of a line are those of the table.
abbrev pub RulesAreTheTable : Type 0 → Type 0 → Type 0
RulesAreTheTable V D = (plan : RunPlan V D) → RuleTable plan
