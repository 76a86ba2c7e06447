-- A line of a leg keeps a rule where what the rule asks in this leg holds.
use Rattle.std.proofs.Common.{◌≡◌, false, List, ◌∷◌, Some, refl, sym, ◌∙◌, subst}
use Rattle.propagation.specs.Logs.Entry.{Did, Took, Computed, Sent}
use Rattle.judged_run.specs.Texts.{LegPlan, RunPlan, Line, leg_plan, blocks}
use Rattle.judged_run.specs.Texts.LogLine.{entry, took_bytes, sent_bytes}
use Rattle.judged_run.specs.Texts.Line.{passed_line, log_line, settle_line, value_line, other_line}
use Rattle.judged_run.specs.LineRules.{Rule, RuleKept, LineKeeps, leg_plan_of}
use Rattle.judged_run.specs.LineRules.Rule.{J1, J2, J3, J4, J5, J6, J7, J8, J9}
use Rattle.judged_run.specs.Table.{Same, is_about, LogTable, LegTable, RulesAreTheTable}
use Rattle.judged_run.proofs.Fitting.{some-same}

module _ {V D : Type 0} (plan : RunPlan V D) where
  -- in the one leg that the line has
  in-leg : (P : LegPlan V D → Type 0) (s : LegPlan V D) (past : List (Line V)) (x : Line V) → leg_plan_of plan past x ≡ Some s → Same ((t : LegPlan V D) → leg_plan_of plan past x ≡ Some t → P t) (P s)
  in-leg P s past x is = (λ all. all s is, λ h t at. subst P (some-same s t (sym is ∙ at)) h)

  log-table : (s : LegPlan V D) (past ahead : List (Line V)) → leg_plan plan (blocks past) ≡ Some s → LogTable plan s past ahead
  log-table s past ahead is = record {
    j2 = λ n c. in-leg (RuleKept plan past (log_line n (entry (Did c))) ahead J2) s past (log_line n (entry (Did c))) is;
    j3 = λ n p f. in-leg (RuleKept plan past (log_line n (entry (Took p f))) ahead J3) s past (log_line n (entry (Took p f))) is;
    j3_bytes = λ n p keeps. keeps s is;
    j4_sent = λ n q f. in-leg (RuleKept plan past (log_line n (entry (Sent q f))) ahead J4) s past (log_line n (entry (Sent q f))) is;
    j4_bytes = λ n q keeps. (keeps s is).0;
    j4_did = λ n c. in-leg (RuleKept plan past (log_line n (entry (Did c))) ahead J4) s past (log_line n (entry (Did c))) is;
    j4_took = λ n p f. in-leg (RuleKept plan past (log_line n (entry (Took p f))) ahead J4) s past (log_line n (entry (Took p f))) is;
    j4_took_bytes = λ n p. in-leg (RuleKept plan past (log_line n (took_bytes p)) ahead J4) s past (log_line n (took_bytes p)) is;
    j4_computed = λ n v S picks. in-leg (RuleKept plan past (log_line n (entry (Computed v S picks))) ahead J4) s past (log_line n (entry (Computed v S picks))) is;
    j5 = λ n v S picks. in-leg (RuleKept plan past (log_line n (entry (Computed v S picks))) ahead J5) s past (log_line n (entry (Computed v S picks))) is;
    j6 = λ n v S picks. in-leg (RuleKept plan past (log_line n (entry (Computed v S picks))) ahead J6) s past (log_line n (entry (Computed v S picks))) is;
    j7 = λ n v S picks. in-leg (RuleKept plan past (log_line n (entry (Computed v S picks))) ahead J7) s past (log_line n (entry (Computed v S picks))) is;
  }

  leg-table : (s : LegPlan V D) (past ahead : List (Line V)) → leg_plan plan (blocks past) ≡ Some s → LegTable plan s past ahead
  leg-table s past ahead is = record {
    j4_settle = λ k.
        let both = in-leg (RuleKept plan past (settle_line k) ahead J4) s past (settle_line k) is in
        (λ keeps m last. both.0 keeps m last refl, λ answers. both.1 (λ m last ends. answers m last));
    j8 = λ k. in-leg (RuleKept plan past (settle_line k) ahead J8) s past (settle_line k) is;
  }

  asks-nothing : (past : List (Line V)) (x : Line V) (ahead : List (Line V)) (rule : Rule) → is_about rule x ≡ false → LineKeeps plan past (x ∷ ahead) rule
  asks-nothing past passed_line ahead J1 e = absurd (cc e)
  asks-nothing past other_line ahead J1 e = absurd (cc e)
  asks-nothing past (settle_line k) ahead J1 e = absurd (cc e)
  asks-nothing past (value_line n v) ahead J1 e = absurd (cc e)
  asks-nothing past (log_line n (entry (Did c))) ahead J1 e = absurd (cc e)
  asks-nothing past (log_line n (entry (Took p f))) ahead J1 e = absurd (cc e)
  asks-nothing past (log_line n (entry (Computed v S picks))) ahead J1 e = absurd (cc e)
  asks-nothing past (log_line n (entry (Sent q f))) ahead J1 e = absurd (cc e)
  asks-nothing past (log_line n (took_bytes p)) ahead J1 e = absurd (cc e)
  asks-nothing past (log_line n (sent_bytes q)) ahead J1 e = absurd (cc e)
  asks-nothing past passed_line ahead J2 e = λ s is. tt
  asks-nothing past other_line ahead J2 e = λ s is. tt
  asks-nothing past (settle_line k) ahead J2 e = λ s is. tt
  asks-nothing past (value_line n v) ahead J2 e = λ s is. tt
  asks-nothing past (log_line n (entry (Did c))) ahead J2 e = absurd (cc e)
  asks-nothing past (log_line n (entry (Took p f))) ahead J2 e = λ s is. tt
  asks-nothing past (log_line n (entry (Computed v S picks))) ahead J2 e = λ s is. tt
  asks-nothing past (log_line n (entry (Sent q f))) ahead J2 e = λ s is. tt
  asks-nothing past (log_line n (took_bytes p)) ahead J2 e = λ s is. tt
  asks-nothing past (log_line n (sent_bytes q)) ahead J2 e = λ s is. tt
  asks-nothing past passed_line ahead J3 e = λ s is. tt
  asks-nothing past other_line ahead J3 e = λ s is. tt
  asks-nothing past (settle_line k) ahead J3 e = λ s is. tt
  asks-nothing past (value_line n v) ahead J3 e = λ s is. tt
  asks-nothing past (log_line n (entry (Did c))) ahead J3 e = λ s is. tt
  asks-nothing past (log_line n (entry (Took p f))) ahead J3 e = absurd (cc e)
  asks-nothing past (log_line n (entry (Computed v S picks))) ahead J3 e = λ s is. tt
  asks-nothing past (log_line n (entry (Sent q f))) ahead J3 e = λ s is. tt
  asks-nothing past (log_line n (took_bytes p)) ahead J3 e = absurd (cc e)
  asks-nothing past (log_line n (sent_bytes q)) ahead J3 e = λ s is. tt
  asks-nothing past passed_line ahead J4 e = λ s is. tt
  asks-nothing past other_line ahead J4 e = λ s is. tt
  asks-nothing past (settle_line k) ahead J4 e = absurd (cc e)
  asks-nothing past (value_line n v) ahead J4 e = λ s is. tt
  asks-nothing past (log_line n (entry (Did c))) ahead J4 e = absurd (cc e)
  asks-nothing past (log_line n (entry (Took p f))) ahead J4 e = absurd (cc e)
  asks-nothing past (log_line n (entry (Computed v S picks))) ahead J4 e = absurd (cc e)
  asks-nothing past (log_line n (entry (Sent q f))) ahead J4 e = absurd (cc e)
  asks-nothing past (log_line n (took_bytes p)) ahead J4 e = absurd (cc e)
  asks-nothing past (log_line n (sent_bytes q)) ahead J4 e = absurd (cc e)
  asks-nothing past passed_line ahead J5 e = λ s is. tt
  asks-nothing past other_line ahead J5 e = λ s is. tt
  asks-nothing past (settle_line k) ahead J5 e = λ s is. tt
  asks-nothing past (value_line n v) ahead J5 e = λ s is. tt
  asks-nothing past (log_line n (entry (Did c))) ahead J5 e = λ s is. tt
  asks-nothing past (log_line n (entry (Took p f))) ahead J5 e = λ s is. tt
  asks-nothing past (log_line n (entry (Computed v S picks))) ahead J5 e = absurd (cc e)
  asks-nothing past (log_line n (entry (Sent q f))) ahead J5 e = λ s is. tt
  asks-nothing past (log_line n (took_bytes p)) ahead J5 e = λ s is. tt
  asks-nothing past (log_line n (sent_bytes q)) ahead J5 e = λ s is. tt
  asks-nothing past passed_line ahead J6 e = λ s is. tt
  asks-nothing past other_line ahead J6 e = λ s is. tt
  asks-nothing past (settle_line k) ahead J6 e = λ s is. tt
  asks-nothing past (value_line n v) ahead J6 e = λ s is. tt
  asks-nothing past (log_line n (entry (Did c))) ahead J6 e = λ s is. tt
  asks-nothing past (log_line n (entry (Took p f))) ahead J6 e = λ s is. tt
  asks-nothing past (log_line n (entry (Computed v S picks))) ahead J6 e = absurd (cc e)
  asks-nothing past (log_line n (entry (Sent q f))) ahead J6 e = λ s is. tt
  asks-nothing past (log_line n (took_bytes p)) ahead J6 e = λ s is. tt
  asks-nothing past (log_line n (sent_bytes q)) ahead J6 e = λ s is. tt
  asks-nothing past passed_line ahead J7 e = λ s is. tt
  asks-nothing past other_line ahead J7 e = λ s is. tt
  asks-nothing past (settle_line k) ahead J7 e = λ s is. tt
  asks-nothing past (value_line n v) ahead J7 e = λ s is. tt
  asks-nothing past (log_line n (entry (Did c))) ahead J7 e = λ s is. (tt, tt)
  asks-nothing past (log_line n (entry (Took p f))) ahead J7 e = λ s is. (tt, tt)
  asks-nothing past (log_line n (entry (Computed v S picks))) ahead J7 e = absurd (cc e)
  asks-nothing past (log_line n (entry (Sent q f))) ahead J7 e = λ s is. (tt, tt)
  asks-nothing past (log_line n (took_bytes p)) ahead J7 e = λ s is. tt
  asks-nothing past (log_line n (sent_bytes q)) ahead J7 e = λ s is. tt
  asks-nothing past passed_line ahead J8 e = λ s is. tt
  asks-nothing past other_line ahead J8 e = λ s is. tt
  asks-nothing past (settle_line k) ahead J8 e = absurd (cc e)
  asks-nothing past (value_line n v) ahead J8 e = λ s is. tt
  asks-nothing past (log_line n (entry (Did c))) ahead J8 e = λ s is. tt
  asks-nothing past (log_line n (entry (Took p f))) ahead J8 e = λ s is. tt
  asks-nothing past (log_line n (entry (Computed v S picks))) ahead J8 e = λ s is. tt
  asks-nothing past (log_line n (entry (Sent q f))) ahead J8 e = λ s is. tt
  asks-nothing past (log_line n (took_bytes p)) ahead J8 e = λ s is. tt
  asks-nothing past (log_line n (sent_bytes q)) ahead J8 e = λ s is. tt
  asks-nothing past passed_line ahead J9 e = λ s is. tt
  asks-nothing past other_line ahead J9 e = λ s is. tt
  asks-nothing past (settle_line k) ahead J9 e = λ s is. tt
  asks-nothing past (value_line n v) ahead J9 e = absurd (cc e)
  asks-nothing past (log_line n (entry (Did c))) ahead J9 e = λ s is. tt
  asks-nothing past (log_line n (entry (Took p f))) ahead J9 e = λ s is. tt
  asks-nothing past (log_line n (entry (Computed v S picks))) ahead J9 e = λ s is. tt
  asks-nothing past (log_line n (entry (Sent q f))) ahead J9 e = λ s is. tt
  asks-nothing past (log_line n (took_bytes p)) ahead J9 e = λ s is. tt
  asks-nothing past (log_line n (sent_bytes q)) ahead J9 e = λ s is. tt

pub rules_are_the_table : (V D : Type 0) → RulesAreTheTable V D
rules_are_the_table V D plan = record {
  j1 = λ past x ahead. (λ h. h, λ h. h);
  j1_end = λ past. (λ h. h, λ h. h);
  log = λ s past ahead is. log-table plan s past ahead is;
  leg = λ s past ahead is. leg-table plan s past ahead is;
  j9 = λ s past ahead n v is. in-leg plan (RuleKept plan past (value_line n v) ahead J9) s past (value_line n v) is;
  others = λ past x ahead rule e. asks-nothing plan past x ahead rule e;
}
