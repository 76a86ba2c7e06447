-- The machine gives the verdict: at each line its state is what the lines before tell, and its tests are those of the line.
use Rattle.std.proofs.Common.{◌≡◌, ℕ, Bool, true, false, not, ◌&&◌, leb, ltb, ◌==◌, List, [], ◌∷◌, ◌++◌, map, length, Option, Some, None, is_some, unwrap_or, reverse, inl, inr, refl, sym, ap, ap₂, ◌∙◌, subst, if◌then◌else◌}
use Rattle.std.specs.Prelude.{option_and_then, option_map}
use Rattle.std.proofs.lemmas.Bool.{cases_Bool, cond-true, cond-false, and_parts}
use Rattle.std.proofs.lemmas.Bool.Decides.{Decides-eqb}
use Rattle.std.proofs.lemmas.List.{reverse-append}
use Rattle.propagation.specs.Lists.{IsOlderPart, numbered}
use Rattle.propagation.specs.Logs.{Frame, frames_taken}
use Rattle.propagation.specs.Logs.Entry.{Did, Took, Computed, Sent}
use Rattle.propagation.specs.Deciding.{implies, if_any, some_and, has_answered, IsSame}
use Rattle.propagation.proofs.NextTaken.{next-older}
use Rattle.propagation.proofs.ByTest.{by_test}
use Rattle.propagation.proofs.Tests.{Decides-same_frame}
use Rattle.judged_run.specs.Texts.{LegPlan, RunPlan, IsRunPlan, LogLine, Line, Position, leg_plan, count_of, names_below, next_position, position_after, blocks, log_lines, entries, family, frames_given, count_taken, block_end, last_log, all_frames}
use Rattle.judged_run.specs.Texts.LogLine.{entry, took_bytes, sent_bytes}
use Rattle.judged_run.specs.Texts.Line.{passed_line, log_line, settle_line, value_line, other_line}
use Rattle.judged_run.specs.Texts.Position.{in_logs, in_values}
use Rattle.judged_run.specs.LineRules.{Rule, LogLineKeeps, leg_plan_of, leg_plan_shown, LineKeeps}
use Rattle.judged_run.specs.LineRules.Rule.{J1, J2, J3, J4, J5, J6, J7, J8, J9}
use Rattle.judged_run.specs.Verdicts.{log_line_keeps, ended_log_answers, rule_kept, is_end, line_keeps, all_rules, first_not, later, or_later, verdict_from, verdict}
use Rattle.judged_run.specs.LogStates.{after_log_line, none_is_due, is_next_due, log_line_test}
use Rattle.judged_run.specs.Machine.{SentTable, with_log_line, with_line, collect_sent, BlockState, leg_plan_at, states_before, block_before, states_after, block_after, ended_log_test, rule_test, line_test, machine_verdict_from, machine_verdict}
use Rattle.judged_run.proofs.Fitting.{Fits, Named, fits, if-some, some-same}
use Rattle.judged_run.proofs.Kept.{gives-sent, takes-taken}
use Rattle.judged_run.proofs.Tested.{Decides-line}
use Rattle.judged_run.proofs.Sound.{form-next, end-later}
use Rattle.judged_run.proofs.Exact.{first-none, has-rule}
use Rattle.judged_run.proofs.Tracking.{Knows, knows-begun, knows-learn}
use Rattle.judged_run.proofs.Stepping.{said-test, none-due}
use Rattle.judged_run.proofs.Quieted.{quiet-is, length-some}

-- ---- what is sent in a block

module _ {V : Type 0} where
  gave : (q r : ℕ) (x : Option (Frame V)) (table giver : List (Option (Frame V))) → table ≡ reverse giver → (if r == q then table ++ x ∷ [] else table) ≡ reverse (if r == q then x ∷ giver else giver)
  gave q r x table giver e = go (r == q)
    where
      go : (b : Bool) → (if b then table ++ x ∷ [] else table) ≡ reverse (if b then x ∷ giver else giver)
      go true = ap (λ fs. fs ++ x ∷ []) e ∙ sym (reverse-append (x ∷ []) giver)
      go false = e

  noted-said : (n : ℕ) (y : LogLine V) (table : SentTable V) (before : List (LogLine V)) (p q : ℕ) → table p q ≡ reverse (frames_given q before) →
      with_log_line n y table p q ≡ reverse (frames_given q (if n == p then y ∷ before else before))
  noted-said n y table before p q e = go y
    where
      stays : (z : LogLine V) → frames_given q (z ∷ before) ≡ frames_given q before → table p q ≡ reverse (frames_given q (if n == p then z ∷ before else before))
      stays z same = by_test (n == p) (λ xs. table p q ≡ reverse (frames_given q xs)) (λ t. e ∙ ap (λ fs. reverse fs) (sym same)) (λ f. e)

      grows : (r : ℕ) (x : Option (Frame V)) (z : LogLine V) → frames_given q (z ∷ before) ≡ (if r == q then x ∷ frames_given q before else frames_given q before) → (b : Bool) →
          (if b then (if r == q then table p q ++ x ∷ [] else table p q) else table p q) ≡ reverse (frames_given q (if b then z ∷ before else before))
      grows r x z is true = gave q r x (table p q) (frames_given q before) e ∙ ap (λ fs. reverse fs) (sym is)
      grows r x z is false = e

      go : (z : LogLine V) → with_log_line n z table p q ≡ reverse (frames_given q (if n == p then z ∷ before else before))
      go (entry (Did c)) = stays (entry (Did c)) refl
      go (entry (Took s f)) = stays (entry (Took s f)) refl
      go (entry (Computed v S picks)) = stays (entry (Computed v S picks)) refl
      go (entry (Sent r f)) = grows r (Some f) (entry (Sent r f)) refl (n == p)
      go (took_bytes s) = stays (took_bytes s) refl
      go (sent_bytes r) = grows r None (sent_bytes r) refl (n == p)

module _ {V D : Type 0} (plan : RunPlan V D) where
  collected : (rest past : List (Line V)) (k least : ℕ) (table : SentTable V) → position_after plan past ≡ Some (in_logs k least) → ((p q : ℕ) → table p q ≡ reverse (frames_given q (log_lines p past))) →
      (p q : ℕ) → collect_sent plan (in_logs k least) table rest p q ≡ reverse (frames_given q (log_lines p (block_end plan past rest)))
  collected [] past k least table is same p q = same p q
  collected (passed_line ∷ ahead) past k least table is same p q =
      collected ahead (passed_line ∷ past) k least table here same p q ∙ ap (λ b. reverse (frames_given q (log_lines p b))) (sym (end-later plan past passed_line ahead (in_logs k least) here))
    where
      here : position_after plan (passed_line ∷ past) ≡ Some (in_logs k least)
      here = form-next plan past passed_line (in_logs k least) (in_logs k least) is refl
  collected (log_line n y ∷ ahead) past k least table is same p q =
      elim (cases_Bool (leb least n && (ltb n (count_of (leg_plan plan k)) && names_below (count_of (leg_plan plan k)) y))) [
        | inl t ↦
            (let next : next_position plan (in_logs k least) (log_line n y) ≡ Some (in_logs k n) = cond-true _ (Some (in_logs k n)) None t in
            let here : position_after plan (log_line n y ∷ past) ≡ Some (in_logs k n) = form-next plan past (log_line n y) (in_logs k least) (in_logs k n) is next in
            ap (λ (o : Option Position). (unwrap_or (option_map (λ after. collect_sent plan after (with_line (log_line n y) table) ahead) o) table) p q) next
            ∙ collected ahead (log_line n y ∷ past) k n (with_line (log_line n y) table) here (λ a b. noted-said n y table (log_lines a past) a b (same a b)) p q
            ∙ ap (λ b. reverse (frames_given q (log_lines p b))) (sym (end-later plan past (log_line n y) ahead (in_logs k n) here)))
        | inr f ↦
            (let next : next_position plan (in_logs k least) (log_line n y) ≡ None = cond-false _ (Some (in_logs k n)) None f in
            let gone : position_after plan (log_line n y ∷ past) ≡ None = ap (λ o. option_and_then (λ s. next_position plan s (log_line n y)) o) is ∙ next in
            ap (λ (o : Option Position). (unwrap_or (option_map (λ after. collect_sent plan after (with_line (log_line n y) table) ahead) o) table) p q) next
            ∙ same p q ∙ ap (λ b. reverse (frames_given q (log_lines p b))) (sym (cond-false (is_some (position_after plan (log_line n y ∷ past))) (block_end plan (log_line n y ∷ past) ahead) past (ap (λ o. is_some o) gone))))
      ]
  collected (settle_line j ∷ ahead) past k least table is same p q = same p q
  collected (value_line n v ∷ ahead) past k least table is same p q =
      same p q ∙ ap (λ b. reverse (frames_given q (log_lines p b)))
      (sym (cond-false (is_some (position_after plan (value_line n v ∷ past))) (block_end plan (value_line n v ∷ past) ahead) past (ap (λ (o : Option Position). is_some (option_and_then (λ s. next_position plan s (value_line n v)) o)) is)))
  collected (other_line ∷ ahead) past k least table is same p q =
      same p q ∙ ap (λ b. reverse (frames_given q (log_lines p b)))
      (sym (cond-false (is_some (position_after plan (other_line ∷ past))) (block_end plan (other_line ∷ past) ahead) past (ap (λ (o : Option Position). is_some (option_and_then (λ s. next_position plan s other_line) o)) is)))

  -- ---- the state of the judge

  -- what it keeps of the logs of the block that stands open
  record OpenLogs (s : LegPlan V D) (past rest : List (Line V)) (j : BlockState V) : Type 0 where
    knows : (n : ℕ) → Knows s.leg n (family past n) (j.states n)
    frames : (n : ℕ) → all_frames (log_lines n past) ≡ true
    current : j.current ≡ last_log past
    table : (p q : ℕ) → j.table p q ≡ reverse (frames_given q (log_lines p (block_end plan past rest)))
    part : (n p : ℕ) → IsOlderPart (map (λ (f : Frame V). Some f) (frames_taken p (family past n))) (frames_given n (log_lines p (block_end plan past rest)))

  abbrev LogsAt : List (Line V) → List (Line V) → BlockState V → Position → Type 0
  LogsAt past rest j (in_logs k least) = (s : LegPlan V D) → leg_plan plan k ≡ Some s → OpenLogs s past rest j
  LogsAt past rest j (in_values k next) = Unit {0}

  -- before a block nothing is known but what is sent in it
  none-part : (xs : List (Option (Frame V))) → IsOlderPart [] xs
  none-part xs = (xs, go xs)
    where
      go : (ys : List (Option (Frame V))) → ys ++ [] ≡ ys
      go [] = refl
      go (y ∷ ys) = ap (λ zs. y ∷ zs) (go ys)

  opened : (past rest : List (Line V)) (at : Position) → position_after plan past ≡ Some at → ((m : ℕ) → log_lines m past ≡ []) → last_log past ≡ None → LogsAt past rest (block_before plan at rest) at
  opened past rest (in_logs k least) is none last = λ s there. record {
    knows = λ n. subst (λ xs. Knows s.leg n (entries xs) (states_before (leg_plan plan k) n)) (sym (none n)) (subst (λ o. Knows s.leg n [] (states_before o n)) (sym there) (knows-begun s.leg n));
    frames = λ n. ap (λ xs. all_frames xs) (none n);
    current = sym last;
    table = collected rest past k least (λ p q. []) is (λ p q. ap (λ xs. reverse (frames_given q xs)) (sym (none p)));
    part = λ n p. subst (λ xs. IsOlderPart (map (λ (f : Frame V). Some f) (frames_taken p (entries xs))) (frames_given n (log_lines p (block_end plan past rest)))) (sym (none n)) (none-part (frames_given n (log_lines p (block_end plan past rest))));
  }
  opened past rest (in_values k next) is none last = tt

  -- ---- a line

  module _ (same : V → V → Bool) (right : IsSame same) (good : IsRunPlan plan) where
    -- what there is, by two tests that are one there
    if-any-same : {A : Type 0} (f h : A → Bool) (o : Option A) → ((x : A) → o ≡ Some x → f x ≡ h x) → if_any f o ≡ if_any h o
    if-any-same f h None all = refl
    if-any-same f h (Some x) all = all x refl

    if-any-true : {A : Type 0} (o : Option A) → if_any (λ (x : A). true) o ≡ true
    if-any-true None = refl
    if-any-true (Some x) = refl

    ended-is : (s : LegPlan V D) (past rest : List (Line V)) (j : BlockState V) (goes_on : ℕ → Bool) → OpenLogs s past rest j → ended_log_test s.count j goes_on ≡ ended_log_answers same s.count s.leg past goes_on
    ended-is s past rest j goes_on o =
        ap (λ l. if_any (λ m. implies (not (goes_on m)) (none_is_due s.count (j.states m))) l) o.current
        ∙ if-any-same (λ m. implies (not (goes_on m)) (none_is_due s.count (j.states m))) (λ m. implies (not (goes_on m)) (has_answered same s.count s.leg m (family past m))) (last_log past)
        (λ m last. ap (λ b. implies (not (goes_on m)) b) (none-due same right s.count plan.has_type s.leg m (family past m) (j.states m) (o.knows m)))

    said-is : (s : LegPlan V D) (past rest : List (Line V)) (j : BlockState V) → OpenLogs s past rest j → (given table : ℕ → List (Option (Frame V))) → ((p : ℕ) → table p ≡ reverse (given p)) → (n : ℕ) (rule : Rule) (y : LogLine V) →
        log_line_test same s.count plan.has_type s.leg table n rule y (j.states n) ≡ log_line_keeps same s.count plan.has_type s.leg given n rule y (log_lines n past)
    said-is s past rest j o given table turned n rule y =
        said-test same right s.count plan.has_type s.leg n (log_lines n past) (o.frames n) (j.states n) (o.knows n) given table turned rule y

    logged-is : (s : LegPlan V D) (past : List (Line V)) (n : ℕ) (y : LogLine V) (ahead : List (Line V)) (j : BlockState V) → OpenLogs s past (log_line n y ∷ ahead) j → (rule : Rule) →
        rule_test same plan j (log_line n y) rule s ≡ rule_kept same plan past (log_line n y) ahead rule s
    logged-is s past n y ahead j o rule = go rule
      where
        other_rule : (rule : Rule) → log_line_test same s.count plan.has_type s.leg (λ p. j.table p n) n rule y (j.states n) ≡ log_line_keeps same s.count plan.has_type s.leg (λ p. frames_given n (log_lines p (block_end plan past (log_line n y ∷ ahead)))) n rule y (log_lines n past)
        other_rule rule = said-is s past (log_line n y ∷ ahead) j o (λ p. frames_given n (log_lines p (block_end plan past (log_line n y ∷ ahead)))) (λ p. j.table p n) (λ p. o.table p n) n rule y

        go : (rule : Rule) → rule_test same plan j (log_line n y) rule s ≡ rule_kept same plan past (log_line n y) ahead rule s
        go J1 = other_rule J1
        go J2 = other_rule J2
        go J3 = other_rule J3
        go J4 = ap₂ (λ a b. a && b) (said-is s past (log_line n y ∷ ahead) j o (λ p. []) (λ p. []) (λ p. refl) n J4 y) (ended-is s past (log_line n y ∷ ahead) j (λ m. m == n) o)
        go J5 = other_rule J5
        go J6 = other_rule J6
        go J7 = other_rule J7
        go J8 = other_rule J8
        go J9 = other_rule J9

    settled-is : (s : LegPlan V D) (past : List (Line V)) (i : ℕ) (ahead : List (Line V)) (j : BlockState V) → Named s.count past → OpenLogs s past (settle_line i ∷ ahead) j → (rule : Rule) →
        rule_test same plan j (settle_line i) rule s ≡ rule_kept same plan past (settle_line i) ahead rule s
    settled-is s past i ahead j named o J1 = refl
    settled-is s past i ahead j named o J2 = refl
    settled-is s past i ahead j named o J3 = refl
    settled-is s past i ahead j named o J4 = ended-is s past (settle_line i ∷ ahead) j (λ m. false) o
    settled-is s past i ahead j named o J5 = refl
    settled-is s past i ahead j named o J6 = refl
    settled-is s past i ahead j named o J7 = refl
    settled-is s past i ahead j named o J8 =
        quiet-is same right s.count s.leg (family past) j.states o.knows j.table
        (λ p n. o.table p n ∙ ap (λ fs. reverse fs) (gives-sent n (log_lines p past) (o.frames p)))
        (λ n p. subst (λ fs. IsOlderPart (map (λ (f : Frame V). Some f) (frames_taken p (family past n))) fs) (gives-sent n (log_lines p past) (o.frames p)) (o.part n p))
        (λ n. (named n).0)
    settled-is s past i ahead j named o J9 = refl

    shown-is : (s : LegPlan V D) (past : List (Line V)) (n : ℕ) (v : V) (ahead : List (Line V)) (j : BlockState V) (rule : Rule) → rule_test same plan j (value_line n v) rule s ≡ rule_kept same plan past (value_line n v) ahead rule s
    shown-is s past n v ahead j J1 = refl
    shown-is s past n v ahead j J2 = refl
    shown-is s past n v ahead j J3 = refl
    shown-is s past n v ahead j J4 = refl
    shown-is s past n v ahead j J5 = refl
    shown-is s past n v ahead j J6 = refl
    shown-is s past n v ahead j J7 = refl
    shown-is s past n v ahead j J8 = refl
    shown-is s past n v ahead j J9 = refl

    -- the tests of a line with which the form goes on; only J1 is not among them
    rules-are : (past : List (Line V)) (x : Line V) (ahead : List (Line V)) (j : BlockState V) (st after : Position) → j.at ≡ st → position_after plan past ≡ Some st → next_position plan st x ≡ Some after → LogsAt past (x ∷ ahead) j st →
        (rule : Rule) → if_any (rule_test same plan j x rule) (leg_plan_at plan j.at) ≡ if_any (rule_kept same plan past x ahead rule) (leg_plan_of plan past x)
    rules-are past passed_line ahead j st after e is next logs rule = if-any-true (leg_plan_at plan j.at) ∙ sym (if-any-true (leg_plan plan (blocks past)))
    rules-are past (log_line n y) ahead j (in_logs k least) after e is next logs rule =
        let fit : Fits plan past (in_logs k least) = fits plan past (in_logs k least) is in
        ap (λ f. if_any (rule_test same plan j (log_line n y) rule) (leg_plan_at plan f)) e
        ∙ if-any-same (rule_test same plan j (log_line n y) rule) (rule_kept same plan past (log_line n y) ahead rule) (leg_plan plan k) (λ s there. logged-is s past n y ahead j (logs s there) rule)
        ∙ ap (λ i. if_any (rule_kept same plan past (log_line n y) ahead rule) (leg_plan plan i)) (sym fit.0)
    rules-are past (log_line n y) ahead j (in_values k next_n) after e is next logs rule = absurd (cc next)
    rules-are past (settle_line i) ahead j (in_logs k least) after e is next logs rule =
        let fit : Fits plan past (in_logs k least) = fits plan past (in_logs k least) is in
        ap (λ f. if_any (rule_test same plan j (settle_line i) rule) (leg_plan_at plan f)) e
        ∙ if-any-same (rule_test same plan j (settle_line i) rule) (rule_kept same plan past (settle_line i) ahead rule) (leg_plan plan k) (λ s there. settled-is s past i ahead j (fit.1 s there) (logs s there) rule)
        ∙ ap (λ l. if_any (rule_kept same plan past (settle_line i) ahead rule) (leg_plan plan l)) (sym fit.0)
    rules-are past (settle_line i) ahead j (in_values k next_n) after e is next logs rule = absurd (cc next)
    rules-are past (value_line n v) ahead j (in_logs k least) after e is next logs rule = absurd (cc next)
    rules-are past (value_line n v) ahead j (in_values k next_n) after e is next logs rule =
        let fit : Fits plan past (in_values k next_n) = fits plan past (in_values k next_n) is in
        ap (λ f. if_any (rule_test same plan j (value_line n v) rule) (leg_plan_at plan f)) e
        ∙ if-any-same (rule_test same plan j (value_line n v) rule) (rule_kept same plan past (value_line n v) ahead rule) (leg_plan plan k) (λ s there. shown-is s past n v ahead j rule)
        ∙ ap (λ l. if_any (rule_kept same plan past (value_line n v) ahead rule) (leg_plan_shown plan l)) (sym fit.0)
    rules-are past other_line ahead j (in_logs k least) after e is next logs rule = absurd (cc next)
    rules-are past other_line ahead j (in_values k next_n) after e is next logs rule = absurd (cc next)

    -- ---- the next state

    -- a sent frame that is the next one due
    due-next : (f : Frame V) (due : List (Frame V)) → is_next_due same f due ≡ true → (rest : List (Frame V)) × (due ≡ f ∷ rest)
    due-next f [] t = absurd (cc t)
    due-next f (h ∷ hs) t = let e : f ≡ h = (Decides-same_frame same right f h).0 t in (hs, ap (λ (i : Frame V). i ∷ hs) (sym e))

    module _ (s : LegPlan V D) (past : List (Line V)) (n : ℕ) (y : LogLine V) (ahead end : List (Line V)) (j : BlockState V) (o : OpenLogs s past (log_line n y ∷ ahead) j) (ends : block_end plan past (log_line n y ∷ ahead) ≡ end)
        (given_kept : LogLineKeeps plan.has_type s.leg (λ p. frames_given n (log_lines p (block_end plan past (log_line n y ∷ ahead)))) n J3 y (log_lines n past))
        (due_kept : log_line_test same s.count plan.has_type s.leg (λ p. []) n J4 y (j.states n) ≡ true) where
      is-frame : (z : LogLine V) → LogLineKeeps plan.has_type s.leg (λ p. frames_given n (log_lines p (block_end plan past (log_line n y ∷ ahead)))) n J3 z (log_lines n past) → log_line_test same s.count plan.has_type s.leg (λ p. []) n J4 z (j.states n) ≡ true →
          all_frames (z ∷ log_lines n past) ≡ true
      is-frame (entry x) a b = o.frames n
      is-frame (took_bytes p) a b = absurd a
      is-frame (sent_bytes q) a b = absurd (cc b)

      next-knows : (z : LogLine V) → log_line_test same s.count plan.has_type s.leg (λ p. []) n J4 z (j.states n) ≡ true → Knows s.leg n (entries (z ∷ log_lines n past)) (after_log_line s.leg n z (j.states n))
      next-knows (entry (Did c)) b = knows-learn s.leg n (Did c) (family past n) (j.states n) (o.knows n) tt
      next-knows (entry (Took p f)) b = knows-learn s.leg n (Took p f) (family past n) (j.states n) (o.knows n) tt
      next-knows (entry (Computed v S picks)) b = knows-learn s.leg n (Computed v S picks) (family past n) (j.states n) (o.knows n) tt
      next-knows (entry (Sent q f)) b = knows-learn s.leg n (Sent q f) (family past n) (j.states n) (o.knows n) (due-next f ((j.states n).due q) b)
      next-knows (took_bytes p) b = o.knows n
      next-knows (sent_bytes q) b = o.knows n

      -- what was taken is still the beginning of what is sent
      next-part : (z : LogLine V) → LogLineKeeps plan.has_type s.leg (λ p. frames_given n (log_lines p (block_end plan past (log_line n y ∷ ahead)))) n J3 z (log_lines n past) → (p : ℕ) →
          IsOlderPart (map (λ (f : Frame V). Some f) (frames_taken p (entries (z ∷ log_lines n past)))) (frames_given n (log_lines p (block_end plan past (log_line n y ∷ ahead))))
      next-part (entry (Did c)) h p = o.part n p
      next-part (entry (Took q f)) h p =
          by_test (q == p) (λ (fs : List (Frame V)). IsOlderPart (map (λ (f : Frame V). Some f) fs) (frames_given n (log_lines p (block_end plan past (log_line n y ∷ ahead)))))
          (λ t. let e : q ≡ p = (Decides-eqb q p).0 t in
          next-older (Some f) (map (λ (f : Frame V). Some f) (frames_taken p (family past n))) (frames_given n (log_lines p (block_end plan past (log_line n y ∷ ahead)))) (o.part n p)
          (ap (λ i. numbered (frames_given n (log_lines p (block_end plan past (log_line n y ∷ ahead)))) i) (length-some (frames_taken p (family past n)) ∙ sym (takes-taken p (log_lines n past) (o.frames n)))
          ∙ subst (λ i. numbered (frames_given n (log_lines i (block_end plan past (log_line n y ∷ ahead)))) (count_taken i (log_lines n past)) ≡ Some (Some f)) e h.0))
          (λ not_it. o.part n p)
      next-part (entry (Computed v S picks)) h p = o.part n p
      next-part (entry (Sent q f)) h p = o.part n p
      next-part (took_bytes q) h p = o.part n p
      next-part (sent_bytes q) h p = o.part n p

      logged-next : (after : Position) → leg_plan_at plan j.at ≡ Some s → block_end plan (log_line n y ∷ past) ahead ≡ end → OpenLogs s (log_line n y ∷ past) ahead (block_after plan j (log_line n y) after ahead)
      logged-next after e ends_later = record {
        knows = λ m. subst (λ (l : Option (LegPlan V D)). Knows s.leg m (entries (if n == m then y ∷ log_lines m past else log_lines m past)) (states_after l n y j.states m)) (sym e) (known m);
        frames = λ m. by_test (n == m) (λ xs. all_frames xs ≡ true) (λ t. subst (λ i. all_frames (y ∷ log_lines i past) ≡ true) ((Decides-eqb n m).0 t) (is-frame y given_kept due_kept)) (λ f. o.frames m);
        current = refl;
        table = λ p q. o.table p q ∙ ap (λ b. reverse (frames_given q (log_lines p b))) (ends ∙ sym ends_later);
        part = λ m p. by_test (n == m) (λ xs. IsOlderPart (map (λ (f : Frame V). Some f) (frames_taken p (entries xs))) (frames_given m (log_lines p (block_end plan (log_line n y ∷ past) ahead))))
            (λ t. subst (λ i. IsOlderPart (map (λ (f : Frame V). Some f) (frames_taken p (entries (y ∷ log_lines i past)))) (frames_given i (log_lines p (block_end plan (log_line n y ∷ past) ahead)))) ((Decides-eqb n m).0 t)
            (subst (λ b. IsOlderPart (map (λ (f : Frame V). Some f) (frames_taken p (entries (y ∷ log_lines n past)))) (frames_given n (log_lines p b))) (ends ∙ sym ends_later) (next-part y given_kept p)))
            (λ f. subst (λ b. IsOlderPart (map (λ (f : Frame V). Some f) (frames_taken p (family past m))) (frames_given m (log_lines p b))) (ends ∙ sym ends_later) (o.part m p));
      }
        where
          known : (m : ℕ) → Knows s.leg m (entries (if n == m then y ∷ log_lines m past else log_lines m past)) (if n == m then after_log_line s.leg m y (j.states m) else j.states m)
          known m =
              elim (cases_Bool (n == m)) [
                | inl t ↦
                    subst (λ xs. Knows s.leg m (entries xs) (if n == m then after_log_line s.leg m y (j.states m) else j.states m)) (sym (cond-true (n == m) (y ∷ log_lines m past) (log_lines m past) t))
                    (subst (λ st. Knows s.leg m (entries (y ∷ log_lines m past)) st) (sym (cond-true (n == m) (after_log_line s.leg m y (j.states m)) (j.states m) t))
                    (subst (λ i. Knows s.leg i (entries (y ∷ log_lines i past)) (after_log_line s.leg i y (j.states i))) ((Decides-eqb n m).0 t) (next-knows y due_kept)))
                | inr f ↦
                    subst (λ xs. Knows s.leg m (entries xs) (if n == m then after_log_line s.leg m y (j.states m) else j.states m)) (sym (cond-false (n == m) (y ∷ log_lines m past) (log_lines m past) f))
                    (subst (λ st. Knows s.leg m (family past m) st) (sym (cond-false (n == m) (after_log_line s.leg m y (j.states m)) (j.states m) f)) (o.knows m))
              ]

    any-there : {A : Type 0} (f : A → Bool) (o : Option A) (x : A) → o ≡ Some x → if_any f o ≡ true → f x ≡ true
    any-there f o x is t = ap (λ p. if_any f p) (sym is) ∙ t

    advanced : (past : List (Line V)) (x : Line V) (ahead : List (Line V)) (j : BlockState V) (st after : Position) → j.at ≡ st → position_after plan past ≡ Some st → next_position plan st x ≡ Some after → position_after plan (x ∷ past) ≡ Some after → LogsAt past (x ∷ ahead) j st →
        ((rule : Rule) → LineKeeps plan past (x ∷ ahead) rule) → ((rule : Rule) → line_test same plan j (x ∷ ahead) rule ≡ true) → LogsAt (x ∷ past) ahead (block_after plan j x after ahead) after
    advanced past passed_line ahead j st after e is next at logs kept tests =
        let go_on : st ≡ after = some-same st after next in
        subst (λ f. LogsAt (passed_line ∷ past) ahead (block_after plan j passed_line after ahead) f) go_on (go st (at ∙ ap (λ f. Some f) (sym go_on)) logs)
      where
        go : (st : Position) → position_after plan (passed_line ∷ past) ≡ Some st → LogsAt past (passed_line ∷ ahead) j st → LogsAt (passed_line ∷ past) ahead (block_after plan j passed_line after ahead) st
        go (in_logs k least) here logs = λ s there. let o = logs s there in
            let ends = end-later plan past passed_line ahead (in_logs k least) here in
            record {
              knows = o.knows;
              frames = o.frames;
              current = o.current;
              table = λ p q. o.table p q ∙ ap (λ b. reverse (frames_given q (log_lines p b))) ends;
              part = λ n p. subst (λ b. IsOlderPart (map (λ (f : Frame V). Some f) (frames_taken p (family past n))) (frames_given n (log_lines p b))) ends (o.part n p);
            }
        go (in_values k next_n) here logs = tt
    advanced past (log_line n y) ahead j (in_logs k least) after e is next at logs kept tests =
        let fit : Fits plan past (in_logs k least) = fits plan past (in_logs k least) is in
        let same_form : in_logs k n ≡ after = (if-some _ (in_logs k n) after next).1 in
        subst (λ f. LogsAt (log_line n y ∷ past) ahead (block_after plan j (log_line n y) after ahead) f) same_form
        (λ s there.
        let leg : leg_plan_at plan j.at ≡ Some s = ap (λ f. leg_plan_at plan f) e ∙ there in
        logged-next s past n y ahead (block_end plan (log_line n y ∷ past) ahead) j (logs s there) (end-later plan past (log_line n y) ahead after at)
        (kept J3 s (ap (λ i. leg_plan plan i) fit.0 ∙ there)) (and_parts _ _ (any-there (rule_test same plan j (log_line n y) J4) (leg_plan_at plan j.at) s leg (tests J4))).0 after leg refl)
    advanced past (log_line n y) ahead j (in_values k next_n) after e is next at logs kept tests = absurd (cc next)
    advanced past (settle_line i) ahead j st after e is next at logs kept tests = opened (settle_line i ∷ past) ahead after at (λ m. refl) refl
    advanced past (value_line n v) ahead j st after e is next at logs kept tests = opened (value_line n v ∷ past) ahead after at (λ m. refl) refl
    advanced past other_line ahead j (in_logs k least) after e is next at logs kept tests = absurd (cc next)
    advanced past other_line ahead j (in_values k next_n) after e is next at logs kept tests = absurd (cc next)

    -- ---- the verdict

    first-same : (f h : Rule → Bool) → ((rule : Rule) → f rule ≡ h rule) → (rules : List Rule) → first_not f rules ≡ first_not h rules
    first-same f h all [] = refl
    first-same f h all (rule ∷ rules) = ap₂ (λ b o. if b then o else Some rule) (all rule) (first-same f h all rules)

    -- where J1 is broken, nothing else is asked
    first-form : (f h : Rule → Bool) → f J1 ≡ false → h J1 ≡ false → first_not f all_rules ≡ first_not h all_rules
    first-form f h a b = cond-false (f J1) _ (Some J1) a ∙ sym (cond-false (h J1) _ (Some J1) b)

    end-is : (past : List (Line V)) (j : BlockState V) → position_after plan past ≡ Some j.at → (rule : Rule) → line_test same plan j [] rule ≡ line_keeps same plan past [] rule
    end-is past j at J1 = ap (λ (o : Option Position). some_and (is_end (length plan.legs)) o) (sym at)
    end-is past j at J2 = refl
    end-is past j at J3 = refl
    end-is past j at J4 = refl
    end-is past j at J5 = refl
    end-is past j at J6 = refl
    end-is past j at J7 = refl
    end-is past j at J8 = refl
    end-is past j at J9 = refl

    form-is : (past : List (Line V)) (x : Line V) (j : BlockState V) → position_after plan past ≡ Some j.at → next_position plan j.at x ≡ position_after plan (x ∷ past)
    form-is past x j at = ap (λ (o : Option Position). option_and_then (λ s. next_position plan s x) o) (sym at)

    line-is : (past : List (Line V)) (x : Line V) (ahead : List (Line V)) (j : BlockState V) (after : Position) → position_after plan past ≡ Some j.at → next_position plan j.at x ≡ Some after → LogsAt past (x ∷ ahead) j j.at → (rule : Rule) →
        line_test same plan j (x ∷ ahead) rule ≡ line_keeps same plan past (x ∷ ahead) rule
    line-is past x ahead j after at next logs J1 = ap (λ (o : Option Position). is_some o) (form-is past x j at)
    line-is past x ahead j after at next logs J2 = rules-are past x ahead j j.at after refl at next logs J2
    line-is past x ahead j after at next logs J3 = rules-are past x ahead j j.at after refl at next logs J3
    line-is past x ahead j after at next logs J4 = rules-are past x ahead j j.at after refl at next logs J4
    line-is past x ahead j after at next logs J5 = rules-are past x ahead j j.at after refl at next logs J5
    line-is past x ahead j after at next logs J6 = rules-are past x ahead j j.at after refl at next logs J6
    line-is past x ahead j after at next logs J7 = rules-are past x ahead j j.at after refl at next logs J7
    line-is past x ahead j after at next logs J8 = rules-are past x ahead j j.at after refl at next logs J8
    line-is past x ahead j after at next logs J9 = rules-are past x ahead j j.at after refl at next logs J9

    opened-form : (after : Position) (ahead : List (Line V)) → after ≡ (block_before plan after ahead).at
    opened-form (in_logs k least) ahead = refl
    opened-form (in_values k next) ahead = refl

    advance-at : (j : BlockState V) (x : Line V) (after : Position) (ahead : List (Line V)) → after ≡ (block_after plan j x after ahead).at
    advance-at j passed_line after ahead = refl
    advance-at j (log_line n y) after ahead = refl
    advance-at j (settle_line i) after ahead = opened-form after ahead
    advance-at j (value_line n v) after ahead = opened-form after ahead
    advance-at j other_line after ahead = refl

    judged-from : (rest past : List (Line V)) (j : BlockState V) → position_after plan past ≡ Some j.at → LogsAt past rest j j.at → machine_verdict_from same plan j rest ≡ verdict_from same plan past rest
    judged-from [] past j at logs = ap (λ o. or_later o None) (first-same (line_test same plan j []) (line_keeps same plan past []) (end-is past j at) all_rules)
    judged-from (x ∷ ahead) past j at logs =
        go (next_position plan j.at x) refl (λ after is a l. judged-from ahead (x ∷ past) (block_after plan j x after ahead) a l)
      where
        -- behind a line that keeps all rules
        after-kept : (after : Position) → next_position plan j.at x ≡ Some after → (o : Option Rule) → first_not (line_keeps same plan past (x ∷ ahead)) all_rules ≡ o →
            ((a : position_after plan (x ∷ past) ≡ Some after) → LogsAt (x ∷ past) ahead (block_after plan j x after ahead) after → machine_verdict_from same plan (block_after plan j x after ahead) ahead ≡ verdict_from same plan (x ∷ past) ahead) →
            or_later o (machine_verdict_from same plan (block_after plan j x after ahead) ahead) ≡ or_later o (verdict_from same plan (x ∷ past) ahead)
        after-kept after next (Some rule) is rest = refl
        after-kept after next None is rest =
            let here : position_after plan (x ∷ past) ≡ Some after = sym (form-is past x j at) ∙ next in
            let tests : (rule : Rule) → line_keeps same plan past (x ∷ ahead) rule ≡ true = λ rule. first-none (line_keeps same plan past (x ∷ ahead)) all_rules is rule (has-rule rule) in
            let kept : (rule : Rule) → LineKeeps plan past (x ∷ ahead) rule = λ rule. (Decides-line same right plan good past x ahead (after, here) rule).0 (tests rule) in
            let next_logs = advanced past x ahead j j.at after refl at next here logs kept (λ rule. line-is past x ahead j after at next logs rule ∙ tests rule) in
            ap (λ o. later o) (rest here next_logs)

        go : (o : Option Position) → next_position plan j.at x ≡ o →
            ((after : Position) → next_position plan j.at x ≡ Some after → position_after plan (x ∷ past) ≡ Some (block_after plan j x after ahead).at → LogsAt (x ∷ past) ahead (block_after plan j x after ahead) (block_after plan j x after ahead).at →
            machine_verdict_from same plan (block_after plan j x after ahead) ahead ≡ verdict_from same plan (x ∷ past) ahead) →
            machine_verdict_from same plan j (x ∷ ahead) ≡ verdict_from same plan past (x ∷ ahead)
        go None next rest =
            ap (λ (o : Option Rule). or_later o (option_and_then (λ after. machine_verdict_from same plan (block_after plan j x after ahead) ahead) (next_position plan j.at x)))
            (cond-false (is_some (next_position plan j.at x)) (first_not (line_test same plan j (x ∷ ahead)) (J2 ∷ J3 ∷ J4 ∷ J5 ∷ J6 ∷ J7 ∷ J8 ∷ J9 ∷ [])) (Some J1) (ap (λ (o : Option Position). is_some o) next))
            ∙ sym (ap (λ (o : Option Rule). or_later o (verdict_from same plan (x ∷ past) ahead))
            (cond-false (is_some (position_after plan (x ∷ past))) (first_not (line_keeps same plan past (x ∷ ahead)) (J2 ∷ J3 ∷ J4 ∷ J5 ∷ J6 ∷ J7 ∷ J8 ∷ J9 ∷ [])) (Some J1) (ap (λ (o : Option Position). is_some o) (sym (form-is past x j at) ∙ next))))
        go (Some after) next rest =
            ap₂ (λ (o : Option Rule) (f : Option Position). or_later o (option_and_then (λ after. machine_verdict_from same plan (block_after plan j x after ahead) ahead) f))
            (first-same (line_test same plan j (x ∷ ahead)) (line_keeps same plan past (x ∷ ahead)) (line-is past x ahead j after at next logs) all_rules) next
            ∙ after-kept after next (first_not (line_keeps same plan past (x ∷ ahead)) all_rules) refl
            (λ here l. rest after next (here ∙ ap (λ f. Some f) (advance-at j x after ahead)) (subst (λ f. LogsAt (x ∷ past) ahead (block_after plan j x after ahead) f) (advance-at j x after ahead) l))

pub machine-exact : {V D : Type 0} (same : V → V → Bool) (plan : RunPlan V D) (lines : List (Line V)) → IsSame same → IsRunPlan plan → machine_verdict same plan lines ≡ verdict same plan lines
machine-exact same plan lines right good =
    judged-from plan same right good lines [] (block_before plan (in_logs 0 0) lines) refl (opened plan [] lines (in_logs 0 0) refl (λ m. refl) refl)
