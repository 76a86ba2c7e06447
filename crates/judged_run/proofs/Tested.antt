-- The rules of a line as tests: each is true exactly where the line keeps the rule, as long as the lines up to it begin a run.
use Rattle.std.proofs.Common.{◌≡◌, ℕ, ◌<◌, ◌≤◌, Bool, true, false, not, ◌==◌, List, [], ◌∷◌, map, length, Option, Some, None, is_some, refl, sym, ap, ◌∙◌, subst, arith}
use Rattle.std.specs.Prelude.{Decides, option_and_then}
use Rattle.std.specs.List.{AllZip}
use Rattle.std.proofs.lemmas.Bool.Decides.{Decides-eqb}
use Rattle.propagation.specs.Lists.{numbered}
use Rattle.propagation.specs.History.{deps, now, CentralAt}
use Rattle.propagation.specs.Logs.{Emission, Frame, Entry, Leg, own}
use Rattle.propagation.specs.Logs.Entry.{Did, Took, Computed, Sent}
use Rattle.propagation.specs.Rules.{Accepted}
use Rattle.propagation.specs.Lines.{Answers, IsPaired, PicksAgree, Keeps}
use Rattle.propagation.specs.Lines as Entries
use Rattle.propagation.specs.Deciding.{if_any, some_and, same_frame, has_answered, agreed, keeps, IsSame}
use Rattle.propagation.proofs.Lists.{slice_get-Has}
use Rattle.propagation.proofs.OneValue.{central_is_one}
use Rattle.propagation.proofs.Tests.{both, in_words, Decides-implies, Decides-if_any, Decides-some_and, Decides-is_some, Decides-same_frame}
use Rattle.propagation.proofs.TestedFamily.{Within, Decides-peers_below, Decides-is_quiet}
use Rattle.propagation.proofs.TestedLines.{agreed-picks, picks-agreed, Decides-is_paired, Decides-has_answered, Decides-keeps}
use Rattle.judged_run.specs.Texts.{LegPlan, RunPlan, IsLegPlan, IsRunPlan, LogLine, Line, Position, leg_plan, count_of, next_position, position_after, Begins, IsWhole, log_lines, entries, family, frames_given, count_taken, block_end, last_log}
use Rattle.judged_run.specs.Texts.LogLine.{entry, took_bytes, sent_bytes}
use Rattle.judged_run.specs.Texts.Line.{passed_line, log_line, settle_line, value_line, other_line}
use Rattle.judged_run.specs.Texts.Position.{in_logs, in_values}
use Rattle.judged_run.specs.LineRules.{Rule, PicksAreTyped, LogLineKeeps, EndedLogAnswers, RuleKept, leg_plan_of, leg_plan_shown, LineKeeps}
use Rattle.judged_run.specs.LineRules.Rule.{J1, J2, J3, J4, J5, J6, J7, J8, J9}
use Rattle.judged_run.specs.Verdicts.{all_typed, picks_are_typed, log_line_keeps, ended_log_answers, rule_kept, is_end, line_keeps}
use Rattle.judged_run.proofs.Fitting.{Named, Fits, fits, if-some, some-same}

always : Decides true (Unit {0})
always = (λ t. tt, λ h. refl)

never : Decides false ⊥
never = (λ t. absurd (cc t), λ h. absurd h)

Decides-not : (b : Bool) → Decides (not b) (b ≡ false)
Decides-not true = (λ t. absurd (cc t), λ e. absurd (cc e))
Decides-not false = (λ t. refl, λ e. refl)

-- the test of what is there, where it is right of that
pub Decides-if_any_at : {A : Type 0} {f : A → Bool} {P : A → Type 0} → (o : Option A) → ((x : A) → o ≡ Some x → Decides (f x) (P x)) → Decides (if_any f o) ((x : A) → o ≡ Some x → P x)
Decides-if_any_at None each = (λ t x is. absurd (cc is), λ h. refl)
Decides-if_any_at {P = P} (Some y) each = (λ t x is. subst P (some-same y x is) ((each y refl).0 t), λ h. (each y refl).1 (h y refl))

Decides-all_typed : {V : Type 0} (has_type : ℕ → V → Bool) (ps : List ℕ) (vs : List V) → Decides (all_typed has_type ps vs) (AllZip (λ p v. has_type p v ≡ true) ps vs)
Decides-all_typed has_type [] [] = always
Decides-all_typed has_type [] (v ∷ vs) = never
Decides-all_typed has_type (p ∷ ps) [] = never
Decides-all_typed has_type (p ∷ ps) (v ∷ vs) = both (λ t. t, λ t. t) (Decides-all_typed has_type ps vs)

-- ---- one log line

module _ {V D : Type 0} (same : V → V → Bool) (right : IsSame same) (count : ℕ) (has_type : ℕ → V → Bool) (g : Leg V D) (rank : ℕ → ℕ) (acc : Accepted g rank) (unborn : (n : ℕ) → count ≤ n → now g.book n ≡ 0) where
  Decides-are_taken : (n : ℕ) (x : Entry V) (before : List (Entry V)) → Decides (picks_are_typed has_type g n x before) (PicksAreTyped has_type g n x before)
  Decides-are_taken n (Did c) before = always
  Decides-are_taken n (Took p f) before = always
  Decides-are_taken n (Computed v S picks) before =
      in_words (λ h ms k. h ms (picks-agreed g n before picks ms k)) (λ h ms is. h ms (agreed-picks g n before picks ms is))
      (Decides-if_any (λ (ms : List (Emission V)). Decides-all_typed has_type (deps g.book n (own g n before)) (map (λ m. m.value) ms)) (agreed g n before picks))
  Decides-are_taken n (Sent q f) before = always

  module _ (given : ℕ → List (Option (Frame V))) (n : ℕ) (before : List (LogLine V)) (within : Within count (entries before)) where
    entry-keeps : (rule : Entries.Rule) (x : Entry V) → Decides (keeps same count g (λ k. []) n rule x (entries before)) (Keeps g (λ k. []) n rule x (entries before))
    entry-keeps rule x = Decides-keeps same right count g rank acc unborn (λ k. []) n rule x (entries before) within

    answered : Decides (has_answered same count g n (entries before)) (Answers g n (entries before))
    answered = Decides-has_answered same right count g rank acc unborn n (entries before) within

    is-given : (p : ℕ) (f : Frame V) → Decides (some_and (λ o. some_and (λ h. same_frame same h f) o) (numbered (given p) (count_taken p before))) (numbered (given p) (count_taken p before) ≡ Some (Some f))
    is-given p f =
        in_words
        (λ h. h.1 ∙ ap (λ (o : Option (Frame V)). Some o) (h.2.1 ∙ ap (λ (i : Frame V). Some i) h.2.2))
        (λ is. (Some f, is, (f, refl, refl)))
        (Decides-some_and (λ o. Decides-some_and (λ h. Decides-same_frame same right h f) o) (numbered (given p) (count_taken p before)))

    pub Decides-said_keeps : (rule : Rule) (x : LogLine V) → Decides (log_line_keeps same count has_type g given n rule x before) (LogLineKeeps has_type g given n rule x before)
    Decides-said_keeps J1 (entry x) = always
    Decides-said_keeps J1 (took_bytes p) = always
    Decides-said_keeps J1 (sent_bytes q) = always
    Decides-said_keeps J2 (entry x) = entry-keeps Entries.Rule.J2 x
    Decides-said_keeps J2 (took_bytes p) = always
    Decides-said_keeps J2 (sent_bytes q) = always
    Decides-said_keeps J3 (entry (Did c)) = always
    Decides-said_keeps J3 (entry (Took p f)) = both (is-given p f) (Decides-is_paired g n (entries before) p f)
    Decides-said_keeps J3 (entry (Computed v S picks)) = always
    Decides-said_keeps J3 (entry (Sent q f)) = always
    Decides-said_keeps J3 (took_bytes p) = never
    Decides-said_keeps J3 (sent_bytes q) = always
    Decides-said_keeps J4 (entry x) = entry-keeps Entries.Rule.J4 x
    Decides-said_keeps J4 (took_bytes p) = answered
    Decides-said_keeps J4 (sent_bytes q) = never
    Decides-said_keeps J5 (entry x) = entry-keeps Entries.Rule.J5 x
    Decides-said_keeps J5 (took_bytes p) = always
    Decides-said_keeps J5 (sent_bytes q) = always
    Decides-said_keeps J6 (entry x) = entry-keeps Entries.Rule.J6 x
    Decides-said_keeps J6 (took_bytes p) = always
    Decides-said_keeps J6 (sent_bytes q) = always
    Decides-said_keeps J7 (entry x) = both (entry-keeps Entries.Rule.J7 x) (Decides-are_taken n x (entries before))
    Decides-said_keeps J7 (took_bytes p) = always
    Decides-said_keeps J7 (sent_bytes q) = always
    Decides-said_keeps J8 (entry x) = always
    Decides-said_keeps J8 (took_bytes p) = always
    Decides-said_keeps J8 (sent_bytes q) = always
    Decides-said_keeps J9 (entry x) = always
    Decides-said_keeps J9 (took_bytes p) = always
    Decides-said_keeps J9 (sent_bytes q) = always

-- ---- one line

module _ {V D : Type 0} (same : V → V → Bool) (right : IsSame same) (plan : RunPlan V D) where
  module _ (s : LegPlan V D) (good : IsLegPlan plan.has_type s) (past : List (Line V)) (named : Named s.count past) where
    within : (m : ℕ) → Within s.count (family past m)
    within m = (Decides-peers_below s.count (family past m)).0 (named m).0

    Decides-log_ends : (goes_on : ℕ → Bool) → Decides (ended_log_answers same s.count s.leg past goes_on) (EndedLogAnswers s.leg past goes_on)
    Decides-log_ends goes_on =
        Decides-if_any (λ m. Decides-implies (Decides-not (goes_on m)) (Decides-has_answered same right s.count s.leg good.rank good.accepted good.unborn m (family past m) (within m))) (last_log past)

    Decides-said : (given : ℕ → List (Option (Frame V))) (n : ℕ) (rule : Rule) (x : LogLine V) →
        Decides (log_line_keeps same s.count plan.has_type s.leg given n rule x (log_lines n past)) (LogLineKeeps plan.has_type s.leg given n rule x (log_lines n past))
    Decides-said given n rule x = Decides-said_keeps same right s.count plan.has_type s.leg good.rank good.accepted good.unborn given n (log_lines n past) (within n) rule x

    Decides-logged : (n : ℕ) (x : LogLine V) (ahead : List (Line V)) (rule : Rule) → Decides (rule_kept same plan past (log_line n x) ahead rule s) (RuleKept plan past (log_line n x) ahead rule s)
    Decides-logged n x ahead J1 = Decides-said (λ p. frames_given n (log_lines p (block_end plan past (log_line n x ∷ ahead)))) n J1 x
    Decides-logged n x ahead J2 = Decides-said (λ p. frames_given n (log_lines p (block_end plan past (log_line n x ∷ ahead)))) n J2 x
    Decides-logged n x ahead J3 = Decides-said (λ p. frames_given n (log_lines p (block_end plan past (log_line n x ∷ ahead)))) n J3 x
    Decides-logged n x ahead J4 = both (Decides-said (λ p. []) n J4 x) (Decides-log_ends (λ m. m == n))
    Decides-logged n x ahead J5 = Decides-said (λ p. frames_given n (log_lines p (block_end plan past (log_line n x ∷ ahead)))) n J5 x
    Decides-logged n x ahead J6 = Decides-said (λ p. frames_given n (log_lines p (block_end plan past (log_line n x ∷ ahead)))) n J6 x
    Decides-logged n x ahead J7 = Decides-said (λ p. frames_given n (log_lines p (block_end plan past (log_line n x ∷ ahead)))) n J7 x
    Decides-logged n x ahead J8 = Decides-said (λ p. frames_given n (log_lines p (block_end plan past (log_line n x ∷ ahead)))) n J8 x
    Decides-logged n x ahead J9 = Decides-said (λ p. frames_given n (log_lines p (block_end plan past (log_line n x ∷ ahead)))) n J9 x

    Decides-settled : (k : ℕ) (ahead : List (Line V)) (rule : Rule) → Decides (rule_kept same plan past (settle_line k) ahead rule s) (RuleKept plan past (settle_line k) ahead rule s)
    Decides-settled k ahead J1 = always
    Decides-settled k ahead J2 = always
    Decides-settled k ahead J3 = always
    Decides-settled k ahead J4 = Decides-log_ends (λ m. false)
    Decides-settled k ahead J5 = always
    Decides-settled k ahead J6 = always
    Decides-settled k ahead J7 = always
    Decides-settled k ahead J8 =
        Decides-is_quiet same right s.count s.leg good.rank good.accepted good.unborn (family past) (λ n le. ap (λ xs. entries xs) ((named n).1 le))
    Decides-settled k ahead J9 = always

  Decides-shown : (s : LegPlan V D) (good : IsLegPlan plan.has_type s) (past : List (Line V)) (n : ℕ) (v : V) → n < s.count → (ahead : List (Line V)) (rule : Rule) →
      Decides (rule_kept same plan past (value_line n v) ahead rule s) (RuleKept plan past (value_line n v) ahead rule s)
  Decides-shown s good past n v lt ahead J1 = always
  Decides-shown s good past n v lt ahead J2 = always
  Decides-shown s good past n v lt ahead J3 = always
  Decides-shown s good past n v lt ahead J4 = always
  Decides-shown s good past n v lt ahead J5 = always
  Decides-shown s good past n v lt ahead J6 = always
  Decides-shown s good past n v lt ahead J7 = always
  Decides-shown s good past n v lt ahead J8 = always
  Decides-shown s good past n v lt ahead J9 =
      in_words (λ e. subst (λ w. CentralAt s.leg.book (now s.leg.book) n w) (sym e) (good.central n lt)) (λ h. central_is_one V D s.leg.book (now s.leg.book) n v (s.value n) h (good.central n lt))
      (right v (s.value n))

  -- a passed or other line breaks no rule but J1
  Decides-passed : (s : LegPlan V D) (past ahead : List (Line V)) (rule : Rule) → Decides (rule_kept same plan past passed_line ahead rule s) (RuleKept plan past passed_line ahead rule s)
  Decides-passed s past ahead J1 = always
  Decides-passed s past ahead J2 = always
  Decides-passed s past ahead J3 = always
  Decides-passed s past ahead J4 = always
  Decides-passed s past ahead J5 = always
  Decides-passed s past ahead J6 = always
  Decides-passed s past ahead J7 = always
  Decides-passed s past ahead J8 = always
  Decides-passed s past ahead J9 = always

  module _ (good : IsRunPlan plan) where
    -- the stage that the form tells
    stage-good : (k : ℕ) (s : LegPlan V D) → leg_plan plan k ≡ Some s → IsLegPlan plan.has_type s
    stage-good k s is = good s (slice_get-Has plan.legs k s is)

    -- where the form goes on with the line, its rules are decided
    rules-at : (past : List (Line V)) (x : Line V) (ahead : List (Line V)) (st after : Position) → Fits plan past st → next_position plan st x ≡ Some after → (rule : Rule) (s : LegPlan V D) → leg_plan_of plan past x ≡ Some s →
        Decides (rule_kept same plan past x ahead rule s) (RuleKept plan past x ahead rule s)
    rules-at past passed_line ahead st after fit is rule s at = Decides-passed s past ahead rule
    rules-at past (log_line n y) ahead (in_logs k least) after fit is rule s at =
        let here : leg_plan plan k ≡ Some s = ap (λ i. leg_plan plan i) (sym fit.0) ∙ at in
        Decides-logged s (stage-good k s here) past (fit.1 s here) n y ahead rule
    rules-at past (log_line n y) ahead (in_values k next) after fit is rule s at = absurd (cc is)
    rules-at past (settle_line j) ahead (in_logs k least) after fit is rule s at =
        let here : leg_plan plan k ≡ Some s = ap (λ i. leg_plan plan i) (sym fit.0) ∙ at in
        Decides-settled s (stage-good k s here) past (fit.1 s here) j ahead rule
    rules-at past (settle_line j) ahead (in_values k next) after fit is rule s at = absurd (cc is)
    rules-at past (value_line n v) ahead (in_logs k least) after fit is rule s at = absurd (cc is)
    rules-at past (value_line n v) ahead (in_values k next) after fit is rule s at =
        let here : leg_plan plan k ≡ Some s = ap (λ i. leg_plan_shown plan i) (sym fit.0) ∙ at in
        let same_n : n ≡ next = (Decides-eqb n next).0 (if-some (n == next) _ after is).0 in
        let lt : next < count_of (leg_plan plan k) = fit.1 in
        let c : count_of (leg_plan plan k) ≡ s.count = ap (λ o. count_of o) here in
        Decides-shown s (stage-good k s here) past n v (omega arith) ahead rule
    rules-at past other_line ahead (in_logs k least) after fit is rule s at = absurd (cc is)
    rules-at past other_line ahead (in_values k next) after fit is rule s at = absurd (cc is)

    -- J1 is decided anyway
    pub Decides-begins : (past : List (Line V)) → Decides (is_some (position_after plan past)) (Begins plan past)
    Decides-begins past = Decides-is_some (position_after plan past)

    pub Decides-whole : (past : List (Line V)) → Decides (some_and (is_end (length plan.legs)) (position_after plan past)) (IsWhole plan past)
    Decides-whole past =
        in_words (λ h. go h.0 h.1 h.2) (λ h. (in_logs (length plan.legs) h.0, h.1, (Decides-eqb (length plan.legs) (length plan.legs)).1 refl))
        (Decides-some_and (λ st. (λ (t : is_end (length plan.legs) st ≡ true). t, λ (t : is_end (length plan.legs) st ≡ true). t)) (position_after plan past))
      where
        go : (st : Position) → position_after plan past ≡ Some st → is_end (length plan.legs) st ≡ true → IsWhole plan past
        go (in_logs k least) is t = (least, is ∙ ap (λ i. Some (in_logs i least)) ((Decides-eqb k (length plan.legs)).0 t))
        go (in_values k next) is t = absurd (cc t)

    -- so is each rule of a line with which the lines still begin a run
    pub Decides-line : (past : List (Line V)) (x : Line V) (ahead : List (Line V)) → Begins plan (x ∷ past) → (rule : Rule) → Decides (line_keeps same plan past (x ∷ ahead) rule) (LineKeeps plan past (x ∷ ahead) rule)
    Decides-line past x ahead begins rule = go (position_after plan past) refl begins.0 begins.1 rule
      where
        go : (o : Option Position) → position_after plan past ≡ o → (after : Position) → option_and_then (λ s. next_position plan s x) o ≡ Some after → (rule : Rule) → Decides (line_keeps same plan past (x ∷ ahead) rule) (LineKeeps plan past (x ∷ ahead) rule)
        go None before after is rule = absurd (cc is)
        go (Some st) before after is J1 = Decides-begins (x ∷ past)
        go (Some st) before after is J2 = Decides-if_any_at (leg_plan_of plan past x) (rules-at past x ahead st after (fits plan past st before) is J2)
        go (Some st) before after is J3 = Decides-if_any_at (leg_plan_of plan past x) (rules-at past x ahead st after (fits plan past st before) is J3)
        go (Some st) before after is J4 = Decides-if_any_at (leg_plan_of plan past x) (rules-at past x ahead st after (fits plan past st before) is J4)
        go (Some st) before after is J5 = Decides-if_any_at (leg_plan_of plan past x) (rules-at past x ahead st after (fits plan past st before) is J5)
        go (Some st) before after is J6 = Decides-if_any_at (leg_plan_of plan past x) (rules-at past x ahead st after (fits plan past st before) is J6)
        go (Some st) before after is J7 = Decides-if_any_at (leg_plan_of plan past x) (rules-at past x ahead st after (fits plan past st before) is J7)
        go (Some st) before after is J8 = Decides-if_any_at (leg_plan_of plan past x) (rules-at past x ahead st after (fits plan past st before) is J8)
        go (Some st) before after is J9 = Decides-if_any_at (leg_plan_of plan past x) (rules-at past x ahead st after (fits plan past st before) is J9)

    -- behind the last line too
    pub Decides-end : (past : List (Line V)) (rule : Rule) → Decides (line_keeps same plan past [] rule) (LineKeeps plan past [] rule)
    Decides-end past J1 = Decides-whole past
    Decides-end past J2 = always
    Decides-end past J3 = always
    Decides-end past J4 = always
    Decides-end past J5 = always
    Decides-end past J6 = always
    Decides-end past J7 = always
    Decides-end past J8 = always
    Decides-end past J9 = always
