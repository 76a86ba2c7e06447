-- Where the lines have the form of a run and each block is legal and quiet, no line breaks a rule.
use Rattle.std.proofs.Common.{◌≡◌, ℕ, zero, suc, ◌<◌, ◌≤◌, Bool, true, false, leb, ltb, ◌&&◌, ◌==◌, List, [], ◌∷◌, ◌++◌, map, length, Option, Some, None, inl, inr, refl, sym, ap, ◌∙◌, subst, arith}
use Rattle.std.specs.Prelude.{option_and_then}
use Rattle.std.specs.List.{AllZip}
use Rattle.std.proofs.lemmas.Option.{slice_get_within}
use Rattle.std.proofs.lemmas.Bool.{cases_Bool, cond-true, cond-false}
use Rattle.std.proofs.lemmas.Bool.Decides.{Decides-eqb}
use Rattle.propagation.specs.Lists.{Has, IsOlderPart}
use Rattle.propagation.specs.History.{Book, definition_at, Central}
use Rattle.propagation.specs.History.Central.{none, more}
use Rattle.propagation.specs.Logs.{Emission, Entry, Leg, emissions, frames_taken}
use Rattle.propagation.specs.Logs.Entry.{Did, Took, Computed, Sent}
use Rattle.propagation.specs.Rules.{Legal, Picked}
use Rattle.propagation.specs.Rules.Picked.{no_pick, pick}
use Rattle.propagation.specs.Lines.{Answers, AllKeep}
use Rattle.propagation.proofs.Lines.{lines_are_enough}
use Rattle.propagation.proofs.Lists.{slice_get-Has, older_less, older-trans}
use Rattle.propagation.proofs.Carried.{taken-older}
use Rattle.propagation.proofs.Truth.{Fed, fed_all, picked_emission, all_good}
use Rattle.judged_run.specs.Texts.{LegPlan, RunPlan, IsLegPlan, IsRunPlan, LogLine, Line, Position, leg_plan, next_position, count_of, names_below, position_after, Begins, IsWhole, blocks, log_lines, entries, family, frames_given, block_end, last_log, all_frames}
use Rattle.judged_run.specs.Texts.LogLine.{entry, took_bytes, sent_bytes}
use Rattle.judged_run.specs.Texts.Line.{passed_line, log_line, settle_line, value_line, other_line}
use Rattle.judged_run.specs.Texts.Position.{in_logs, in_values}
use Rattle.judged_run.specs.LineRules.{Rule, PicksAreTyped, LogLineKeeps, EndedLogAnswers, RuleKept, leg_plan_of, LineKeeps, KeepsAt, IsLegalRun}
use Rattle.judged_run.specs.LineRules.Rule.{J1, J2, J3, J4, J5, J6, J7, J8, J9}
use Rattle.judged_run.specs.Runs.{after_lines, EachBlock, EachValue, BlockIsLegal, IsCentral, IsRun}
use Rattle.judged_run.proofs.Fitting.{Fits, fits, if-some, some-same, log-parts}
use Rattle.judged_run.proofs.Kept.{kept-entry}
use Rattle.judged_run.proofs.Sound.{form-later, end-later}

-- ---- picked values are of their types

central-typed : {V D : Type 0} (b : Book V D) (has_type : ℕ → V → Bool) → ((n c : ℕ) (d : D) (vs : List V) → definition_at b n c ≡ Some d → AllZip (λ p v. has_type p v ≡ true) (b.dependencies d) vs → has_type n (b.meaning d vs) ≡ true) →
    (S : ℕ → ℕ) {ns : List ℕ} {vs : List V} → Central b S ns vs → AllZip (λ p v. has_type p v ≡ true) ns vs
central-typed b has_type sound S none = tt
central-typed b has_type sound S (more {n = n} {d = d} {vs = vs} is cs val rest) =
    (ap (λ v. has_type n v) val ∙ sound n (S n) d vs is (central-typed b has_type sound S cs), central-typed b has_type sound S rest)

module _ {V D : Type 0} (has_type : ℕ → V → Bool) (s : LegPlan V D) (good : IsLegPlan has_type s) (logs : ℕ → List (Entry V)) (legal : Legal s.leg logs) where
  emitted-typed : (p : ℕ) (m : Emission V) → Has (emissions s.leg p (logs p)) m → has_type p m.value ≡ true
  emitted-typed p m h = (central-typed s.leg.book has_type good.typed _ (all_good s.leg good.rank logs good.accepted legal p m h).truth.central).0

  picked-typed : (n : ℕ) (log : List (Entry V)) → Fed s.leg logs n log → {ps ks : List ℕ} {ms : List (Emission V)} → Picked s.leg n log ps ks ms → AllZip (λ p w. has_type p w ≡ true) ps (map (λ m. m.value) ms)
  picked-typed n log fed no_pick = tt
  picked-typed n log fed (pick {p = p} {k = k} {m = m} is rest) =
      (emitted-typed p m (picked_emission s.leg good.rank logs good.accepted n log fed p k m is), picked-typed n log fed rest)

  are-taken : (n : ℕ) (x : Entry V) (newer before : List (Entry V)) → newer ++ before ≡ logs n → PicksAreTyped has_type s.leg n x before
  are-taken n (Did c) newer before e = tt
  are-taken n (Took p f) newer before e = tt
  are-taken n (Computed v S picks) newer before e = λ ms picked_emissions. picked-typed n before fed picked_emissions.0
    where
      fed : Fed s.leg logs n before
      fed p = older-trans (frames_taken p before) (frames_taken p (logs n)) _ (subst (λ log. IsOlderPart (frames_taken p before) (frames_taken p log)) e (taken-older p newer before)) (fed_all s.leg good.rank logs good.accepted legal n p)
  are-taken n (Sent q f) newer before e = tt

-- ---- parts of logs

entries-append : {V : Type 0} (newer xs : List (LogLine V)) → entries (newer ++ xs) ≡ entries newer ++ entries xs
entries-append [] xs = refl
entries-append (entry x ∷ newer) xs = ap (λ ys. x ∷ ys) (entries-append newer xs)
entries-append (took_bytes p ∷ newer) xs = entries-append newer xs
entries-append (sent_bytes q ∷ newer) xs = entries-append newer xs

frames-part : {V : Type 0} (newer xs : List (LogLine V)) → all_frames (newer ++ xs) ≡ true → all_frames xs ≡ true
frames-part [] xs t = t
frames-part (entry x ∷ newer) xs t = frames-part newer xs t
frames-part (took_bytes p ∷ newer) xs t = absurd (cc t)
frames-part (sent_bytes q ∷ newer) xs t = absurd (cc t)

keep-part : {V D : Type 0} (g : Leg V D) (logs : ℕ → List (Entry V)) (n : ℕ) (newer xs : List (Entry V)) → AllKeep g logs n (newer ++ xs) → AllKeep g logs n xs
keep-part g logs n [] xs all = all
keep-part g logs n (x ∷ newer) xs all = keep-part g logs n newer xs all.1

-- ---- lines

module _ {V D : Type 0} (plan : RunPlan V D) where
  begins-before : (past : List (Line V)) (x : Line V) → Begins plan (x ∷ past) → Begins plan past
  begins-before past x (st, is) = go (position_after plan past) refl is
    where
      go : (o : Option Position) → position_after plan past ≡ o → option_and_then (λ s. next_position plan s x) o ≡ Some st → Begins plan past
      go None before e = absurd (cc e)
      go (Some s) before e = (s, before)

  pub begins-from : (rest past : List (Line V)) → Begins plan (after_lines past rest) → Begins plan past
  begins-from [] past h = h
  begins-from (x ∷ ahead) past h = begins-before past x (begins-from ahead (x ∷ past) h)

  -- the last log line is of the service that the form tells
  last-least : (past : List (Line V)) (k least m : ℕ) → position_after plan past ≡ Some (in_logs k least) → last_log past ≡ Some m → m ≡ least
  last-least [] k least m is last = absurd (cc last)
  last-least (passed_line ∷ past) k least m is last = go (λ i. last-least past k least m i last) (position_after plan past) refl is
    where
      go : (position_after plan past ≡ Some (in_logs k least) → m ≡ least) → (o : Option Position) → position_after plan past ≡ o → option_and_then (λ s. next_position plan s passed_line) o ≡ Some (in_logs k least) → m ≡ least
      go earlier None before e = absurd (cc e)
      go earlier (Some s) before e = earlier (before ∙ e)
  last-least (log_line n y ∷ past) k least m is last = go (position_after plan past) refl is
    where
      go : (o : Option Position) → position_after plan past ≡ o → option_and_then (λ s. next_position plan s (log_line n y)) o ≡ Some (in_logs k least) → m ≡ least
      go None before e = absurd (cc e)
      go (Some (in_values j next)) before e = absurd (cc e)
      go (Some (in_logs j low)) before e = let same : in_logs j n ≡ in_logs k least = (if-some _ (in_logs j n) (in_logs k least) e).1 in cc (last, same)
  last-least (settle_line j ∷ past) k least m is last = absurd (cc last)
  last-least (value_line n v ∷ past) k least m is last = absurd (cc last)
  last-least (other_line ∷ past) k least m is last = absurd (cc last)

  -- ---- the rest of a block

  -- the block ends in a settle line, is legal, and what the logs say so far are older parts of what they say then; the logs of services before are whole
  record Rest (s : LegPlan V D) (past end : List (Line V)) (least : ℕ) : Type 0 where
    legal : BlockIsLegal s end
    older : (m : ℕ) → IsOlderPart (log_lines m past) (log_lines m end)
    same : (m : ℕ) → m < least → log_lines m end ≡ log_lines m past

  rest-line : (past : List (Line V)) (x : Line V) (ahead : List (Line V)) (k least : ℕ) (s : LegPlan V D) (after : Position) → position_after plan past ≡ Some (in_logs k least) → next_position plan (in_logs k least) x ≡ Some after → position_after plan (x ∷ past) ≡ Some after →
      leg_plan plan k ≡ Some s → EachBlock BlockIsLegal plan past (x ∷ ahead) →
      (EachBlock BlockIsLegal plan (x ∷ past) ahead → (low : ℕ) → position_after plan (x ∷ past) ≡ Some (in_logs k low) → Rest s (x ∷ past) (block_end plan (x ∷ past) ahead) low) → Rest s past (block_end plan past (x ∷ ahead)) least
  rest-line past passed_line ahead k least s after is next at there legal later =
      let e : in_logs k least ≡ after = some-same (in_logs k least) after next in
      let r = later legal least (at ∙ ap (λ f. Some f) (sym e)) in
      subst (λ b. Rest s past b least) (sym (end-later plan past passed_line ahead after at)) (record { legal = r.legal; older = r.older; same = r.same })
  rest-line past (log_line n y) ahead k least s after is next at there legal later =
      let (t, e) = if-some (leb least n && (ltb n (count_of (leg_plan plan k)) && names_below (count_of (leg_plan plan k)) y)) (in_logs k n) after next in
      let (le, lt, named) = log-parts least n (count_of (leg_plan plan k)) y t in
      let r = later legal n (at ∙ ap (λ f. Some f) (sym e)) in
      let end = block_end plan (log_line n y ∷ past) ahead in
      subst (λ b. Rest s past b least) (sym (end-later plan past (log_line n y) ahead after at))
      (record {
        legal = r.legal;
        older = λ m. older_less (n == m) y (log_lines m past) (log_lines m end) (r.older m);
        same = λ m low. r.same m (omega arith) ∙ cond-false (n == m) (y ∷ log_lines m past) (log_lines m past) (apart n m (omega arith));
      })
    where
      apart : (n m : ℕ) → m < n → (n == m) ≡ false
      apart n m lt = elim (cases_Bool (n == m)) [ inl t ↦ (let same : n ≡ m = (Decides-eqb n m).0 t in absurd (omega arith)) | inr f ↦ f ]
  rest-line past (settle_line j) ahead k least s after is next at there legal later =
      let fit : Fits plan past (in_logs k least) = fits plan past (in_logs k least) is in
      record { legal = legal.0 s (ap (λ i. leg_plan plan i) fit.0 ∙ there); older = λ m. ([], refl); same = λ m lt. refl }
  rest-line past (value_line n v) ahead k least s after is next at there legal later = absurd (cc next)
  rest-line past other_line ahead k least s after is next at there legal later = absurd (cc next)

  rest-of : (rest past : List (Line V)) (k least : ℕ) (s : LegPlan V D) → position_after plan past ≡ Some (in_logs k least) → leg_plan plan k ≡ Some s → IsWhole plan (after_lines past rest) → EachBlock BlockIsLegal plan past rest →
      Rest s past (block_end plan past rest) least
  rest-of [] past k least s is there whole legal =
      let same : in_logs k least ≡ in_logs (length plan.legs) whole.0 = some-same (in_logs k least) (in_logs (length plan.legs) whole.0) (sym is ∙ whole.1) in
      let at : k ≡ length plan.legs = cc same in
      let within : k < length plan.legs = slice_get_within plan.legs k s there in
      absurd (omega arith)
  rest-of (x ∷ ahead) past k least s is there whole legal =
      let (after, at) = begins-from ahead (x ∷ past) (in_logs (length plan.legs) whole.0, whole.1) in
      rest-line past x ahead k least s after is (form-later plan past x (in_logs k least) after is at) at there legal (λ more_legal low here. rest-of ahead (x ∷ past) k low s here there whole more_legal)

  module _ (good : IsRunPlan plan) where
    -- ---- a log line

    kept-line : (s : LegPlan V D) (st : IsLegPlan plan.has_type s) (end past : List (Line V)) (n : ℕ) (y : LogLine V) → BlockIsLegal s end → IsOlderPart (y ∷ log_lines n past) (log_lines n end) →
        (rule : Rule) → LogLineKeeps plan.has_type s.leg (λ p. frames_given n (log_lines p end)) n rule y (log_lines n past)
    kept-line s st end past n y legal (newer, e) = go y e
      where
        go : (y : LogLine V) → newer ++ y ∷ log_lines n past ≡ log_lines n end → (rule : Rule) → LogLineKeeps plan.has_type s.leg (λ p. frames_given n (log_lines p end)) n rule y (log_lines n past)
        go (took_bytes p) e = absurd (cc (frames-part newer (took_bytes p ∷ log_lines n past) (ap (λ xs. all_frames xs) e ∙ legal.frames n)))
        go (sent_bytes q) e = absurd (cc (frames-part newer (sent_bytes q ∷ log_lines n past) (ap (λ xs. all_frames xs) e ∙ legal.frames n)))
        go (entry x) e =
            let t = frames-part newer (entry x ∷ log_lines n past) (ap (λ xs. all_frames xs) e ∙ legal.frames n) in
            let parts : entries newer ++ x ∷ entries (log_lines n past) ≡ family end n = sym (entries-append newer (entry x ∷ log_lines n past)) ∙ ap (λ xs. entries xs) e in
            let kept = keep-part s.leg (family end) n (entries newer) (x ∷ entries (log_lines n past)) (subst (λ log. AllKeep s.leg (family end) n log) (sym parts)
            ((lines_are_enough V D s.leg st.rank (family end) st.accepted).1 legal.legal n).0) in
            kept-entry plan.has_type s.leg (λ p. log_lines p end) legal.frames n x (log_lines n past) t kept.0
            (are-taken plan.has_type s st (family end) legal.legal n x (entries newer ++ x ∷ []) (entries (log_lines n past)) (append-one (entries newer) x (entries (log_lines n past)) ∙ parts))
          where
            append-one : (xs : List (Entry V)) (x : Entry V) (ys : List (Entry V)) → (xs ++ x ∷ []) ++ ys ≡ xs ++ x ∷ ys
            append-one [] x ys = refl
            append-one (z ∷ xs) x ys = ap (λ zs. z ∷ zs) (append-one xs x ys)

    log-ended : (s : LegPlan V D) (st : IsLegPlan plan.has_type s) (end past : List (Line V)) (goes_on : ℕ → Bool) → BlockIsLegal s end → ((m : ℕ) → last_log past ≡ Some m → goes_on m ≡ false → log_lines m end ≡ log_lines m past) → EndedLogAnswers s.leg past goes_on
    log-ended s st end past goes_on legal same m last off =
        subst (λ xs. Answers s.leg m (entries xs)) (same m last off) ((lines_are_enough V D s.leg st.rank (family end) st.accepted).1 legal.legal m).1

    said-any : (s : LegPlan V D) (past end : List (Line V)) (n : ℕ) (y : LogLine V) → LogLineKeeps plan.has_type s.leg (λ p. frames_given n (log_lines p end)) n J4 y (log_lines n past) → LogLineKeeps plan.has_type s.leg (λ p. []) n J4 y (log_lines n past)
    said-any s past end n (entry x) h = h
    said-any s past end n (took_bytes p) h = h
    said-any s past end n (sent_bytes q) h = h

    logged-kept : (past : List (Line V)) (n : ℕ) (y : LogLine V) (ahead : List (Line V)) (k least : ℕ) (s : LegPlan V D) → position_after plan past ≡ Some (in_logs k least) → position_after plan (log_line n y ∷ past) ≡ Some (in_logs k n) → leg_plan plan k ≡ Some s →
        IsWhole plan (after_lines (log_line n y ∷ past) ahead) → EachBlock BlockIsLegal plan (log_line n y ∷ past) ahead → least ≤ n → (rule : Rule) → RuleKept plan past (log_line n y) ahead rule s
    logged-kept past n y ahead k least s is at there whole legal le = kept
      where
        end : List (Line V)
        end = block_end plan (log_line n y ∷ past) ahead

        ends : block_end plan past (log_line n y ∷ ahead) ≡ block_end plan (log_line n y ∷ past) ahead
        ends = end-later plan past (log_line n y) ahead (in_logs k n) at

        st : IsLegPlan plan.has_type s
        st = good s (slice_get-Has plan.legs k s there)

        r : Rest s (log_line n y ∷ past) (block_end plan (log_line n y ∷ past) ahead) n
        r = rest-of ahead (log_line n y ∷ past) k n s at there whole legal

        first_older : IsOlderPart (y ∷ log_lines n past) (log_lines n (block_end plan (log_line n y ∷ past) ahead))
        first_older = subst (λ xs. IsOlderPart xs (log_lines n (block_end plan (log_line n y ∷ past) ahead))) (cond-true (n == n) (y ∷ log_lines n past) (log_lines n past) ((Decides-eqb n n).1 refl)) (r.older n)

        said : (rule : Rule) → LogLineKeeps plan.has_type s.leg (λ p. frames_given n (log_lines p (block_end plan past (log_line n y ∷ ahead)))) n rule y (log_lines n past)
        said rule = subst (λ b. LogLineKeeps plan.has_type s.leg (λ p. frames_given n (log_lines p b)) n rule y (log_lines n past)) (sym ends) (kept-line s st (block_end plan (log_line n y ∷ past) ahead) past n y r.legal first_older rule)

        unchanged : (m : ℕ) → last_log past ≡ Some m → (m == n) ≡ false → log_lines m (block_end plan (log_line n y ∷ past) ahead) ≡ log_lines m past
        unchanged m last off =
            let low : m ≡ least = last-least past k least m is last in
            let apart : m ≡ n → ⊥ = λ e. cc (off, (Decides-eqb m n).1 e) in
            let differ : (n == m) ≡ false = elim (cases_Bool (n == m)) [ inl t ↦ absurd (apart (sym ((Decides-eqb n m).0 t))) | inr f ↦ f ] in
            r.same m (omega arith) ∙ cond-false (n == m) (y ∷ log_lines m past) (log_lines m past) differ

        kept : (rule : Rule) → RuleKept plan past (log_line n y) ahead rule s
        kept J1 = said J1
        kept J2 = said J2
        kept J3 = said J3
        kept J4 = (said-any s past (block_end plan past (log_line n y ∷ ahead)) n y (said J4), log-ended s st (block_end plan (log_line n y ∷ past) ahead) past (λ m. m == n) r.legal unchanged)
        kept J5 = said J5
        kept J6 = said J6
        kept J7 = said J7
        kept J8 = said J8
        kept J9 = said J9

    -- ---- any line

    settled-kept : (s : LegPlan V D) (st : IsLegPlan plan.has_type s) (past : List (Line V)) (j : ℕ) (ahead : List (Line V)) → BlockIsLegal s past → (rule : Rule) → RuleKept plan past (settle_line j) ahead rule s
    settled-kept s st past j ahead legal J1 = tt
    settled-kept s st past j ahead legal J2 = tt
    settled-kept s st past j ahead legal J3 = tt
    settled-kept s st past j ahead legal J4 = log-ended s st past past (λ m. false) legal (λ m last off. refl)
    settled-kept s st past j ahead legal J5 = tt
    settled-kept s st past j ahead legal J6 = tt
    settled-kept s st past j ahead legal J7 = tt
    settled-kept s st past j ahead legal J8 = legal.quiet
    settled-kept s st past j ahead legal J9 = tt

    shown-kept : (s : LegPlan V D) (past : List (Line V)) (n : ℕ) (v : V) (ahead : List (Line V)) → IsCentral s n v → (rule : Rule) → RuleKept plan past (value_line n v) ahead rule s
    shown-kept s past n v ahead central J1 = tt
    shown-kept s past n v ahead central J2 = tt
    shown-kept s past n v ahead central J3 = tt
    shown-kept s past n v ahead central J4 = tt
    shown-kept s past n v ahead central J5 = tt
    shown-kept s past n v ahead central J6 = tt
    shown-kept s past n v ahead central J7 = tt
    shown-kept s past n v ahead central J8 = tt
    shown-kept s past n v ahead central J9 = central

    passed-kept : (s : LegPlan V D) (past ahead : List (Line V)) (rule : Rule) → RuleKept plan past passed_line ahead rule s
    passed-kept s past ahead J1 = tt
    passed-kept s past ahead J2 = tt
    passed-kept s past ahead J3 = tt
    passed-kept s past ahead J4 = tt
    passed-kept s past ahead J5 = tt
    passed-kept s past ahead J6 = tt
    passed-kept s past ahead J7 = tt
    passed-kept s past ahead J8 = tt
    passed-kept s past ahead J9 = tt

    from-rules : (past : List (Line V)) (x : Line V) (ahead : List (Line V)) → Begins plan (x ∷ past) → ((s : LegPlan V D) → leg_plan_of plan past x ≡ Some s → (rule : Rule) → RuleKept plan past x ahead rule s) → (rule : Rule) → LineKeeps plan past (x ∷ ahead) rule
    from-rules past x ahead begins all J1 = begins
    from-rules past x ahead begins all J2 = λ s is. all s is J2
    from-rules past x ahead begins all J3 = λ s is. all s is J3
    from-rules past x ahead begins all J4 = λ s is. all s is J4
    from-rules past x ahead begins all J5 = λ s is. all s is J5
    from-rules past x ahead begins all J6 = λ s is. all s is J6
    from-rules past x ahead begins all J7 = λ s is. all s is J7
    from-rules past x ahead begins all J8 = λ s is. all s is J8
    from-rules past x ahead begins all J9 = λ s is. all s is J9

    -- the rules of the line, and what is left to show behind it
    line-kept : (past : List (Line V)) (x : Line V) (ahead : List (Line V)) (st after : Position) → position_after plan past ≡ Some st → next_position plan st x ≡ Some after → position_after plan (x ∷ past) ≡ Some after → IsWhole plan (after_lines (x ∷ past) ahead) →
        EachBlock BlockIsLegal plan past (x ∷ ahead) → EachValue IsCentral plan past (x ∷ ahead) →
        ((s : LegPlan V D) → leg_plan_of plan past x ≡ Some s → (rule : Rule) → RuleKept plan past x ahead rule s) × EachBlock BlockIsLegal plan (x ∷ past) ahead × EachValue IsCentral plan (x ∷ past) ahead
    line-kept past passed_line ahead st after is next at whole legal central = (λ s here. passed-kept s past ahead, legal, central)
    line-kept past (log_line n y) ahead (in_logs k least) after is next at whole legal central = (rules, legal, central)
      where
        rules : (s : LegPlan V D) → leg_plan plan (blocks past) ≡ Some s → (rule : Rule) → RuleKept plan past (log_line n y) ahead rule s
        rules s here =
            let fit : Fits plan past (in_logs k least) = fits plan past (in_logs k least) is in
            let (t, e) = if-some (leb least n && (ltb n (count_of (leg_plan plan k)) && names_below (count_of (leg_plan plan k)) y)) (in_logs k n) after next in
            logged-kept past n y ahead k least s is (at ∙ ap (λ f. Some f) (sym e)) (ap (λ i. leg_plan plan i) (sym fit.0) ∙ here) whole legal (log-parts least n (count_of (leg_plan plan k)) y t).0
    line-kept past (log_line n y) ahead (in_values k next_n) after is next at whole legal central = absurd (cc next)
    line-kept past (settle_line j) ahead (in_logs k least) after is next at whole legal central = (rules, legal.1, central)
      where
        rules : (s : LegPlan V D) → leg_plan plan (blocks past) ≡ Some s → (rule : Rule) → RuleKept plan past (settle_line j) ahead rule s
        rules s here = settled-kept s (good s (slice_get-Has plan.legs (blocks past) s here)) past j ahead (legal.0 s here)
    line-kept past (settle_line j) ahead (in_values k next_n) after is next at whole legal central = absurd (cc next)
    line-kept past (value_line n v) ahead st after is next at whole legal central = (λ s here. shown-kept s past n v ahead (central.0 s here), legal, central.1)
    line-kept past other_line ahead (in_logs k least) after is next at whole legal central = absurd (cc next)
    line-kept past other_line ahead (in_values k next_n) after is next at whole legal central = absurd (cc next)

    end-kept : (past : List (Line V)) → IsWhole plan past → (rule : Rule) → LineKeeps plan past [] rule
    end-kept past whole J1 = whole
    end-kept past whole J2 = tt
    end-kept past whole J3 = tt
    end-kept past whole J4 = tt
    end-kept past whole J5 = tt
    end-kept past whole J6 = tt
    end-kept past whole J7 = tt
    end-kept past whole J8 = tt
    end-kept past whole J9 = tt

    kept-from : (rest past : List (Line V)) (st : Position) → position_after plan past ≡ Some st → IsWhole plan (after_lines past rest) → EachBlock BlockIsLegal plan past rest → EachValue IsCentral plan past rest → (k : ℕ) (rule : Rule) → KeepsAt plan past rest k rule
    kept-from [] past st is whole legal central zero rule = end-kept past whole rule
    kept-from [] past st is whole legal central (suc k) rule = tt
    kept-from (x ∷ ahead) past st is whole legal central zero rule =
        let (after, at) = begins-from ahead (x ∷ past) (in_logs (length plan.legs) whole.0, whole.1) in
        from-rules past x ahead (after, at) (line-kept past x ahead st after is (form-later plan past x st after is at) at whole legal central).0 rule
    kept-from (x ∷ ahead) past st is whole legal central (suc k) rule =
        let (after, at) = begins-from ahead (x ∷ past) (in_logs (length plan.legs) whole.0, whole.1) in
        let (rules, l, c) = line-kept past x ahead st after is (form-later plan past x st after is at) at whole legal central in
        kept-from ahead (x ∷ past) after at whole l c k rule

    pub run-legal : (lines : List (Line V)) → IsRun plan lines → IsLegalRun plan lines
    run-legal lines run k rule = kept-from lines [] (in_logs 0 0) refl run.whole run.legal run.central k rule
