-- The lines of a legal run, but for those passed over, are those of its blocks.
use Rattle.std.proofs.Common.{◌≡◌, ℕ, zero, suc, ◌+◌, ◌-◌, ◌<◌, ◌≤◌, Bool, true, false, ◌&&◌, leb, ltb, ◌==◌, is_some, List, [], ◌∷◌, ◌++◌, length, Option, Some, None, reverse, slice_get, inl, inr, refl, sym, ap, ap₂, ◌∙◌, subst, arith, append_assoc, append-nil, if◌then◌else◌}
use Rattle.std.specs.Prelude.{option_and_then, drop}
use Rattle.std.specs.List.{AllZip}
use Rattle.std.proofs.lemmas.Bool.{cases_Bool, cond-true, cond-false, and_parts}
use Rattle.std.proofs.lemmas.Option.{slice_get_within}
use Rattle.std.proofs.lemmas.Bool.Decides.{Decides-eqb}
use Rattle.std.proofs.lemmas.List.{reverse-append}
use Rattle.propagation.specs.History.{Central, now}
use Rattle.propagation.specs.History.Central.{none}
use Rattle.propagation.specs.Logs.{Entry}
use Rattle.propagation.specs.Rules.{Legal, Quiet}
use Rattle.propagation.proofs.Central.{central_cons}
use Rattle.judged_run.specs.Texts.{LegPlan, RunPlan, LogLine, Line, Position, leg_plan, count_of, names_below, values_position, next_position, position_after, IsWhole, log_lines, entries, family}
use Rattle.judged_run.specs.Texts.LogLine.{entry, took_bytes, sent_bytes}
use Rattle.judged_run.specs.Texts.Line.{passed_line, log_line, settle_line, value_line, other_line}
use Rattle.judged_run.specs.Texts.Position.{in_logs, in_values}
use Rattle.judged_run.specs.LineRules.{Rule, leg_plan_shown, LineKeeps, KeepsAt, IsLegalRun}
use Rattle.judged_run.specs.LineRules.Rule.{J3, J4}
use Rattle.judged_run.specs.Runs.{after_lines, EachBlock, EachValue, BlockIsLegal, IsCentral, IsRun}
use Rattle.judged_run.specs.Written.{logs_from, log_of, family_of, values_from, Block, run_lines, unpassed, numbers, LegalBlock, IsWritten}
use Rattle.judged_run.proofs.Fitting.{Fits, fits, if-some, some-same, log-parts}
use Rattle.judged_run.proofs.Sound.{form-later}
use Rattle.judged_run.proofs.Complete.{begins-from}

-- ---- lists

pub from-there : {A : Type 0} (xs : List A) (k : ℕ) (x : A) → slice_get xs k ≡ Some x → drop k xs ≡ x ∷ drop (suc k) xs
from-there [] k x is = absurd (cc is)
from-there (y ∷ xs) zero x is = ap (λ z. z ∷ xs) (some-same y x is)
from-there (y ∷ xs) (suc k) x is = from-there xs k x is

pub from-none : {A : Type 0} (xs : List A) (k : ℕ) → slice_get xs k ≡ None → drop k xs ≡ []
from-none [] zero is = refl
from-none [] (suc k) is = refl
from-none (y ∷ xs) zero is = absurd (cc is)
from-none (y ∷ xs) (suc k) is = from-none xs k is

module _ {V : Type 0} where
  -- a service before the first of these has no log among them
  pub log-before : (n : ℕ) (logs : List (List (Entry V))) (m : ℕ) → m < n → log_of n logs m ≡ []
  log-before n [] m lt = refl
  log-before n (log ∷ logs) m lt =
      cond-false (n == m) log (log_of (suc n) logs m) (apart n m lt) ∙ log-before (suc n) logs m (omega arith)
    where
      apart : (n m : ℕ) → m < n → (n == m) ≡ false
      apart n m lt = elim (cases_Bool (n == m)) [ inl t ↦ (let same : n ≡ m = (Decides-eqb n m).0 t in absurd (omega arith)) | inr f ↦ f ]

module _ {V D : Type 0} (plan : RunPlan V D) where
  -- what is written from the k-th block on
  pub record Tail (k : ℕ) (rest : List (Line V)) : Type 0 where
    pub bs : List (Block V)
    pub legal : AllZip LegalBlock (drop k plan.legs) bs
    pub lines : unpassed rest ≡ run_lines (suc k) bs

  -- from this value line on
  pub record Values (s : LegPlan V D) (k next : ℕ) (rest : List (Line V)) : Type 0 where
    pub left : ℕ
    pub values : List V
    pub bs : List (Block V)
    pub count : next + left ≡ s.count
    pub central : Central s.leg.book (now s.leg.book) (numbers next left) values
    pub legal : AllZip LegalBlock (drop (suc k) plan.legs) bs
    pub lines : unpassed rest ≡ values_from next values ++ run_lines (suc (suc k)) bs

  -- from a line of this service's log on, or the settle line
  pub record Logs (s : LegPlan V D) (k least : ℕ) (past rest : List (Line V)) : Type 0 where
    pub logs : List (List (Entry V))
    pub values : List V
    pub bs : List (Block V)
    pub whole : ℕ → List (Entry V)
    pub count : least + length logs ≡ s.count
    pub legal : Legal s.leg whole
    pub quiet : Quiet s.leg whole
    pub same : (m : ℕ) → whole m ≡ reverse (log_of least logs m) ++ family past m
    pub central : Central s.leg.book (now s.leg.book) (numbers 0 s.count) values
    pub later : AllZip LegalBlock (drop (suc k) plan.legs) bs
    pub lines : unpassed rest ≡ logs_from least logs ++ settle_line (suc k) ∷ (values_from 0 values ++ run_lines (suc (suc k)) bs)

  -- an empty log before
  widen : (s : LegPlan V D) (k least : ℕ) (past rest : List (Line V)) → Logs s k (suc least) past rest → Logs s k least past rest
  widen s k least past rest l = record {
    logs = [] ∷ l.logs;
    values = l.values;
    bs = l.bs;
    whole = l.whole;
    count = (let c : suc least + length l.logs ≡ s.count = l.count in omega arith);
    legal = l.legal;
    quiet = l.quiet;
    same = λ m. l.same m ∙ ap (λ xs. reverse xs ++ family past m) (skipped m);
    central = l.central;
    later = l.later;
    lines = l.lines;
  }
    where
      skipped : (m : ℕ) → log_of (suc least) l.logs m ≡ (if least == m then [] else log_of (suc least) l.logs m)
      skipped m =
          elim (cases_Bool (least == m)) [
            | inl t ↦ (let e : least ≡ m = (Decides-eqb least m).0 t in log-before (suc least) l.logs m (omega arith) ∙ sym (cond-true (least == m) [] (log_of (suc least) l.logs m) t))
            | inr f ↦ sym (cond-false (least == m) [] (log_of (suc least) l.logs m) f)
          ]

  widen-to : (d : ℕ) (s : LegPlan V D) (k least n : ℕ) (past rest : List (Line V)) → least + d ≡ n → Logs s k n past rest → Logs s k least past rest
  widen-to zero s k least n past rest e l = subst (λ i. Logs s k i past rest) (let same : n ≡ least = omega arith in same) l
  widen-to (suc d) s k least n past rest e l = widen s k least past rest (widen-to d s k (suc least) n past rest (omega arith) l)

  -- ---- what is written from where the form stands

  abbrev pub Result : List (Line V) → List (Line V) → Position → Type 0
  Result past rest (in_logs k least) = ((s : LegPlan V D) → leg_plan plan k ≡ Some s → Logs s k least past rest) × (leg_plan plan k ≡ None → unpassed rest ≡ [])
  Result past rest (in_values k next) = (s : LegPlan V D) → leg_plan plan k ≡ Some s → Values s k next rest

  -- before a block
  tail-of : (k : ℕ) (past rest : List (Line V)) → ((m : ℕ) → log_lines m past ≡ []) → Result past rest (in_logs k 0) → Tail k rest
  tail-of k past rest none_said (there, gone) = go (leg_plan plan k) refl
    where
      go : (o : Option (LegPlan V D)) → leg_plan plan k ≡ o → Tail k rest
      go None is = record { bs = []; legal = subst (λ ss. AllZip LegalBlock ss []) (sym (from-none plan.legs k is)) tt; lines = gone is }
      go (Some s) is =
          let l = there s is in
          let path : ◌≡◌ {A = ℕ → List (Entry V)} l.whole (family_of l.logs) = λ i m. (l.same m ∙ ap (λ xs. reverse (log_of 0 l.logs m) ++ entries xs) (none_said m) ∙ append-nil (reverse (log_of 0 l.logs m))) i in
          record {
            bs = record { logs = l.logs; values = l.values } ∷ l.bs;
            legal = subst (λ ss. AllZip LegalBlock ss (record { logs = l.logs; values = l.values } ∷ l.bs)) (sym (from-there plan.legs k s is))
                (record { each = (let c : 0 + length l.logs ≡ s.count = l.count in omega arith); legal = subst (λ (f : ℕ → List (Entry V)). Legal s.leg f) path l.legal; quiet = subst (λ (f : ℕ → List (Entry V)). Quiet s.leg f) path l.quiet; central = l.central }, l.later);
            lines = l.lines;
          }

  values-of : (s : LegPlan V D) (k next : ℕ) (past rest : List (Line V)) → leg_plan plan k ≡ Some s → ((m : ℕ) → log_lines m past ≡ []) → Result past rest (values_position (count_of (leg_plan plan k)) k next) → Values s k next rest
  values-of s k next past rest is none_said r =
      elim (cases_Bool (next == count_of (leg_plan plan k))) [
        | inl t ↦
            (let e : next ≡ s.count = (Decides-eqb next (count_of (leg_plan plan k))).0 t ∙ ap (λ o. count_of o) is in
            let tail = tail-of (suc k) past rest none_said (subst (λ f. Result past rest f) (cond-true (next == count_of (leg_plan plan k)) (in_logs (suc k) 0) (in_values k next) t) r) in
            record { left = 0; values = []; bs = tail.bs; count = omega arith; central = none; legal = tail.legal; lines = tail.lines })
        | inr f ↦ subst (λ st. Result past rest st) (cond-false (next == count_of (leg_plan plan k)) (in_logs (suc k) 0) (in_values k next) f) r s is
      ]

  -- the form stays within the services
  shows-least : (count k next j least : ℕ) → values_position count k next ≡ in_logs j least → least ≡ 0
  shows-least count k next j least e = go (next == count) e
    where
      go : (b : Bool) → (if b then in_logs (suc k) 0 else in_values k next) ≡ in_logs j least → least ≡ 0
      go true e = cc e
      go false e = absurd (cc e)

  pub least-within : (past : List (Line V)) (k least : ℕ) (s : LegPlan V D) → position_after plan past ≡ Some (in_logs k least) → leg_plan plan k ≡ Some s → least ≤ s.count
  least-within [] k least s is there = let e : in_logs 0 0 ≡ in_logs k least = some-same (in_logs 0 0) (in_logs k least) is in let z : least ≡ 0 = cc e in omega arith
  least-within (x ∷ past) k least s is there = go x (position_after plan past) refl is (λ i. least-within past k least s i there)
    where
      go : (x : Line V) (o : Option Position) → position_after plan past ≡ o → option_and_then (λ f. next_position plan f x) o ≡ Some (in_logs k least) → (position_after plan past ≡ Some (in_logs k least) → least ≤ s.count) → least ≤ s.count
      go x None before e earlier = absurd (cc e)
      go passed_line (Some st) before e earlier = earlier (before ∙ e)
      go (log_line n y) (Some (in_logs j low)) before e earlier =
          let (t, same) = if-some _ (in_logs j n) (in_logs k least) e in
          let at : j ≡ k = cc same in
          let at_n : n ≡ least = cc same in
          let lt : n < count_of (leg_plan plan j) = (log-parts low n (count_of (leg_plan plan j)) y t).1 in
          let c : count_of (leg_plan plan j) ≡ s.count = ap (λ i. count_of (leg_plan plan i)) at ∙ ap (λ o. count_of o) there in
          omega arith
      go (log_line n y) (Some (in_values j low)) before e earlier = absurd (cc e)
      go (settle_line i) (Some (in_logs j low)) before e earlier =
          let same = (if-some _ (values_position (count_of (leg_plan plan j)) j 0) (in_logs k least) e).1 in
          let z : least ≡ 0 = shows-least (count_of (leg_plan plan j)) j 0 k least same in omega arith
      go (settle_line i) (Some (in_values j low)) before e earlier = absurd (cc e)
      go (value_line n v) (Some (in_logs j low)) before e earlier = absurd (cc e)
      go (value_line n v) (Some (in_values j low)) before e earlier =
          let same = (if-some _ (values_position (count_of (leg_plan plan j)) j (suc low)) (in_logs k least) e).1 in
          let z : least ≡ 0 = shows-least (count_of (leg_plan plan j)) j (suc low) k least same in omega arith
      go other_line (Some (in_logs j low)) before e earlier = absurd (cc e)
      go other_line (Some (in_values j low)) before e earlier = absurd (cc e)

  -- a log line
  logged-written : (s : LegPlan V D) (k n : ℕ) (e : Entry V) (past ahead : List (Line V)) → n < s.count → Logs s k n (log_line n (entry e) ∷ past) ahead → Logs s k n past (log_line n (entry e) ∷ ahead)
  logged-written s k n e past ahead lt l = go l.logs refl
    where
      go : (ls : List (List (Entry V))) → l.logs ≡ ls → Logs s k n past (log_line n (entry e) ∷ ahead)
      go [] is = let c : n + length l.logs ≡ s.count = l.count in let z : length l.logs ≡ 0 = ap (λ xs. length xs) is in absurd (omega arith)
      go (log ∷ logs) is = record {
        logs = (e ∷ log) ∷ logs;
        values = l.values;
        bs = l.bs;
        whole = l.whole;
        count = ap (λ xs. n + length xs) (sym is) ∙ l.count;
        legal = l.legal;
        quiet = l.quiet;
        same = λ m. l.same m ∙ ap (λ ls. reverse (log_of n ls m) ++ family (log_line n (entry e) ∷ past) m) is ∙ turned m (n == m);
        central = l.central;
        later = l.later;
        lines = ap (λ xs. log_line n (entry e) ∷ xs) (l.lines ∙ ap (λ ls. logs_from n ls ++ settle_line (suc k) ∷ (values_from 0 l.values ++ run_lines (suc (suc k)) l.bs)) is);
      }
        where
          turned : (m : ℕ) (b : Bool) →
              reverse (if b then log else log_of (suc n) logs m) ++ entries (if b then entry e ∷ log_lines m past else log_lines m past) ≡ reverse (if b then e ∷ log else log_of (suc n) logs m) ++ family past m
          turned m true = sym (ap (λ xs. xs ++ family past m) (reverse-append (e ∷ []) log) ∙ append_assoc (reverse log) (e ∷ []) (family past m))
          turned m false = refl

  written-line : (past : List (Line V)) (x : Line V) (ahead : List (Line V)) (st after : Position) → position_after plan past ≡ Some st → next_position plan st x ≡ Some after → EachBlock BlockIsLegal plan past (x ∷ ahead) → EachValue IsCentral plan past (x ∷ ahead) →
      ((rule : Rule) → LineKeeps plan past (x ∷ ahead) rule) → Result (x ∷ past) ahead after → Result past (x ∷ ahead) st
  written-line past passed_line ahead st after is next legal central kept r =
      go st (subst (λ f. Result (passed_line ∷ past) ahead f) (sym (some-same st after next)) r)
    where
      go : (st : Position) → Result (passed_line ∷ past) ahead st → Result past (passed_line ∷ ahead) st
      go (in_logs k least) r = (
        λ s there. let l = r.0 s there in
            record { logs = l.logs; values = l.values; bs = l.bs; whole = l.whole; count = l.count; legal = l.legal; quiet = l.quiet; same = l.same; central = l.central; later = l.later; lines = l.lines },
        r.1,
      )
      go (in_values k next_n) r = λ s there. let l = r s there in record { left = l.left; values = l.values; bs = l.bs; count = l.count; central = l.central; legal = l.legal; lines = l.lines }
  written-line past (log_line n y) ahead (in_logs k least) after is next legal central kept r = (
    λ s there.
        let c : count_of (leg_plan plan k) ≡ s.count = ap (λ o. count_of o) there in
        widen-to (n - least) s k least n past (log_line n y ∷ ahead) (let le : least ≤ n = parts.0 in omega arith) (from-entry s there (let lt : n < count_of (leg_plan plan k) = parts.1 in omega arith) y refl),
    λ gone. let c : count_of (leg_plan plan k) ≡ 0 = ap (λ o. count_of o) gone in let lt : n < count_of (leg_plan plan k) = parts.1 in absurd (omega arith),
  )
    where
      fit : Fits plan past (in_logs k least)
      fit = fits plan past (in_logs k least) is

      test : ((leb least n && (ltb n (count_of (leg_plan plan k)) && names_below (count_of (leg_plan plan k)) y)) ≡ true) × (in_logs k n ≡ after)
      test = if-some _ (in_logs k n) after next

      parts : (least ≤ n) × (n < count_of (leg_plan plan k)) × (names_below (count_of (leg_plan plan k)) y ≡ true)
      parts = log-parts least n (count_of (leg_plan plan k)) y test.0

      from-entry : (s : LegPlan V D) → leg_plan plan k ≡ Some s → n < s.count → (z : LogLine V) → z ≡ y → Logs s k n past (log_line n y ∷ ahead)
      from-entry s there lt (took_bytes p) e = absurd (subst (λ w. LineKeeps plan past (log_line n w ∷ ahead) J3) (sym e) (kept J3) s (ap (λ i. leg_plan plan i) fit.0 ∙ there))
      from-entry s there lt (sent_bytes q) e = absurd (subst (λ w. LineKeeps plan past (log_line n w ∷ ahead) J4) (sym e) (kept J4) s (ap (λ i. leg_plan plan i) fit.0 ∙ there)).0
      from-entry s there lt (entry x) e =
          subst (λ w. Logs s k n past (log_line n w ∷ ahead)) e
          (logged-written s k n x past ahead lt (subst (λ w. Logs s k n (log_line n w ∷ past) ahead) (sym e) ((subst (λ f. Result (log_line n y ∷ past) ahead f) (sym test.1) r).0 s there)))
  written-line past (log_line n y) ahead (in_values k next_n) after is next legal central kept r = absurd (cc next)
  written-line past (settle_line j) ahead (in_logs k least) after is next legal central kept r = (
    λ s there.
        let (t, same) = if-some ((j == suc k) && is_some (leg_plan plan k)) (values_position (count_of (leg_plan plan k)) k 0) after next in
        let same_number : j ≡ suc k = (Decides-eqb j (suc k)).0 (and_parts (j == suc k) (is_some (leg_plan plan k)) t).0 in
        let v = values-of s k 0 (settle_line j ∷ past) ahead there (λ m. refl) (subst (λ f. Result (settle_line j ∷ past) ahead f) (sym same) r) in
        let fit : Fits plan past (in_logs k least) = fits plan past (in_logs k least) is in
        let block = legal.0 s (ap (λ i. leg_plan plan i) fit.0 ∙ there) in
        let le : least ≤ s.count = least-within past k least s is there in
        let from_0 : 0 + v.left ≡ s.count = v.count in let all : v.left ≡ s.count = omega arith in
        widen-to (s.count - least) s k least s.count past (settle_line j ∷ ahead) (omega arith)
        (record {
          logs = [];
          values = v.values;
          bs = v.bs;
          whole = family past;
          count = omega arith;
          legal = block.legal;
          quiet = block.quiet;
          same = λ m. refl;
          central = subst (λ i. Central s.leg.book (now s.leg.book) (numbers 0 i) v.values) all v.central;
          later = v.legal;
          lines = ap₂ (λ i xs. settle_line i ∷ xs) same_number v.lines;
        }),
    λ gone. let (t, same) = if-some ((j == suc k) && is_some (leg_plan plan k)) (values_position (count_of (leg_plan plan k)) k 0) after next in
        absurd (cc (sym (ap (λ o. is_some o) gone) ∙ (and_parts (j == suc k) (is_some (leg_plan plan k)) t).1)),
  )
  written-line past (settle_line j) ahead (in_values k next_n) after is next legal central kept r = absurd (cc next)
  written-line past (value_line n v) ahead (in_logs k least) after is next legal central kept r = absurd (cc next)
  written-line past (value_line n v) ahead (in_values k next_n) after is next legal central kept r = λ s there.
      let (t, same) = if-some (n == next_n) (values_position (count_of (leg_plan plan k)) k (suc next_n)) after next in
      let at : n ≡ next_n = (Decides-eqb n next_n).0 t in
      let fit : Fits plan past (in_values k next_n) = fits plan past (in_values k next_n) is in
      let w = values-of s k (suc next_n) (value_line n v ∷ past) ahead there (λ m. refl) (subst (λ f. Result (value_line n v ∷ past) ahead f) (sym same) r) in
      let here : IsCentral s n v = central.0 s (ap (λ i. leg_plan_shown plan i) fit.0 ∙ there) in
      record {
        left = suc w.left;
        values = v ∷ w.values;
        bs = w.bs;
        count = (let c : suc next_n + w.left ≡ s.count = w.count in omega arith);
        central = central_cons s.leg.book (now s.leg.book) (subst (λ i. IsCentral s i v) at here) w.central;
        legal = w.legal;
        lines = ap₂ (λ i xs. value_line i v ∷ xs) at w.lines;
      }
  written-line past other_line ahead (in_logs k least) after is next legal central kept r = absurd (cc next)
  written-line past other_line ahead (in_values k next_n) after is next legal central kept r = absurd (cc next)

  past-blocks : (past : List (Line V)) (x : Line V) (ahead : List (Line V)) → EachBlock BlockIsLegal plan past (x ∷ ahead) → EachBlock BlockIsLegal plan (x ∷ past) ahead
  past-blocks past passed_line ahead h = h
  past-blocks past (log_line n y) ahead h = h
  past-blocks past (settle_line j) ahead h = h.1
  past-blocks past (value_line n v) ahead h = h
  past-blocks past other_line ahead h = h

  past-values : (past : List (Line V)) (x : Line V) (ahead : List (Line V)) → EachValue IsCentral plan past (x ∷ ahead) → EachValue IsCentral plan (x ∷ past) ahead
  past-values past passed_line ahead h = h
  past-values past (log_line n y) ahead h = h
  past-values past (settle_line j) ahead h = h
  past-values past (value_line n v) ahead h = h.1
  past-values past other_line ahead h = h

  written-from : (rest past : List (Line V)) (st : Position) → position_after plan past ≡ Some st → IsWhole plan (after_lines past rest) → EachBlock BlockIsLegal plan past rest → EachValue IsCentral plan past rest → ((k : ℕ) (rule : Rule) → KeepsAt plan past rest k rule) → Result past rest st
  written-from [] past st is whole legal central all =
      subst (λ f. Result past [] f) (some-same (in_logs (length plan.legs) whole.0) st (sym whole.1 ∙ is))
      (λ s there. let lt : length plan.legs < length plan.legs = slice_get_within plan.legs (length plan.legs) s there in absurd (omega arith), λ gone. refl)
  written-from (x ∷ ahead) past st is whole legal central all =
      let (after, at) = begins-from plan ahead (x ∷ past) (in_logs (length plan.legs) whole.0, whole.1) in
      written-line past x ahead st after is (form-later plan past x st after is at) legal central (λ rule. all 0 rule)
      (written-from ahead (x ∷ past) after at whole (past-blocks past x ahead legal) (past-values past x ahead central) (λ k rule. all (suc k) rule))

  pub run-written : (lines : List (Line V)) → IsRun plan lines → IsLegalRun plan lines → IsWritten plan lines
  run-written lines run all =
      let tail = tail-of 0 [] lines (λ m. refl) (written-from lines [] (in_logs 0 0) refl run.whole run.legal run.central all) in (tail.bs, tail.legal, tail.lines)
