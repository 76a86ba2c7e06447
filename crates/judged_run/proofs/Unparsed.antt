-- What is written block by block has the form of a run, and its blocks are those of the lines.
use Rattle.std.proofs.Common.{◌≡◌, ℕ, zero, suc, ◌+◌, ◌<◌, ◌≤◌, Bool, true, false, ◌&&◌, leb, ltb, ◌==◌, is_some, List, [], ◌∷◌, ◌++◌, map, length, Option, Some, None, reverse, slice_get, inl, inr, refl, sym, ap, ◌∙◌, subst, arith, append_assoc, append-nil, le-leb, lt-ltb, if◌then◌else◌}
use Rattle.std.specs.Prelude.{option_and_then, drop}
use Rattle.std.specs.List.{AllZip, list_all}
use Rattle.std.proofs.lemmas.Bool.{cases_Bool, cond-true, cond-false, and_from, and_parts}
use Rattle.std.proofs.lemmas.Bool.Decides.{Decides-eqb}
use Rattle.std.proofs.lemmas.List.{reverse-append}
use Rattle.std.proofs.lemmas.Option.{slice_get_within}
use Rattle.propagation.specs.Lists.{Has}
use Rattle.propagation.specs.History.{Central, now}
use Rattle.propagation.specs.History.Central.{none, more}
use Rattle.propagation.specs.Stamps.{keys, clock_of}
use Rattle.propagation.specs.Logs.{Entry, Frame, frames_taken, frames_sent}
use Rattle.propagation.specs.Logs.Entry.{Did, Took, Computed, Sent}
use Rattle.propagation.specs.Rules.{Legal, Quiet}
use Rattle.propagation.proofs.Keys.{rising-pos}
use Rattle.propagation.proofs.Lists.{slice_get-Has, Has-older, Has-append_left, Has-append_right}
use Rattle.propagation.proofs.Truth.{computations_are_true}
use Rattle.propagation.proofs.Naming.{frames_name_born}
use Rattle.propagation.proofs.ByTest.{by_test}
use Rattle.judged_run.specs.Texts.{LegPlan, RunPlan, IsLegPlan, IsRunPlan, Line, Position, leg_plan, count_of, names_below, values_position, next_position, position_after, IsWhole, log_lines, entries, family, all_frames}
use Rattle.judged_run.specs.Texts.LogLine.{entry}
use Rattle.judged_run.specs.Texts.Line.{passed_line, log_line, settle_line, value_line, other_line}
use Rattle.judged_run.specs.Texts.Position.{in_logs, in_values}
use Rattle.judged_run.specs.LineRules.{leg_plan_shown}
use Rattle.judged_run.specs.Runs.{after_lines, EachBlock, EachValue, BlockIsLegal, IsCentral, IsRun}
use Rattle.judged_run.specs.Written.{logs_from, log_of, family_of, values_from, Block, run_lines, unpassed, numbers, LegalBlock, IsWritten}
use Rattle.judged_run.proofs.Fitting.{Fits, fits, if-some, some-same}
use Rattle.judged_run.proofs.Sound.{form-next}
use Rattle.judged_run.proofs.Parsed.{from-there, from-none, log-before, Tail, Values, Logs, Result}

-- ---- a legal family names only the services that are declared

has-taken : {V : Type 0} (s : ℕ) (f : Frame V) (log : List (Entry V)) → Has log (Took s f) → Has (frames_taken s log) f
has-taken s f [] h = absurd h
has-taken s f (Did c ∷ before) h = elim h [ inl e ↦ absurd (cc e) | inr k ↦ has-taken s f before k ]
has-taken s f (Took r i ∷ before) h =
    elim h [
      | inl e ↦ (let same_s : r ≡ s = cc e in let same_f : i ≡ f = cc e in
          subst (λ (fs : List (Frame _)). Has fs f) (sym (cond-true (r == s) (i ∷ frames_taken s before) (frames_taken s before) ((Decides-eqb r s).1 same_s))) (inl same_f))
      | inr k ↦ by_test (r == s) (λ fs. Has fs f) (λ t. inr (has-taken s f before k)) (λ t. has-taken s f before k)
    ]
has-taken s f (Computed v S picks ∷ before) h = elim h [ inl e ↦ absurd (cc e) | inr k ↦ has-taken s f before k ]
has-taken s f (Sent r i ∷ before) h = elim h [ inl e ↦ absurd (cc e) | inr k ↦ has-taken s f before k ]

has-sent : {V : Type 0} (q : ℕ) (f : Frame V) (log : List (Entry V)) → Has log (Sent q f) → Has (frames_sent q log) f
has-sent q f [] h = absurd h
has-sent q f (Did c ∷ before) h = elim h [ inl e ↦ absurd (cc e) | inr k ↦ has-sent q f before k ]
has-sent q f (Took r i ∷ before) h = elim h [ inl e ↦ absurd (cc e) | inr k ↦ has-sent q f before k ]
has-sent q f (Computed v S picks ∷ before) h = elim h [ inl e ↦ absurd (cc e) | inr k ↦ has-sent q f before k ]
has-sent q f (Sent r i ∷ before) h =
    elim h [
      | inl e ↦ (let same_q : r ≡ q = cc e in let same_f : i ≡ f = cc e in
          subst (λ (fs : List (Frame _)). Has fs f) (sym (cond-true (r == q) (i ∷ frames_sent q before) (frames_sent q before) ((Decides-eqb r q).1 same_q))) (inl same_f))
      | inr k ↦ by_test (r == q) (λ fs. Has fs f) (λ t. inr (has-sent q f before k)) (λ t. has-sent q f before k)
    ]

module _ {V D : Type 0} (has_type : ℕ → V → Bool) (s : LegPlan V D) (good : IsLegPlan has_type s) (logs : ℕ → List (Entry V)) (legal : Legal s.leg logs) where
  below : (q : ℕ) → 0 < now s.leg.book q → ltb q s.count ≡ true
  below q pos =
      elim (cases_Bool (ltb q s.count)) [
        | inl t ↦ t
        | inr f ↦ (let apart : q < s.count → ⊥ = λ lt. cc (f, lt-ltb q s.count lt) in let le : s.count ≤ q = omega arith in let zero_is : now s.leg.book q ≡ 0 = good.unborn q le in absurd (omega arith))
      ]

  pub names-declared : (n : ℕ) (x : Entry V) → Has (logs n) x → names_below s.count (entry x) ≡ true
  names-declared n (Did c) h = refl
  names-declared n (Took p f) h =
      let (a, b, c) = frames_name_born V D s.leg good.rank logs good.accepted legal n p f (Has-older (frames_taken p (logs n)) (frames_sent n (logs p)) f (legal.in_order n p) (has-taken p f (logs n) h)) in below p b
  names-declared n (Computed v S picks) h =
      let (truth, reached) = computations_are_true V D s.leg good.rank logs good.accepted legal n v S picks h in
      each (keys S) (λ q k. below q (let pos : 0 < clock_of S q = rising-pos 0 S truth.rising q k in let le : clock_of S q ≤ now s.leg.book q = truth.in_time q in omega arith))
    where
      each : (qs : List ℕ) → ((q : ℕ) → Has qs q → ltb q s.count ≡ true) → list_all (λ q. ltb q s.count) qs ≡ true
      each [] all = refl
      each (q ∷ qs) all = and_from (ltb q s.count) (list_all (λ q. ltb q s.count) qs) (all q (inl refl)) (each qs (λ r k. all r (inr k)))
  names-declared n (Sent q f) h =
      let (a, b, c) = frames_name_born V D s.leg good.rank logs good.accepted legal q n f (has-sent q f (logs n) h) in below q a

-- ---- lists

not-empty : {A : Type 0} (xs : List A) (y : A) (ys : List A) → xs ++ y ∷ ys ≡ [] → ⊥
not-empty [] y ys e = cc e
not-empty (x ∷ xs) y ys e = cc e

pub there-or-not : {A : Type 0} (xs : List A) (k : ℕ) → k < length xs → (x : A) × (slice_get xs k ≡ Some x)
there-or-not [] k lt = absurd (omega arith)
there-or-not (x ∷ xs) zero lt = (x, refl)
there-or-not (x ∷ xs) (suc k) lt = there-or-not xs k (omega arith)

Has-reverse : {A : Type 0} (xs : List A) (x : A) → Has (reverse (x ∷ xs)) x
Has-reverse xs x = subst (λ ys. Has ys x) (sym (reverse-append (x ∷ []) xs)) (Has-append_right (reverse xs) (x ∷ []) x (inl refl))

module _ {V D : Type 0} (plan : RunPlan V D) where
  -- the form stays within the legs
  abbrev pub Inside : Position → Type 0
  Inside (in_logs k least) = k ≤ length plan.legs
  Inside (in_values k next) = k < length plan.legs

  shows-inside : (count k next : ℕ) → k < length plan.legs → Inside (values_position count k next)
  shows-inside count k next lt = by_test (next == count) Inside (λ t. let le : suc k ≤ length plan.legs = omega arith in le) (λ f. lt)

  pub inside : (past : List (Line V)) (st : Position) → position_after plan past ≡ Some st → Inside st
  inside [] st is = subst Inside (some-same (in_logs 0 0) st is) (let le : 0 ≤ length plan.legs = omega arith in le)
  inside (x ∷ past) st is = go x (position_after plan past) refl is (λ f at. inside past f at)
    where
      stage-within : (o : Option (LegPlan V D)) (k : ℕ) → leg_plan plan k ≡ o → is_some o ≡ true → k < length plan.legs
      stage-within None k e t = absurd (cc t)
      stage-within (Some s) k e t = slice_get_within plan.legs k s e

      go : (x : Line V) (o : Option Position) → position_after plan past ≡ o → option_and_then (λ f. next_position plan f x) o ≡ Some st → ((f : Position) → position_after plan past ≡ Some f → Inside f) → Inside st
      go x None before e earlier = absurd (cc e)
      go passed_line (Some f) before e earlier = subst Inside (some-same f st e) (earlier f before)
      go (log_line n y) (Some (in_logs j low)) before e earlier = subst Inside (if-some _ (in_logs j n) st e).1 (earlier (in_logs j low) before)
      go (log_line n y) (Some (in_values j low)) before e earlier = absurd (cc e)
      go (settle_line i) (Some (in_logs j low)) before e earlier =
          let (t, same) = if-some ((i == suc j) && is_some (leg_plan plan j)) (values_position (count_of (leg_plan plan j)) j 0) st e in
          subst Inside same (shows-inside (count_of (leg_plan plan j)) j 0 (stage-within (leg_plan plan j) j refl (and_parts (i == suc j) (is_some (leg_plan plan j)) t).1))
      go (settle_line i) (Some (in_values j low)) before e earlier = absurd (cc e)
      go (value_line n v) (Some (in_logs j low)) before e earlier = absurd (cc e)
      go (value_line n v) (Some (in_values j low)) before e earlier =
          subst Inside (if-some (n == low) (values_position (count_of (leg_plan plan j)) j (suc low)) st e).1 (shows-inside (count_of (leg_plan plan j)) j (suc low) (earlier (in_values j low) before))
      go other_line (Some (in_logs j low)) before e earlier = absurd (cc e)
      go other_line (Some (in_values j low)) before e earlier = absurd (cc e)

  -- ---- what is written, from where the form stands

  -- an empty log less
  narrow : (s : LegPlan V D) (k least : ℕ) (past rest : List (Line V)) (l : Logs plan s k least past rest) (logs : List (List (Entry V))) → l.logs ≡ [] ∷ logs → Logs plan s k (suc least) past rest
  narrow s k least past rest l logs is = record {
    logs = logs;
    values = l.values;
    bs = l.bs;
    whole = l.whole;
    count = (let c : least + length l.logs ≡ s.count = l.count in let n : length l.logs ≡ suc (length logs) = ap (λ xs. length xs) is in omega arith);
    legal = l.legal;
    quiet = l.quiet;
    same = λ m. l.same m ∙ ap (λ ls. reverse (log_of least ls m) ++ family past m) is ∙ ap (λ xs. reverse xs ++ family past m) (skipped m);
    central = l.central;
    later = l.later;
    lines = l.lines ∙ ap (λ ls. logs_from least ls ++ settle_line (suc k) ∷ (values_from 0 l.values ++ run_lines (suc (suc k)) l.bs)) is;
  }
    where
      skipped : (m : ℕ) → (if least == m then [] else log_of (suc least) logs m) ≡ log_of (suc least) logs m
      skipped m =
          elim (cases_Bool (least == m)) [
            | inl t ↦ (let e : least ≡ m = (Decides-eqb least m).0 t in cond-true (least == m) [] (log_of (suc least) logs m) t ∙ sym (log-before (suc least) logs m (omega arith)))
            | inr f ↦ cond-false (least == m) [] (log_of (suc least) logs m) f
          ]

  narrow-logs : (s : LegPlan V D) (k least : ℕ) (past rest : List (Line V)) (l : Logs plan s k least past rest) (logs : List (List (Entry V))) (is : l.logs ≡ [] ∷ logs) → (narrow s k least past rest l logs is).logs ≡ logs
  unfolding narrow
  narrow-logs s k least past rest l logs is = refl

  tail-back : (k : ℕ) (past rest : List (Line V)) → ((m : ℕ) → log_lines m past ≡ []) → Tail plan k rest → Result plan past rest (in_logs k 0)
  tail-back k past rest none_said t = (there, gone)
    where
      there : (s : LegPlan V D) → leg_plan plan k ≡ Some s → Logs plan s k 0 past rest
      there s is = go t.bs refl
        where
          go : (bs : List (Block V)) → t.bs ≡ bs → Logs plan s k 0 past rest
          go [] e = absurd (subst (λ ss. AllZip LegalBlock ss []) (from-there plan.legs k s is) (subst (λ bs. AllZip LegalBlock (drop k plan.legs) bs) e t.legal))
          go (b ∷ bs) e =
              let (block, later) = subst (λ ss. AllZip LegalBlock ss (b ∷ bs)) (from-there plan.legs k s is) (subst (λ bs. AllZip LegalBlock (drop k plan.legs) bs) e t.legal) in
              record {
                logs = b.logs;
                values = b.values;
                bs = bs;
                whole = family_of b.logs;
                count = (let c : length b.logs ≡ s.count = block.each in omega arith);
                legal = block.legal;
                quiet = block.quiet;
                same = λ m. sym (ap (λ xs. reverse (log_of 0 b.logs m) ++ entries xs) (none_said m) ∙ append-nil (reverse (log_of 0 b.logs m)));
                central = block.central;
                later = later;
                lines = t.lines ∙ ap (λ bs. run_lines (suc k) bs) e;
              }

      gone : leg_plan plan k ≡ None → unpassed rest ≡ []
      gone is = go t.bs refl
        where
          go : (bs : List (Block V)) → t.bs ≡ bs → unpassed rest ≡ []
          go [] e = t.lines ∙ ap (λ bs. run_lines (suc k) bs) e
          go (b ∷ bs) e = absurd (subst (λ ss. AllZip LegalBlock ss (b ∷ bs)) (from-none plan.legs k is) (subst (λ bs. AllZip LegalBlock (drop k plan.legs) bs) e t.legal))

  no-values : (s : LegPlan V D) (next left : ℕ) (values : List V) → left ≡ 0 → Central s.leg.book (now s.leg.book) (numbers next left) values → values ≡ []
  no-values s next left values e c = go values (subst (λ i. Central s.leg.book (now s.leg.book) (numbers next i) values) e c)
    where
      go : (vs : List V) → Central s.leg.book (now s.leg.book) [] vs → vs ≡ []
      go [] c = refl
      go (v ∷ vs) c = elim c [ ]

  values-back : (s : LegPlan V D) (k next : ℕ) (past rest : List (Line V)) → leg_plan plan k ≡ Some s → ((m : ℕ) → log_lines m past ≡ []) → Values plan s k next rest → Result plan past rest (values_position (count_of (leg_plan plan k)) k next)
  values-back s k next past rest is none_said v =
      by_test (next == count_of (leg_plan plan k)) (λ st. Result plan past rest st)
      (λ t.
      let e : next ≡ s.count = (Decides-eqb next (count_of (leg_plan plan k))).0 t ∙ ap (λ o. count_of o) is in
      let c : next + v.left ≡ s.count = v.count in
      let none_left : v.left ≡ 0 = omega arith in
      tail-back (suc k) past rest none_said
      (record { bs = v.bs; legal = v.legal; lines = v.lines ∙ ap (λ vs. values_from next vs ++ run_lines (suc (suc k)) v.bs) (no-values s next v.left v.values none_left v.central) }))
      (λ f s' is'. subst (λ z. Values plan z k next rest) (some-same s s' (sym is ∙ is')) v)

  -- ---- the first of what is written

  data Head (s : LegPlan V D) (k least : ℕ) (past rest : List (Line V)) : Type 0 where
    at_log : (n : ℕ) (x : Entry V) (later : List (Line V)) → least ≤ n → n < s.count → names_below s.count (entry x) ≡ true → unpassed rest ≡ log_line n (entry x) ∷ later →
        ((ahead : List (Line V)) → unpassed ahead ≡ later → Logs plan s k n (log_line n (entry x) ∷ past) ahead) → Head s k least past rest
    at_end : (later : List (Line V)) (whole : ℕ → List (Entry V)) → unpassed rest ≡ settle_line (suc k) ∷ later → ((ahead : List (Line V)) → unpassed ahead ≡ later → Values plan s k 0 ahead) →
        Legal s.leg whole → Quiet s.leg whole → ((m : ℕ) → whole m ≡ family past m) → Head s k least past rest

  head-of : (s : LegPlan V D) (good : IsLegPlan plan.has_type s) (k least : ℕ) (past rest : List (Line V)) (logs : List (List (Entry V))) (n : ℕ) (l : Logs plan s k n past rest) → l.logs ≡ logs → least ≤ n → Head s k least past rest
  head-of s good k least past rest [] n l is le =
      at_end (values_from 0 l.values ++ run_lines (suc (suc k)) l.bs) l.whole
      (l.lines ∙ ap (λ ls. logs_from n ls ++ settle_line (suc k) ∷ (values_from 0 l.values ++ run_lines (suc (suc k)) l.bs)) is)
      (λ ahead e. record { left = s.count; values = l.values; bs = l.bs; count = omega arith; central = l.central; legal = l.later; lines = e })
      l.legal l.quiet
      (λ m. l.same m ∙ ap (λ ls. reverse (log_of n ls m) ++ family past m) is)
  head-of s good k least past rest ([] ∷ logs) n l is le = head-of s good k least past rest logs (suc n) (narrow s k n past rest l logs is) (narrow-logs s k n past rest l logs is) (omega arith)
  head-of s good k least past rest ((x ∷ log) ∷ logs) n l is le =
      at_log n x (map (λ y. log_line n (entry y)) log ++ (logs_from (suc n) logs ++ settle_line (suc k) ∷ (values_from 0 l.values ++ run_lines (suc (suc k)) l.bs))) le
      (let c : n + length l.logs ≡ s.count = l.count in let some : length l.logs ≡ suc (length logs) = ap (λ xs. length xs) is in omega arith)
      (names-declared plan.has_type s good l.whole l.legal n x has)
      (l.lines ∙ ap (λ ls. logs_from n ls ++ settle_line (suc k) ∷ (values_from 0 l.values ++ run_lines (suc (suc k)) l.bs)) is
      ∙ ap (λ ys. log_line n (entry x) ∷ ys) (append_assoc (map (λ y. log_line n (entry y)) log) (logs_from (suc n) logs) (settle_line (suc k) ∷ (values_from 0 l.values ++ run_lines (suc (suc k)) l.bs))))
      (λ ahead e. record {
        logs = log ∷ logs;
        values = l.values;
        bs = l.bs;
        whole = l.whole;
        count = ap (λ xs. n + length xs) (sym is) ∙ l.count;
        legal = l.legal;
        quiet = l.quiet;
        same = λ m. l.same m ∙ ap (λ ls. reverse (log_of n ls m) ++ family past m) is ∙ turned m (n == m);
        central = l.central;
        later = l.later;
        lines = e ∙ sym (append_assoc (map (λ y. log_line n (entry y)) log) (logs_from (suc n) logs) (settle_line (suc k) ∷ (values_from 0 l.values ++ run_lines (suc (suc k)) l.bs)));
      })
    where
      turned : (m : ℕ) (b : Bool) →
          reverse (if b then x ∷ log else log_of (suc n) logs m) ++ family past m ≡ reverse (if b then log else log_of (suc n) logs m) ++ entries (if b then entry x ∷ log_lines m past else log_lines m past)
      turned m true = ap (λ xs. xs ++ family past m) (reverse-append (x ∷ []) log) ∙ append_assoc (reverse log) (x ∷ []) (family past m)
      turned m false = refl

      has : Has (l.whole n) x
      has =
          subst (λ xs. Has xs x) (sym (l.same n ∙ ap (λ ls. reverse (log_of n ls n) ++ family past n) is ∙ ap (λ xs. reverse xs ++ family past n) (cond-true (n == n) (x ∷ log) (log_of (suc n) logs n) ((Decides-eqb n n).1 refl))))
          (Has-append_left (reverse (x ∷ log)) (family past n) x (Has-reverse log x))

  record FirstValue (s : LegPlan V D) (k next : ℕ) (rest : List (Line V)) : Type 0 where
    value : V
    later : List (Line V)
    central : IsCentral s next value
    lines : unpassed rest ≡ value_line next value ∷ later
    behind : (ahead : List (Line V)) → unpassed ahead ≡ later → Values plan s k (suc next) ahead

  first-value : (s : LegPlan V D) (k next : ℕ) (rest : List (Line V)) (v : Values plan s k next rest) → next < s.count → FirstValue s k next rest
  first-value s k next rest v lt = go v.left refl v.central
    where
      go : (left : ℕ) → v.left ≡ left → Central s.leg.book (now s.leg.book) (numbers next v.left) v.values → FirstValue s k next rest
      go zero e c = let n : next + v.left ≡ s.count = v.count in absurd (omega arith)
      go (suc left) e c = found v.values refl (subst (λ i. Central s.leg.book (now s.leg.book) (numbers next i) v.values) e c)
        where
          found : (vs : List V) → v.values ≡ vs → Central s.leg.book (now s.leg.book) (next ∷ numbers (suc next) left) v.values → FirstValue s k next rest
          found vs is c = taken_apart vs (subst (λ ws. Central s.leg.book (now s.leg.book) (next ∷ numbers (suc next) left) ws) is c) is
            where
              taken_apart : (ws : List V) → Central s.leg.book (now s.leg.book) (next ∷ numbers (suc next) left) ws → v.values ≡ ws → FirstValue s k next rest
              taken_apart [] c is = elim c [ ]
              taken_apart (w ∷ ws) (more d cs val rest_c) is = record {
                value = w;
                later = values_from (suc next) ws ++ run_lines (suc (suc k)) v.bs;
                central = more d cs val none;
                lines = v.lines ∙ ap (λ us. values_from next us ++ run_lines (suc (suc k)) v.bs) is;
                behind = λ ahead at. record { left = left; values = ws; bs = v.bs; count = (let n : next + v.left ≡ s.count = v.count in omega arith); central = rest_c; legal = v.legal; lines = at };
              }

  -- ---- the form and the blocks

  abbrev AllFrames : List (Line V) → Type 0
  AllFrames past = (m : ℕ) → all_frames (log_lines m past) ≡ true

  abbrev Concluded : List (Line V) → List (Line V) → Type 0
  Concluded past rest = IsWhole plan (after_lines past rest) × EachBlock BlockIsLegal plan past rest × EachValue IsCentral plan past rest

  module _ (good : IsRunPlan plan) where
    stage-at : (k : ℕ) (s : LegPlan V D) → leg_plan plan k ≡ Some s → IsLegPlan plan.has_type s
    stage-at k s is = good s (slice_get-Has plan.legs k s is)

    -- at the end
    end-of : (past : List (Line V)) (st : Position) → position_after plan past ≡ Some st → Result plan past [] st → Concluded past []
    end-of past (in_logs k least) is r = go (leg_plan plan k) refl
      where
        go : (o : Option (LegPlan V D)) → leg_plan plan k ≡ o → Concluded past []
        go None gone =
            let le : k ≤ length plan.legs = inside past (in_logs k least) is in
            let apart : k < length plan.legs → ⊥ = λ lt. let (s, at) = there-or-not plan.legs k lt in cc (sym at ∙ gone) in
            let e : k ≡ length plan.legs = omega arith in ((least, is ∙ ap (λ i. Some (in_logs i least)) e), tt, tt)
        go (Some s) at = none_left (head-of s (stage-at k s at) k least past [] (r.0 s at).logs least (r.0 s at) refl (let le : least ≤ least = omega arith in le))
          where
            none_left : Head s k least past [] → Concluded past []
            none_left (at_log n x later le lt named e mk) = absurd (cc e)
            none_left (at_end later whole e mk legal quiet same) = absurd (cc e)
    end-of past (in_values k next) is r =
        let fit : Fits plan past (in_values k next) = fits plan past (in_values k next) is in
        let (s, at) = there-or-not plan.legs k (inside past (in_values k next) is) in
        let c : count_of (leg_plan plan k) ≡ s.count = ap (λ o. count_of o) at in
        let lt : next < count_of (leg_plan plan k) = fit.1 in
        let f = first-value s k next [] (r s at) (omega arith) in absurd (cc f.lines)

    -- at a line that is not passed over
    line-of : (past : List (Line V)) (x : Line V) (ahead : List (Line V)) (st : Position) → unpassed (x ∷ ahead) ≡ x ∷ unpassed ahead → position_after plan past ≡ Some st → AllFrames past → Result plan past (x ∷ ahead) st →
        ((before : List (Line V)) (after : Position) → position_after plan before ≡ Some after → AllFrames before → Result plan before ahead after → Concluded before ahead) → Concluded past (x ∷ ahead)
    line-of past x ahead (in_logs k least) whole_line is frames r rest = go (leg_plan plan k) refl
      where
        go : (o : Option (LegPlan V D)) → leg_plan plan k ≡ o → Concluded past (x ∷ ahead)
        go None gone = absurd (cc (sym whole_line ∙ r.1 gone))
        go (Some s) at = from_head (head-of s (stage-at k s at) k least past (x ∷ ahead) (r.0 s at).logs least (r.0 s at) refl (let le : least ≤ least = omega arith in le))
          where
            count_is : count_of (leg_plan plan k) ≡ s.count
            count_is = ap (λ o. count_of o) at

            logged_on : (n : ℕ) (y : Entry V) → least ≤ n → n < s.count → names_below s.count (entry y) ≡ true → Logs plan s k n (log_line n (entry y) ∷ past) ahead → Concluded past (log_line n (entry y) ∷ ahead)
            logged_on n y le lt named l =
                let test : (leb least n && (ltb n (count_of (leg_plan plan k)) && names_below (count_of (leg_plan plan k)) (entry y))) ≡ true =
                subst (λ c. (leb least n && (ltb n c && names_below c (entry y))) ≡ true) (sym count_is) (and_from (leb least n) (ltb n s.count && names_below s.count (entry y)) (le-leb least n le) (and_from (ltb n s.count) (names_below s.count (entry y)) (lt-ltb n s.count lt) named)) in
                rest (log_line n (entry y) ∷ past) (in_logs k n) (form-next plan past (log_line n (entry y)) (in_logs k least) (in_logs k n) is (cond-true _ (Some (in_logs k n)) None test))
                (λ m. by_test (n == m) (λ xs. all_frames xs ≡ true) (λ t. frames m) (λ f. frames m))
                (λ s' at'. subst (λ z. Logs plan z k n (log_line n (entry y) ∷ past) ahead) (some-same s s' (sym at ∙ at')) l, λ gone. absurd (cc (sym at ∙ gone)))

            settled_on : (values : Values plan s k 0 ahead) (f : ℕ → List (Entry V)) → Legal s.leg f → Quiet s.leg f → ((m : ℕ) → f m ≡ family past m) → Concluded past (settle_line (suc k) ∷ ahead)
            settled_on values f legal quiet same =
                let fit : Fits plan past (in_logs k least) = fits plan past (in_logs k least) is in
                let path : ◌≡◌ {A = ℕ → List (Entry V)} f (family past) = λ i m. same m i in
                let next : next_position plan (in_logs k least) (settle_line (suc k)) ≡ Some (values_position (count_of (leg_plan plan k)) k 0) =
                cond-true _ (Some (values_position (count_of (leg_plan plan k)) k 0)) None (and_from (suc k == suc k) (is_some (leg_plan plan k)) ((Decides-eqb (suc k) (suc k)).1 refl) (ap (λ o. is_some o) at)) in
                let (w, b, v) = rest (settle_line (suc k) ∷ past) (values_position (count_of (leg_plan plan k)) k 0) (form-next plan past (settle_line (suc k)) (in_logs k least) (values_position (count_of (leg_plan plan k)) k 0) is next) (λ m. refl)
                (values-back s k 0 (settle_line (suc k) ∷ past) ahead at (λ m. refl) values) in (
                  w,
                  (
                    λ s' at'. subst (λ z. BlockIsLegal z past) (some-same s s' (sym at ∙ ap (λ i. leg_plan plan i) (sym fit.0) ∙ at'))
                        (record { frames = frames; legal = subst (λ (g : ℕ → List (Entry V)). Legal s.leg g) path legal; quiet = subst (λ (g : ℕ → List (Entry V)). Quiet s.leg g) path quiet }),
                    b,
                  ),
                  v,
                )

            from_head : Head s k least past (x ∷ ahead) → Concluded past (x ∷ ahead)
            from_head (at_log n y later le lt named e mk) =
                let both : x ∷ unpassed ahead ≡ log_line n (entry y) ∷ later = sym whole_line ∙ e in
                let first : x ≡ log_line n (entry y) = cc both in
                let others : unpassed ahead ≡ later = cc both in
                subst (λ z. Concluded past (z ∷ ahead)) (sym first) (logged_on n y le lt named (mk ahead others))
            from_head (at_end later f e mk legal quiet same) =
                let both : x ∷ unpassed ahead ≡ settle_line (suc k) ∷ later = sym whole_line ∙ e in
                let first : x ≡ settle_line (suc k) = cc both in
                let others : unpassed ahead ≡ later = cc both in
                subst (λ z. Concluded past (z ∷ ahead)) (sym first) (settled_on (mk ahead others) f legal quiet same)
    line-of past x ahead (in_values k next) whole_line is frames r rest =
        let fit : Fits plan past (in_values k next) = fits plan past (in_values k next) is in
        let (s, at) = there-or-not plan.legs k (inside past (in_values k next) is) in
        let c : count_of (leg_plan plan k) ≡ s.count = ap (λ o. count_of o) at in
        let lt : next < count_of (leg_plan plan k) = fit.1 in
        let f = first-value s k next (x ∷ ahead) (r s at) (omega arith) in
        let both : x ∷ unpassed ahead ≡ value_line next f.value ∷ f.later = sym whole_line ∙ f.lines in
        let first : x ≡ value_line next f.value = cc both in
        let others : unpassed ahead ≡ f.later = cc both in
        let (w, b, v) = rest (value_line next f.value ∷ past) (values_position (count_of (leg_plan plan k)) k (suc next))
        (form-next plan past (value_line next f.value) (in_values k next) (values_position (count_of (leg_plan plan k)) k (suc next)) is (cond-true (next == next) (Some (values_position (count_of (leg_plan plan k)) k (suc next))) None ((Decides-eqb next next).1 refl)))
        (λ m. refl) (values-back s k (suc next) (value_line next f.value ∷ past) ahead at (λ m. refl) (f.behind ahead others)) in
        subst (λ z. Concluded past (z ∷ ahead)) (sym first)
        (w, b, (λ s' at'. subst (λ z. IsCentral z next f.value) (some-same s s' (sym at ∙ ap (λ i. leg_plan_shown plan i) (sym fit.0) ∙ at')) f.central, v))

    unparsed : (rest past : List (Line V)) (st : Position) → position_after plan past ≡ Some st → AllFrames past → Result plan past rest st → Concluded past rest
    unparsed [] past st is frames r = end-of past st is r
    unparsed (passed_line ∷ ahead) past st is frames r = unparsed ahead (passed_line ∷ past) st (form-next plan past passed_line st st is (go st)) frames (moved st r)
      where
        go : (st : Position) → next_position plan st passed_line ≡ Some st
        go (in_logs k least) = refl
        go (in_values k next) = refl

        moved : (st : Position) → Result plan past (passed_line ∷ ahead) st → Result plan (passed_line ∷ past) ahead st
        moved (in_logs k least) r = (
          λ s there. let l = r.0 s there in
              record { logs = l.logs; values = l.values; bs = l.bs; whole = l.whole; count = l.count; legal = l.legal; quiet = l.quiet; same = l.same; central = l.central; later = l.later; lines = l.lines },
          r.1,
        )
        moved (in_values k next) r = λ s there. let l = r s there in record { left = l.left; values = l.values; bs = l.bs; count = l.count; central = l.central; legal = l.legal; lines = l.lines }
    unparsed (log_line n y ∷ ahead) past st is frames r = line-of past (log_line n y) ahead st refl is frames r (λ before after at fs res. unparsed ahead before after at fs res)
    unparsed (settle_line j ∷ ahead) past st is frames r = line-of past (settle_line j) ahead st refl is frames r (λ before after at fs res. unparsed ahead before after at fs res)
    unparsed (value_line n v ∷ ahead) past st is frames r = line-of past (value_line n v) ahead st refl is frames r (λ before after at fs res. unparsed ahead before after at fs res)
    unparsed (other_line ∷ ahead) past st is frames r = line-of past other_line ahead st refl is frames r (λ before after at fs res. unparsed ahead before after at fs res)

    pub written-run : (lines : List (Line V)) → IsWritten plan lines → IsRun plan lines
    written-run lines (bs, legal, same) =
        let (w, b, v) = unparsed lines [] (in_logs 0 0) refl (λ m. refl) (tail-back 0 [] lines (λ m. refl) (record { bs = bs; legal = legal; lines = same })) in record { whole = w; legal = b; central = v }
