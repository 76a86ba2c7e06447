-- The form that is read line by line is that of a text.
use Rattle.std.proofs.Common.{◌≡◌, ℕ, zero, suc, ◌+◌, ◌-◌, ◌<◌, ◌≤◌, true, false, ◌&&◌, leb, ltb, ◌==◌, is_some, List, [], ◌∷◌, ◌++◌, map, length, Option, Some, None, inl, inr, refl, sym, ap, ap₂, ◌∙◌, subst, arith, append_assoc, le-leb, lt-ltb}
use Rattle.std.specs.Prelude.{drop}
use Rattle.std.specs.List.{AllZip}
use Rattle.std.proofs.lemmas.Bool.{cases_Bool, cond-true, cond-false, and_from, and_parts}
use Rattle.std.proofs.lemmas.Bool.Decides.{Decides-eqb}
use Rattle.std.proofs.lemmas.Option.{slice_get_within}
use Rattle.propagation.specs.Lists.{Has}
use Rattle.propagation.proofs.ByTest.{by_test}
use Rattle.judged_run.specs.Texts.{LegPlan, RunPlan, LogLine, Line, Position, leg_plan, count_of, names_below, values_position, next_position, position_after, Begins, IsWhole}
use Rattle.judged_run.specs.Texts.Line.{passed_line, log_line, settle_line, value_line, other_line}
use Rattle.judged_run.specs.Texts.Position.{in_logs, in_values}
use Rattle.judged_run.specs.Runs.{after_lines}
use Rattle.judged_run.specs.Written.{values_from, unpassed}
use Rattle.judged_run.specs.Forms.{log_lines_from, TextBlock, text_lines, AllDeclared, HasForm, IsText, FormsAreTexts}
use Rattle.judged_run.proofs.Fitting.{Fits, fits, if-some, some-same, log-parts}
use Rattle.judged_run.proofs.Sound.{form-later, form-next}
use Rattle.judged_run.proofs.Complete.{begins-from}
use Rattle.judged_run.proofs.Parsed.{from-there, from-none, least-within}
use Rattle.judged_run.proofs.Unparsed.{inside, there-or-not}

module _ {V D : Type 0} (plan : RunPlan V D) where
  -- what a text has from the k-th block on
  record Tail (k : ℕ) (rest : List (Line V)) : Type 0 where
    bs : List (TextBlock V)
    forms : AllZip HasForm (drop k plan.legs) bs
    lines : unpassed rest ≡ text_lines (suc k) bs

  -- from this value line on
  record Values (s : LegPlan V D) (k next : ℕ) (rest : List (Line V)) : Type 0 where
    values : List V
    bs : List (TextBlock V)
    count : next + length values ≡ s.count
    forms : AllZip HasForm (drop (suc k) plan.legs) bs
    lines : unpassed rest ≡ values_from next values ++ text_lines (suc (suc k)) bs

  -- from a line of this service's log on, or the settle line
  record Logs (s : LegPlan V D) (k least : ℕ) (rest : List (Line V)) : Type 0 where
    logs : List (List (LogLine V))
    values : List V
    bs : List (TextBlock V)
    count : least + length logs ≡ s.count
    named : AllDeclared s.count logs
    all : length values ≡ s.count
    later : AllZip HasForm (drop (suc k) plan.legs) bs
    lines : unpassed rest ≡ log_lines_from least logs ++ settle_line (suc k) ∷ (values_from 0 values ++ text_lines (suc (suc k)) bs)

  abbrev Result : List (Line V) → Position → Type 0
  Result rest (in_logs k least) = ((s : LegPlan V D) → leg_plan plan k ≡ Some s → Logs s k least rest) × (leg_plan plan k ≡ None → unpassed rest ≡ [])
  Result rest (in_values k next) = (s : LegPlan V D) → leg_plan plan k ≡ Some s → Values s k next rest

  -- ---- between blocks

  tail-of : (k : ℕ) (rest : List (Line V)) → Result rest (in_logs k 0) → Tail k rest
  tail-of k rest (there, gone) = go (leg_plan plan k) refl
    where
      go : (o : Option (LegPlan V D)) → leg_plan plan k ≡ o → Tail k rest
      go None is = record { bs = []; forms = subst (λ ss. AllZip HasForm ss []) (sym (from-none plan.legs k is)) tt; lines = gone is }
      go (Some s) is =
          let l = there s is in
          record {
            bs = record { logs = l.logs; values = l.values } ∷ l.bs;
            forms = subst (λ ss. AllZip HasForm ss (record { logs = l.logs; values = l.values } ∷ l.bs)) (sym (from-there plan.legs k s is))
                (record { each = (let c : 0 + length l.logs ≡ s.count = l.count in omega arith); named = l.named; values = l.all }, l.later);
            lines = l.lines;
          }

  tail-back : (k : ℕ) (rest : List (Line V)) → Tail k rest → Result rest (in_logs k 0)
  tail-back k rest t = (there, gone)
    where
      there : (s : LegPlan V D) → leg_plan plan k ≡ Some s → Logs s k 0 rest
      there s is = go t.bs refl
        where
          go : (bs : List (TextBlock V)) → t.bs ≡ bs → Logs s k 0 rest
          go [] e = absurd (subst (λ ss. AllZip HasForm ss []) (from-there plan.legs k s is) (subst (λ bs. AllZip HasForm (drop k plan.legs) bs) e t.forms))
          go (b ∷ bs) e =
              let (block, later) = subst (λ ss. AllZip HasForm ss (b ∷ bs)) (from-there plan.legs k s is) (subst (λ bs. AllZip HasForm (drop k plan.legs) bs) e t.forms) in
              record {
                logs = b.logs;
                values = b.values;
                bs = bs;
                count = (let c : length b.logs ≡ s.count = block.each in omega arith);
                named = block.named;
                all = block.values;
                later = later;
                lines = t.lines ∙ ap (λ bs. text_lines (suc k) bs) e;
              }

      gone : leg_plan plan k ≡ None → unpassed rest ≡ []
      gone is = go t.bs refl
        where
          go : (bs : List (TextBlock V)) → t.bs ≡ bs → unpassed rest ≡ []
          go [] e = t.lines ∙ ap (λ bs. text_lines (suc k) bs) e
          go (b ∷ bs) e = absurd (subst (λ ss. AllZip HasForm ss (b ∷ bs)) (from-none plan.legs k is) (subst (λ bs. AllZip HasForm (drop k plan.legs) bs) e t.forms))

  values-of : (s : LegPlan V D) (k next : ℕ) (rest : List (Line V)) → leg_plan plan k ≡ Some s → Result rest (values_position (count_of (leg_plan plan k)) k next) → Values s k next rest
  values-of s k next rest is r =
      elim (cases_Bool (next == count_of (leg_plan plan k))) [
        | inl t ↦
            (let e : next ≡ s.count = (Decides-eqb next (count_of (leg_plan plan k))).0 t ∙ ap (λ o. count_of o) is in
            let tail = tail-of (suc k) rest (subst (λ f. Result rest f) (cond-true (next == count_of (leg_plan plan k)) (in_logs (suc k) 0) (in_values k next) t) r) in
            record { values = []; bs = tail.bs; count = omega arith; forms = tail.forms; lines = tail.lines })
        | inr f ↦ subst (λ st. Result rest st) (cond-false (next == count_of (leg_plan plan k)) (in_logs (suc k) 0) (in_values k next) f) r s is
      ]

  no-values : (vs : List V) → length vs ≡ 0 → vs ≡ []
  no-values [] e = refl
  no-values (v ∷ vs) e = absurd (omega arith)

  values-back : (s : LegPlan V D) (k next : ℕ) (rest : List (Line V)) → leg_plan plan k ≡ Some s → Values s k next rest → Result rest (values_position (count_of (leg_plan plan k)) k next)
  values-back s k next rest is v =
      by_test (next == count_of (leg_plan plan k)) (λ st. Result rest st)
      (λ t.
      let e : next ≡ s.count = (Decides-eqb next (count_of (leg_plan plan k))).0 t ∙ ap (λ o. count_of o) is in
      let c : next + length v.values ≡ s.count = v.count in
      let none_left : length v.values ≡ 0 = omega arith in
      tail-back (suc k) rest (record { bs = v.bs; forms = v.forms; lines = v.lines ∙ ap (λ vs. values_from next vs ++ text_lines (suc (suc k)) v.bs) (no-values v.values none_left) }))
      (λ f s' is'. subst (λ z. Values z k next rest) (some-same s s' (sym is ∙ is')) v)

  -- ---- logs

  widen : (s : LegPlan V D) (k least : ℕ) (rest : List (Line V)) → Logs s k (suc least) rest → Logs s k least rest
  widen s k least rest l = record {
    logs = [] ∷ l.logs;
    values = l.values;
    bs = l.bs;
    count = (let c : suc least + length l.logs ≡ s.count = l.count in omega arith);
    named = λ log h x k. elim h [ inl e ↦ absurd (subst (λ xs. Has xs x) (sym e) k) | inr more ↦ l.named log more x k ];
    all = l.all;
    later = l.later;
    lines = l.lines;
  }

  widen-to : (d : ℕ) (s : LegPlan V D) (k least n : ℕ) (rest : List (Line V)) → least + d ≡ n → Logs s k n rest → Logs s k least rest
  widen-to zero s k least n rest e l = subst (λ i. Logs s k i rest) (let same : n ≡ least = omega arith in same) l
  widen-to (suc d) s k least n rest e l = widen s k least rest (widen-to d s k (suc least) n rest (omega arith) l)

  narrowed : (s : LegPlan V D) (k least : ℕ) (rest : List (Line V)) (l : Logs s k least rest) (logs : List (List (LogLine V))) → l.logs ≡ [] ∷ logs → (n : Logs s k (suc least) rest) × (n.logs ≡ logs)
  narrowed s k least rest l logs is = (
    record {
      logs = logs;
      values = l.values;
      bs = l.bs;
      count = (let c : least + length l.logs ≡ s.count = l.count in let n : length l.logs ≡ suc (length logs) = ap (λ xs. length xs) is in omega arith);
      named = λ log h x k. l.named log (subst (λ ls. Has ls log) (sym is) (inr h)) x k;
      all = l.all;
      later = l.later;
      lines = l.lines ∙ ap (λ ls. log_lines_from least ls ++ settle_line (suc k) ∷ (values_from 0 l.values ++ text_lines (suc (suc k)) l.bs)) is;
    },
    refl,
  )

  with-line : (s : LegPlan V D) (k n : ℕ) (y : LogLine V) (ahead : List (Line V)) → n < s.count → names_below s.count y ≡ true → Logs s k n ahead → Logs s k n (log_line n y ∷ ahead)
  with-line s k n y ahead lt t l = go l.logs refl
    where
      go : (ls : List (List (LogLine V))) → l.logs ≡ ls → Logs s k n (log_line n y ∷ ahead)
      go [] is = let c : n + length l.logs ≡ s.count = l.count in let z : length l.logs ≡ 0 = ap (λ xs. length xs) is in absurd (omega arith)
      go (log ∷ logs) is = record {
        logs = (y ∷ log) ∷ logs;
        values = l.values;
        bs = l.bs;
        count = ap (λ xs. n + length xs) (sym is) ∙ l.count;
        named = λ other_log h x k. elim h [
          | inl e ↦ elim (subst (λ xs. Has xs x) (sym e) k) [ inl same ↦ subst (λ z. names_below s.count z ≡ true) same t | inr older ↦ l.named log (subst (λ ls. Has ls log) (sym is) (inl refl)) x older ]
          | inr more ↦ l.named other_log (subst (λ ls. Has ls other_log) (sym is) (inr more)) x k
        ];
        all = l.all;
        later = l.later;
        lines = ap (λ xs. log_line n y ∷ xs) (l.lines ∙ ap (λ ls. log_lines_from n ls ++ settle_line (suc k) ∷ (values_from 0 l.values ++ text_lines (suc (suc k)) l.bs)) is);
      }

  -- ---- a text from its form

  text-line : (past : List (Line V)) (x : Line V) (ahead : List (Line V)) (st after : Position) → position_after plan past ≡ Some st → next_position plan st x ≡ Some after → Result ahead after → Result (x ∷ ahead) st
  text-line past passed_line ahead st after is next r = go st (subst (λ f. Result ahead f) (sym (some-same st after next)) r)
    where
      go : (st : Position) → Result ahead st → Result (passed_line ∷ ahead) st
      go (in_logs k least) r = (λ s there. let l = r.0 s there in record { logs = l.logs; values = l.values; bs = l.bs; count = l.count; named = l.named; all = l.all; later = l.later; lines = l.lines }, r.1)
      go (in_values k next_n) r = λ s there. let l = r s there in record { values = l.values; bs = l.bs; count = l.count; forms = l.forms; lines = l.lines }
  text-line past (log_line n y) ahead (in_logs k least) after is next r = (
    λ s there.
        let c : count_of (leg_plan plan k) ≡ s.count = ap (λ o. count_of o) there in
        widen-to (n - least) s k least n (log_line n y ∷ ahead) (let le : least ≤ n = parts.0 in omega arith)
        (with-line s k n y ahead (let lt : n < count_of (leg_plan plan k) = parts.1 in omega arith) (subst (λ i. names_below i y ≡ true) c parts.2) ((subst (λ f. Result ahead f) (sym test.1) r).0 s there)),
    λ gone. let c : count_of (leg_plan plan k) ≡ 0 = ap (λ o. count_of o) gone in let lt : n < count_of (leg_plan plan k) = parts.1 in absurd (omega arith),
  )
    where
      test : ((leb least n && (ltb n (count_of (leg_plan plan k)) && names_below (count_of (leg_plan plan k)) y)) ≡ true) × (in_logs k n ≡ after)
      test = if-some _ (in_logs k n) after next

      parts : (least ≤ n) × (n < count_of (leg_plan plan k)) × (names_below (count_of (leg_plan plan k)) y ≡ true)
      parts = log-parts least n (count_of (leg_plan plan k)) y test.0
  text-line past (log_line n y) ahead (in_values k next_n) after is next r = absurd (cc next)
  text-line past (settle_line j) ahead (in_logs k least) after is next r = (
    λ s there.
        let (t, same) = if-some ((j == suc k) && is_some (leg_plan plan k)) (values_position (count_of (leg_plan plan k)) k 0) after next in
        let same_number : j ≡ suc k = (Decides-eqb j (suc k)).0 (and_parts (j == suc k) (is_some (leg_plan plan k)) t).0 in
        let v = values-of s k 0 ahead there (subst (λ f. Result ahead f) (sym same) r) in
        let le : least ≤ s.count = least-within plan past k least s is there in
        let c : 0 + length v.values ≡ s.count = v.count in
        widen-to (s.count - least) s k least s.count (settle_line j ∷ ahead) (omega arith)
        (record { logs = []; values = v.values; bs = v.bs; count = omega arith; named = λ log h x k. absurd h; all = omega arith; later = v.forms; lines = ap₂ (λ i xs. settle_line i ∷ xs) same_number v.lines }),
    λ gone. let (t, same) = if-some ((j == suc k) && is_some (leg_plan plan k)) (values_position (count_of (leg_plan plan k)) k 0) after next in
        absurd (cc (sym (ap (λ o. is_some o) gone) ∙ (and_parts (j == suc k) (is_some (leg_plan plan k)) t).1)),
  )
  text-line past (settle_line j) ahead (in_values k next_n) after is next r = absurd (cc next)
  text-line past (value_line n v) ahead (in_logs k least) after is next r = absurd (cc next)
  text-line past (value_line n v) ahead (in_values k next_n) after is next r = λ s there.
      let (t, same) = if-some (n == next_n) (values_position (count_of (leg_plan plan k)) k (suc next_n)) after next in
      let at : n ≡ next_n = (Decides-eqb n next_n).0 t in
      let w = values-of s k (suc next_n) ahead there (subst (λ f. Result ahead f) (sym same) r) in
      record {
        values = v ∷ w.values;
        bs = w.bs;
        count = (let c : suc next_n + length w.values ≡ s.count = w.count in let l : length (v ∷ w.values) ≡ suc (length w.values) = refl in omega arith);
        forms = w.forms;
        lines = ap₂ (λ i xs. value_line i v ∷ xs) at w.lines;
      }
  text-line past other_line ahead (in_logs k least) after is next r = absurd (cc next)
  text-line past other_line ahead (in_values k next_n) after is next r = absurd (cc next)

  text-from : (rest past : List (Line V)) (st : Position) → position_after plan past ≡ Some st → IsWhole plan (after_lines past rest) → Result rest st
  text-from [] past st is whole =
      subst (λ f. Result [] f) (some-same (in_logs (length plan.legs) whole.0) st (sym whole.1 ∙ is))
      (λ s there. let lt : length plan.legs < length plan.legs = slice_get_within plan.legs (length plan.legs) s there in absurd (omega arith), λ gone. refl)
  text-from (x ∷ ahead) past st is whole =
      let (after, at) = begins-from plan ahead (x ∷ past) (in_logs (length plan.legs) whole.0, whole.1) in
      text-line past x ahead st after is (form-later plan past x st after is at) (text-from ahead (x ∷ past) after at whole)

  whole-text : (lines : List (Line V)) → IsWhole plan (after_lines [] lines) → IsText plan lines
  whole-text lines whole = let tail = tail-of 0 lines (text-from lines [] (in_logs 0 0) refl whole) in (tail.bs, tail.forms, tail.lines)

  -- ---- the form of a text

  -- the first line of a text, and what stands behind it
  data Head (s : LegPlan V D) (k least : ℕ) (rest : List (Line V)) : Type 0 where
    at_log : (n : ℕ) (y : LogLine V) (later : List (Line V)) → least ≤ n → n < s.count → names_below s.count y ≡ true → unpassed rest ≡ log_line n y ∷ later → ((ahead : List (Line V)) → unpassed ahead ≡ later → Logs s k n ahead) → Head s k least rest
    at_end : (later : List (Line V)) → unpassed rest ≡ settle_line (suc k) ∷ later → ((ahead : List (Line V)) → unpassed ahead ≡ later → Values s k 0 ahead) → Head s k least rest

  head-of : (s : LegPlan V D) (k least : ℕ) (rest : List (Line V)) (logs : List (List (LogLine V))) (n : ℕ) (l : Logs s k n rest) → l.logs ≡ logs → least ≤ n → Head s k least rest
  head-of s k least rest [] n l is le =
      at_end (values_from 0 l.values ++ text_lines (suc (suc k)) l.bs)
      (l.lines ∙ ap (λ ls. log_lines_from n ls ++ settle_line (suc k) ∷ (values_from 0 l.values ++ text_lines (suc (suc k)) l.bs)) is)
      (λ ahead e. record { values = l.values; bs = l.bs; count = (let c : length l.values ≡ s.count = l.all in omega arith); forms = l.later; lines = e })
  head-of s k least rest ([] ∷ logs) n l is le = let (m, same) = narrowed s k n rest l logs is in head-of s k least rest logs (suc n) m same (omega arith)
  head-of s k least rest ((y ∷ log) ∷ logs) n l is le =
      at_log n y (map (λ z. log_line n z) log ++ (log_lines_from (suc n) logs ++ settle_line (suc k) ∷ (values_from 0 l.values ++ text_lines (suc (suc k)) l.bs))) le
      (let c : n + length l.logs ≡ s.count = l.count in let some : length l.logs ≡ suc (length logs) = ap (λ xs. length xs) is in omega arith)
      (l.named (y ∷ log) (subst (λ ls. Has ls (y ∷ log)) (sym is) (inl refl)) y (inl refl))
      (l.lines ∙ ap (λ ls. log_lines_from n ls ++ settle_line (suc k) ∷ (values_from 0 l.values ++ text_lines (suc (suc k)) l.bs)) is
      ∙ ap (λ ys. log_line n y ∷ ys) (append_assoc (map (λ z. log_line n z) log) (log_lines_from (suc n) logs) (settle_line (suc k) ∷ (values_from 0 l.values ++ text_lines (suc (suc k)) l.bs))))
      (λ ahead e. record {
        logs = log ∷ logs;
        values = l.values;
        bs = l.bs;
        count = ap (λ xs. n + length xs) (sym is) ∙ l.count;
        named = λ some_log h x k. elim h [
          | inl e ↦ l.named (y ∷ log) (subst (λ ls. Has ls (y ∷ log)) (sym is) (inl refl)) x (inr (subst (λ xs. Has xs x) (sym e) k))
          | inr more ↦ l.named some_log (subst (λ ls. Has ls some_log) (sym is) (inr more)) x k
        ];
        all = l.all;
        later = l.later;
        lines = e ∙ sym (append_assoc (map (λ z. log_line n z) log) (log_lines_from (suc n) logs) (settle_line (suc k) ∷ (values_from 0 l.values ++ text_lines (suc (suc k)) l.bs)));
      })

  record FirstValue (s : LegPlan V D) (k next : ℕ) (rest : List (Line V)) : Type 0 where
    value : V
    later : List (Line V)
    lines : unpassed rest ≡ value_line next value ∷ later
    behind : (ahead : List (Line V)) → unpassed ahead ≡ later → Values s k (suc next) ahead

  first-value : (s : LegPlan V D) (k next : ℕ) (rest : List (Line V)) (v : Values s k next rest) → next < s.count → FirstValue s k next rest
  first-value s k next rest v lt = go v.values refl
    where
      go : (vs : List V) → v.values ≡ vs → FirstValue s k next rest
      go [] e = let n : next + length v.values ≡ s.count = v.count in let z : length v.values ≡ 0 = ap (λ xs. length xs) e in absurd (omega arith)
      go (w ∷ ws) e = record {
        value = w;
        later = values_from (suc next) ws ++ text_lines (suc (suc k)) v.bs;
        lines = v.lines ∙ ap (λ us. values_from next us ++ text_lines (suc (suc k)) v.bs) e;
        behind = λ ahead at. record { values = ws; bs = v.bs; count = (let n : next + length v.values ≡ s.count = v.count in let l : length v.values ≡ suc (length ws) = ap (λ xs. length xs) e in omega arith); forms = v.forms; lines = at };
      }

  end-of : (past : List (Line V)) (st : Position) → position_after plan past ≡ Some st → Result [] st → IsWhole plan past
  end-of past (in_logs k least) is r = go (leg_plan plan k) refl
    where
      go : (o : Option (LegPlan V D)) → leg_plan plan k ≡ o → IsWhole plan past
      go None gone =
          let le : k ≤ length plan.legs = inside plan past (in_logs k least) is in
          let apart : k < length plan.legs → ⊥ = λ lt. let (s, at) = there-or-not plan.legs k lt in cc (sym at ∙ gone) in
          let e : k ≡ length plan.legs = omega arith in (least, is ∙ ap (λ i. Some (in_logs i least)) e)
      go (Some s) at = none_left (head-of s k least [] (r.0 s at).logs least (r.0 s at) refl (let le : least ≤ least = omega arith in le))
        where
          none_left : Head s k least [] → IsWhole plan past
          none_left (at_log n x later le lt named e mk) = absurd (cc e)
          none_left (at_end later e mk) = absurd (cc e)
  end-of past (in_values k next) is r =
      let fit : Fits plan past (in_values k next) = fits plan past (in_values k next) is in
      let (s, at) = there-or-not plan.legs k (inside plan past (in_values k next) is) in
      let c : count_of (leg_plan plan k) ≡ s.count = ap (λ o. count_of o) at in
      let lt : next < count_of (leg_plan plan k) = fit.1 in
      let f = first-value s k next [] (r s at) (omega arith) in absurd (cc f.lines)

  line-of : (past : List (Line V)) (x : Line V) (ahead : List (Line V)) (st : Position) → unpassed (x ∷ ahead) ≡ x ∷ unpassed ahead → position_after plan past ≡ Some st → Result (x ∷ ahead) st →
      ((before : List (Line V)) (after : Position) → position_after plan before ≡ Some after → Result ahead after → IsWhole plan (after_lines before ahead)) → IsWhole plan (after_lines (x ∷ past) ahead)
  line-of past x ahead (in_logs k least) whole_line is r rest = go (leg_plan plan k) refl
    where
      go : (o : Option (LegPlan V D)) → leg_plan plan k ≡ o → IsWhole plan (after_lines (x ∷ past) ahead)
      go None gone = absurd (cc (sym whole_line ∙ r.1 gone))
      go (Some s) at = from_head (head-of s k least (x ∷ ahead) (r.0 s at).logs least (r.0 s at) refl (let le : least ≤ least = omega arith in le))
        where
          from_head : Head s k least (x ∷ ahead) → IsWhole plan (after_lines (x ∷ past) ahead)
          from_head (at_log n y later le lt named e mk) =
              let both : x ∷ unpassed ahead ≡ log_line n y ∷ later = sym whole_line ∙ e in
              let first : x ≡ log_line n y = cc both in
              let others : unpassed ahead ≡ later = cc both in
              let test : (leb least n && (ltb n (count_of (leg_plan plan k)) && names_below (count_of (leg_plan plan k)) y)) ≡ true =
              subst (λ o. (leb least n && (ltb n (count_of o) && names_below (count_of o) y)) ≡ true) (sym at) (and_from (leb least n) (ltb n s.count && names_below s.count y) (le-leb least n le) (and_from (ltb n s.count) (names_below s.count y) (lt-ltb n s.count lt) named)) in
              subst (λ z. IsWhole plan (after_lines (z ∷ past) ahead)) (sym first)
              (rest (log_line n y ∷ past) (in_logs k n) (form-next plan past (log_line n y) (in_logs k least) (in_logs k n) is (cond-true _ (Some (in_logs k n)) None test))
              (λ s' at'. subst (λ z. Logs z k n ahead) (some-same s s' (sym at ∙ at')) (mk ahead others), λ gone. absurd (cc (sym at ∙ gone))))
          from_head (at_end later e mk) =
              let both : x ∷ unpassed ahead ≡ settle_line (suc k) ∷ later = sym whole_line ∙ e in
              let first : x ≡ settle_line (suc k) = cc both in
              let others : unpassed ahead ≡ later = cc both in
              let next : next_position plan (in_logs k least) (settle_line (suc k)) ≡ Some (values_position (count_of (leg_plan plan k)) k 0) =
              cond-true _ (Some (values_position (count_of (leg_plan plan k)) k 0)) None (and_from (suc k == suc k) (is_some (leg_plan plan k)) ((Decides-eqb (suc k) (suc k)).1 refl) (ap (λ o. is_some o) at)) in
              subst (λ z. IsWhole plan (after_lines (z ∷ past) ahead)) (sym first)
              (rest (settle_line (suc k) ∷ past) (values_position (count_of (leg_plan plan k)) k 0) (form-next plan past (settle_line (suc k)) (in_logs k least) (values_position (count_of (leg_plan plan k)) k 0) is next) (values-back s k 0 ahead at (mk ahead others)))
  line-of past x ahead (in_values k next) whole_line is r rest =
      let fit : Fits plan past (in_values k next) = fits plan past (in_values k next) is in
      let (s, at) = there-or-not plan.legs k (inside plan past (in_values k next) is) in
      let c : count_of (leg_plan plan k) ≡ s.count = ap (λ o. count_of o) at in
      let lt : next < count_of (leg_plan plan k) = fit.1 in
      let f = first-value s k next (x ∷ ahead) (r s at) (omega arith) in
      let both : x ∷ unpassed ahead ≡ value_line next f.value ∷ f.later = sym whole_line ∙ f.lines in
      let first : x ≡ value_line next f.value = cc both in
      let others : unpassed ahead ≡ f.later = cc both in
      subst (λ z. IsWhole plan (after_lines (z ∷ past) ahead)) (sym first)
      (rest (value_line next f.value ∷ past) (values_position (count_of (leg_plan plan k)) k (suc next))
      (form-next plan past (value_line next f.value) (in_values k next) (values_position (count_of (leg_plan plan k)) k (suc next)) is (cond-true (next == next) (Some (values_position (count_of (leg_plan plan k)) k (suc next))) None ((Decides-eqb next next).1 refl)))
      (values-back s k (suc next) ahead at (f.behind ahead others)))

  form-from : (rest past : List (Line V)) (st : Position) → position_after plan past ≡ Some st → Result rest st → IsWhole plan (after_lines past rest)
  form-from [] past st is r = end-of past st is r
  form-from (passed_line ∷ ahead) past st is r = form-from ahead (passed_line ∷ past) st (form-next plan past passed_line st st is (go st)) (moved st r)
    where
      go : (st : Position) → next_position plan st passed_line ≡ Some st
      go (in_logs k least) = refl
      go (in_values k next) = refl

      moved : (st : Position) → Result (passed_line ∷ ahead) st → Result ahead st
      moved (in_logs k least) r = (λ s there. let l = r.0 s there in record { logs = l.logs; values = l.values; bs = l.bs; count = l.count; named = l.named; all = l.all; later = l.later; lines = l.lines }, r.1)
      moved (in_values k next) r = λ s there. let l = r s there in record { values = l.values; bs = l.bs; count = l.count; forms = l.forms; lines = l.lines }
  form-from (log_line n y ∷ ahead) past st is r = line-of past (log_line n y) ahead st refl is r (λ before after at res. form-from ahead before after at res)
  form-from (settle_line j ∷ ahead) past st is r = line-of past (settle_line j) ahead st refl is r (λ before after at res. form-from ahead before after at res)
  form-from (value_line n v ∷ ahead) past st is r = line-of past (value_line n v) ahead st refl is r (λ before after at res. form-from ahead before after at res)
  form-from (other_line ∷ ahead) past st is r = line-of past other_line ahead st refl is r (λ before after at res. form-from ahead before after at res)

  text-whole : (lines : List (Line V)) → IsText plan lines → IsWhole plan (after_lines [] lines)
  text-whole lines (bs, forms, same) = form-from lines [] (in_logs 0 0) refl (tail-back 0 lines (record { bs = bs; forms = forms; lines = same }))

  -- ---- what begins a run goes on to one

  after-append : (past lines rest : List (Line V)) → after_lines past (lines ++ rest) ≡ after_lines (after_lines past lines) rest
  after-append past [] rest = refl
  after-append past (x ∷ lines) rest = after-append (x ∷ past) lines rest

  abbrev Goes : List (Line V) → Type 0
  Goes past = (rest : List (Line V)) × IsWhole plan (after_lines past rest)

  goes-by : (past : List (Line V)) (x : Line V) → Goes (x ∷ past) → Goes past
  goes-by past x (rest, whole) = (x ∷ rest, whole)

  goes-values : (left : ℕ) (s : LegPlan V D) (k next : ℕ) (past : List (Line V)) → leg_plan plan k ≡ Some s → next + left ≡ s.count → position_after plan past ≡ Some (values_position (count_of (leg_plan plan k)) k next) →
      ((before : List (Line V)) → position_after plan before ≡ Some (in_logs (suc k) 0) → Goes before) → Goes past
  goes-values zero s k next past at count is legs =
      let e : next ≡ count_of (leg_plan plan k) = (let c : count_of (leg_plan plan k) ≡ s.count = ap (λ o. count_of o) at in omega arith) in
      legs past (is ∙ ap (λ f. Some f) (cond-true (next == count_of (leg_plan plan k)) (in_logs (suc k) 0) (in_values k next) ((Decides-eqb next (count_of (leg_plan plan k))).1 e)))
  goes-values (suc left) s k next past at count is legs =
      let c : count_of (leg_plan plan k) ≡ s.count = ap (λ o. count_of o) at in
      let here : position_after plan past ≡ Some (in_values k next) = is ∙ ap (λ f. Some f) (cond-false (next == count_of (leg_plan plan k)) (in_logs (suc k) 0) (in_values k next) (differ (let lt : next < count_of (leg_plan plan k) = omega arith in lt))) in
      goes-by past (value_line next (s.value next))
      (goes-values left s k (suc next) (value_line next (s.value next) ∷ past) at (omega arith)
      (form-next plan past (value_line next (s.value next)) (in_values k next) (values_position (count_of (leg_plan plan k)) k (suc next)) here (cond-true (next == next) (Some (values_position (count_of (leg_plan plan k)) k (suc next))) None ((Decides-eqb next next).1 refl))) legs)
    where
      differ : next < count_of (leg_plan plan k) → (next == count_of (leg_plan plan k)) ≡ false
      differ lt = elim (cases_Bool (next == count_of (leg_plan plan k))) [ inl t ↦ (let e : next ≡ count_of (leg_plan plan k) = (Decides-eqb next (count_of (leg_plan plan k))).0 t in absurd (omega arith)) | inr f ↦ f ]

  -- from so many legs before the end
  goes-legs : (left k least : ℕ) (past : List (Line V)) → k + left ≡ length plan.legs → position_after plan past ≡ Some (in_logs k least) → Goes past
  goes-legs zero k least past e is = ([], (least, is ∙ ap (λ i. Some (in_logs i least)) (let same : k ≡ length plan.legs = omega arith in same)))
  goes-legs (suc left) k least past e is =
      let (s, at) = there-or-not plan.legs k (omega arith) in
      let next : next_position plan (in_logs k least) (settle_line (suc k)) ≡ Some (values_position (count_of (leg_plan plan k)) k 0) =
      cond-true _ (Some (values_position (count_of (leg_plan plan k)) k 0)) None (and_from (suc k == suc k) (is_some (leg_plan plan k)) ((Decides-eqb (suc k) (suc k)).1 refl) (ap (λ o. is_some o) at)) in
      goes-by past (settle_line (suc k))
      (goes-values s.count s k 0 (settle_line (suc k) ∷ past) at (omega arith) (form-next plan past (settle_line (suc k)) (in_logs k least) (values_position (count_of (leg_plan plan k)) k 0) is next)
      (λ before here. goes-legs left (suc k) 0 before (omega arith) here))

  goes-on : (past : List (Line V)) → Begins plan past → Goes past
  goes-on past (in_logs k least, is) =
      let le : k ≤ length plan.legs = inside plan past (in_logs k least) is in goes-legs (length plan.legs - k) k least past (omega arith) is
  goes-on past (in_values k next, is) =
      let fit : Fits plan past (in_values k next) = fits plan past (in_values k next) is in
      let lt : k < length plan.legs = inside plan past (in_values k next) is in
      let (s, at) = there-or-not plan.legs k lt in
      let c : count_of (leg_plan plan k) ≡ s.count = ap (λ o. count_of o) at in
      let before : next < count_of (leg_plan plan k) = fit.1 in
      goes-values (s.count - next) s k next past at (omega arith) (is ∙ ap (λ f. Some f) (sym (cond-false (next == count_of (leg_plan plan k)) (in_logs (suc k) 0) (in_values k next) (differ before))))
      (λ earlier here. goes-legs (length plan.legs - suc k) (suc k) 0 earlier (omega arith) here)
    where
      differ : next < count_of (leg_plan plan k) → (next == count_of (leg_plan plan k)) ≡ false
      differ lt = elim (cases_Bool (next == count_of (leg_plan plan k))) [ inl t ↦ (let e : next ≡ count_of (leg_plan plan k) = (Decides-eqb next (count_of (leg_plan plan k))).0 t in absurd (omega arith)) | inr f ↦ f ]

  begun-text : (lines : List (Line V)) → Begins plan (after_lines [] lines) → (rest : List (Line V)) × IsText plan (lines ++ rest)
  begun-text lines begins =
      let (rest, whole) = goes-on (after_lines [] lines) begins in (rest, whole-text (lines ++ rest) (subst (λ p. IsWhole plan p) (sym (after-append [] lines rest)) whole))

  text-begun : (lines rest : List (Line V)) → IsText plan (lines ++ rest) → Begins plan (after_lines [] lines)
  text-begun lines rest text =
      let whole = subst (λ p. IsWhole plan p) (after-append [] lines rest) (text-whole (lines ++ rest) text) in begins-from plan rest (after_lines [] lines) (in_logs (length plan.legs) whole.0, whole.1)

pub forms_are_texts : (V D : Type 0) → FormsAreTexts V D
forms_are_texts V D plan lines = ((whole-text plan lines, text-whole plan lines), (begun-text plan lines, λ h. text-begun plan lines h.0 h.1))
