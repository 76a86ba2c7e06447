-- The logs of a block, read line by line.
use Rattle.std.proofs.Common.{◌≡◌, ◌≢◌, ◌∙◌, sym, ap, ap₂, refl, subst, ℕ, zero, suc, ◌<◌, ◌≤◌, ◌+◌, ◌-◌, arith, Bool, true, false, not, cond, List, [], ◌∷◌, ◌++◌, append_assoc, append-nil, length, map, drop, get_or, inl, inr, ◌⊎◌, Option, Some}
use Rattle.std.specs.Prelude.{option_to_list}
use Rattle.std.proofs.lemmas.List.{length-append, map-append}
use Rattle.std.proofs.lemmas.List.Elements.{filter-append}
use Rattle.node_core.specs.declared.entry.Entry.{Entry}
use Rattle.trace_text.specs.Entries.{IsEntryOf, IsOwnedEntry, AreEntriesOf}
use Rattle.trace_text.specs.Inside.Cutting.{Lacks}
use Rattle.trace_text.specs.Inside.Logs.{GoesOn, MayNotStand, ReadsLine}
use Rattle.trace_text.specs.Lines.{entry_line, entry_body}
use Rattle.trace_text.specs.Naming.{Naming, AreNames}
use Rattle.trace_text.specs.Reading.{owned_entries, family_entries, is_ended, is_passed, log_lines, AreLinesOf, IsFirstWrong}
use Rattle.trace_text.specs.Untraced.{lines_of}
use Rattle.trace_text.proofs.LinesOf.{lines_line, lines_last}
use Rattle.trace_text.proofs.ListReading.{all_of}
use Rattle.trace_text.proofs.OneEntry.{one_line}
use Rattle.trace_text.proofs.OneFamily.{Owned, all-each, line-body}
use Rattle.trace_text.proofs.Words.{Each, each_of, has_stop, one_back}

-- ---- logs

-- a log without entries adds none
pub entries_empty : (n : ℕ) (logs : List (List Entry)) → family_entries n (logs ++ [] ∷ []) ≡ family_entries n logs
entries_empty n [] = refl
entries_empty n (log ∷ logs) = ap (λ (t : List Owned). owned_entries n log ++ t) (entries_empty (suc n) logs)

owned-more : (n : ℕ) (log : List Entry) (entry : Entry) → owned_entries n (log ++ entry ∷ []) ≡ owned_entries n log ++ (n, entry) ∷ []
owned-more n [] entry = refl
owned-more n (x ∷ xs) entry = ap (λ (t : List Owned). (n, x) ∷ t) (owned-more n xs entry)

-- one entry more in the last log
pub entries-more : (n : ℕ) (logs : List (List Entry)) (log : List Entry) (entry : Entry) →
    family_entries n (logs ++ (log ++ entry ∷ []) ∷ []) ≡ family_entries n (logs ++ log ∷ []) ++ (n + length logs, entry) ∷ []
entries-more n [] log entry =
    let here : n ≡ n + 0 = omega arith in
    append-nil (owned_entries n (log ++ entry ∷ [])) ∙ owned-more n log entry ∙ ap₂ (λ (t : List Owned) (k : ℕ). t ++ (k, entry) ∷ []) (sym (append-nil (owned_entries n log))) here
entries-more n (first ∷ logs) log entry =
    let later : suc n + length logs ≡ n + suc (length logs) = omega arith in
    ap (λ (t : List Owned). owned_entries n first ++ t) (entries-more (suc n) logs log entry ∙ ap (λ (k : ℕ). family_entries (suc n) (logs ++ log ∷ []) ++ (k, entry) ∷ []) later)
    ∙ sym (append_assoc (owned_entries n first) (family_entries (suc n) (logs ++ log ∷ [])) ((n + suc (length logs), entry) ∷ []))

-- the line was read, or it was not
pub was_read : (name : Naming) (count : ℕ) (body : List ℕ) (old new : List (List Entry)) (read : Bool) → read ≡ true → ReadsLine name count body old new read → GoesOn name count body old new
was_read name count body old new read is h = subst (ReadsLine name count body old new) is h

pub was_not_read : (name : Naming) (count : ℕ) (body : List ℕ) (old new : List (List Entry)) (read : Bool) → read ≡ false → ReadsLine name count body old new read → MayNotStand name count body old
was_not_read name count body old new read is h = subst (ReadsLine name count body old new) is h

-- the last log was taken out, and is put back with an entry more
pub appended : (owner : ℕ) (old grown rest new : List (List Entry)) (log longer : List Entry) (entry : Entry) (taken : Option (List Entry)) → family_entries 0 grown ≡ family_entries 0 old →
    length grown ≡ owner + 1 → grown ≡ rest ++ option_to_list taken → taken ≡ Some log → longer ≡ log ++ entry ∷ [] → new ≡ rest ++ longer ∷ [] → family_entries 0 new ≡ family_entries 0 old ++ (owner, entry) ∷ []
appended owner old grown rest new log longer entry taken same long popped is more put =
    let whole : grown ≡ rest ++ log ∷ [] = popped ∙ ap (λ (o : Option (List Entry)). rest ++ option_to_list o) is in
    let place : 0 + length rest ≡ owner = omega (arith, long, ap length whole, length-append rest (log ∷ [])) in
    ap (family_entries 0) (put ∙ ap (λ (l : List Entry). rest ++ l ∷ []) more) ∙ entries-more 0 rest log entry
    ∙ ap₂ (λ (t : List Owned) (k : ℕ). t ++ (k, entry) ∷ []) (ap (family_entries 0) (sym whole) ∙ same) place

-- so many logs without entries
abbrev empties : ℕ → List (List Entry)
empties zero = []
empties (suc k) = [] ∷ empties k

entries-empties : (n k : ℕ) (logs : List (List Entry)) → family_entries n (logs ++ empties k) ≡ family_entries n logs
entries-empties n zero logs = ap (family_entries n) (append-nil logs)
entries-empties n (suc k) logs = ap (family_entries n) (sym (append_assoc logs ([] ∷ []) (empties k))) ∙ entries-empties n k (logs ++ [] ∷ []) ∙ entries_empty n logs

length-empties : (k : ℕ) → length (empties k) ≡ k
length-empties zero = refl
length-empties (suc k) = ap suc (length-empties k)

-- ---- the order of services

abbrev InOrder : ℕ → List Owned → Type 0
InOrder least [] = Unit {0}
InOrder least (x ∷ xs) = (least ≤ x.0) × InOrder x.0 xs

earlier : (n m : ℕ) (xs : List Owned) → n ≤ m → InOrder m xs → InOrder n xs
earlier n m [] le h = tt
earlier n m (x ∷ xs) le h = (omega (arith, le, h.0), h.1)

order_owned : (n : ℕ) (log : List Entry) (rest : List Owned) → InOrder n rest → InOrder n (owned_entries n log ++ rest)
order_owned n [] rest h = h
order_owned n (x ∷ xs) rest h = (omega arith, order_owned n xs rest h)

family_order : (n : ℕ) (logs : List (List Entry)) → InOrder n (family_entries n logs)
family_order n [] = tt
family_order n (log ∷ logs) = order_owned n log (family_entries (suc n) logs) (earlier n (suc n) (family_entries (suc n) logs) (omega arith) (family_order (suc n) logs))

order_at : (least : ℕ) (ys : List Owned) (x z : Owned) (ws : List Owned) → InOrder least (ys ++ x ∷ z ∷ ws) → x.0 ≤ z.0
order_at least [] x z ws h = h.1.0
order_at least (y ∷ ys) x z ws h = order_at y.0 ys x z ws h.1

-- ---- entries

owned-each : (count n : ℕ) (log : List Entry) (rest : List Owned) → Each (IsOwnedEntry count) (owned_entries n log ++ rest) → Each (IsEntryOf count) log × Each (IsOwnedEntry count) rest
owned-each count n [] rest h = (tt, h)
owned-each count n (x ∷ xs) rest h = let later = owned-each count n xs rest h.1 in ((h.0.1, later.0), later.1)

logs-each : (count n : ℕ) (logs : List (List Entry)) → Each (IsOwnedEntry count) (family_entries n logs) → Each (AreEntriesOf count) logs
logs-each count n [] h = tt
logs-each count n (log ∷ logs) h =
    let parts = owned-each count n log (family_entries (suc n) logs) h in
    (all_of (IsEntryOf count) log parts.0, logs-each count (suc n) logs parts.1)

each-snoc : (count : ℕ) (xs : List Owned) (y : Owned) → Each (IsOwnedEntry count) xs → IsOwnedEntry count y → Each (IsOwnedEntry count) (xs ++ y ∷ [])
each-snoc count [] y h is = (is, tt)
each-snoc count (x ∷ xs) y h is = (h.0, each-snoc count xs y h.1 is)

-- ---- lines

passed_line : (done : List (List ℕ)) (line : List ℕ) → is_passed line ≡ true → log_lines (done ++ line ∷ []) ≡ log_lines done
passed_line done line passed =
    let gone : log_lines (line ∷ []) ≡ [] = ap (λ (b : Bool). cond (not b) (line ∷ []) []) passed in
    filter-append (λ l. not (is_passed l)) done (line ∷ []) ∙ ap (λ (t : List (List ℕ)). log_lines done ++ t) gone ∙ append-nil (log_lines done)

logged_line : (done : List (List ℕ)) (line : List ℕ) (more : List (List ℕ)) → is_passed line ≡ false → log_lines (done ++ line ∷ more) ≡ log_lines done ++ line ∷ log_lines more
logged_line done line more stays =
    let there : log_lines (line ∷ more) ≡ line ∷ log_lines more = ap (λ (b : Bool). cond (not b) (line ∷ log_lines more) (log_lines more)) stays in
    filter-append (λ l. not (is_passed l)) done (line ∷ more) ∙ ap (λ (t : List (List ℕ)). log_lines done ++ t) there

-- an entry behind others is of a service not before the last log
long_enough : (logs : List (List Entry)) (xs zs ws : List Owned) (w : Owned) → (length logs ≡ 0) ⊎ ((ys : List Owned) × (x : Owned) × (xs ≡ ys ++ x ∷ []) × (length logs ≡ x.0 + 1)) →
    InOrder 0 zs → zs ≡ xs ++ w ∷ ws → length logs ≤ w.0 + 1
long_enough logs xs zs ws w (inl zeroed) order e = omega (arith, zeroed)
long_enough logs xs zs ws w (inr last) order e =
    let ys : List Owned = last.0 in
    let x : Owned = last.1 in
    let whole : zs ≡ ys ++ x ∷ w ∷ ws = e ∙ ap (λ (t : List Owned). t ++ w ∷ ws) last.2 ∙ append_assoc ys (x ∷ []) (w ∷ ws) in
    let behind : x.0 ≤ w.0 = order_at 0 ys x w ws (subst (InOrder 0) whole order) in
    omega (arith, behind, last.3)

-- the line of an entry
abbrev pub line_of : Naming → Owned → List ℕ
line_of name x = entry_line name x.0 x.1

-- what was read of some lines: logs whose entries they are, the last of which has one
pub record AreRead (name : Naming) (count : ℕ) (done : List (List ℕ)) (logs : List (List Entry)) : Type 0 where
  pub few : length logs ≤ count
  pub within : Each (IsOwnedEntry count) (family_entries 0 logs)
  pub lines_are : log_lines done ≡ map (line_of name) (family_entries 0 logs)
  pub last : (length logs ≡ 0) ⊎ ((ys : List Owned) × (x : Owned) × (family_entries 0 logs ≡ ys ++ x ∷ []) × (length logs ≡ x.0 + 1))

-- where the reading stands: so many lines were read, and these bytes are left
pub record StandsAt (name : Naming) (count : ℕ) (bytes rest : List ℕ) (number : ℕ) (logs : List (List Entry)) : Type 0 where
  pub done : List (List ℕ)
  pub lines_are : lines_of bytes ≡ done ++ lines_of rest
  pub number_is : number ≡ length done
  pub read : AreRead name count done logs

module _ (name : Naming) (count : ℕ) (names : AreNames name count) where
  -- a line is a body and LF
  with_end : (n : ℕ) (x : Entry) → entry_line name n x ≡ entry_body name n x ++ 10 ∷ []
  with_end n x = sym (append-nil (entry_line name n x)) ∙ line-body name count names n x []

  body_is : (body : List ℕ) (x : Owned) → body ++ 10 ∷ [] ≡ line_of name x → body ≡ entry_body name x.0 x.1
  body_is body x e = (one_back 10 body (entry_body name x.0 x.1) [] [] tt tt (e ∙ with_end x.0 x.1)).0

  -- two entries with one body are of one service
  pub one_owner : (body : List ℕ) (x y : Owned) → IsOwnedEntry count x → IsOwnedEntry count y → body ≡ entry_body name x.0 x.1 → body ≡ entry_body name y.0 y.1 → x.0 ≡ y.0
  one_owner body x y p q e f =
      (one_line name count names x.0 y.0 x.1 y.1 p.0 q.0 p.1 q.1 (with_end x.0 x.1 ∙ ap (λ (t : List ℕ). t ++ 10 ∷ []) (sym e ∙ f) ∙ sym (with_end y.0 y.1))).0

  -- the line of an entry of an earlier service than the last may not stand here
  pub out_of_order : (body : List ℕ) (logs : List (List Entry)) (x : Owned) → is_passed (body ++ 10 ∷ []) ≡ false → IsOwnedEntry count x × (body ≡ entry_body name x.0 x.1) → x.0 + 1 < length logs → MayNotStand name count body logs
  out_of_order body logs x stays read early = (stays, λ y is long e. absurd (omega (arith, one_owner body x y read.0 is read.1 e, long, early)))

  -- entries whose lines are the first ones are the first ones
  one_front : (xs zs : List Owned) (r : List (List ℕ)) → Each (IsOwnedEntry count) xs → Each (IsOwnedEntry count) zs → map (line_of name) xs ++ r ≡ map (line_of name) zs →
      (ws : List Owned) × Each (IsOwnedEntry count) ws × (zs ≡ xs ++ ws) × (r ≡ map (line_of name) ws)
  one_front [] zs r p q e = (zs, q, refl, e)
  one_front (x ∷ xs) [] r p q e = absurd (omega (arith, ap length e))
  one_front (x ∷ xs) (z ∷ zs) r p q e =
      let later = one_front xs zs r p.1 q.1 (ap (drop 1) e) in
      let same = one_line name count names x.0 z.0 x.1 z.1 p.0.0 q.0.0 p.0.1 q.0.1 (ap (λ (l : List (List ℕ)). get_or l 0 []) e) in
      (later.0, later.1, ap₂ (λ (y : Owned) (ys : List Owned). y ∷ ys) (ap₂ (λ (n : ℕ) (entry : Entry). (n, entry)) (sym same.0) (sym same.1)) later.2, later.3)

  pub none_read : AreRead name count [] []
  none_read = record { few = omega arith; within = tt; lines_are = refl; last = inl refl }

  -- logs with the same entries, one for each service, are the family of the lines
  pub lines_read : (done : List (List ℕ)) (logs family : List (List Entry)) → AreRead name count done logs → length family ≡ count → family_entries 0 family ≡ family_entries 0 logs → AreLinesOf name count done family
  lines_read done logs family read long same =
      record {
        within = record { logs = long; entries = all_of (AreEntriesOf count) family (logs-each count 0 family (subst (Each (IsOwnedEntry count)) (sym same) read.within)) };
        lines_are = read.lines_are ∙ ap (map (line_of name)) (sym same);
      }

  right_before : (done : List (List ℕ)) (logs : List (List Entry)) → AreRead name count done logs → (family : List (List Entry)) × AreLinesOf name count done family
  right_before done logs read =
      let k : ℕ = count - length logs in
      let long : length (logs ++ empties k) ≡ count = omega (arith, length-append logs (empties k), length-empties k, read.few) in
      (logs ++ empties k, lines_read done logs (logs ++ empties k) read long (entries-empties 0 k logs))

  -- after a line that was read
  pub goes_on : (done : List (List ℕ)) (body : List ℕ) (old new : List (List Entry)) → AreRead name count done old → GoesOn name count body old new → AreRead name count (done ++ (body ++ 10 ∷ []) ∷ []) new
  goes_on done body old new read (inl passed) =
      subst (AreRead name count (done ++ (body ++ 10 ∷ []) ∷ [])) (sym passed.1)
      (record { few = read.few; within = read.within; lines_are = passed_line done (body ++ 10 ∷ []) passed.0 ∙ read.lines_are; last = read.last })
  goes_on done body old new read (inr logged) =
      let more = logged.1 in
      let xs : List Owned = family_entries 0 old in
      let x : Owned = (more.owner, more.entry) in
      let line_is : body ++ 10 ∷ [] ≡ line_of name x = ap (λ (t : List ℕ). t ++ 10 ∷ []) more.is ∙ sym (with_end more.owner more.entry) in
      let grown : map (line_of name) (xs ++ x ∷ []) ≡ map (line_of name) xs ++ line_of name x ∷ [] = map-append (line_of name) xs (x ∷ []) in
      record {
        few = omega (arith, more.long, more.within.0);
        within = subst (Each (IsOwnedEntry count)) (sym more.entries) (each-snoc count xs x read.within more.within);
        lines_are = logged_line done (body ++ 10 ∷ []) [] logged.0 ∙ ap₂ (λ (t : List (List ℕ)) (l : List ℕ). t ++ l ∷ []) read.lines_are line_is ∙ sym grown ∙ ap (map (line_of name)) (sym more.entries);
        last = inr (xs, x, more.entries, more.long);
      }

  -- a line that is no line of an entry that may stand there is wrong
  wrong_line : (done : List (List ℕ)) (logs : List (List Entry)) (line : List ℕ) → AreRead name count done logs → is_passed line ≡ false →
      ((x : Owned) → IsOwnedEntry count x → length logs ≤ x.0 + 1 → line ≢ line_of name x) →
      (more : List (List ℕ)) (family : List (List Entry)) → AreLinesOf name count (done ++ line ∷ more) family → ⊥
  wrong_line done logs line read stays none more family are = by parts.0 parts.1 parts.2 parts.3
    where
      xs : List Owned
      xs = family_entries 0 logs

      zs : List Owned
      zs = family_entries 0 family

      each : Each (IsOwnedEntry count) zs
      each = all-each name count names 0 family (omega (arith, are.within.logs)) (each_of (AreEntriesOf count) family are.within.entries)

      parts : (ws : List Owned) × Each (IsOwnedEntry count) ws × (zs ≡ xs ++ ws) × (line ∷ log_lines more ≡ map (line_of name) ws)
      parts = one_front xs zs (line ∷ log_lines more) read.within each (ap (λ (t : List (List ℕ)). t ++ line ∷ log_lines more) (sym read.lines_are) ∙ sym (logged_line done line more stays) ∙ are.lines_are)

      by : (ws : List Owned) → Each (IsOwnedEntry count) ws → zs ≡ xs ++ ws → line ∷ log_lines more ≡ map (line_of name) ws → ⊥
      by [] p e f = absurd (omega (arith, ap length f))
      by (w ∷ ws) p e f = none w p.0 (long_enough logs xs zs ws w read.last (family_order 0 family) e) (ap (λ (l : List (List ℕ)). get_or l 0 []) f)

  first_wrong : (lines done behind : List (List ℕ)) (line : List ℕ) (number : ℕ) (logs : List (List Entry)) → lines ≡ done ++ line ∷ behind → number ≡ suc (length done) → AreRead name count done logs → is_passed line ≡ false →
      ((x : Owned) → IsOwnedEntry count x → length logs ≤ x.0 + 1 → line ≢ line_of name x) → IsFirstWrong name count lines number
  first_wrong lines done behind line number logs are number_is read stays none =
      record { before = done; line = line; behind = behind; lines_are = are; number_is = number_is; right = right_before done logs read; wrong = wrong_line done logs line read stays none }

  -- ---- where the reading stands

  pub begins : (bytes : List ℕ) (logs : List (List Entry)) → logs ≡ [] → StandsAt name count bytes bytes 0 logs
  begins bytes logs none = subst (StandsAt name count bytes bytes 0) (sym none) (record { done = []; lines_are = refl; number_is = refl; read = none_read })

  pub next_line : (bytes rest body behind : List ℕ) (number after : ℕ) (old new : List (List Entry)) → StandsAt name count bytes rest number old → (rest ≡ body ++ 10 ∷ behind) × Lacks 10 body → after ≡ number + 1 →
      GoesOn name count body old new → StandsAt name count bytes behind after new
  next_line bytes rest body behind number after old new h cut one goes =
      let line : List ℕ = body ++ 10 ∷ [] in
      let cut_lines : lines_of rest ≡ line ∷ lines_of behind = ap lines_of cut.0 ∙ lines_line body behind cut.1 in
      record {
        done = h.done ++ line ∷ [];
        lines_are = h.lines_are ∙ ap (λ (t : List (List ℕ)). h.done ++ t) cut_lines ∙ sym (append_assoc h.done (line ∷ []) (lines_of behind));
        number_is = omega (arith, one, h.number_is, length-append h.done (line ∷ []));
        read = goes_on h.done body old new h.read goes;
      }

  -- no LF is left
  pub no_end : (bytes rest : List ℕ) (number after : ℕ) (logs : List (List Entry)) → StandsAt name count bytes rest number logs → 0 < length rest → Lacks 10 rest → after ≡ number + 1 → IsFirstWrong name count (lines_of bytes) after
  no_end bytes rest number after logs h some lacks one =
      let last = lines_last rest some lacks in
      first_wrong (lines_of bytes) h.done [] rest after logs (h.lines_are ∙ ap (λ (t : List (List ℕ)). h.done ++ t) last.0) (omega (arith, one, h.number_is)) h.read (not_passed rest last.1)
      (λ x is long e. has_stop 10 (entry_body name x.0 x.1) [] (subst (Lacks 10) (e ∙ with_end x.0 x.1) lacks))
    where
      not_passed : (line : List ℕ) → is_ended line ≡ false → is_passed line ≡ false
      not_passed line e = rw e refl

  -- a line that may not stand there
  pub no_line : (bytes rest body behind : List ℕ) (number after : ℕ) (logs : List (List Entry)) → StandsAt name count bytes rest number logs → (rest ≡ body ++ 10 ∷ behind) × Lacks 10 body → after ≡ number + 1 →
      MayNotStand name count body logs → IsFirstWrong name count (lines_of bytes) after
  no_line bytes rest body behind number after logs h cut one not =
      first_wrong (lines_of bytes) h.done (lines_of behind) (body ++ 10 ∷ []) after logs (h.lines_are ∙ ap (λ (t : List (List ℕ)). h.done ++ t) (ap lines_of cut.0 ∙ lines_line body behind cut.1))
      (omega (arith, one, h.number_is)) h.read not.0 (λ x is long e. not.1 x is long (body_is body x e))

  -- all was read
  pub all_read : (bytes rest : List ℕ) (number : ℕ) (logs family : List (List Entry)) → StandsAt name count bytes rest number logs → length rest ≡ 0 → length family ≡ count → family_entries 0 family ≡ family_entries 0 logs →
      AreLinesOf name count (lines_of bytes) family
  all_read bytes [] number logs family h none long same =
      lines_read (lines_of bytes) logs family (subst (λ (t : List (List ℕ)). AreRead name count t logs) (sym (h.lines_are ∙ append-nil h.done)) h.read) long same
  all_read bytes (b ∷ rest) number logs family h none long same = absurd (omega (arith, none))

  -- there is a line more, so the number is not the greatest
  pub below_most : (bytes rest : List ℕ) (number most : ℕ) (logs : List (List Entry)) → StandsAt name count bytes rest number logs → length (lines_of bytes) < most → number < most
  below_most bytes rest number most logs h few = omega (arith, h.number_is, few, ap length h.lines_are, length-append h.done (lines_of rest))
