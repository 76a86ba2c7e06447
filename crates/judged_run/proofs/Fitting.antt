-- Where lines begin a run, the form tells which block stands open, and its logs name only the services that are declared.
use Rattle.std.proofs.Common.{◌≡◌, ℕ, suc, ◌<◌, ◌≤◌, Bool, true, false, ◌&&◌, leb, ltb, ◌==◌, List, [], ◌∷◌, Option, Some, None, is_some, inl, inr, refl, ap, ◌∙◌, subst, arith, leb-true, ltb-true, if◌then◌else◌}
use Rattle.std.specs.Prelude.{option_and_then}
use Rattle.std.proofs.lemmas.Bool.{cases_Bool, cond-false, and_parts, and_from}
use Rattle.std.proofs.lemmas.Bool.Decides.{Decides-eqb}
use Rattle.propagation.specs.Logs.Entry.{Did, Took, Computed, Sent}
use Rattle.propagation.specs.Deciding.{peers_below}
use Rattle.propagation.proofs.ByTest.{by_test}
use Rattle.judged_run.specs.Texts.{LegPlan, RunPlan, LogLine, Line, Position, leg_plan, count_of, names_below, values_position, next_position, position_after, blocks, log_lines, entries, family}
use Rattle.judged_run.specs.Texts.LogLine.{entry, took_bytes, sent_bytes}
use Rattle.judged_run.specs.Texts.Line.{passed_line, log_line, settle_line, value_line, other_line}
use Rattle.judged_run.specs.Texts.Position.{in_logs, in_values}

-- a log line that names only the first services keeps the log naming only these
named-peers : {V : Type 0} (count : ℕ) (x : LogLine V) (before : List (LogLine V)) → names_below count x ≡ true → peers_below count (entries before) ≡ true → peers_below count (entries (x ∷ before)) ≡ true
named-peers count (entry (Did c)) before t h = h
named-peers count (entry (Took s f)) before t h = and_from (ltb s count) (peers_below count (entries before)) t h
named-peers count (entry (Computed v S picks)) before t h = h
named-peers count (entry (Sent r f)) before t h = and_from (ltb r count) (peers_below count (entries before)) t h
named-peers count (took_bytes s) before t h = h
named-peers count (sent_bytes r) before t h = h

-- the logs of the block that stands open name only the first services, and only these have one
abbrev pub Named : {V : Type 0} → ℕ → List (Line V) → Type 0
Named count past = (m : ℕ) → (peers_below count (family past m) ≡ true) × (count ≤ m → log_lines m past ≡ [])

-- what the form says of the lines
abbrev pub Fits : {V D : Type 0} → RunPlan V D → List (Line V) → Position → Type 0
Fits {V} {D} plan past (in_logs k least) = (blocks past ≡ k) × ((s : LegPlan V D) → leg_plan plan k ≡ Some s → Named s.count past)
Fits plan past (in_values k next) = (blocks past ≡ suc k) × (next < count_of (leg_plan plan k)) × ((m : ℕ) → log_lines m past ≡ [])

named-none : {V : Type 0} (count : ℕ) (past : List (Line V)) → ((m : ℕ) → log_lines m past ≡ []) → Named count past
named-none count past none m = (ap (λ xs. peers_below count (entries xs)) (none m), λ le. none m)

-- the parts of what the form asks of a log line
pub log-parts : {V : Type 0} (least n count : ℕ) (x : LogLine V) → (leb least n && (ltb n count && names_below count x)) ≡ true → (least ≤ n) × (n < count) × (names_below count x ≡ true)
log-parts least n count x t =
    let (a, b) = and_parts (leb least n) (ltb n count && names_below count x) t in
    let (c, d) = and_parts (ltb n count) (names_below count x) b in
    (leb-true least n a, ltb-true n count c, d)

-- of what a test gives
pub if-some : {A : Type 0} (b : Bool) (x y : A) → (if b then Some x else None) ≡ Some y → (b ≡ true) × (x ≡ y)
if-some true x y e = (refl, cc e)
if-some false x y e = absurd (cc e)

pub some-same : {A : Type 0} (x y : A) → Some x ≡ Some y → x ≡ y
some-same x y e = cc e

module _ {V D : Type 0} (plan : RunPlan V D) where
  shows-fits : (past : List (Line V)) (k next : ℕ) → next ≤ count_of (leg_plan plan k) → blocks past ≡ suc k → ((m : ℕ) → log_lines m past ≡ []) → Fits plan past (values_position (count_of (leg_plan plan k)) k next)
  shows-fits past k next le is none =
      by_test (next == count_of (leg_plan plan k)) (λ st. Fits plan past st)
      (λ t. (is, λ s there. named-none s.count past none))
      (λ t. (is, (let apart : next ≡ count_of (leg_plan plan k) → ⊥ = λ e. cc (t, (Decides-eqb next (count_of (leg_plan plan k))).1 e) in omega arith), none))

  fits-logged : (k n : ℕ) (x : LogLine V) (past : List (Line V)) (s : LegPlan V D) → Named s.count past → n < s.count → names_below s.count x ≡ true → Named s.count (log_line n x ∷ past)
  fits-logged k n x past s named lt t m = (
    by_test (n == m) (λ xs. peers_below s.count (entries xs) ≡ true) (λ same. named-peers s.count x (log_lines m past) t (named m).0) (λ differ. (named m).0),
    λ le. cond-false (n == m) (x ∷ log_lines m past) (log_lines m past) (off m le) ∙ (named m).1 le,
  )
    where
      off : (m : ℕ) → s.count ≤ m → (n == m) ≡ false
      off m le = elim (cases_Bool (n == m)) [ inl e ↦ (let same : n ≡ m = (Decides-eqb n m).0 e in absurd (omega arith)) | inr e ↦ e ]

  pub fits-step : (past : List (Line V)) (st : Position) (x : Line V) (after : Position) → Fits plan past st → next_position plan st x ≡ Some after → Fits plan (x ∷ past) after
  fits-step past (in_logs k least) passed_line after fits is = subst (λ st. Fits plan (passed_line ∷ past) st) (some-same (in_logs k least) after is) fits
  fits-step past (in_logs k least) (log_line n x) after fits is =
      let (t, e) = if-some (leb least n && (ltb n (count_of (leg_plan plan k)) && names_below (count_of (leg_plan plan k)) x)) (in_logs k n) after is in
      let (le, lt, named) = log-parts least n (count_of (leg_plan plan k)) x t in
      subst (λ st. Fits plan (log_line n x ∷ past) st) e (
        fits.0,
        λ s there. let c : count_of (leg_plan plan k) ≡ s.count = ap (λ o. count_of o) there in
            fits-logged k n x past s (fits.1 s there) (subst (λ i. n < i) c lt) (subst (λ i. names_below i x ≡ true) c named),
      )
  fits-step past (in_logs k least) (settle_line j) after fits is =
      let (t, e) = if-some ((j == suc k) && is_some (leg_plan plan k)) (values_position (count_of (leg_plan plan k)) k 0) after is in
      subst (λ st. Fits plan (settle_line j ∷ past) st) e (shows-fits (settle_line j ∷ past) k 0 (omega arith) (ap suc fits.0) (λ m. refl))
  fits-step past (in_logs k least) (value_line n v) after fits is = absurd (cc is)
  fits-step past (in_logs k least) other_line after fits is = absurd (cc is)
  fits-step past (in_values k next) passed_line after fits is = subst (λ st. Fits plan (passed_line ∷ past) st) (some-same (in_values k next) after is) fits
  fits-step past (in_values k next) (log_line n x) after fits is = absurd (cc is)
  fits-step past (in_values k next) (settle_line j) after fits is = absurd (cc is)
  fits-step past (in_values k next) (value_line n v) after fits is =
      let (t, e) = if-some (n == next) (values_position (count_of (leg_plan plan k)) k (suc next)) after is in
      let lt : next < count_of (leg_plan plan k) = fits.1 in
      subst (λ st. Fits plan (value_line n v ∷ past) st) e (shows-fits (value_line n v ∷ past) k (suc next) (omega arith) fits.0 (λ m. refl))
  fits-step past (in_values k next) other_line after fits is = absurd (cc is)

  pub fits : (past : List (Line V)) (st : Position) → position_after plan past ≡ Some st → Fits plan past st
  fits [] st is = subst (λ f. Fits plan [] f) (some-same (in_logs 0 0) st is) (refl, λ s there m. (refl, λ le. refl))
  fits (x ∷ past) st is = go (λ s before. fits past s before) (position_after plan past) refl is
    where
      go : ((s : Position) → position_after plan past ≡ Some s → Fits plan past s) → (o : Option Position) → position_after plan past ≡ o → option_and_then (λ s. next_position plan s x) o ≡ Some st → Fits plan (x ∷ past) st
      go earlier None before e = absurd (cc e)
      go earlier (Some s) before e = fits-step past s x st (earlier s before) e
