-- What a log says of frames, against its entries: where all bytes are frames the two are one.
use Rattle.std.proofs.Common.{◌≡◌, ℕ, suc, Bool, true, false, ◌==◌, List, [], ◌∷◌, map, length, Option, Some, None, refl, sym, ap, ◌∙◌, subst, if◌then◌else◌}
use Rattle.std.specs.Prelude.{option_map}
use Rattle.propagation.specs.Lists.{numbered}
use Rattle.propagation.specs.Logs.{Frame, Entry, Leg, frames_taken, frames_sent}
use Rattle.propagation.specs.Logs.Entry.{Did, Took, Computed, Sent}
use Rattle.propagation.specs.Lines.{Keeps, AllKeep}
use Rattle.propagation.specs.Lines as Entries
use Rattle.propagation.specs.Lines.{Rule as Of}
use Rattle.judged_run.specs.Texts.{LogLine, entries, frames_given, count_taken, all_frames}
use Rattle.judged_run.specs.Texts.LogLine.{entry, took_bytes, sent_bytes}
use Rattle.judged_run.specs.LineRules.{Rule, LogLineKeeps, PicksAreTyped}
use Rattle.judged_run.specs.LineRules.Rule.{J1, J2, J3, J4, J5, J6, J7, J8, J9}

if-map : {A C : Type 0} (b : Bool) (h : A → C) (x : A) (xs : List A) (ys : List C) → ys ≡ map h xs → (if b then h x ∷ ys else ys) ≡ map h (if b then x ∷ xs else xs)
if-map true h x xs ys e = ap (λ zs. h x ∷ zs) e
if-map false h x xs ys e = e

if-length : {A : Type 0} (b : Bool) (k : ℕ) (x : A) (xs : List A) → k ≡ length xs → (if b then suc k else k) ≡ length (if b then x ∷ xs else xs)
if-length true k x xs e = ap suc e
if-length false k x xs e = e

length-map : {A C : Type 0} (h : A → C) (xs : List A) → length (map h xs) ≡ length xs
length-map h [] = refl
length-map h (x ∷ xs) = ap suc (length-map h xs)

numbered-map : {A C : Type 0} (h : A → C) (xs : List A) (k : ℕ) → numbered (map h xs) k ≡ option_map h (numbered xs k)
numbered-map h [] k = refl
numbered-map h (x ∷ xs) k = subst (λ i. (if i == k then Some (h x) else numbered (map h xs) k) ≡ option_map h (if length xs == k then Some x else numbered xs k)) (sym (length-map h xs)) (go (numbered-map h xs k) (length xs == k))
  where
    go : numbered (map h xs) k ≡ option_map h (numbered xs k) → (b : Bool) → (if b then Some (h x) else numbered (map h xs) k) ≡ option_map h (if b then Some x else numbered xs k)
    go rest true = refl
    go rest false = rest

some-inner : {A : Type 0} (o : Option A) (x : A) → option_map (λ y. Some y) o ≡ Some (Some x) → o ≡ Some x
some-inner None x e = absurd (cc e)
some-inner (Some y) x e = cc e

module _ {V : Type 0} where
  pub gives-sent : (q : ℕ) (xs : List (LogLine V)) → all_frames xs ≡ true → frames_given q xs ≡ map (λ f. Some f) (frames_sent q (entries xs))
  gives-sent q [] t = refl
  gives-sent q (entry (Did c) ∷ before) t = gives-sent q before t
  gives-sent q (entry (Took s f) ∷ before) t = gives-sent q before t
  gives-sent q (entry (Computed v S picks) ∷ before) t = gives-sent q before t
  gives-sent q (entry (Sent r f) ∷ before) t = if-map (r == q) (λ f. Some f) f (frames_sent q (entries before)) (frames_given q before) (gives-sent q before t)
  gives-sent q (took_bytes s ∷ before) t = absurd (cc t)
  gives-sent q (sent_bytes r ∷ before) t = absurd (cc t)

  pub takes-taken : (p : ℕ) (xs : List (LogLine V)) → all_frames xs ≡ true → count_taken p xs ≡ length (frames_taken p (entries xs))
  takes-taken p [] t = refl
  takes-taken p (entry (Did c) ∷ before) t = takes-taken p before t
  takes-taken p (entry (Took s f) ∷ before) t = if-length (s == p) (count_taken p before) f (frames_taken p (entries before)) (takes-taken p before t)
  takes-taken p (entry (Computed v S picks) ∷ before) t = takes-taken p before t
  takes-taken p (entry (Sent r f) ∷ before) t = takes-taken p before t
  takes-taken p (took_bytes s ∷ before) t = absurd (cc t)
  takes-taken p (sent_bytes r ∷ before) t = absurd (cc t)

  -- the frame of that number, told by what is said and by the entries
  pub given-numbered : (q p : ℕ) (giver taker : List (LogLine V)) → all_frames giver ≡ true → all_frames taker ≡ true →
      numbered (frames_given q giver) (count_taken p taker) ≡ option_map (λ f. Some f) (numbered (frames_sent q (entries giver)) (length (frames_taken p (entries taker))))
  given-numbered q p giver taker tg tt_ =
      ap (λ fs. numbered fs (count_taken p taker)) (gives-sent q giver tg) ∙ ap (λ k. numbered (map (λ f. Some f) (frames_sent q (entries giver))) k) (takes-taken p taker tt_)
      ∙ numbered-map (λ f. Some f) (frames_sent q (entries giver)) (length (frames_taken p (entries taker)))

module _ {V D : Type 0} (has_type : ℕ → V → Bool) (g : Leg V D) where
  -- each line of a log keeps each rule, where this is what the logs of the block say
  abbrev pub SaidAll : (ℕ → List (LogLine V)) → ℕ → List (LogLine V) → Type 0
  SaidAll said m [] = Unit {0}
  SaidAll said m (x ∷ before) = ((rule : Rule) → LogLineKeeps has_type g (λ p. frames_given m (said p)) m rule x before) × SaidAll said m before

  pub said-frames : (said : ℕ → List (LogLine V)) (m : ℕ) (xs : List (LogLine V)) → SaidAll said m xs → all_frames xs ≡ true
  said-frames said m [] all = refl
  said-frames said m (entry x ∷ before) all = said-frames said m before all.1
  said-frames said m (took_bytes p ∷ before) all = absurd (all.0 J3)
  said-frames said m (sent_bytes q ∷ before) all = absurd (all.0 J4)

  -- no rule but J3 looks at the other logs
  pub keeps-else : (logs others : ℕ → List (Entry V)) (n : ℕ) (before : List (Entry V)) (rule : Entries.Rule) (x : Entry V) → (rule ≡ Of.J3 → ⊥) → Keeps g logs n rule x before → Keeps g others n rule x before
  keeps-else logs others n before Of.J2 (Did c) apart h = h
  keeps-else logs others n before Of.J2 (Took p f) apart h = h
  keeps-else logs others n before Of.J2 (Computed v S picks) apart h = h
  keeps-else logs others n before Of.J2 (Sent q f) apart h = h
  keeps-else logs others n before Of.J3 x apart h = absurd (apart refl)
  keeps-else logs others n before Of.J4 (Did c) apart h = h
  keeps-else logs others n before Of.J4 (Took p f) apart h = h
  keeps-else logs others n before Of.J4 (Computed v S picks) apart h = h
  keeps-else logs others n before Of.J4 (Sent q f) apart h = h
  keeps-else logs others n before Of.J5 (Did c) apart h = h
  keeps-else logs others n before Of.J5 (Took p f) apart h = h
  keeps-else logs others n before Of.J5 (Computed v S picks) apart h = h
  keeps-else logs others n before Of.J5 (Sent q f) apart h = h
  keeps-else logs others n before Of.J6 (Did c) apart h = h
  keeps-else logs others n before Of.J6 (Took p f) apart h = h
  keeps-else logs others n before Of.J6 (Computed v S picks) apart h = h
  keeps-else logs others n before Of.J6 (Sent q f) apart h = h
  keeps-else logs others n before Of.J7 (Did c) apart h = h
  keeps-else logs others n before Of.J7 (Took p f) apart h = h
  keeps-else logs others n before Of.J7 (Computed v S picks) apart h = h
  keeps-else logs others n before Of.J7 (Sent q f) apart h = h

  module _ (said : ℕ → List (LogLine V)) (frames : (n : ℕ) → all_frames (said n) ≡ true) where
    -- the entries of these logs
    abbrev pub logs_of : ℕ → List (Entry V)
    logs_of n = entries (said n)

    none-logs : ℕ → List (Entry V)
    none-logs k = []

    entry-kept : (m : ℕ) (x : Entry V) (before : List (LogLine V)) → all_frames before ≡ true → ((rule : Rule) → LogLineKeeps has_type g (λ p. frames_given m (said p)) m rule (entry x) before) →
        (rule : Entries.Rule) → Keeps g logs_of m rule x (entries before)
    entry-kept m x before t all Of.J2 = keeps-else (λ k. []) logs_of m (entries before) Of.J2 x (λ e. cc e) (all J2)
    entry-kept m (Did c) before t all Of.J3 = tt
    entry-kept m (Took p f) before t all Of.J3 =
        (some-inner (numbered (frames_sent m (logs_of p)) (length (frames_taken p (entries before)))) f (sym (given-numbered m p (said p) before (frames p) t) ∙ (all J3).0), (all J3).1)
    entry-kept m (Computed v S picks) before t all Of.J3 = tt
    entry-kept m (Sent q f) before t all Of.J3 = tt
    entry-kept m x before t all Of.J4 = keeps-else (λ k. []) logs_of m (entries before) Of.J4 x (λ e. cc e) (all J4)
    entry-kept m x before t all Of.J5 = keeps-else (λ k. []) logs_of m (entries before) Of.J5 x (λ e. cc e) (all J5)
    entry-kept m x before t all Of.J6 = keeps-else (λ k. []) logs_of m (entries before) Of.J6 x (λ e. cc e) (all J6)
    entry-kept m x before t all Of.J7 = keeps-else (λ k. []) logs_of m (entries before) Of.J7 x (λ e. cc e) (all J7).0

    pub said-kept : (m : ℕ) (xs : List (LogLine V)) → SaidAll said m xs → AllKeep g logs_of m (entries xs)
    said-kept m [] all = tt
    said-kept m (entry x ∷ before) all = (entry-kept m x before (said-frames said m before all.1) all.0, said-kept m before all.1)
    said-kept m (took_bytes p ∷ before) all = said-kept m before all.1
    said-kept m (sent_bytes q ∷ before) all = said-kept m before all.1

    -- and back, where the picked values are of their types
    pub kept-entry : (m : ℕ) (x : Entry V) (before : List (LogLine V)) → all_frames before ≡ true → ((rule : Entries.Rule) → Keeps g logs_of m rule x (entries before)) → PicksAreTyped has_type g m x (entries before) →
        (rule : Rule) → LogLineKeeps has_type g (λ p. frames_given m (said p)) m rule (entry x) before
    kept-entry m x before t all typed J1 = tt
    kept-entry m x before t all typed J2 = keeps-else logs_of (λ k. []) m (entries before) Of.J2 x (λ e. cc e) (all Of.J2)
    kept-entry m (Did c) before t all typed J3 = tt
    kept-entry m (Took p f) before t all typed J3 =
        (given-numbered m p (said p) before (frames p) t ∙ ap (λ o. option_map (λ (y : Frame V). Some y) o) (all Of.J3).0, (all Of.J3).1)
    kept-entry m (Computed v S picks) before t all typed J3 = tt
    kept-entry m (Sent q f) before t all typed J3 = tt
    kept-entry m x before t all typed J4 = keeps-else logs_of (λ k. []) m (entries before) Of.J4 x (λ e. cc e) (all Of.J4)
    kept-entry m x before t all typed J5 = keeps-else logs_of (λ k. []) m (entries before) Of.J5 x (λ e. cc e) (all Of.J5)
    kept-entry m x before t all typed J6 = keeps-else logs_of (λ k. []) m (entries before) Of.J6 x (λ e. cc e) (all Of.J6)
    kept-entry m x before t all typed J7 = (keeps-else logs_of (λ k. []) m (entries before) Of.J7 x (λ e. cc e) (all Of.J7), typed)
    kept-entry m x before t all typed J8 = tt
    kept-entry m x before t all typed J9 = tt
