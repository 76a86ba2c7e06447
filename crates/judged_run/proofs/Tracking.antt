-- The state of a log is what is read from the log, entry by entry.
use Rattle.std.proofs.Common.{◌≡◌, ℕ, suc, Bool, true, false, ◌==◌, List, [], ◌∷◌, ◌++◌, length, max, Option, Some, None, reverse, inl, inr, refl, sym, ap, ap₂, ◌∙◌, subst, append_assoc, append-nil, if◌then◌else◌}
use Rattle.std.proofs.lemmas.Bool.{cases_Bool, cond-true, cond-false}
use Rattle.std.proofs.lemmas.Bool.Decides.{Decides-eqb}
use Rattle.std.proofs.lemmas.List.{reverse-append, reverse-reverse}
use Rattle.propagation.specs.Lists.{as_list, latest}
use Rattle.propagation.specs.History.{edge}
use Rattle.propagation.specs.Stamps.{Stamps, clock_of}
use Rattle.propagation.specs.Logs.{Emission, Frame, Entry, Leg, own, emissions, frames_taken, frames_sent, last_work, told, carried_last, emissions_brought, rewire, reply, tell}
use Rattle.propagation.specs.Logs.Frame.{Subscribe, Unsubscribe, Sources, Changed}
use Rattle.propagation.specs.Logs.Entry.{Did, Took, Computed, Sent}
use Rattle.propagation.specs.Lines.{sent_since, epoch_list, news_for, frames_asked}
use Rattle.propagation.specs.Notes.{floor}
use Rattle.judged_run.specs.LogStates.{LogState, state_before, told_after, last_after, came_after, epochs_after, edge_after_change, news_frames, all_but_first, after_entry}

module _ {V : Type 0} where
  told-by : (first : Stamps) (e : ℕ) (f : Frame V) (before : List (Frame V)) → told first e (f ∷ before) ≡ told_after f e (carried_last first e before) (told first e before)
  told-by first e (Subscribe i) before = refl
  told-by first e (Unsubscribe i) before = refl
  told-by first e (Sources i ks) before = refl
  told-by first e (Changed i v pairs) before = refl

  last-by : (first : Stamps) (e : ℕ) (f : Frame V) (before : List (Frame V)) → carried_last first e (f ∷ before) ≡ last_after f e (carried_last first e before) (told first e before)
  last-by first e (Subscribe i) before = refl
  last-by first e (Unsubscribe i) before = refl
  last-by first e (Sources i ks) before = refl
  last-by first e (Changed i v pairs) before = refl

  came-by : (first : Stamps) (e : ℕ) (f : Frame V) (before : List (Frame V)) → emissions_brought first e (f ∷ before) ≡ came_after f e (told first e before) (emissions_brought first e before)
  came-by first e (Subscribe i) before = refl
  came-by first e (Unsubscribe i) before = refl
  came-by first e (Sources i ks) before = refl
  came-by first e (Changed i v pairs) before = refl

  read-by : (first : Option ℕ) (f : Frame V) (before : List (Frame V)) → epoch_list first (f ∷ before) ≡ epochs_after f (epoch_list first before)
  read-by first (Subscribe i) before = refl
  read-by first (Unsubscribe i) before = refl
  read-by first (Sources i ks) before = refl
  read-by first (Changed i v pairs) before = refl

-- of a list that may be one longer
if-more : {A C : Type 0} (b : Bool) (h : List A → C) (x : A) (xs : List A) (more other_line : C) → (b ≡ true → more ≡ h (x ∷ xs)) → (b ≡ false → other_line ≡ h xs) → (if b then more else other_line) ≡ h (if b then x ∷ xs else xs)
if-more true h x xs more other_line so else_so = so refl
if-more false h x xs more other_line so else_so = else_so refl

module _ {V D : Type 0} (g : Leg V D) (n : ℕ) where
  -- the state is what the log tells
  pub record Knows (log : List (Entry V)) (t : LogState V) : Type 0 where
    pub clock : t.clock ≡ own g n log
    pub edges : (p : ℕ) → t.edges p ≡ edge g.book n p (own g n log)
    pub heard : (p e : ℕ) → t.heard p e ≡ told (g.hears n p e) e (frames_taken p log)
    pub heard_last : (p e : ℕ) → t.heard_last p e ≡ carried_last (g.hears n p e) e (frames_taken p log)
    pub came : (p e : ℕ) → t.came p e ≡ emissions_brought (g.hears n p e) e (frames_taken p log)
    pub took : (p : ℕ) → t.took p ≡ length (frames_taken p log)
    pub readers : (q : ℕ) → t.readers q ≡ epoch_list (g.read_by n q) (frames_taken q log)
    pub told_to : (q e : ℕ) → t.told_to q e ≡ told (g.tells n q e) e (frames_sent q log)
    pub told_last : (q e : ℕ) → t.told_last q e ≡ carried_last (g.tells n q e) e (frames_sent q log)
    pub top : (q : ℕ) → t.top q ≡ floor (emissions g n log) q
    pub last : t.last ≡ latest (emissions g n log)
    pub work : t.work ≡ last_work g n log
    pub due : (q : ℕ) → frames_asked g n q log ≡ reverse (t.due q) ++ sent_since q log

  latest-list : (o : Option (Emission V)) → o ≡ latest (as_list o)
  latest-list None = refl
  latest-list (Some m) = refl

  pub knows-begun : Knows [] (state_before g n)
  knows-begun = record {
    clock = refl;
    edges = λ p. refl;
    heard = λ p e. refl;
    heard_last = λ p e. refl;
    came = λ p e. refl;
    took = λ p. refl;
    readers = λ q. refl;
    told_to = λ q e. refl;
    told_last = λ q e. refl;
    top = λ q. refl;
    last = latest-list (g.opened n);
    work = refl;
    due = λ q. refl;
  }

  -- a list that is due from nothing
  due-whole : (fs : List (Frame V)) → fs ≡ reverse (reverse fs) ++ []
  due-whole fs = sym (append-nil (reverse (reverse fs)) ∙ reverse-reverse fs)

  news-by : (log : List (Entry V)) (t : LogState V) (q : ℕ) → ((e : ℕ) → t.told_to q e ≡ told (g.tells n q e) e (frames_sent q log)) → (es : List ℕ) (m : Emission V) → news_frames (t.told_to q) es m ≡ news_for g n q es m (frames_sent q log)
  news-by log t q same [] m = refl
  news-by log t q same (e ∷ es) m = ap₂ (λ (S : Stamps) (fs : List (Frame V)). tell e S m ++ fs) (same e) (news-by log t q same es m)

  -- what a sent frame must be
  abbrev pub IsDue : Entry V → LogState V → Type 0
  IsDue (Sent r f) t = (more : List (Frame V)) × (t.due r ≡ f ∷ more)
  IsDue x t = Unit {0}

  pub knows-learn : (x : Entry V) (log : List (Entry V)) (t : LogState V) → Knows log t → IsDue x t → Knows (x ∷ log) (after_entry g n x t)
  knows-learn (Did c) log t k is_due = record {
    clock = ap suc k.clock;
    edges = λ p. edged p;
    heard = k.heard;
    heard_last = k.heard_last;
    came = k.came;
    took = k.took;
    readers = k.readers;
    told_to = k.told_to;
    told_last = k.told_last;
    top = k.top;
    last = k.last;
    work = k.work;
    due = λ q. ap₂ (λ a b. rewire a b) (sym (k.edges q)) (sym (edged q)) ∙ due-whole (rewire (t.edges q) (edge_after_change g.book n q t.clock (t.edges q)));
  }
    where
      edged : (p : ℕ) → edge_after_change g.book n p t.clock (t.edges p) ≡ edge g.book n p (suc (own g n log))
      edged p = ap₂ (λ c o. edge_after_change g.book n p c o) k.clock (k.edges p)
  knows-learn (Took s f) log t k is_due = record {
    clock = k.clock;
    edges = k.edges;
    heard = λ p e. if-more (s == p) (λ fs. told (g.hears n p e) e fs) f (frames_taken p log) (told_after f e (t.heard_last p e) (t.heard p e)) (t.heard p e)
        (λ is. ap₂ (λ L S. told_after f e L S) (k.heard_last p e) (k.heard p e) ∙ sym (told-by (g.hears n p e) e f (frames_taken p log))) (λ not_is. k.heard p e);
    heard_last = λ p e. if-more (s == p) (λ fs. carried_last (g.hears n p e) e fs) f (frames_taken p log) (last_after f e (t.heard_last p e) (t.heard p e)) (t.heard_last p e)
        (λ is. ap₂ (λ L S. last_after f e L S) (k.heard_last p e) (k.heard p e) ∙ sym (last-by (g.hears n p e) e f (frames_taken p log))) (λ not_is. k.heard_last p e);
    came = λ p e. if-more (s == p) (λ fs. emissions_brought (g.hears n p e) e fs) f (frames_taken p log) (came_after f e (t.heard p e) (t.came p e)) (t.came p e)
        (λ is. ap₂ (λ S ms. came_after f e S ms) (k.heard p e) (k.came p e) ∙ sym (came-by (g.hears n p e) e f (frames_taken p log))) (λ not_is. k.came p e);
    took = λ p. if-more (s == p) (λ fs. length fs) f (frames_taken p log) (suc (t.took p)) (t.took p) (λ is. ap suc (k.took p)) (λ not_is. k.took p);
    readers = λ q. if-more (s == q) (λ fs. epoch_list (g.read_by n q) fs) f (frames_taken q log) (epochs_after f (t.readers q)) (t.readers q)
        (λ is. ap (λ es. epochs_after f es) (k.readers q) ∙ sym (read-by (g.read_by n q) f (frames_taken q log))) (λ not_is. k.readers q);
    told_to = k.told_to;
    told_last = k.told_last;
    top = k.top;
    last = k.last;
    work = k.work;
    due = λ q. replied q (s == q);
  }
    where
      replied : (q : ℕ) (b : Bool) → (if b then reply f (latest (emissions g n log)) else []) ≡ reverse (if b then reverse (reply f t.last) else []) ++ []
      replied q true = ap (λ o. reply f o) (sym k.last) ∙ due-whole (reply f t.last)
      replied q false = refl
  knows-learn (Computed v S picks) log t k is_due = record {
    clock = k.clock;
    edges = k.edges;
    heard = k.heard;
    heard_last = k.heard_last;
    came = k.came;
    took = k.took;
    readers = k.readers;
    told_to = k.told_to;
    told_last = k.told_last;
    top = λ q. ap (λ c. max (clock_of S q) c) (k.top q);
    last = refl;
    work = ap (λ c. (c, picks)) k.clock;
    due = λ q. ap (λ es. news_for g n q es (record { value = v; stamps = S }) (frames_sent q log)) (sym (k.readers q)) ∙ sym (news-by log t q (k.told_to q) (t.readers q) (record { value = v; stamps = S }))
        ∙ due-whole (news_frames (t.told_to q) (t.readers q) (record { value = v; stamps = S }));
  }
  knows-learn (Sent r f) log t k (more, is) = record {
    clock = k.clock;
    edges = k.edges;
    heard = k.heard;
    heard_last = k.heard_last;
    came = k.came;
    took = k.took;
    readers = k.readers;
    told_to = λ q e. if-more (r == q) (λ fs. told (g.tells n q e) e fs) f (frames_sent q log) (told_after f e (t.told_last q e) (t.told_to q e)) (t.told_to q e)
        (λ is. ap₂ (λ L S. told_after f e L S) (k.told_last q e) (k.told_to q e) ∙ sym (told-by (g.tells n q e) e f (frames_sent q log))) (λ not_is. k.told_to q e);
    told_last = λ q e. if-more (r == q) (λ fs. carried_last (g.tells n q e) e fs) f (frames_sent q log) (last_after f e (t.told_last q e) (t.told_to q e)) (t.told_last q e)
        (λ is. ap₂ (λ L S. last_after f e L S) (k.told_last q e) (k.told_to q e) ∙ sym (last-by (g.tells n q e) e f (frames_sent q log))) (λ not_is. k.told_last q e);
    top = k.top;
    last = k.last;
    work = k.work;
    due = λ q. elim (cases_Bool (r == q)) [
      | inl t_is ↦ (let same : r ≡ q = (Decides-eqb r q).0 t_is in k.due q ∙ subst (λ i. reverse (t.due i) ++ sent_since i log ≡ reverse (all_but_first (t.due i)) ++ f ∷ sent_since i log) same at_r
          ∙ ap₂ (λ (xs ys : List (Frame V)). reverse xs ++ ys) (sym (cond-true (r == q) (all_but_first (t.due q)) (t.due q) t_is)) (sym (cond-true (r == q) (f ∷ sent_since q log) (sent_since q log) t_is)))
      | inr f_is ↦ k.due q ∙ ap₂ (λ (xs ys : List (Frame V)). reverse xs ++ ys) (sym (cond-false (r == q) (all_but_first (t.due q)) (t.due q) f_is)) (sym (cond-false (r == q) (f ∷ sent_since q log) (sent_since q log) f_is))
    ];
  }
    where
      at_r : reverse (t.due r) ++ sent_since r log ≡ reverse (all_but_first (t.due r)) ++ f ∷ sent_since r log
      at_r =
          ap (λ (xs : List (Frame V)). reverse xs ++ sent_since r log) is ∙ ap (λ (xs : List (Frame V)). xs ++ sent_since r log) (reverse-append (f ∷ []) more)
          ∙ append_assoc (reverse more) (f ∷ []) (sent_since r log) ∙ ap (λ (xs : List (Frame V)). reverse (all_but_first xs) ++ f ∷ sent_since r log) (sym is)
