-- The tests of a log line from the state of its log are those from the log.
use Rattle.std.proofs.Common.{◌≡◌, ℕ, zero, suc, ◌≤◌, Bool, true, false, not, ◌&&◌, ◌||◌, leb, ltb, max, ◌==◌, List, [], ◌∷◌, ◌++◌, map, slice_get, Option, Some, None, is_some, reverse, inl, inr, refl, sym, ap, ap₂, ◌∙◌, subst, arith, append_assoc, if◌then◌else◌}
use Rattle.std.specs.Prelude.{Decides, option_and_then}
use Rattle.std.specs.List.{list_all}
use Rattle.std.specs.Cmp.Lexicographic.{pointwise}
use Rattle.std.proofs.lemmas.List.{reverse-append, reverse-reverse, append_cancel_right}
use Rattle.propagation.specs.Lists.{Has, IsOlderPart, numbered}
use Rattle.propagation.specs.History.{definition_at, deps, edge, now}
use Rattle.propagation.specs.Stamps.{Stamps, clock_of, NotBelow, with_clocks}
use Rattle.propagation.specs.Logs.{Emission, Frame, Entry, Leg, own, emissions, member}
use Rattle.propagation.specs.Logs.Frame.{Subscribe, Unsubscribe, Sources, Changed}
use Rattle.propagation.specs.Logs.Entry.{Did, Took, Computed, Sent}
use Rattle.propagation.specs.Rules.{present, carry_under}
use Rattle.propagation.specs.Lines.{sent_since, frames_asked}
use Rattle.propagation.specs.Notes.{floor}
use Rattle.propagation.specs.Deciding.{if_any, some_and, each_below, each_key, is_older, same_frame, option_cons, picked_emissions, all_agree, agreed, is_union, is_meant, goes_forth, same_work, is_paired, has_answered, IsSame}
use Rattle.propagation.proofs.OldestFirst.{numbered-reverse}
use Rattle.propagation.proofs.Tests.{in_words, Decides-leb, Decides-each_key, Decides-goes_forth, Decides-same_frame, Decides-same_frames, Decides-older_frames}
use Rattle.judged_run.specs.Texts.{LogLine, entries, count_taken, all_frames}
use Rattle.judged_run.specs.Texts.LogLine.{entry, took_bytes, sent_bytes}
use Rattle.judged_run.specs.LineRules.{Rule}
use Rattle.judged_run.specs.LineRules.Rule.{J1, J2, J3, J4, J5, J6, J7, J8, J9}
use Rattle.judged_run.specs.Verdicts.{all_typed, log_line_keeps}
use Rattle.judged_run.specs.LogStates.{LogState, carry_over, carried_from, picked_from, agreed_from, is_empty, none_is_due, is_next_due, all_have_clocks, log_line_test}
use Rattle.judged_run.proofs.Kept.{takes-taken}
use Rattle.judged_run.proofs.Tracking.{Knows}

-- two tests of one thing are one
pub same-decided : {P : Type 0} (a b : Bool) → Decides a P → Decides b P → a ≡ b
same-decided true b da db = sym (db.1 (da.0 refl))
same-decided false true da db = da.1 (db.0 refl)
same-decided false false da db = refl

pub each-same : (f h : ℕ → Bool) → ((k : ℕ) → f k ≡ h k) → (n : ℕ) → each_below f n ≡ each_below h n
each-same f h same zero = refl
each-same f h same (suc n) = ap₂ (λ a b. a && b) (same n) (each-same f h same n)

-- ---- the greatest clocks

max-left : (a b : ℕ) → a ≤ max a b
max-left a b = omega arith

max-right : (a b : ℕ) → b ≤ max a b
max-right a b = omega arith

max-least : (a b c : ℕ) → a ≤ c → b ≤ c → max a b ≤ c
max-least a b c x y = omega arith

module _ {V : Type 0} where
  pub floor-each : (ms : List (Emission V)) (q : ℕ) (m : Emission V) → Has ms m → clock_of m.stamps q ≤ floor ms q
  floor-each [] q m h = absurd h
  floor-each (x ∷ ms) q m (inl e) = subst (λ y. clock_of y.stamps q ≤ max (clock_of x.stamps q) (floor ms q)) e (max-left (clock_of x.stamps q) (floor ms q))
  floor-each (x ∷ ms) q m (inr h) = let a = floor-each ms q m h in let b = max-right (clock_of x.stamps q) (floor ms q) in omega arith

  pub floor-least : (ms : List (Emission V)) (q c : ℕ) → ((m : Emission V) → Has ms m → clock_of m.stamps q ≤ c) → floor ms q ≤ c
  floor-least [] q c all = omega arith
  floor-least (x ∷ ms) q c all = max-least (clock_of x.stamps q) (floor ms q) c (all x (inl refl)) (floor-least ms q c (λ m h. all m (inr h)))

  -- on no key below the greatest clock: on no key below any
  pub Decides-above : (S : Stamps) (ms : List (Emission V)) (top : ℕ → ℕ) → ((q : ℕ) → top q ≡ floor ms q) → Decides (each_key S (λ q. leb (top q) (clock_of S q))) ((m : Emission V) → Has ms m → NotBelow S m.stamps)
  Decides-above S ms top same =
      in_words
      (λ h m has q key. let a : floor ms q ≤ clock_of S q = subst (λ c. c ≤ clock_of S q) (same q) (h q key) in let b = floor-each ms q m has in omega arith)
      (λ h q key. subst (λ c. c ≤ clock_of S q) (sym (same q)) (floor-least ms q (clock_of S q) (λ m has. h m has q key)))
      (Decides-each_key S (λ q. Decides-leb (top q) (clock_of S q)))

-- ---- frames that are due

module _ {A : Type 0} where
  none-before : (newer : List A) (x : A) → newer ++ x ∷ [] ≡ [] → ⊥
  none-before [] x e = cc e
  none-before (y ∷ newer) x e = cc e

  last-same : (xs ys : List A) (x y : A) → xs ++ x ∷ [] ≡ ys ++ y ∷ [] → x ≡ y
  last-same xs ys x y e =
      let turned : x ∷ reverse xs ≡ y ∷ reverse ys = sym (reverse-append xs (x ∷ [])) ∙ ap (λ zs. reverse zs) e ∙ reverse-append ys (y ∷ []) in cc turned

  empty-is : (xs : List A) → Decides (is_empty xs) (xs ≡ [])
  empty-is [] = (λ t. refl, λ e. refl)
  empty-is (x ∷ xs) = (λ t. absurd (cc t), λ e. absurd (cc e))

  reverse-none : (xs : List A) → reverse xs ≡ [] → xs ≡ []
  reverse-none xs e = sym (reverse-reverse xs) ∙ ap (λ zs. reverse zs) e

  reverse-cons : (x : A) (xs since : List A) → reverse (x ∷ xs) ++ since ≡ reverse xs ++ x ∷ since
  reverse-cons x xs since = ap (λ zs. zs ++ since) (reverse-append (x ∷ []) xs) ∙ append_assoc (reverse xs) (x ∷ []) since

-- ---- what came

module _ {V D : Type 0} (g : Leg V D) (n : ℕ) (log : List (Entry V)) (t : LogState V) (k : Knows g n log t) where
  carry-by : (p : ℕ) (o : Option ℕ) → carry_over (g.holds n p) (t.came p) o ≡ carry_under g n p o log
  carry-by p None = refl
  carry-by p (Some e) = ap (λ ms. record { first = g.holds n p e; came = ms }) (k.came p e)

  pub carried-is : (p : ℕ) → carried_from g n t p ≡ present g n p log
  carried-is p = ap (λ o. carry_over (g.holds n p) (t.came p) o) (k.edges p) ∙ carry-by p (edge g.book n p (own g n log))

  picked-by : (ps ks : List ℕ) → picked_from (carried_from g n t) ps ks ≡ picked_emissions g n log ps ks
  picked-by [] [] = refl
  picked-by [] (i ∷ ks) = refl
  picked-by (p ∷ ps) [] = refl
  picked-by (p ∷ ps) (i ∷ ks) = ap₂ (λ o ms. option_cons o ms) (ap (λ c. member c i) (carried-is p)) (picked-by ps ks)

  agreed-by : (picks : List ℕ) → agreed_from g n t picks ≡ agreed g n log picks
  agreed-by picks =
      ap (λ o. option_and_then (λ ms. if all_agree ms then Some ms else None) o)
      (ap (λ c. picked_from (carried_from g n t) (deps g.book n c) picks) k.clock ∙ picked-by (deps g.book n (own g n log)) picks)

  pub above-is : (S : Stamps) → each_key S (λ q. leb (t.top q) (clock_of S q)) ≡ goes_forth S (emissions g n log)
  above-is S =
      same-decided (each_key S (λ q. leb (t.top q) (clock_of S q))) (goes_forth S (emissions g n log)) (Decides-above S (emissions g n log) t.top k.top) (Decides-goes_forth S (emissions g n log))

  paired-is : (p : ℕ) (f : Frame V) → all_have_clocks (t.heard p) f ≡ is_paired g n p f log
  paired-is p (Subscribe e) = refl
  paired-is p (Unsubscribe e) = refl
  paired-is p (Sources e ks) = refl
  paired-is p (Changed e v pairs) = ap (λ S. list_all (λ x. ltb 0 x.1) (with_clocks 0 pairs S)) (k.heard p e)

module _ {V D : Type 0} (same : V → V → Bool) (right : IsSame same) (count : ℕ) (has_type : ℕ → V → Bool) (g : Leg V D) where
  module _ (n : ℕ) (log : List (Entry V)) (t : LogState V) (k : Knows g n log t) where
    answered-at : (q : ℕ) → is_empty (t.due q) ≡ pointwise (same_frame same) (sent_since q log) (frames_asked g n q log)
    answered-at q =
        same-decided (is_empty (t.due q)) (pointwise (same_frame same) (sent_since q log) (frames_asked g n q log))
        (in_words
        (λ none. sym (k.due q ∙ ap (λ (fs : List (Frame V)). reverse fs ++ sent_since q log) none))
        (λ e. reverse-none (t.due q) (append_cancel_right (reverse (t.due q)) [] (sent_since q log) (sym (k.due q) ∙ sym e)))
        (empty-is (t.due q)))
        (Decides-same_frames same right (sent_since q log) (frames_asked g n q log))

    pub none-due : none_is_due count t ≡ has_answered same count g n log
    none-due = each-same (λ q. is_empty (t.due q)) (λ q. pointwise (same_frame same) (sent_since q log) (frames_asked g n q log)) answered-at count

    -- the next frame goes on with what is asked
    Decides-is_next : (q : ℕ) (f : Frame V) (due : List (Frame V)) → frames_asked g n q log ≡ reverse due ++ sent_since q log → Decides (is_next_due same f due) (IsOlderPart (f ∷ sent_since q log) (frames_asked g n q log))
    Decides-is_next q f [] is = (
      λ e. absurd (cc e),
      λ h. absurd (none-before h.0 f (append_cancel_right (h.0 ++ f ∷ []) [] (sent_since q log) (append_assoc h.0 (f ∷ []) (sent_since q log) ∙ h.1 ∙ is))),
    )
    Decides-is_next q f (h ∷ hs) is =
        in_words
        (λ e. (reverse hs, ap (λ (i : Frame V). reverse hs ++ i ∷ sent_since q log) e ∙ sym (reverse-cons h hs (sent_since q log)) ∙ sym is))
        (λ part. last-same part.0 (reverse hs) f h (append_cancel_right (part.0 ++ f ∷ []) (reverse hs ++ h ∷ []) (sent_since q log)
        (append_assoc part.0 (f ∷ []) (sent_since q log) ∙ part.1 ∙ is ∙ reverse-cons h hs (sent_since q log) ∙ sym (append_assoc (reverse hs) (h ∷ []) (sent_since q log)))))
        (Decides-same_frame same right f h)

    next-is : (q : ℕ) (f : Frame V) → is_next_due same f (t.due q) ≡ is_older (same_frame same) (f ∷ sent_since q log) (frames_asked g n q log)
    next-is q f =
        same-decided (is_next_due same f (t.due q)) (is_older (same_frame same) (f ∷ sent_since q log) (frames_asked g n q log)) (Decides-is_next q f (t.due q) (k.due q))
        (Decides-older_frames same right (f ∷ sent_since q log) (frames_asked g n q log))

  -- ---- the line

  module _ (n : ℕ) (before : List (LogLine V)) (frames : all_frames before ≡ true) (t : LogState V) (k : Knows g n (entries before) t)
      (given table : ℕ → List (Option (Frame V))) (turned : (p : ℕ) → table p ≡ reverse (given p)) where
    given-is : (p : ℕ) → slice_get (table p) (t.took p) ≡ numbered (given p) (count_taken p before)
    given-is p =
        ap₂ (λ fs i. slice_get fs i) (turned p) (k.took p ∙ sym (takes-taken p before frames)) ∙ sym (numbered-reverse (given p) (count_taken p before))

    pub said-test : (rule : Rule) (x : LogLine V) → log_line_test same count has_type g table n rule x t ≡ log_line_keeps same count has_type g given n rule x before
    said-test J1 (entry x) = refl
    said-test J1 (took_bytes p) = refl
    said-test J1 (sent_bytes q) = refl
    said-test J2 (entry (Did c)) = ap (λ i. (c == suc i) && leb c (now g.book n)) k.clock
    said-test J2 (entry (Took p f)) = refl
    said-test J2 (entry (Computed v S picks)) = refl
    said-test J2 (entry (Sent q f)) = refl
    said-test J2 (took_bytes p) = refl
    said-test J2 (sent_bytes q) = refl
    said-test J3 (entry (Did c)) = refl
    said-test J3 (entry (Took p f)) = ap₂ (λ a b. a && b) (ap (λ o. some_and (λ i. some_and (λ h. same_frame same h f) i) o) (given-is p)) (paired-is g n (entries before) t k p f)
    said-test J3 (entry (Computed v S picks)) = refl
    said-test J3 (entry (Sent q f)) = refl
    said-test J3 (took_bytes p) = refl
    said-test J3 (sent_bytes q) = refl
    said-test J4 (entry (Did c)) = none-due n (entries before) t k
    said-test J4 (entry (Took p f)) = none-due n (entries before) t k
    said-test J4 (entry (Computed v S picks)) = none-due n (entries before) t k
    said-test J4 (entry (Sent q f)) = next-is n (entries before) t k q f
    said-test J4 (took_bytes p) = none-due n (entries before) t k
    said-test J4 (sent_bytes q) = refl
    said-test J5 (entry (Did c)) = refl
    said-test J5 (entry (Took p f)) = refl
    said-test J5 (entry (Computed v S picks)) =
        ap₂ (λ a b. a && b) (ap (λ o. is_some o) (agreed-by g n (entries before) t k picks))
        (ap₂ (λ a b. a && b) (above-is g n (entries before) t k S)
        (ap₂ (λ c w. (c == 0) || not (same_work w (c, picks))) k.clock k.work))
    said-test J5 (entry (Sent q f)) = refl
    said-test J5 (took_bytes p) = refl
    said-test J5 (sent_bytes q) = refl
    said-test J6 (entry (Did c)) = refl
    said-test J6 (entry (Took p f)) = refl
    said-test J6 (entry (Computed v S picks)) =
        ap₂ (λ c o. if_any (λ ms. is_union n c S ms && is_some (definition_at g.book n c)) o) k.clock (agreed-by g n (entries before) t k picks)
    said-test J6 (entry (Sent q f)) = refl
    said-test J6 (took_bytes p) = refl
    said-test J6 (sent_bytes q) = refl
    said-test J7 (entry (Did c)) = refl
    said-test J7 (entry (Took p f)) = refl
    said-test J7 (entry (Computed v S picks)) =
        ap₂ (λ c o. if_any (λ ms. if_any (λ d. is_meant same g d v ms) (definition_at g.book n c)) o && if_any (λ ms. all_typed has_type (deps g.book n c) (map (λ m. m.value) ms)) o)
        k.clock (agreed-by g n (entries before) t k picks)
    said-test J7 (entry (Sent q f)) = refl
    said-test J7 (took_bytes p) = refl
    said-test J7 (sent_bytes q) = refl
    said-test J8 (entry x) = refl
    said-test J8 (took_bytes p) = refl
    said-test J8 (sent_bytes q) = refl
    said-test J9 (entry x) = refl
    said-test J9 (took_bytes p) = refl
    said-test J9 (sent_bytes q) = refl
