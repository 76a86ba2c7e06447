-- Whether a block is quiet, from the states of its logs.
use Rattle.std.proofs.Common.{◌≡◌, ℕ, zero, suc, ◌≤◌, Bool, true, ◌&&◌, leb, ltb, ◌==◌, List, [], ◌∷◌, map, length, Option, Some, None, reverse, inl, inr, refl, sym, ap, ap₂, ◌∙◌, subst, arith}
use Rattle.std.specs.Prelude.{Decides}
use Rattle.std.specs.List.{list_all}
use Rattle.std.specs.Cmp.Lexicographic.{pointwise}
use Rattle.std.proofs.lemmas.Bool.Decides.{Decides-eqb}
use Rattle.std.proofs.lemmas.List.{length-reverse}
use Rattle.propagation.specs.Lists.{Has, IsOlderPart, latest}
use Rattle.propagation.specs.History.{deps, edge, now}
use Rattle.propagation.specs.Stamps.{clock_of, Agree, NotBelow}
use Rattle.propagation.specs.Logs.{Emission, Frame, Entry, Leg, own, emissions, frames_taken, frames_sent, Carry, all_of}
use Rattle.propagation.specs.Rules.{present, carry_under, Ready}
use Rattle.propagation.specs.Notes.{floor}
use Rattle.propagation.specs.Deciding.{implies, some_and, each_below, each_key, same_frame, option_cons, all_agree, same_work, peers_below, is_ready, rests, is_quiet_at, is_quiet, IsSame}
use Rattle.propagation.proofs.Lists.{Has-latest, Has-append_left, Has-append_right, Has-append_cases, numbered-past}
use Rattle.propagation.proofs.NextTaken.{none-next}
use Rattle.propagation.proofs.Edges.{dep-edge}
use Rattle.propagation.proofs.Tests.{both, in_words, Decides-leb, Decides-each_key, Decides-some_and, Decides-list_all, Decides-all_agree, Decides-same_frames}
use Rattle.propagation.proofs.TestedFamily.{Decides-is_ready}
use Rattle.judged_run.specs.LogStates.{LogState, carried_from, last_of_each, all_carried, is_ready_from, rests_from, is_quiet_from}
use Rattle.judged_run.proofs.Tracking.{Knows}
use Rattle.judged_run.proofs.Stepping.{same-decided, each-same, floor-each, floor-least, carried-is}

joined-some : {A : Type 0} (o : Option A) (p : Option (List A)) (ms : List A) → option_cons o p ≡ Some ms → (x : A) × (xs : List A) × (o ≡ Some x) × (p ≡ Some xs) × (x ∷ xs ≡ ms)
joined-some None p ms e = absurd (cc e)
joined-some (Some x) None ms e = absurd (cc e)
joined-some (Some x) (Some xs) ms e = (x, xs, refl, refl, cc e)

-- ---- the last emissions

module _ {V : Type 0} (carry : ℕ → Carry V) where
  lasts-has : (ps : List ℕ) (ms : List (Emission V)) → last_of_each carry ps ≡ Some ms → (p : ℕ) → Has ps p → (m : Emission V) × (latest (all_of (carry p)) ≡ Some m) × Has ms m
  lasts-has [] ms e p h = absurd h
  lasts-has (q ∷ ps) ms e p h =
      let (x, xs, is, rest, whole) = joined-some (latest (all_of (carry q))) (last_of_each carry ps) ms e in
      elim h [
        | inl same ↦ (x, ap (λ i. latest (all_of (carry i))) (sym same) ∙ is, subst (λ ys. Has ys x) whole (inl refl))
        | inr more ↦ (let (m, at, has) = lasts-has ps xs rest p more in (m, at, subst (λ ys. Has ys m) whole (inr has)))
      ]

  lasts-from : (ps : List ℕ) (ms : List (Emission V)) → last_of_each carry ps ≡ Some ms → (m : Emission V) → Has ms m → (p : ℕ) × Has ps p × (latest (all_of (carry p)) ≡ Some m)
  lasts-from [] ms e m h = let same : [] ≡ ms = cc e in absurd (subst (λ ys. Has ys m) (sym same) h)
  lasts-from (q ∷ ps) ms e m h =
      let (x, xs, is, rest, whole) = joined-some (latest (all_of (carry q))) (last_of_each carry ps) ms e in
      elim (subst (λ ys. Has ys m) (sym whole) h) [
        | inl same ↦ (q, inl refl, is ∙ ap (λ i. Some i) same)
        | inr more ↦ (let (p, has, at) = lasts-from ps xs rest m more in (p, inr has, at))
      ]

  lasts-there : (ps : List ℕ) → ((p : ℕ) → Has ps p → (m : Emission V) × (latest (all_of (carry p)) ≡ Some m)) → (ms : List (Emission V)) × (last_of_each carry ps ≡ Some ms)
  lasts-there [] all = ([], refl)
  lasts-there (p ∷ ps) all =
      let (m, is) = all p (inl refl) in let (ms, rest) = lasts-there ps (λ q h. all q (inr h)) in (m ∷ ms, ap₂ (λ o xs. option_cons o xs) is rest)

  all-has : (ps : List ℕ) (p : ℕ) (y : Emission V) → Has ps p → Has (all_of (carry p)) y → Has (all_carried carry ps) y
  all-has [] p y h k = absurd h
  all-has (q ∷ ps) p y h k =
      elim h [
        | inl same ↦ Has-append_left (all_of (carry q)) (all_carried carry ps) y (subst (λ i. Has (all_of (carry i)) y) (sym same) k)
        | inr more ↦ Has-append_right (all_of (carry q)) (all_carried carry ps) y (all-has ps p y more k)
      ]

  all-from : (ps : List ℕ) (y : Emission V) → Has (all_carried carry ps) y → (p : ℕ) × Has ps p × Has (all_of (carry p)) y
  all-from [] y h = absurd h
  all-from (q ∷ ps) y h =
      elim (Has-append_cases (all_of (carry q)) (all_carried carry ps) y h) [
        | inl here ↦ (q, inl refl, here)
        | inr more ↦ (let (p, has, k) = all-from ps y more in (p, inr has, k))
      ]

-- ---- rest

module _ {V D : Type 0} (g : Leg V D) (n : ℕ) (log : List (Entry V)) (t : LogState V) (k : Knows g n log t) where
  all-dep : (p : ℕ) (y : Emission V) → Has (all_of (present g n p log)) y → Has (deps g.book n (own g n log)) p
  all-dep p y h = go (edge g.book n p (own g n log)) refl
    where
      go : (o : Option ℕ) → edge g.book n p (own g n log) ≡ o → Has (deps g.book n (own g n log)) p
      go None none_there = absurd (subst (λ o. Has (all_of (carry_under g n p o log)) y) none_there h)
      go (Some e) there = dep-edge g.book n p (own g n log) e there

  last-dep : (p : ℕ) (x : Emission V) → latest (all_of (present g n p log)) ≡ Some x → Has (deps g.book n (own g n log)) p
  last-dep p x is = all-dep p x (Has-latest (all_of (present g n p log)) x is)

  -- the test over the carries that the log tells
  abbrev ready_from : List ℕ → Bool
  ready_from ps =
      some_and (λ ms. all_agree ms && list_all (λ m. each_key m.stamps (λ q. leb (floor (all_carried (λ p. present g n p log) ps) q) (clock_of m.stamps q) && leb (t.top q) (clock_of m.stamps q))) ms)
      (last_of_each (λ p. present g n p log) ps)

  above-all : (ps : List ℕ) (m : Emission V) → Decides (each_key m.stamps (λ q. leb (floor (all_carried (λ p. present g n p log) ps) q) (clock_of m.stamps q) && leb (t.top q) (clock_of m.stamps q)))
      (((y : Emission V) → Has (all_carried (λ p. present g n p log) ps) y → NotBelow m.stamps y.stamps) × ((y : Emission V) → Has (emissions g n log) y → NotBelow m.stamps y.stamps))
  above-all ps m =
      in_words
      (λ h. (
        λ y has q key. let a = (h q key).0 in let b = floor-each (all_carried (λ p. present g n p log) ps) q y has in omega arith,
        λ y has q key. let a : floor (emissions g n log) q ≤ clock_of m.stamps q = subst (λ c. c ≤ clock_of m.stamps q) (k.top q) (h q key).1 in let b = floor-each (emissions g n log) q y has in omega arith,
      ))
      (λ h q key. (
        floor-least (all_carried (λ p. present g n p log) ps) q (clock_of m.stamps q) (λ y has. h.0 y has q key),
        subst (λ c. c ≤ clock_of m.stamps q) (sym (k.top q)) (floor-least (emissions g n log) q (clock_of m.stamps q) (λ y has. h.1 y has q key)),
      ))
      (Decides-each_key m.stamps (λ q. both (Decides-leb (floor (all_carried (λ p. present g n p log) ps) q) (clock_of m.stamps q)) (Decides-leb (t.top q) (clock_of m.stamps q))))

  Decides-ready : Decides (ready_from (deps g.book n (own g n log))) (Ready g n log)
  Decides-ready =
      in_words there back
      (Decides-some_and (λ ms. both (Decides-all_agree ms) (Decides-list_all (λ m. above-all (deps g.book n (own g n log)) m) ms)) (last_of_each (λ p. present g n p log) (deps g.book n (own g n log))))
    where
      there : ((ms : List (Emission V)) × (last_of_each (λ p. present g n p log) (deps g.book n (own g n log)) ≡ Some ms)
          × (((x y : Emission V) → Has ms x → Has ms y → Agree x.stamps y.stamps)
          × ((m : Emission V) → Has ms m → ((y : Emission V) → Has (all_carried (λ p. present g n p log) (deps g.book n (own g n log))) y → NotBelow m.stamps y.stamps) × ((y : Emission V) → Has (emissions g n log) y → NotBelow m.stamps y.stamps)))) → Ready g n log
      there (ms, is, (agree, above)) = record {
        has = λ p h. let (m, at, has) = lasts-has (λ p. present g n p log) (deps g.book n (own g n log)) ms is p h in (m, at);
        agree = λ p r x y ix iy. agree x y (in_ms p x ix) (in_ms r y iy);
        above = λ p r x y ix has. (above x (in_ms p x ix)).0 y (all-has (λ p. present g n p log) (deps g.book n (own g n log)) r y (all-dep r y has) has);
        monotone = λ p x y ix has. (above x (in_ms p x ix)).1 y has;
      }
        where
          in_ms : (p : ℕ) (x : Emission V) → latest (all_of (present g n p log)) ≡ Some x → Has ms x
          in_ms p x ix =
              let (m, at, has) = lasts-has (λ p. present g n p log) (deps g.book n (own g n log)) ms is p (last-dep p x ix) in
              let e : m ≡ x = cc (sym at ∙ ix) in subst (λ y. Has ms y) e has

      back : Ready g n log → (ms : List (Emission V)) × (last_of_each (λ p. present g n p log) (deps g.book n (own g n log)) ≡ Some ms)
          × (((x y : Emission V) → Has ms x → Has ms y → Agree x.stamps y.stamps)
          × ((m : Emission V) → Has ms m → ((y : Emission V) → Has (all_carried (λ p. present g n p log) (deps g.book n (own g n log))) y → NotBelow m.stamps y.stamps) × ((y : Emission V) → Has (emissions g n log) y → NotBelow m.stamps y.stamps)))
      back r =
          let (ms, is) = lasts-there (λ p. present g n p log) (deps g.book n (own g n log)) r.has in
          let from = lasts-from (λ p. present g n p log) (deps g.book n (own g n log)) ms is in (
            ms,
            is,
            (
              λ x y hx hy. r.agree (from x hx).0 (from y hy).0 x y (from x hx).2 (from y hy).2,
              λ m h. (λ y hy. let (p, hp, k) = all-from (λ p. present g n p log) (deps g.book n (own g n log)) y hy in r.above (from m h).0 p m y (from m h).2 k, λ y hy. r.monotone (from m h).0 m y (from m h).2 hy),
            ),
          )

  -- what the state carries is what the log tells
  carries : ◌≡◌ {A = ℕ → Carry V} (λ p. carried_from g n t p) (λ p. present g n p log)
  carries = λ i p. carried-is g n log t k p i

  ready-is : is_ready_from g n t (deps g.book n (own g n log)) ≡ is_ready g n log (deps g.book n (own g n log))
  ready-is =
      ap (λ (c : ℕ → Carry V). some_and (λ ms. all_agree ms && list_all (λ m. each_key m.stamps (λ q. leb (floor (all_carried c (deps g.book n (own g n log))) q) (clock_of m.stamps q) && leb (t.top q) (clock_of m.stamps q))) ms) (last_of_each c (deps g.book n (own g n log)))) carries
      ∙ same-decided (ready_from (deps g.book n (own g n log))) (is_ready g n log (deps g.book n (own g n log))) Decides-ready (Decides-is_ready g n log)

  pub rests-is : rests_from g n t ≡ rests g n log
  rests-is =
      ap₂ (λ a b. implies a b) (ap (λ c. is_ready_from g n t (deps g.book n c)) k.clock ∙ ready-is)
      (ap₂ (λ (w : ℕ × List ℕ) (c : ℕ → Carry V). same_work w (now g.book n, map (λ p. length (c p).came) (deps g.book n (now g.book n)))) k.work carries)

-- ---- what was taken

map-some-same : {A : Type 0} (xs ys : List A) → map (λ (x : A). Some x) xs ≡ map (λ (x : A). Some x) ys → xs ≡ ys
map-some-same [] [] e = refl
map-some-same [] (y ∷ ys) e = absurd (cc e)
map-some-same (x ∷ xs) [] e = absurd (cc e)
map-some-same {A} (x ∷ xs) (y ∷ ys) e =
    let heads : x ≡ y = cc e in let tails : map (λ (x : A). Some x) xs ≡ map (λ (x : A). Some x) ys = cc e in ap₂ (λ z zs. z ∷ zs) heads (map-some-same xs ys tails)

pub length-some : {A : Type 0} (xs : List A) → length (map (λ (x : A). Some x) xs) ≡ length xs
length-some [] = refl
length-some (x ∷ xs) = ap suc (length-some xs)

older-same : {A : Type 0} (xs ys : List A) → IsOlderPart xs ys → length xs ≡ length ys → xs ≡ ys
older-same xs ys part e = none-next xs ys part (numbered-past ys (length xs) (omega arith))

module _ {V D : Type 0} (same : V → V → Bool) (right : IsSame same) (count : ℕ) (g : Leg V D) (logs : ℕ → List (Entry V)) (states : ℕ → LogState V) (known : (n : ℕ) → Knows g n (logs n) (states n))
    (table : ℕ → ℕ → List (Option (Frame V))) (turned : (p n : ℕ) → table p n ≡ reverse (map (λ f. Some f) (frames_sent n (logs p))))
    (part : (n p : ℕ) → IsOlderPart (map (λ (f : Frame V). Some f) (frames_taken p (logs n))) (map (λ (f : Frame V). Some f) (frames_sent n (logs p)))) (named : (n : ℕ) → peers_below count (logs n) ≡ true) where
  table-length : (p n : ℕ) → length (table p n) ≡ length (frames_sent n (logs p))
  table-length p n = ap (λ fs. length fs) (turned p n) ∙ length-reverse (map (λ f. Some f) (frames_sent n (logs p))) ∙ length-some (frames_sent n (logs p))

  taken-all : (n p : ℕ) → ((states n).took p == length (table p n)) ≡ pointwise (same_frame same) (frames_taken p (logs n)) (frames_sent n (logs p))
  taken-all n p =
      same-decided ((states n).took p == length (table p n)) (pointwise (same_frame same) (frames_taken p (logs n)) (frames_sent n (logs p)))
      (in_words
      (λ e. map-some-same (frames_taken p (logs n)) (frames_sent n (logs p))
      (older-same (map (λ f. Some f) (frames_taken p (logs n))) (map (λ f. Some f) (frames_sent n (logs p))) (part n p)
      (length-some (frames_taken p (logs n)) ∙ sym ((known n).took p) ∙ e ∙ table-length p n ∙ sym (length-some (frames_sent n (logs p))))))
      (λ e. (known n).took p ∙ ap (λ fs. length fs) e ∙ sym (table-length p n))
      (Decides-eqb ((states n).took p) (length (table p n))))
      (Decides-same_frames same right (frames_taken p (logs n)) (frames_sent n (logs p)))

  all-below : (m : ℕ) → each_below (λ n. peers_below count (logs n)) m ≡ true
  all-below zero = refl
  all-below (suc m) = ap₂ (λ a b. a && b) (named m) (all-below m)

  pub quiet-is : is_quiet_from count g table states ≡ is_quiet same count g logs
  quiet-is =
      each-same (λ n. each_below (λ p. (states n).took p == length (table p n)) count && (((states n).clock == now g.book n) && implies (ltb 0 (now g.book n)) (rests_from g n (states n)))) (is_quiet_at same count g logs)
      (λ n. ap₂ (λ a b. a && b) (each-same (λ p. (states n).took p == length (table p n)) (λ p. pointwise (same_frame same) (frames_taken p (logs n)) (frames_sent n (logs p))) (taken-all n) count)
      (ap₂ (λ c r. (c == now g.book n) && implies (ltb 0 (now g.book n)) r) (known n).clock (rests-is g n (logs n) (states n) (known n)))) count
      ∙ ap (λ b. b && each_below (is_quiet_at same count g logs) count) (sym (all-below count))
