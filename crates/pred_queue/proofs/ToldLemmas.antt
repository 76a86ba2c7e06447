-- Clocks that a value names by their places, in a list beside the keys.
use Rattle.std.proofs.Common.{◌≡◌, ℕ, zero, suc, ◌+◌, ◌<◌, ◌≤◌, ltb, List, [], ◌∷◌, length, set, replicate, All, Option, Some, None, unwrap_or, option_map, refl, sym, ap, ap₂, subst, ◌∙◌, inl, inr, arith, ◌==◌, eq-eqb, eqb-true, ne_eqb, true, false, length-set, drop, slice_get}
use Rattle.std.proofs.lemmas.Bool.{cond-true, cond-false, cases_Bool, ltb-true, lt-ltb, le-ltb}
use Rattle.std.proofs.lemmas.List.Elements.{All-nil, All-cons, All-head, All-tail}
use Rattle.std.proofs.lemmas.Option.{same_Some, get_or_from_slice_get}
use Rattle.std.proofs.lemmas.List.{length-replicate, drop_more}
use Rattle.std.specs.List.{zip}
use Rattle.propagation.specs.Lists.{Has, is_among}
use Rattle.propagation.specs.Stamps.{Stamps, clock_named, with_clocks, IsRising, RisePairs, keys}
use Rattle.service_machine.specs.States.{known_stamps}
use Rattle.service_machine.specs.Steps.{IsWhole}
use Rattle.service_machine.specs.Refusing.{bad_place, refuse_put, refuse_places, refuse_part}
use Rattle.service_machine.specs.Fitting.{Proper}
use Rattle.service_machine.proofs.Carrying.{carried-proper}
use Rattle.stamp_clock.specs.Places.{AreKeys}
use Rattle.stamp_clock.specs.Beside.{AreBeside}
use Rattle.stamp_clock.proofs.RiseLemmas.{has-all, all-has}
use Rattle.stamp_clock.proofs.BesideLemmas.{keys-beside, rising-beside, clock-missing}
use Rattle.wire_frame.specs.Frames.{pairs as pairs_of}
use Rattle.wire_frame.specs.declared.place_clock.PlaceClock.{PlaceClock}
use Rattle.pred_queue.specs.Told.{Told, told_more, rewritten}

-- the clocks from a place on, with those that the pairs name
placed : ℕ → List (ℕ × ℕ) → List ℕ → List ℕ
placed place pairs [] = []
placed place pairs (c ∷ cs) = unwrap_or (clock_named pairs place) c ∷ placed (suc place) pairs cs

written-placed : (place : ℕ) (pairs : List (ℕ × ℕ)) (ks cs : List ℕ) → with_clocks place pairs (zip ks cs) ≡ zip ks (placed place pairs cs)
unfolding placed
written-placed place pairs [] cs = refl
written-placed place pairs (k ∷ ks) [] = refl
written-placed place pairs (k ∷ ks) (c ∷ cs) = ap (λ (rest : Stamps). (k, unwrap_or (clock_named pairs place) c) ∷ rest) (written-placed (suc place) pairs ks cs)

-- nothing is named below the first
named-below : (least : ℕ) (pairs : List (ℕ × ℕ)) (place : ℕ) → RisePairs least pairs → place < least → clock_named pairs place ≡ None
named-below least [] place r lt = refl
named-below least (x ∷ rest) place r lt =
    let le : least ≤ x.0 = r.0 in
    cond-false (x.0 == place) (Some x.1) (clock_named rest place) (ne_eqb x.0 place (λ e. omega arith)) ∙ named-below (suc x.0) rest place r.2 (omega arith)

placed-none : (place : ℕ) (cs : List ℕ) → placed place [] cs ≡ cs
unfolding placed
placed-none place [] = refl
placed-none place (c ∷ cs) = ap (λ (rest : List ℕ). c ∷ rest) (placed-none (suc place) cs)

-- what is named before is not met
placed-past : (place p c : ℕ) (rest : List (ℕ × ℕ)) (cs : List ℕ) → p < place → placed place ((p, c) ∷ rest) cs ≡ placed place rest cs
unfolding placed
placed-past place p c rest [] lt = refl
placed-past place p c rest (x ∷ cs) lt =
    ap₂ (λ (o : Option ℕ) (tail : List ℕ). unwrap_or o x ∷ tail) (cond-false (p == place) (Some c) (clock_named rest place) (ne_eqb p place (λ e. omega arith)))
    (placed-past (suc place) p c rest cs (omega arith))

-- the first that is named is set
placed-first : (place i p c : ℕ) (rest : List (ℕ × ℕ)) (cs : List ℕ) → p ≡ place + i → RisePairs (suc p) rest → placed place ((p, c) ∷ rest) cs ≡ placed place rest (set cs i c)
unfolding placed
placed-first place i p c rest [] at r = refl
placed-first place zero p c rest (x ∷ cs) at r =
    ap₂ (λ (head : ℕ) (tail : List ℕ). head ∷ tail)
    (ap (λ o. unwrap_or o x) (cond-true (p == place) (Some c) (clock_named rest place) (eq-eqb p place (omega arith))) ∙ ap (λ o. unwrap_or o c) (sym (named-below (suc p) rest place r (omega arith))))
    (placed-past (suc place) p c rest cs (omega arith))
placed-first place (suc i) p c rest (x ∷ cs) at r =
    ap₂ (λ (o : Option ℕ) (tail : List ℕ). unwrap_or o x ∷ tail) (cond-false (p == place) (Some c) (clock_named rest place) (ne_eqb p place (λ e. omega arith)))
    (placed-first (suc place) i p c rest cs (omega arith) r)

placed-rewritten : (least : ℕ) (pairs : List (ℕ × ℕ)) (cs : List ℕ) → RisePairs least pairs → placed 0 pairs cs ≡ rewritten pairs cs
placed-rewritten least [] cs r = placed-none 0 cs
placed-rewritten least (x ∷ rest) cs r = placed-first 0 x.0 x.0 x.1 rest cs (omega arith) r.2 ∙ placed-rewritten (suc x.0) rest (set cs x.0 x.1) r.2

-- stamps with named clocks are the keys beside the rewritten clocks
pub written-beside : (pairs : List (ℕ × ℕ)) (ks cs : List ℕ) → RisePairs 0 pairs → with_clocks 0 pairs (zip ks cs) ≡ zip ks (rewritten pairs cs)
written-beside pairs ks cs r = written-placed 0 pairs ks cs ∙ ap (zip ks) (placed-rewritten 0 pairs cs r)

-- where nothing is carried, each clock is 0
pub none-known : (ks : List ℕ) → known_stamps ks None ≡ zip ks (replicate (length ks) 0)
none-known [] = refl
none-known (k ∷ ks) = ap (λ (rest : Stamps). (k, 0) ∷ rest) (none-known ks)

pub length-rewritten : (pairs : List (ℕ × ℕ)) (cs : List ℕ) → length (rewritten pairs cs) ≡ length cs
length-rewritten [] cs = refl
length-rewritten (x ∷ rest) cs = length-rewritten rest (set cs x.0 x.1) ∙ length-set cs x.0 x.1

-- ---- what a test that passes tells

pub bad_place-none : (n : ℕ) (pairs : List (ℕ × ℕ)) → bad_place n pairs ≡ None → (x : ℕ × ℕ) → Has pairs x → x.0 < n
bad_place-none n [] e x h = absurd h
bad_place-none n (y ∷ rest) e x h =
    elim (cases_Bool (ltb y.0 n)) [
      | inl t ↦ elim h [
        | inl same ↦ subst (λ (z : ℕ × ℕ). z.0 < n) same (ltb-true y.0 n t)
        | inr there ↦ bad_place-none n rest (sym (cond-true (ltb y.0 n) (bad_place n rest) (Some y.0) t) ∙ e) x there
      ]
      | inr t ↦ absurd (let some : Some y.0 ≡ None = sym (cond-false (ltb y.0 n) (bad_place n rest) (Some y.0) t) ∙ e in cc some)
    ]

pub put-accepted : (epoch : ℕ) (ks : List ℕ) (carried : Option Stamps) (pairs : List (ℕ × ℕ)) → refuse_put (Some (epoch, ks)) carried epoch pairs ≡ None →
    ((x : ℕ × ℕ) → Has pairs x → x.0 < length ks) × IsWhole carried ks pairs
put-accepted epoch ks carried pairs e =
    let passed = places (bad_place (length ks) pairs) (sym (cond-true (epoch == epoch) (refuse_places (bad_place (length ks) pairs) carried (length ks) (length pairs)) _ (eq-eqb epoch epoch refl)) ∙ e) in
    (bad_place-none (length ks) pairs passed.0, whole carried passed.1)
  where
    places : (o : Option ℕ) → refuse_places o carried (length ks) (length pairs) ≡ None → (o ≡ None) × (refuse_part carried (length ks) (length pairs) ≡ None)
    places None f = (refl, f)
    places (Some place) f = absurd (cc f)

    whole : (o : Option Stamps) → refuse_part o (length ks) (length pairs) ≡ None → IsWhole o ks pairs
    whole None f = elim (cases_Bool (length pairs == length ks)) [
      | inl t ↦ eqb-true (length pairs) (length ks) t
      | inr t ↦ absurd (let some = sym (cond-false (length pairs == length ks) None _ t) ∙ f in cc some)
    ]
    whole (Some S) f = tt

-- what passes comes under the epoch announced
pub put-epoch : (epoch e : ℕ) (ks : List ℕ) (carried : Option Stamps) (pairs : List (ℕ × ℕ)) → refuse_put (Some (epoch, ks)) carried e pairs ≡ None → epoch ≡ e
put-epoch epoch e ks carried pairs ok =
    elim (cases_Bool (epoch == e)) [
      | inl t ↦ eqb-true epoch e t
      | inr t ↦ absurd (let some = sym (cond-false (epoch == e) (refuse_places (bad_place (length ks) pairs) carried (length ks) (length pairs)) _ t) ∙ ok in cc some)
    ]

-- ---- the clocks that come of it

-- the clocks of rising stamps are at least 1
rising-positive : (a : ℕ) (ks cs : List ℕ) → length ks ≡ length cs → IsRising a (zip ks cs) → All (λ c. 0 < c) cs
rising-positive a [] [] e r = All-nil (λ c. 0 < c)
rising-positive a [] (c ∷ cs) e r = absurd (omega arith)
rising-positive a (k ∷ ks) [] e r = absurd (omega arith)
rising-positive a (k ∷ ks) (c ∷ cs) e r = All-cons (λ c. 0 < c) c cs r.1 (rising-positive (suc k) ks cs (omega arith) r.2)

-- 64 is no key
not-64 : (ks : List ℕ) → All (λ k. k < 64) ks → is_among ks 64 ≡ false
not-64 [] all = refl
not-64 (k ∷ ks) all =
    cond-false (k == 64) true (is_among ks 64) (ne_eqb k 64 (λ e. let lt : k < 64 = All-head (λ k. k < 64) k ks all in omega arith)) ∙ not-64 ks (All-tail (λ k. k < 64) k ks all)

-- the clocks to begin with: those carried last, or as many zeros
abbrev pub start_of : List ℕ → Option (List ℕ) → List ℕ
start_of ks last = unwrap_or last (replicate (length ks) 0)

pub length-start : (ks : List ℕ) (last : Option (List ℕ)) → ((cs : List ℕ) → last ≡ Some cs → AreBeside ks cs) → length ks ≡ length (start_of ks last)
length-start ks None are = sym (length-replicate (length ks) 0)
length-start ks (Some cs) are = (are cs refl).lengths

pub start-known : (ks : List ℕ) (last : Option (List ℕ)) → known_stamps ks (option_map (zip ks) last) ≡ zip ks (start_of ks last)
start-known ks None = none-known ks
start-known ks (Some cs) = refl

-- with the clocks that an accepted value names, they stand beside the keys
pub start-beside : (epoch : ℕ) (ks : List ℕ) (last : Option (List ℕ)) (pairs : List (ℕ × ℕ)) → AreKeys ks → ((cs : List ℕ) → last ≡ Some cs → AreBeside ks cs) →
    refuse_put (Some (epoch, ks)) (option_map (zip ks) last) epoch pairs ≡ None → RisePairs 0 pairs → AreBeside ks (rewritten pairs (start_of ks last))
start-beside epoch ks last pairs are before ok r =
    let accepted = put-accepted epoch ks (option_map (zip ks) last) pairs ok in
    let same : length ks ≡ length (rewritten pairs (start_of ks last)) = length-start ks last before ∙ sym (length-rewritten pairs (start_of ks last)) in
    let proper = carried-proper 64 ks (option_map (zip ks) last) pairs are.rise (not-64 ks are.below) (carried last before) accepted.0 accepted.1 r in
    record {
      are_keys = are;
      lengths = same;
      positive = rising-positive 0 ks (rewritten pairs (start_of ks last)) same
          (subst (λ (S : Stamps). IsRising 0 S) (ap (with_clocks 0 pairs) (start-known ks last) ∙ written-beside pairs ks (start_of ks last) r) proper.0);
    }
  where
    carried : (o : Option (List ℕ)) → ((cs : List ℕ) → o ≡ Some cs → AreBeside ks cs) → (R : Stamps) → option_map (zip ks) o ≡ Some R → (keys R ≡ ks) × Proper 64 R
    carried None all R e = absurd (cc e)
    carried (Some cs) all R e =
        let b = all cs refl in
        subst (λ (S : Stamps). (keys S ≡ ks) × Proper 64 S) (same_Some (zip ks cs) R e)
        (keys-beside ks cs b.lengths, (rising-beside 0 ks cs b.are_keys.rise b.positive, clock-missing ks cs 64 (λ h. let lt : 64 < 64 = has-all {A = ℕ} (λ k. k < 64) ks b.are_keys.below 64 h in omega arith)))

-- and are the stamps that it makes
pub start-written : (ks : List ℕ) (last : Option (List ℕ)) (pairs : List (ℕ × ℕ)) → RisePairs 0 pairs → with_clocks 0 pairs (known_stamps ks (option_map (zip ks) last)) ≡ zip ks (rewritten pairs (start_of ks last))
start-written ks last pairs r = ap (with_clocks 0 pairs) (start-known ks last) ∙ written-beside pairs ks (start_of ks last) r

-- each place is one of theirs
pub places-within : (epoch n : ℕ) (ks : List ℕ) (carried : Option Stamps) (clocks : List PlaceClock) → n ≡ length ks → refuse_put (Some (epoch, ks)) carried epoch (pairs_of clocks) ≡ None → All (λ (one : PlaceClock). one.place < n) clocks
places-within epoch n ks carried clocks is ok =
    all-has (λ (one : PlaceClock). one.place < n) clocks
    (λ x h. subst (λ k. x.place < k) (sym is) ((put-accepted epoch ks carried (pairs_of clocks) ok).0 (x.place, x.clock) (has-pairs clocks x h)))
  where
    has-pairs : (xs : List PlaceClock) (x : PlaceClock) → Has xs x → Has (pairs_of xs) (x.place, x.clock)
    has-pairs [] x h = absurd h
    has-pairs (y ∷ xs) x (inl e) = inl (ap (λ (z : PlaceClock). (z.place, z.clock)) e)
    has-pairs (y ∷ xs) x (inr h) = inr (has-pairs xs x h)

-- ---- one place after the other

-- the next place is the first of the rest
rest-next : (xs : List PlaceClock) (i : ℕ) (x : PlaceClock) → i < length xs → slice_get xs i ≡ Some x → drop i xs ≡ x ∷ drop (i + 1) xs
rest-next xs i x lt at = drop_more xs i x lt ∙ ap (λ (y : PlaceClock). y ∷ drop (i + 1) xs) (get_or_from_slice_get xs i x x at)

module _ (n : ℕ) (xs : List PlaceClock) (i : ℕ) (x : PlaceClock) (lt : i < length xs) (at : slice_get xs i ≡ Some x) where
  pub bad-here : bad_place n (pairs_of (drop i xs)) ≡ bad_place n (pairs_of xs) → n ≤ x.place → Some x.place ≡ bad_place n (pairs_of xs)
  bad-here before le =
      sym (cond-false (ltb x.place n) (bad_place n (pairs_of (drop (i + 1) xs))) (Some x.place) (le-ltb x.place n le))
      ∙ sym (ap (λ (ys : List PlaceClock). bad_place n (pairs_of ys)) (rest-next xs i x lt at)) ∙ before

  pub bad-next : bad_place n (pairs_of (drop i xs)) ≡ bad_place n (pairs_of xs) → x.place < n → bad_place n (pairs_of (drop (i + 1) xs)) ≡ bad_place n (pairs_of xs)
  bad-next before below =
      sym (cond-true (ltb x.place n) (bad_place n (pairs_of (drop (i + 1) xs))) (Some x.place) (lt-ltb x.place n below))
      ∙ sym (ap (λ (ys : List PlaceClock). bad_place n (pairs_of ys)) (rest-next xs i x lt at)) ∙ before

pub rewritten-next : (xs : List PlaceClock) (i : ℕ) (x : PlaceClock) (cs start : List ℕ) → i < length xs → slice_get xs i ≡ Some x →
    rewritten (pairs_of (drop i xs)) cs ≡ rewritten (pairs_of xs) start → rewritten (pairs_of (drop (i + 1) xs)) (set cs x.place x.clock) ≡ rewritten (pairs_of xs) start
rewritten-next xs i x cs start lt at before = sym (ap (λ (ys : List PlaceClock). rewritten (pairs_of ys) cs) (rest-next xs i x lt at)) ∙ before

-- ---- the same of what a slot was told

module _ (T : Told) (e : ℕ) (ks : List ℕ) (last : Option (List ℕ)) (is : record { epoch = e; keys = ks; carried = option_map (zip ks) last } ≡ T) (are : AreKeys ks)
    (before : (cs : List ℕ) → last ≡ Some cs → AreBeside ks cs) (clocks : List PlaceClock) (ok : refuse_put (Some (T.epoch, T.keys)) T.carried T.epoch (pairs_of clocks) ≡ None) where
  accepted : refuse_put (Some (e, ks)) (option_map (zip ks) last) e (pairs_of clocks) ≡ None
  accepted = subst (λ (R : Told). refuse_put (Some (R.epoch, R.keys)) R.carried R.epoch (pairs_of clocks) ≡ None) (sym is) ok

  pub told-within : (cs : List ℕ) → cs ≡ start_of ks last → All (λ (one : PlaceClock). one.place < length cs) clocks
  told-within cs made = places-within e (length cs) ks (option_map (zip ks) last) clocks (ap length made ∙ sym (length-start ks last before)) accepted

  pub told-beside : (cs new : List ℕ) → cs ≡ start_of ks last → new ≡ rewritten (pairs_of clocks) cs → RisePairs 0 (pairs_of clocks) → AreBeside ks new
  told-beside cs new made rewrites r =
      subst (λ (ds : List ℕ). AreBeside ks ds) (sym (rewrites ∙ ap (rewritten (pairs_of clocks)) made)) (start-beside e ks last (pairs_of clocks) are before accepted r)

  pub told-more : (cs new : List ℕ) → cs ≡ start_of ks last → new ≡ rewritten (pairs_of clocks) cs → RisePairs 0 (pairs_of clocks) → zip ks new ≡ told_more (pairs_of clocks) T
  told-more cs new made rewrites r =
      ap (zip ks) (rewrites ∙ ap (rewritten (pairs_of clocks)) made) ∙ sym (start-written ks last (pairs_of clocks) r)
      ∙ ap (λ (R : Told). told_more (pairs_of clocks) R) is
