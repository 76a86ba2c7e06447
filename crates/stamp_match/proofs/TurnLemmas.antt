-- What the flags tell of the turn table.
use Rattle.std.proofs.Common.{◌≡◌, ◌≤◌, ℕ, zero, suc, ◌+◌, ◌<◌, true, false, List, [], ◌∷◌, take, drop, length, slice_get, slice_index_or, Option, option_map, is_some, Some, None, sum_by, refl, sym, ap, ap₂, ◌∙◌, arith}
use Rattle.std.proofs.lemmas.List.Sums.{sum_by-cons}
use Rattle.std.proofs.lemmas.List.{get_or-map, get_or_default, length-map}
use Rattle.propagation.specs.Stamps.{Stamps, clock_of}
use Rattle.propagation.specs.Logs.{Emission}
use Rattle.service_machine.specs.States.{Slot, Head, emission_of, empty_slot}
use Rattle.service_machine.specs.Turning.{lagging, head_lag, if_lagging, greatest_clocks, heads, with_head}
use Rattle.stamp_match.specs.declared.matcher.Matcher.{Matcher}
use Rattle.stamp_match.specs.Kept.{head_stamps, lags, slot_in, IsKept}
use Rattle.stamp_match.proofs.GreatestLemmas.{greatest-greatest_clocks}
use Rattle.stamp_match.specs.Looks.{head_keys, keys_in}
use Rattle.stamp_match.specs.Moved.{Leads}
use Rattle.stamp_match.proofs.LagLemmas.{lag-same}

module _ {V : Type 0} where
  -- the stamps of the head of a slot
  abbrev pub stamps_at : Slot V → Option Stamps
  stamps_at s = option_map (λ (h : Head V). h.emission.stamps) s.head

  pub stamps-some : (o : Option (Head V)) (m : Emission V) → Some m ≡ emission_of o → option_map (λ (h : Head V). h.emission.stamps) o ≡ Some m.stamps
  stamps-some None m e = absurd (cc e)
  stamps-some (Some h) m e = ap Some (let same : h.emission ≡ m = cc e in ap (λ (k : Emission V). k.stamps) same)

  pub stamps-none : (o : Option (Head V)) → None ≡ emission_of o → option_map (λ (h : Head V). h.emission.stamps) o ≡ None
  stamps-none None e = refl
  stamps-none (Some h) e = absurd (cc e)

  pub length-heads : (slots : List (Slot V)) → length (head_stamps slots) ≡ length slots
  length-heads slots = length-map slots (λ (s : Slot V). stamps_at s)

  -- the stamps at a place
  pub head-at : (slots : List (Slot V)) (i : ℕ) (s : Slot V) → i < length slots → s ≡ slice_index_or slots i s → slice_index_or (head_stamps slots) i None ≡ stamps_at s
  head-at slots i s lt is = get_or-map (λ (x : Slot V). stamps_at x) slots i s None lt ∙ ap (λ (x : Slot V). stamps_at x) (sym is)

  pub head-lags : (T : Stamps) (o : Option (Head V)) → lags T (option_map (λ (h : Head V). h.emission.stamps) o) ≡ is_some (head_lag T o)
  head-lags T None = refl
  head-lags T (Some h) = refl

  pub lagging-same : (T R : Stamps) (slots : List (Slot V)) → ((q : ℕ) → clock_of T q ≡ clock_of R q) → lagging T slots ≡ lagging R slots
  lagging-same T R [] same = refl
  lagging-same T R (s ∷ rest) same = ap₂ (λ (o : Option ℕ) (p : Option (Slot V × ℕ)). if_lagging o s p) (go s.head) (lagging-same T R rest same)
    where
      go : (o : Option (Head V)) → head_lag T o ≡ head_lag R o
      go None = refl
      go (Some h) = lag-same T R h.emission.stamps same

  pub slot-at : (slots : List (Slot V)) (i : ℕ) (s : Slot V) → i < length slots → s ≡ slice_index_or slots i s → slot_in slots i ≡ s
  slot-at slots i s lt is = get_or_default slots i (empty_slot 0) s lt ∙ sym is

  -- the first that lags
  first-here : (T : Stamps) (xs : List (Slot V)) (i : ℕ) → i < length xs → lags T (slice_index_or (head_stamps xs) i None) ≡ true →
      (s : Slot V) × (key : ℕ) × (slice_get xs i ≡ Some s) × (head_lag T s.head ≡ Some key) × (lagging T (drop i xs) ≡ Some (s, key))
  first-here T [] i lt late = absurd (omega arith)
  first-here T (y ∷ rest) zero lt late = go (head_lag T y.head) refl (sym (head-lags T y.head) ∙ late)
    where
      go : (o : Option ℕ) → head_lag T y.head ≡ o → is_some o ≡ true → (s : Slot V) × (key : ℕ) × (Some y ≡ Some s) × (head_lag T s.head ≡ Some key) × (if_lagging (head_lag T y.head) y (lagging T rest) ≡ Some (s, key))
      go None e some = absurd (cc some)
      go (Some key) e some = (y, key, refl, e, ap (λ o. if_lagging o y (lagging T rest)) e)
  first-here T (y ∷ rest) (suc i) lt late = first-here T rest i (omega arith) late

  pub leads-here : (T : Stamps) (slots : List (Slot V)) (i : ℕ) → i < length slots → lags T (slice_index_or (head_stamps slots) i None) ≡ true → lagging T slots ≡ lagging T (drop i slots) → Leads T slots i
  leads-here T slots i lt late same = let w = first-here T slots i lt late in record { slot = w.0; key = w.1; within = lt; at = w.2; lags = w.3; first = same ∙ w.4 }

  on : (T : Stamps) (xs : List (Slot V)) (i : ℕ) → i < length xs → lags T (slice_index_or (head_stamps xs) i None) ≡ false → lagging T (drop i xs) ≡ lagging T (drop (suc i) xs)
  on T [] i lt late = absurd (omega arith)
  on T (y ∷ rest) zero lt late = go (head_lag T y.head) refl (sym (head-lags T y.head) ∙ late)
    where
      go : (o : Option ℕ) → head_lag T y.head ≡ o → is_some o ≡ false → if_lagging (head_lag T y.head) y (lagging T rest) ≡ lagging T rest
      go None e none = ap (λ o. if_lagging o y (lagging T rest)) e
      go (Some key) e none = absurd (cc none)
  on T (y ∷ rest) (suc i) lt late = on T rest i (omega arith) late

  pub leads-on : (T : Stamps) (xs : List (Slot V)) (i : ℕ) → i < length xs → lags T (slice_index_or (head_stamps xs) i None) ≡ false → lagging T (drop i xs) ≡ lagging T (drop (i + 1) xs)
  leads-on T xs i lt late = let more : suc i ≡ i + 1 = omega arith in on T xs i lt late ∙ ap (λ n. lagging T (drop n xs)) more

  -- the greatest clocks of a matcher are those of the machine
  pub greatest_clocks-same : (slots : List (Slot V)) (floor : Stamps) (matcher : Matcher) → IsKept (head_stamps slots) floor matcher → lagging (greatest_clocks slots floor) slots ≡ lagging matcher.greatest_clocks slots
  greatest_clocks-same slots floor matcher h = lagging-same (greatest_clocks slots floor) matcher.greatest_clocks slots (λ q. greatest-greatest_clocks slots floor q h.floor_rises h.heads_rise ∙ sym (h.greatest_clocks q))

  keys-here : (o : Option (Head V)) (rest : List (Slot V)) → sum_by (λ (m : Emission V). length m.stamps) (with_head o (heads rest)) ≡ keys_in o + head_keys rest
  keys-here None rest = omega arith
  keys-here (Some h) rest = sum_by-cons (λ (m : Emission V). length m.stamps) h.emission (heads rest)

  -- the keys of one head more
  pub keys-drop : (xs : List (Slot V)) (i : ℕ) (s : Slot V) → i < length xs → s ≡ slice_index_or xs i s → head_keys (drop i xs) ≡ keys_in s.head + head_keys (drop (i + 1) xs)
  keys-drop xs i s lt is = go xs i s lt is ∙ (let more : suc i ≡ i + 1 = omega arith in ap (λ n. keys_in s.head + head_keys (drop n xs)) more)
    where
      go : (xs : List (Slot V)) (i : ℕ) (s : Slot V) → i < length xs → s ≡ slice_index_or xs i s → head_keys (drop i xs) ≡ keys_in s.head + head_keys (drop (suc i) xs)
      go [] i s lt is = absurd (omega arith)
      go (y ∷ rest) zero s lt is = keys-here y.head rest ∙ ap (λ (z : Slot V). keys_in z.head + head_keys rest) (sym is)
      go (y ∷ rest) (suc i) s lt is = go rest i s (omega arith) is

  pub keys-within : (xs : List (Slot V)) (i : ℕ) → keys_in (slot_in xs i).head ≤ head_keys xs
  keys-within [] i = omega arith
  keys-within (y ∷ rest) zero = let is : head_keys (y ∷ rest) ≡ keys_in y.head + head_keys rest = keys-here y.head rest in omega arith
  keys-within (y ∷ rest) (suc i) = let is : head_keys (y ∷ rest) ≡ keys_in y.head + head_keys rest = keys-here y.head rest in let less : keys_in (slot_in rest i).head ≤ head_keys rest = keys-within rest i in omega arith

  -- the first slots
  pub head-first : (n : ℕ) (xs : List (Slot V)) (i : ℕ) → i < n → slice_index_or (head_stamps (take n xs)) i None ≡ slice_index_or (head_stamps xs) i None
  head-first zero [] i lt = absurd (omega arith)
  head-first (suc n) [] i lt = refl
  head-first zero (y ∷ rest) i lt = absurd (omega arith)
  head-first (suc n) (y ∷ rest) zero lt = refl
  head-first (suc n) (y ∷ rest) (suc i) lt = head-first n rest i (omega arith)

  pub slot-first : (n : ℕ) (xs : List (Slot V)) (i : ℕ) → i < n → slot_in (take n xs) i ≡ slot_in xs i
  slot-first zero [] i lt = absurd (omega arith)
  slot-first (suc n) [] i lt = refl
  slot-first zero (y ∷ rest) i lt = absurd (omega arith)
  slot-first (suc n) (y ∷ rest) zero lt = refl
  slot-first (suc n) (y ∷ rest) (suc i) lt = slot-first n rest i (omega arith)
