-- Stamps, read.
use Rattle.std.proofs.Common.{◌≡◌, ◌≢◌, ◌∙◌, sym, ap, subst, refl, ℕ, suc, ◌<◌, ◌≤◌, arith, List, [], ◌∷◌, length, Option, Some, None}
use Rattle.std.specs.Prelude.{All}
use Rattle.std.specs.List.{zip}
use Rattle.propagation.specs.Stamps.{Stamps, IsRising, Rise}
use Rattle.trace_text.specs.Entries.{AreStampsOf}
use Rattle.trace_text.specs.Inside.Cutting.{IsStampOf, AreSomeStamps, MakesStamps, clock_list, key_list}
use Rattle.trace_text.specs.Lines.{comma_list, stamp_text, stamps_text}
use Rattle.trace_text.specs.Naming.{Naming, AreNames}
use Rattle.trace_text.specs.Reading.{ReadsAs}
use Rattle.trace_text.proofs.ListReading.{all_of}
use Rattle.trace_text.proofs.OneLine.{IsStamp, are_stamps, stamps_told}
use Rattle.trace_text.proofs.Words.{AreTold, Each, each_of, one_comma_list}

-- keys that rise, with clocks of at least 1
pub rising_of : (least : ℕ) (pairs : Stamps) → Each (λ pair. 0 < pair.1) pairs → Rise least (key_list pairs) → IsRising least pairs
rising_of least [] positive rise = tt
rising_of least (x ∷ pairs) positive rise = (rise.0, positive.0, rising_of (suc x.0) pairs positive.1 rise.1)

pub keys_rise : (least : ℕ) (pairs : Stamps) → IsRising least pairs → Rise least (key_list pairs)
keys_rise least [] rising = tt
keys_rise least (x ∷ pairs) rising = (rising.0, keys_rise (suc x.0) pairs rising.2)

pub positive_of : (least : ℕ) (pairs : Stamps) → IsRising least pairs → Each (λ pair. 0 < pair.1) pairs
positive_of least [] rising = tt
positive_of least (x ∷ pairs) rising = (rising.1, positive_of (suc x.0) pairs rising.2)

-- the pairs are those of their keys and their clocks
pub zip_of : (pairs : Stamps) → zip (key_list pairs) (clock_list pairs) ≡ pairs
zip_of [] = refl
zip_of (x ∷ pairs) = ap (λ (rest : Stamps). x ∷ rest) (zip_of pairs)

-- stamps of the keys and clocks of a list are that list
pub made : (list pairs stamps : Stamps) → pairs ≡ list → Rise 0 (key_list pairs) → stamps ≡ zip (key_list pairs) (clock_list pairs) → (stamps ≡ list) × Rise 0 (key_list list)
made list pairs stamps p rise e = (e ∙ zip_of pairs ∙ p, subst (λ (l : Stamps). Rise 0 (key_list l)) p rise)

each_key : (list : Stamps) (count : ℕ) → count ≤ 64 → Each (IsStampOf count) list → Each (λ key. key < 64) (key_list list)
each_key [] count few h = tt
each_key (x ∷ list) count few h = (omega (arith, h.0.0, few), each_key list count few h.1)

each_clock : (list : Stamps) (count : ℕ) → Each (IsStampOf count) list → Each (λ clock. 0 < clock) (clock_list list)
each_clock [] count h = tt
each_clock (x ∷ list) count h = (h.0.1.0, each_clock list count h.1)

pub keys_below : (list : Stamps) (count : ℕ) → count ≤ 64 → AreSomeStamps count list → All (λ key. key < 64) (key_list list)
keys_below list count few are = all_of (λ key. key < 64) (key_list list) (each_key list count few (each_of (IsStampOf count) list are.1))

pub clocks_positive : (list : Stamps) (count : ℕ) → AreSomeStamps count list → All (λ clock. 0 < clock) (clock_list list)
clocks_positive list count are = all_of (λ clock. 0 < clock) (clock_list list) (each_clock list count (each_of (IsStampOf count) list are.1))

-- stamps are keys with clocks
pub are_all : (count : ℕ) (stamps : Stamps) → AreStampsOf count stamps → All (IsStampOf count) stamps
are_all count stamps h =
    let positive : All (λ pair. 0 < pair.1) stamps = all_of (λ pair. 0 < pair.1) stamps (positive_of 0 stamps h.rising) in
    λ k d lt. (h.named k d lt, (positive k d lt, h.clocks k d lt))

module _ (name : Naming) (count : ℕ) (names : AreNames name count) where
  pub stamps_told_of : AreTold (IsStampOf count) (stamp_text name)
  stamps_told_of =
      let told = stamps_told name count names in
      record {
        lacks = λ pair is. told.lacks pair (is.0, is.1.1);
        some = λ pair is. told.some pair (is.0, is.1.1);
        one = λ x y p q e. told.one x y (p.0, p.1.1) (q.0, q.1.1) e;
      }

  -- no list of keys with clocks is printed so
  pub no_list : (text : List ℕ) → 0 < length text → ((xs : List (ℕ × ℕ)) → AreSomeStamps count xs → text ≢ comma_list (stamp_text name) xs) → (xs : Stamps) → AreStampsOf count xs → text ≢ stamps_text name xs
  no_list text some none [] is e = absurd (omega (arith, some, ap length e))
  no_list text some none (x ∷ xs) is e = none (x ∷ xs) (omega arith, are_all count (x ∷ xs) is) e

  -- the list that is printed so has rising keys, or the text is that of no stamps
  pub stamps_read : (text : List ℕ) (list : List (ℕ × ℕ)) → AreSomeStamps count list × (text ≡ comma_list (stamp_text name) list) → (result : Option Stamps) → MakesStamps list result →
      ReadsAs (AreStampsOf count) (stamps_text name) text result
  stamps_read text list read (Some stamps) made = (subst (AreStampsOf count) (sym made.0) are, read.1 ∙ ap (stamps_text name) (sym made.0))
    where
      positive : Each (λ pair. 0 < pair.1) list
      positive = each_of (λ pair. 0 < pair.1) list (λ k d lt. (read.0.1 k d lt).1.0)

      are : AreStampsOf count list
      are = record { rising = rising_of 0 list positive made.1; named = λ k d lt. (read.0.1 k d lt).0; clocks = λ k d lt. (read.0.1 k d lt).1.1 }
  stamps_read text list read None not_rising = λ xs is e.
      let each : Each (IsStamp count) list = each_of (IsStamp count) list (λ k d lt. ((read.0.1 k d lt).0, (read.0.1 k d lt).1.1)) in
      let same : xs ≡ list = one_comma_list (IsStamp count) (stamp_text name) (stamps_told name count names) xs list (are_stamps count xs is) each (sym e ∙ read.1) in
      not_rising (subst (λ (S : Stamps). Rise 0 (key_list S)) same (keys_rise 0 xs is.rising))
