-- Numbers of 1, 2 and 4 bytes.
use Rattle.std.proofs.Common.{◌≡◌, ◌∙◌, sym, ap, refl, subst, ℕ, zero, suc, ◌+◌, ◌*◌, ◌/◌, ◌%◌, ◌^◌, ◌<◌, ◌≤◌, ◌⊎◌, inl, inr, List, [], ◌∷◌, ◌++◌, length, get_or, take, drop, arith}
use Rattle.std.specs.Int.{w32, from_be_bytes}
use Rattle.std.proofs.lemmas.List.{take_all, get_or-drop}
use Rattle.std.proofs.lemmas.Bool.{cases_lt}
use Rattle.std.proofs.lemmas.Nat.{be_bytes_4, from_be_bytes-to_be_bytes_4}
use Rattle.wire_frame.specs.declared.reason.FrameReason.{FrameReason}
use Rattle.wire_frame.specs.declared.reason.FrameReason.TheVariants.{Short, Ids}
use Rattle.wire_frame.specs.Frames.{u32_bytes, u16_bytes}
use Rattle.wire_frame.specs.Parts.{IsWrong, IsNext, clock_part, byte_part, key_part}
use Rattle.wire_frame.proofs.Parts.{OneWay, EachHasField}

abbrev pub AreBytes : List ℕ → Type 0
AreBytes bytes = (i : ℕ) → get_or bytes i 0 < 256

-- ---- clocks

-- four digits give their number back
pub same_word : (x y : ℕ) (s t : List ℕ) → x < 2 ^ 32 → y < 2 ^ 32 → u32_bytes x ++ s ≡ u32_bytes y ++ t → x ≡ y
same_word x y s t small_x small_y e =
    sym (from_be_bytes-to_be_bytes_4 x small_x) ∙ ap (λ bs. from_be_bytes w32 (take 4 bs)) e ∙ from_be_bytes-to_be_bytes_4 y small_y

pub clock-one_way : (field : FrameReason) → OneWay (clock_part field)
clock-one_way field x y s t good_x good_y e = same_word x y s t good_x.1 good_y.1 e

pub clock-fields : (field : FrameReason) → EachHasField (clock_part field)
clock-fields field x = refl

-- some clock begins so
clock_like : (field : FrameReason) (bytes : List ℕ) (a b c d : ℕ) → a < 256 → b < 256 → c < 256 → d < 256 → 0 < d → length bytes < 4 →
    take (length bytes) (a ∷ b ∷ c ∷ d ∷ []) ≡ bytes → IsWrong (clock_part field) bytes (length bytes) Short
clock_like field bytes a b c d small_a small_b small_c small_d some short begun =
    let all = a ∷ b ∷ c ∷ d ∷ [] in
    let n = from_be_bytes w32 all in
    let fits : (i : ℕ) → get_or all i 0 < 256 = λ i. four i in
    let spelled : u32_bytes n ≡ all = be_bytes_4 all n refl fits refl in
    record {
      like = n;
      good = (omega arith, omega arith);
      within = omega arith;
      begun = ap (take (length bytes)) spelled ∙ begun ∙ whole;
      more = short;
      short = λ e. refl;
      field = λ l. absurd (omega arith);
      end = λ l. absurd (omega arith);
    }
  where
    four : (i : ℕ) → get_or (a ∷ b ∷ c ∷ d ∷ []) i 0 < 256
    four zero = small_a
    four (suc zero) = small_b
    four (suc (suc zero)) = small_c
    four (suc (suc (suc zero))) = small_d
    four (suc (suc (suc (suc i)))) = omega arith

    whole : bytes ≡ take (length bytes) bytes
    whole = sym (take_all (length bytes) bytes (omega arith))

pub clock_short : (field : FrameReason) (bytes : List ℕ) → AreBytes bytes → length bytes < 4 → IsWrong (clock_part field) bytes (length bytes) Short
clock_short field [] fits l = clock_like field [] 0 0 0 1 (omega arith) (omega arith) (omega arith) (omega arith) (omega arith) l refl
clock_short field (a ∷ []) fits l = clock_like field (a ∷ []) a 0 0 1 (fits 0) (omega arith) (omega arith) (omega arith) (omega arith) l refl
clock_short field (a ∷ (b ∷ [])) fits l = clock_like field (a ∷ b ∷ []) a b 0 1 (fits 0) (fits 1) (omega arith) (omega arith) (omega arith) l refl
clock_short field (a ∷ (b ∷ (c ∷ []))) fits l = clock_like field (a ∷ b ∷ c ∷ []) a b c 1 (fits 0) (fits 1) (fits 2) (omega arith) (omega arith) l refl
clock_short field (a ∷ (b ∷ (c ∷ (d ∷ bytes)))) fits l = absurd (omega arith)

-- the four bytes of a clock stand in front
front_word : (a b c d n : ℕ) (more : List ℕ) → AreBytes (a ∷ b ∷ c ∷ d ∷ more) → n ≡ from_be_bytes w32 (a ∷ b ∷ c ∷ d ∷ more) → u32_bytes n ≡ a ∷ b ∷ c ∷ d ∷ []
front_word a b c d n more fits e = be_bytes_4 (a ∷ b ∷ c ∷ d ∷ []) n refl (λ i. four i) e
  where
    four : (i : ℕ) → get_or (a ∷ b ∷ c ∷ d ∷ []) i 0 < 256
    four zero = fits 0
    four (suc zero) = fits 1
    four (suc (suc zero)) = fits 2
    four (suc (suc (suc zero))) = fits 3
    four (suc (suc (suc (suc i)))) = omega arith

pub clock_next : (field : FrameReason) (bytes : List ℕ) (n : ℕ) → AreBytes bytes → 4 ≤ length bytes → n ≡ from_be_bytes w32 bytes → 1 ≤ n →
    IsNext (clock_part field) n bytes (drop 4 bytes)
clock_next field [] n fits l e some = absurd (omega arith)
clock_next field (a ∷ []) n fits l e some = absurd (omega arith)
clock_next field (a ∷ (b ∷ [])) n fits l e some = absurd (omega arith)
clock_next field (a ∷ (b ∷ (c ∷ []))) n fits l e some = absurd (omega arith)
clock_next field (a ∷ (b ∷ (c ∷ (d ∷ more)))) n fits l e some = record {
  good = (some, omega (arith, fits 0, fits 1, fits 2, fits 3));
  is = ap (λ bs. bs ++ more) (sym (front_word a b c d n more fits e));
}

pub clock_zero : (field : FrameReason) (bytes : List ℕ) → AreBytes bytes → 4 ≤ length bytes → 0 ≡ from_be_bytes w32 bytes → IsWrong (clock_part field) bytes 3 field
clock_zero field [] fits l e = absurd (omega arith)
clock_zero field (a ∷ []) fits l e = absurd (omega arith)
clock_zero field (a ∷ (b ∷ [])) fits l e = absurd (omega arith)
clock_zero field (a ∷ (b ∷ (c ∷ []))) fits l e = absurd (omega arith)
clock_zero field (a ∷ (b ∷ (c ∷ (d ∷ more)))) fits l e =
    let no_a : 0 ≡ a = omega (arith, fits 0, fits 1, fits 2, fits 3) in
    let no_b : 0 ≡ b = omega (arith, fits 0, fits 1, fits 2, fits 3) in
    let no_c : 0 ≡ c = omega (arith, fits 0, fits 1, fits 2, fits 3) in
    let spelled : u32_bytes 0 ≡ a ∷ b ∷ c ∷ d ∷ [] = front_word a b c d 0 more fits e in
    record {
      like = 1;
      good = (omega arith, omega arith);
      within = omega arith;
      begun = λ i. no_a i ∷ (no_b i ∷ (no_c i ∷ []));
      more = omega arith;
      short = λ h. absurd (omega arith);
      field = λ _. refl;
      end = λ _ x good same.
          let zero_is : x ≡ 0 = same_word x 0 [] [] good.1 (omega arith) (ap (λ bs. bs ++ []) (same ∙ sym spelled)) in
          omega (arith, good.0, zero_is);
    }

-- ---- bytes

pub byte-one_way : (field : FrameReason) (least most : ℕ) → OneWay (byte_part field least most)
byte-one_way field least most x y s t good_x good_y e = cc

pub byte-fields : (field : FrameReason) (least most : ℕ) → EachHasField (byte_part field least most)
byte-fields field least most x = refl

pub byte_short : (field : FrameReason) (least most : ℕ) (bytes : List ℕ) → least ≤ most → length bytes ≡ 0 → IsWrong (byte_part field least most) bytes 0 Short
byte_short field least most [] some l = record {
  like = least;
  good = (omega arith, some);
  within = omega arith;
  begun = refl;
  more = omega arith;
  short = λ e. refl;
  field = λ h. absurd (omega arith);
  end = λ h. absurd (omega arith);
}
byte_short field least most (b ∷ bytes) some l = absurd (omega arith)

pub byte_next : (field : FrameReason) (least most : ℕ) (bytes : List ℕ) (n : ℕ) → 0 < length bytes → n ≡ get_or bytes 0 0 → least ≤ n → n ≤ most →
    IsNext (byte_part field least most) n bytes (drop 1 bytes)
byte_next field least most [] n l e low high = absurd (omega arith)
byte_next field least most (b ∷ bytes) n l e low high = record { good = (low, high); is = ap (λ x. x ∷ bytes) (sym e) }

pub byte_wrong : (field : FrameReason) (least most : ℕ) (bytes : List ℕ) (n : ℕ) → least ≤ most → 0 < length bytes → n ≡ get_or bytes 0 0 → (n < least) ⊎ (most < n) →
    IsWrong (byte_part field least most) bytes 0 field
byte_wrong field least most [] n some l e out = absurd (omega arith)
byte_wrong field least most (b ∷ bytes) n some l e out = record {
  like = least;
  good = (omega arith, some);
  within = omega arith;
  begun = refl;
  more = omega arith;
  short = λ h. absurd (omega arith);
  field = λ _. refl;
  end = λ _ x good same. let is : x ≡ b = cc in omega (arith, good.0, good.1, is, e, out);
}

-- ---- keys

pub same_half : (x y : ℕ) (s t : List ℕ) → x < 2 ^ 16 → y < 2 ^ 16 → u16_bytes x ++ s ≡ u16_bytes y ++ t → x ≡ y
same_half x y s t small_x small_y e =
    let high : x / 256 % 256 ≡ y / 256 % 256 = ap (λ bs. get_or bs 0 0) e in
    let low : x % 256 ≡ y % 256 = ap (λ bs. get_or bs 1 0) e in
    omega arith

pub key-one_way : (least most : ℕ) → most < 2 ^ 16 → OneWay (key_part least most)
key-one_way least most small x y s t good_x good_y e = same_half x y s t (omega (arith, good_x.1)) (omega (arith, good_y.1)) e

pub key-fields : (least most : ℕ) → EachHasField (key_part least most)
key-fields least most x = refl

-- the least key whose first byte is this, if there is one
key_like : (least most a : ℕ) → most < 2 ^ 16 → least ≤ most → least ≤ a * 256 + 255 → a * 256 ≤ most → (n : ℕ) × (least ≤ n) × (n ≤ most) × (n / 256 % 256 ≡ a)
key_like least most a small some low high = elim (cases_lt (a * 256) least) [
  | inl below ↦ (least, omega arith, some, omega arith)
  | inr from ↦ (a * 256, omega arith, high, omega arith)
]

pub key_short : (least most : ℕ) (bytes : List ℕ) → least ≤ most → length bytes ≡ 0 → IsWrong (key_part least most) bytes 0 Short
key_short least most [] some l = record {
  like = least;
  good = (omega arith, some);
  within = omega arith;
  begun = refl;
  more = omega arith;
  short = λ e. refl;
  field = λ h. absurd (omega arith);
  end = λ h. absurd (omega arith);
}
key_short least most (b ∷ bytes) some l = absurd (omega arith)

pub key_half : (least most : ℕ) (bytes : List ℕ) (a : ℕ) → most < 2 ^ 16 → least ≤ most → length bytes ≡ 1 → a ≡ get_or bytes 0 0 → least ≤ a * 256 + 255 → a * 256 ≤ most →
    IsWrong (key_part least most) bytes 1 Short
key_half least most [] a small some l e low high = absurd (omega arith)
key_half least most (b ∷ []) a small some l e low high =
    let like = key_like least most a small some low high in
    record {
      like = like.0;
      good = (like.1, like.2);
      within = omega arith;
      begun = ap (λ x. x ∷ []) (like.3 ∙ e);
      more = omega arith;
      short = λ _. refl;
      field = λ h. absurd (omega arith);
      end = λ h. absurd (omega arith);
    }
key_half least most (b ∷ (d ∷ bytes)) a small some l e low high = absurd (omega arith)

pub key_next : (least most : ℕ) (bytes : List ℕ) (n : ℕ) → AreBytes bytes → most < 2 ^ 16 → 2 ≤ length bytes → n ≡ get_or bytes 0 0 * 256 + get_or bytes 1 0 → least ≤ n → n ≤ most →
    IsNext (key_part least most) n bytes (drop 2 bytes)
key_next least most [] n fits small l e low high = absurd (omega arith)
key_next least most (a ∷ []) n fits small l e low high = absurd (omega arith)
key_next least most (a ∷ (b ∷ bytes)) n fits small l e low high =
    let first : n / 256 % 256 ≡ a = omega (arith, fits 0, fits 1, e) in
    let second : n % 256 ≡ b = omega (arith, fits 0, fits 1, e) in
    record { good = (low, high); is = sym (λ i. first i ∷ (second i ∷ bytes)) }

-- no key has this first byte
pub key_wrong_first : (least most : ℕ) (bytes : List ℕ) (a : ℕ) → most < 2 ^ 16 → least ≤ most → 0 < length bytes → a ≡ get_or bytes 0 0 → (a * 256 + 255 < least) ⊎ (most < a * 256) →
    IsWrong (key_part least most) bytes 0 Ids
key_wrong_first least most [] a small some l e out = absurd (omega arith)
key_wrong_first least most (b ∷ bytes) a small some l e out = record {
  like = least;
  good = (omega arith, some);
  within = omega arith;
  begun = refl;
  more = omega arith;
  short = λ h. absurd (omega arith);
  field = λ _. refl;
  end = λ _ x good same. let first : x / 256 % 256 ≡ b = ap (λ bs. get_or bs 0 0) same in omega (arith, good.0, good.1, first, e, out);
}

-- some key has this first byte, and none the second with it
pub key_wrong_second : (least most : ℕ) (bytes : List ℕ) (a n : ℕ) → AreBytes bytes → most < 2 ^ 16 → least ≤ most → 2 ≤ length bytes → a ≡ get_or bytes 0 0 → n ≡ a * 256 + get_or bytes 1 0 →
    least ≤ a * 256 + 255 → a * 256 ≤ most → (n < least) ⊎ (most < n) → IsWrong (key_part least most) bytes 1 Ids
key_wrong_second least most [] a n fits small some l e is low high out = absurd (omega arith)
key_wrong_second least most (b ∷ []) a n fits small some l e is low high out = absurd (omega arith)
key_wrong_second least most (b ∷ (d ∷ bytes)) a n fits small some l e is low high out =
    let like = key_like least most a small some low high in
    record {
      like = like.0;
      good = (like.1, like.2);
      within = omega arith;
      begun = ap (λ x. x ∷ []) (like.3 ∙ e);
      more = omega arith;
      short = λ h. absurd (omega arith);
      field = λ _. refl;
      end = λ _ x good same.
          let first : x / 256 % 256 ≡ b = ap (λ bs. get_or bs 0 0) same in
          let second : x % 256 ≡ d = ap (λ bs. get_or bs 1 0) same in
          omega (arith, good.0, good.1, first, second, e, is, out);
    }

-- ---- bytes from a place on

pub bytes_from : (bytes : List ℕ) (at : ℕ) → AreBytes bytes → AreBytes (drop at bytes)
bytes_from bytes at fits i = subst (λ n. n < 256) (sym (get_or-drop at bytes i 0)) (fits (at + i))
