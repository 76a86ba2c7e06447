-- Bytes read from their digits.
use Rattle.std.proofs.Common.{◌≡◌, ◌≢◌, ◌∙◌, sym, ap, refl, ℕ, ◌<◌, ◌≤◌, arith, List, [], ◌∷◌, ◌++◌, append_assoc, append-nil, get_or, length, drop, take}
use Rattle.trace_text.specs.Entries.{AreBytes}
use Rattle.trace_text.specs.Lines.{byte_hex, hex}
use Rattle.trace_text.proofs.Words.{Each, each_of}

abbrev EachByte : List ℕ → Type 0
EachByte bytes = Each (λ b. b < 256) bytes

-- what is left of the digits of bytes, of which the first were read
hex-rest : (done xs rest : List ℕ) → EachByte xs → hex done ++ rest ≡ hex xs → (ys : List ℕ) × EachByte ys × (rest ≡ hex ys)
hex-rest [] xs rest each e = (xs, each, e)
hex-rest (d ∷ done) [] rest each e = absurd (omega (arith, ap length e))
hex-rest (d ∷ done) (x ∷ xs) rest each e = hex-rest done xs rest each.1 (ap (drop 2) e)

pub no_byte : (digits done : List ℕ) (high low : ℕ) (others : List ℕ) → hex done ++ high ∷ low ∷ others ≡ digits → ((b : ℕ) → b < 256 → high ∷ low ∷ [] ≢ byte_hex b) → (xs : List ℕ) → AreBytes xs → digits ≡ hex xs → ⊥
no_byte digits done high low others whole none xs are e =
    let left = hex-rest done xs (high ∷ low ∷ others) (each_of (λ b. b < 256) xs are) (whole ∙ e) in
    go left.0 left.1 left.2
  where
    go : (ys : List ℕ) → EachByte ys → high ∷ low ∷ others ≡ hex ys → ⊥
    go [] each f = absurd (omega (arith, ap length f))
    go (y ∷ ys) each f = none y each.0 (ap (take 2) f)

pub odd_digits : (digits done rest : List ℕ) → hex done ++ rest ≡ digits → length rest < 2 → 0 < length rest → (xs : List ℕ) → AreBytes xs → digits ≡ hex xs → ⊥
odd_digits digits done rest whole few some xs are e =
    let left = hex-rest done xs rest (each_of (λ b. b < 256) xs are) (whole ∙ e) in
    go left.0 left.2
  where
    go : (ys : List ℕ) → rest ≡ hex ys → ⊥
    go [] f = absurd (omega (arith, some, ap length f))
    go (y ∷ ys) f = absurd (omega (arith, few, ap length f))

pub hex-more : (done : List ℕ) (b : ℕ) (others digits : List ℕ) (high low : ℕ) → hex done ++ high ∷ low ∷ others ≡ digits → high ∷ low ∷ [] ≡ byte_hex b → hex (done ++ b ∷ []) ++ others ≡ digits
hex-more done b others digits high low whole is =
    ap (λ (t : List ℕ). t ++ others) (grown done) ∙ append_assoc (hex done) (byte_hex b) others ∙ ap (λ (t : List ℕ). hex done ++ (t ++ others)) (sym is) ∙ whole
  where
    grown : (xs : List ℕ) → hex (xs ++ b ∷ []) ≡ hex xs ++ byte_hex b
    grown [] = refl
    grown (x ∷ xs) = ap (λ (t : List ℕ). byte_hex x ++ t) (grown xs)

pub all-read : (done digits rest : List ℕ) → hex done ++ rest ≡ digits → length rest ≡ 0 → digits ≡ hex done
all-read done digits [] whole none = sym whole ∙ append-nil (hex done)
all-read done digits (x ∷ rest) whole none = absurd (omega (arith, none))

-- the first two digits are those of no byte
pub no_bytes : (digits done rest : List ℕ) → hex done ++ rest ≡ digits → 2 ≤ length rest → ((b : ℕ) → b < 256 → get_or rest 0 0 ∷ get_or rest 1 0 ∷ [] ≢ byte_hex b) → (xs : List ℕ) → AreBytes xs → digits ≡ hex xs → ⊥
no_bytes digits done [] whole long none = absurd (omega (arith, long))
no_bytes digits done (h ∷ []) whole long none = absurd (omega (arith, long))
no_bytes digits done (h ∷ l ∷ others) whole long none = no_byte digits done h l others whole none
