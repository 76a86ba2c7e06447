-- The item at the front of a stream.
use Rattle.std.proofs.Common.{◌≡◌, ◌∙◌, sym, ap, ℕ, ◌+◌, ◌*◌, ◌/◌, ◌%◌, ◌<◌, ◌≤◌, List, [], ◌∷◌, ◌++◌, length, get_or, take, drop, arith}
use Rattle.std.proofs.lemmas.List.{length-take, take-append-drop}
use Rattle.wire_frame.specs.Stream.{framed_item, size_at}

-- two digits give their number back
high_of : (n h l : ℕ) → l < 256 → h * 256 + l ≡ n → n / 256 ≡ h
high_of n h l small e = omega arith

low_of : (n h l : ℕ) → l < 256 → h * 256 + l ≡ n → n % 256 ≡ l
low_of n h l small e = omega arith

pub front_item : (bytes item rest : List ℕ) (size : ℕ) → get_or bytes 1 0 < 256 → size_at bytes ≡ size → size + 2 ≤ length bytes →
    item ≡ take size (drop 2 bytes) → rest ≡ drop size (drop 2 bytes) → bytes ≡ framed_item item ++ rest
front_item [] item rest size small is long p q = absurd (omega arith)
front_item (h ∷ []) item rest size small is long p q = absurd (omega arith)
front_item (h ∷ (l ∷ bytes)) item rest size small is long p q =
    let n : length item ≡ size = ap length p ∙ length-take size bytes ∙ omega arith in
    let a : length item / 256 ≡ h = high_of (length item) h l small (is ∙ sym n) in
    let b : length item % 256 ≡ l = low_of (length item) h l small (is ∙ sym n) in
    let c : item ++ rest ≡ bytes = rw (p, q) (take-append-drop size bytes) in
    sym (λ i. a i ∷ (b i ∷ c i))
