-- How far bytes begin a value, as the code reads them.
use Rattle.std.proofs.Common.{◌≡◌, ◌≢◌, sym, ap, subst, ◌∙◌, ℕ, suc, ◌+◌, ◌-◌, ◌*◌, ◌<◌, ◌≤◌, ◌⊎◌, List, [], ◌∷◌, length, take, drop, get_or, arith, length-take, ◌/◌, ◌%◌}
use Rattle.std.proofs.lemmas.List.{take_rest}
use Rattle.std.specs.Str.{IsUtf8}
use Rattle.std.proofs.lemmas.Bool.Decides.{nat_tests}
use Rattle.svc_value.specs.declared.value.Fault.{Fault}
use Rattle.svc_value.specs.declared.value.Value.TheVariants.{Words, Bad}
use Rattle.svc_value.specs.declared.taken.ValueReason.TheVariants as reason
use Rattle.svc_value.specs.Layout.{layout, fault_code}
use Rattle.svc_value.specs.Prefix.{IsPlace}
use Rattle.svc_value.specs.Taken.{HasTextLen, IsAtFront, IsBadValue}
use Rattle.svc_value.specs.Utf8Front.{IsTextOf}
use Rattle.svc_value.proofs.ValuePlaces.{fault_short, code_bad, length_missing, high_bad, length_half, low_bad, body_bad, text_reason}

pub no_code : (rest : List ℕ) → length rest ≡ 0 → IsBadValue (3 ∷ rest) 1 reason.Short
no_code [] e = fault_short
no_code (x ∷ xs) e = absurd (omega arith)

pub wrong_code : (rest : List ℕ) → 0 < length rest → (get_or rest 0 0 < 1) ⊎ (5 < get_or rest 0 0) → IsBadValue (3 ∷ rest) 1 reason.FaultCode
wrong_code [] h k = absurd (omega arith)
wrong_code (x ∷ xs) h k = code_bad x xs k

pub fault_read : (rest : List ℕ) (f : Fault) → 0 < length rest → fault_code f ≡ get_or rest 0 0 → IsAtFront (3 ∷ rest) (Bad f) 2
fault_read [] f h e = absurd (omega arith)
fault_read (x ∷ xs) f h e = record { fits = omega arith; layout = record { within = tt; bytes_are = ap (λ c. 3 ∷ c ∷ []) (sym e) } }

pub no_length : (rest : List ℕ) → length rest ≡ 0 → IsBadValue (2 ∷ rest) 1 reason.Short
no_length [] e = length_missing
no_length (x ∷ xs) e = absurd (omega arith)

pub high_wrong : (rest : List ℕ) → 0 < length rest → 1 < get_or rest 0 0 → IsBadValue (2 ∷ rest) 1 reason.Length
high_wrong [] h k = absurd (omega arith)
high_wrong (x ∷ xs) h k = high_bad x xs k

pub half_length : (rest : List ℕ) → length rest ≡ 1 → get_or rest 0 0 ≤ 1 → IsBadValue (2 ∷ rest) 2 reason.Short
half_length [] e k = absurd (omega arith)
half_length (x ∷ []) e k = length_half x k
half_length (x ∷ y ∷ ys) e k = absurd (omega arith)

pub low_wrong : (rest : List ℕ) → 1 < length rest → get_or rest 0 0 ≤ 1 → get_or rest 1 0 < 256 → 256 < get_or rest 0 0 * 256 + get_or rest 1 0 → IsBadValue (2 ∷ rest) 2 reason.Length
low_wrong [] h j k l = absurd (omega arith)
low_wrong (x ∷ []) h j k l = absurd (omega arith)
low_wrong (x ∷ y ∷ ys) h j k l = low_bad x y ys j l k

-- what `&rest[2..]` is
abbrev pub behind : List ℕ → List ℕ
behind rest = take (length rest - 2) (drop 2 rest)

pub text_read : (rest text : List ℕ) (len : ℕ) → HasTextLen rest len → get_or rest 1 0 < 256 → text ≡ take len (behind rest) → IsTextOf len (take len (behind rest)) → IsAtFront (2 ∷ rest) (Words text) (3 + len)
text_read [] text len h k e t = absurd (omega (arith, h.both))
text_read (x ∷ []) text len h k e t = absurd (omega (arith, h.both))
text_read (x ∷ y ∷ ys) text len h k e t =
    let whole : behind (x ∷ y ∷ ys) ≡ ys = take_rest (x ∷ y ∷ ys) 2 in
    let is : text ≡ take len ys = e ∙ ap (take len) whole in
    let short : length text ≡ len = ap length e ∙ t.length_is in
    let fits : len ≤ length ys = omega (arith, length-take len ys, ap length is) in
    let number : len ≡ x * 256 + y = h.number in
    let high : len / 256 % 256 ≡ x = omega (arith, h.most) in
    let low : len % 256 ≡ y = omega (arith, h.most) in
    let front : take (3 + len) (2 ∷ x ∷ y ∷ ys) ≡ 2 ∷ x ∷ y ∷ take len ys = (let n : 3 + len ≡ suc (suc (suc len)) = omega arith in ap (λ m. take m (2 ∷ x ∷ y ∷ ys)) n) in
    let bytes : layout (Words text) ≡ 2 ∷ x ∷ y ∷ take len ys =
    ap (λ n. 2 ∷ (n / 256 % 256) ∷ (n % 256) ∷ text) short ∙ ap (λ b. 2 ∷ b ∷ (len % 256) ∷ text) high ∙ ap (λ b. 2 ∷ x ∷ b ∷ text) low ∙ ap (λ t. 2 ∷ x ∷ y ∷ t) is in
    record {
      fits = omega arith;
      layout = record { within = (omega (arith, h.most), subst IsUtf8 (sym e) t.utf8); bytes_are = front ∙ sym bytes };
    }

pub text_ends : (rest : List ℕ) (len p : ℕ) → HasTextLen rest len → get_or rest 1 0 < 256 → IsPlace (IsTextOf len) (behind rest) p → ¬ (IsTextOf len (take len (behind rest)))
    → p ≡ length (behind rest) → IsBadValue (2 ∷ rest) (3 + p) reason.Short
text_ends [] len p h k there refused e = absurd (omega (arith, h.both))
text_ends (x ∷ []) len p h k there refused e = absurd (omega (arith, h.both))
text_ends (x ∷ y ∷ ys) len p h k there refused e =
    let whole : behind (x ∷ y ∷ ys) ≡ ys = take_rest (x ∷ y ∷ ys) 2 in
    let bad = body_bad x y ys p (omega (arith, h.number, h.most)) k
    (subst (λ n. IsPlace (IsTextOf n) ys p) h.number (subst (λ b. IsPlace (IsTextOf len) b p) whole there))
    (λ t. refused (subst (λ n. IsTextOf n (take n (behind (x ∷ y ∷ ys)))) (sym h.number) (subst (λ b. IsTextOf (x * 256 + y) (take (x * 256 + y) b)) (sym whole) t))) in
    let why : text_reason ys p ≡ reason.Short = (let at : p ≡ length ys = e ∙ ap length whole in grind (arith, nat_tests)) in
    subst (IsBadValue (2 ∷ x ∷ y ∷ ys) (3 + p)) why bad

pub text_wrong : (rest : List ℕ) (len p : ℕ) → HasTextLen rest len → get_or rest 1 0 < 256 → IsPlace (IsTextOf len) (behind rest) p → ¬ (IsTextOf len (take len (behind rest)))
    → p ≢ length (behind rest) → IsBadValue (2 ∷ rest) (3 + p) reason.Utf8
text_wrong [] len p h k there refused e = absurd (omega (arith, h.both))
text_wrong (x ∷ []) len p h k there refused e = absurd (omega (arith, h.both))
text_wrong (x ∷ y ∷ ys) len p h k there refused e =
    let whole : behind (x ∷ y ∷ ys) ≡ ys = take_rest (x ∷ y ∷ ys) 2 in
    let bad = body_bad x y ys p (omega (arith, h.number, h.most)) k
    (subst (λ n. IsPlace (IsTextOf n) ys p) h.number (subst (λ b. IsPlace (IsTextOf len) b p) whole there))
    (λ t. refused (subst (λ n. IsTextOf n (take n (behind (x ∷ y ∷ ys)))) (sym h.number) (subst (λ b. IsTextOf (x * 256 + y) (take (x * 256 + y) b)) (sym whole) t))) in
    let why : text_reason ys p ≡ reason.Utf8 = (let at : p ≢ length ys = λ is. e (is ∙ sym (ap length whole)) in grind (arith, nat_tests)) in
    subst (IsBadValue (2 ∷ x ∷ y ∷ ys) (3 + p)) why bad
