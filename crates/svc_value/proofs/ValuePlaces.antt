-- How far bytes begin a value, by the tag.
use Rattle.std.proofs.Common.{◌≡◌, ◌≢◌, refl, sym, ap, subst, ◌∙◌, ℕ, zero, suc, ◌+◌, ◌-◌, ◌*◌, ◌/◌, ◌%◌, ◌^◌, ◌<◌, ◌≤◌, ◌⊎◌, inl, inr, List, [], ◌∷◌, ◌++◌, length, take, get_or, replicate, arith, length-append, length-take, ℤ, to_z-of_z, w16, w64}
use Rattle.std.proofs.lemmas.Bool.{cases_lt}
use Rattle.std.proofs.lemmas.Bool.Decides.{nat_tests}
use Rattle.std.proofs.lemmas.Int.{ints, of_z-to_z}
use Rattle.std.proofs.lemmas.List.{get_or-replicate, get_or_past, length-replicate}
use Rattle.std.proofs.lemmas.Nat.{be_bytes_8, from_be_bytes-to_be_bytes_8}
use Rattle.std.proofs.lemmas.Str.{IsUtf8-nil}
use Rattle.std.specs.Int.{to_be_bytes, from_be_bytes, cast_signed, cast_unsigned}
use Rattle.std.specs.Prelude.{FitsSigned, ◌==◌, if◌then◌else◌}
use Rattle.std.specs.Str.{IsUtf8}
use Rattle.svc_value.specs.declared.value.Fault.{Fault}
use Rattle.svc_value.specs.declared.value.Fault.TheVariants.{Overflow, Zero, Long, Number, Empty}
use Rattle.svc_value.specs.declared.value.Value.{Value}
use Rattle.svc_value.specs.declared.value.Value.TheVariants.{Int, Words, Bad}
use Rattle.svc_value.specs.declared.taken.ValueReason.{ValueReason}
use Rattle.svc_value.specs.declared.taken.ValueReason.TheVariants as reason
use Rattle.svc_value.specs.Layout.{layout, fault_code, IsWithin}
use Rattle.svc_value.specs.Prefix.{IsPlace}
use Rattle.svc_value.specs.Taken.{IsValue, IsBadValue}
use Rattle.svc_value.specs.Utf8Front.{IsTextOf}
use Rattle.svc_value.proofs.Places.{place_end, place_here, place_next, place_same, place_whole}
use Rattle.svc_value.proofs.Utf8Places.{zeros}

-- ---- the bytes of values

pub number_value : (xs : List ℕ) → length xs ≡ 8 → ((i : ℕ) → get_or xs i 0 < 256) → IsValue (1 ∷ xs)
number_value xs eight small =
    let n : ℕ = from_be_bytes w64 xs in
    let bound : n < 2 ^ 64 = omega (arith, small 0, small 1, small 2, small 3, small 4, small 5, small 6, small 7) in
    let z : ℤ = cast_signed w64 n in
    let fits : FitsSigned w64 z = omega (arith, ints) in
    let back : cast_unsigned w64 z ≡ n = of_z-to_z w64 n bound in
    (Int z, record { within = fits; bytes_are = ap (λ bs. 1 ∷ bs) (sym (be_bytes_8 xs n eight small refl) ∙ ap (to_be_bytes w64) (sym back)) })

pub text_value : (t : List ℕ) → length t ≤ 256 → IsUtf8 t → IsValue (2 ∷ to_be_bytes w16 (length t) ++ t)
text_value t short u = (Words t, record { within = (short, u); bytes_are = refl })

pub fault_value : (f : Fault) → IsValue (3 ∷ fault_code f ∷ [])
fault_value f = (Bad f, record { within = tt; bytes_are = refl })

pub no_value : IsValue [] → ⊥
no_value v = by v.0 v.1.bytes_are
  where
    by : (value : Value) → [] ≡ layout value → ⊥
    by (Int z) e = cc
    by (Words t) e = cc
    by (Bad f) e = cc

pub number_len : (xs : List ℕ) → IsValue (1 ∷ xs) → length xs ≡ 8
number_len xs v = by v.0 v.1.bytes_are
  where
    by : (value : Value) → 1 ∷ xs ≡ layout value → length xs ≡ 8
    by (Int z) e = omega (arith, ap length e)
    by (Words t) e = absurd (cc)
    by (Bad f) e = absurd (cc)

-- a text, whose length is its first two bytes
pub record IsLongText (xs : List ℕ) : Type 0 where
  pub text : List ℕ
  pub short : length text ≤ 256
  pub utf8 : IsUtf8 text
  pub bytes : xs ≡ to_be_bytes w16 (length text) ++ text

pub text_bytes : (xs : List ℕ) → IsValue (2 ∷ xs) → IsLongText xs
text_bytes xs v = by v.0 v.1.within v.1.bytes_are
  where
    by : (value : Value) → IsWithin value → 2 ∷ xs ≡ layout value → IsLongText xs
    by (Int z) w e = absurd (cc)
    by (Words t) w e = record { text = t; short = w.0; utf8 = w.1; bytes = cc }
    by (Bad f) w e = absurd (cc)

pub fault_bytes : (xs : List ℕ) → IsValue (3 ∷ xs) → (f : Fault) × (xs ≡ fault_code f ∷ [])
fault_bytes xs v = by v.0 v.1.bytes_are
  where
    by : (value : Value) → 3 ∷ xs ≡ layout value → (f : Fault) × (xs ≡ fault_code f ∷ [])
    by (Int z) e = absurd (cc)
    by (Words t) e = absurd (cc)
    by (Bad f) e = (f, cc)

pub tag_is : (b : ℕ) (xs : List ℕ) → IsValue (b ∷ xs) → b ≢ 1 → b ≢ 2 → b ≢ 3 → ⊥
tag_is b xs v one two three = by v.0 v.1.bytes_are
  where
    by : (value : Value) → b ∷ xs ≡ layout value → ⊥
    by (Int z) e = one (cc)
    by (Words t) e = two (cc)
    by (Bad f) e = three (cc)

pub code_is : (b : ℕ) (xs : List ℕ) → IsValue (3 ∷ b ∷ xs) → (1 ≤ b) × (b ≤ 5)
code_is b xs v = let f = fault_bytes (b ∷ xs) v in by f.0 f.1
  where
    by : (f : Fault) → b ∷ xs ≡ fault_code f ∷ [] → (1 ≤ b) × (b ≤ 5)
    by Overflow e = let k : b ≡ 1 = cc in (omega arith, omega arith)
    by Zero e = let k : b ≡ 2 = cc in (omega arith, omega arith)
    by Long e = let k : b ≡ 3 = cc in (omega arith, omega arith)
    by Number e = let k : b ≡ 4 = cc in (omega arith, omega arith)
    by Empty e = let k : b ≡ 5 = cc in (omega arith, omega arith)

-- behind a text's length, its text
pub length_is : (h l : ℕ) (xs : List ℕ) → IsValue (2 ∷ h ∷ l ∷ xs) → (h * 256 + l ≤ 256) × (l < 256) × IsTextOf (h * 256 + l) xs
length_is h l xs v =
    let t = text_bytes (h ∷ l ∷ xs) v in
    let n : ℕ = length t.text in
    let short : n ≤ 256 = t.short in
    let high : h ≡ n / 256 % 256 = cc (t.bytes) in
    let low : l ≡ n % 256 = cc (t.bytes) in
    let same : xs ≡ t.text = cc (t.bytes) in
    (omega arith, omega arith, record { utf8 = subst IsUtf8 (sym same) t.utf8; length_is = omega (arith, ap length same) })

pub text_after : (h l : ℕ) (xs : List ℕ) → h * 256 + l ≤ 256 → l < 256 → IsTextOf (h * 256 + l) xs → IsValue (2 ∷ h ∷ l ∷ xs)
text_after h l xs short small t =
    let n : ℕ = length xs in
    let is : n ≡ h * 256 + l = t.length_is in
    let high : n / 256 % 256 ≡ h = omega arith in
    let low : n % 256 ≡ l = omega arith in
    subst IsValue (ap (λ b. 2 ∷ b ∷ (n % 256) ∷ xs) high ∙ ap (λ b. 2 ∷ h ∷ b ∷ xs) low) (text_value xs (omega arith) t.utf8)

-- ---- bytes that begin with no value

some_value : IsValue (3 ∷ 1 ∷ [])
some_value = fault_value Overflow

zero_small : (i : ℕ) (xs : List ℕ) (n : ℕ) → ((k : ℕ) → get_or xs k 0 < 256) → get_or (xs ++ replicate n 0) i 0 < 256
zero_small i [] n small = elim (cases_lt i n) [ inl h ↦ omega (arith, get_or-replicate {A = ℕ} n i 0 0 h) | inr h ↦ omega (arith, get_or_past {X = ℕ} (replicate n 0) i 0 (omega (arith, length-replicate {A = ℕ} n 0))) ]
zero_small zero (x ∷ xs) n small = small 0
zero_small (suc i) (x ∷ xs) n small = zero_small i xs n (λ k. small (suc k))

pub nothing_bad : IsBadValue [] 0 reason.Short
nothing_bad = record {
  none = λ n v. none n v;
  at = place_end IsValue (3 ∷ 1 ∷ []) some_value;
  why = refl;
}
  where
    none : (n : ℕ) → ¬ (IsValue (take n []))
    none zero v = no_value v
    none (suc n) v = no_value v

pub tag_bad : (b : ℕ) (xs : List ℕ) → b ≢ 1 → b ≢ 2 → b ≢ 3 → IsBadValue (b ∷ xs) 0 reason.Tag
tag_bad b xs one two three = record {
  none = none;
  at = place_here IsValue b xs (3 ∷ 1 ∷ []) some_value (λ ys v. tag_is b ys v one two three);
  why = grind (arith, nat_tests);
}
  where
    none : (n : ℕ) → ¬ (IsValue (take n (b ∷ xs)))
    none zero v = no_value v
    none (suc n) v = tag_is b (take n xs) v one two three

pub number_bad : (xs : List ℕ) → length xs < 8 → ((i : ℕ) → get_or xs i 0 < 256) → IsBadValue (1 ∷ xs) (1 + length xs) reason.Short
number_bad xs short small =
    let long : 1 + length xs ≡ length (1 ∷ xs) = omega arith in
    record {
      none = none;
      at = subst (IsPlace IsValue (1 ∷ xs)) (sym long) (place_whole IsValue (1 ∷ xs) (replicate (8 - length xs) 0)
          (number_value (xs ++ replicate (8 - length xs) 0) (omega (arith, length-append xs (replicate (8 - length xs) 0), length-replicate {A = ℕ} (8 - length xs) 0)) (λ i. zero_small i xs (8 - length xs) small)));
      why = grind (arith, nat_tests);
    }
  where
    none : (n : ℕ) → ¬ (IsValue (take n (1 ∷ xs)))
    none zero v = no_value v
    none (suc n) v = absurd (omega (arith, number_len (take n xs) v, length-take n xs))

pub fault_short : IsBadValue (3 ∷ []) 1 reason.Short
fault_short = record {
  none = none;
  at = place_next IsValue 3 [] 0 (place_end (λ xs. IsValue (3 ∷ xs)) (1 ∷ []) some_value);
  why = refl;
}
  where
    none : (n : ℕ) → ¬ (IsValue (take n (3 ∷ [])))
    none zero v = no_value v
    none (suc zero) v = cc (fault_bytes [] v).1
    none (suc (suc n)) v = cc (fault_bytes [] v).1

pub code_bad : (b : ℕ) (xs : List ℕ) → (b < 1) ⊎ (5 < b) → IsBadValue (3 ∷ b ∷ xs) 1 reason.FaultCode
code_bad b xs k = record {
  none = none;
  at = place_next IsValue 3 (b ∷ xs) 0 (place_here (λ ys. IsValue (3 ∷ ys)) b xs (1 ∷ []) some_value (λ ys v. no ys v));
  why = grind (arith, nat_tests);
}
  where
    no : (ys : List ℕ) → IsValue (3 ∷ b ∷ ys) → ⊥
    no ys v = let c = code_is b ys v in elim k [ inl h ↦ absurd (omega (arith, c.0)) | inr h ↦ absurd (omega (arith, c.1)) ]

    none : (n : ℕ) → ¬ (IsValue (take n (3 ∷ b ∷ xs)))
    none zero v = no_value v
    none (suc zero) v = cc (fault_bytes [] v).1
    none (suc (suc n)) v = no (take n xs) v

-- a text's length that is cut off
empty_text : IsValue (2 ∷ 0 ∷ 0 ∷ [])
empty_text = text_after 0 0 [] (omega arith) (omega arith) (record { utf8 = IsUtf8-nil; length_is = refl })

text_cut_off : (xs : List ℕ) → length xs < 2 → IsValue (2 ∷ xs) → ⊥
text_cut_off xs short v = let t = text_bytes xs v in absurd (omega (arith, short, ap length t.bytes))

pub length_missing : IsBadValue (2 ∷ []) 1 reason.Short
length_missing = record {
  none = none;
  at = place_next IsValue 2 [] 0 (place_end (λ xs. IsValue (2 ∷ xs)) (0 ∷ 0 ∷ []) empty_text);
  why = refl;
}
  where
    none : (n : ℕ) → ¬ (IsValue (take n (2 ∷ [])))
    none zero v = no_value v
    none (suc n) v = text_cut_off (take n []) (omega (arith, length-take {A = ℕ} n [])) v

pub length_half : (h : ℕ) → h ≤ 1 → IsBadValue (2 ∷ h ∷ []) 2 reason.Short
length_half h small = record {
  none = none;
  at = place_next IsValue 2 (h ∷ []) 1 (place_next (λ xs. IsValue (2 ∷ xs)) h [] 0 (place_end (λ xs. IsValue (2 ∷ h ∷ xs)) (0 ∷ replicate (h * 256 + 0) 0)
      (text_after h 0 (replicate (h * 256 + 0) 0) (omega arith) (omega arith) (zeros (h * 256 + 0)))));
  why = refl;
}
  where
    none : (n : ℕ) → ¬ (IsValue (take n (2 ∷ h ∷ [])))
    none zero v = no_value v
    none (suc n) v = text_cut_off (take n (h ∷ [])) (omega (arith, length-take {A = ℕ} n (h ∷ []))) v

pub high_bad : (h : ℕ) (xs : List ℕ) → 1 < h → IsBadValue (2 ∷ h ∷ xs) 1 reason.Length
high_bad h xs large = record {
  none = none;
  at = place_next IsValue 2 (h ∷ xs) 0 (place_here (λ ys. IsValue (2 ∷ ys)) h xs (0 ∷ 0 ∷ []) empty_text no);
  why = grind (arith, nat_tests);
}
  where
    no : (ys : List ℕ) → ¬ (IsValue (2 ∷ h ∷ ys))
    no [] v = text_cut_off (h ∷ []) (omega arith) v
    no (l ∷ ys) v = absurd (omega (arith, (length_is h l ys v).0))

    none : (n : ℕ) → ¬ (IsValue (take n (2 ∷ h ∷ xs)))
    none zero v = no_value v
    none (suc zero) v = text_cut_off [] (omega arith) v
    none (suc (suc n)) v = no (take n xs) v

pub low_bad : (h l : ℕ) (xs : List ℕ) → h ≤ 1 → 256 < h * 256 + l → l < 256 → IsBadValue (2 ∷ h ∷ l ∷ xs) 2 reason.Length
low_bad h l xs small large byte = record {
  none = none;
  at = place_next IsValue 2 (h ∷ l ∷ xs) 1 (place_next (λ ys. IsValue (2 ∷ ys)) h (l ∷ xs) 0 (place_here (λ ys. IsValue (2 ∷ h ∷ ys)) l xs (0 ∷ replicate (h * 256 + 0) 0)
      (text_after h 0 (replicate (h * 256 + 0) 0) (omega arith) (omega arith) (zeros (h * 256 + 0))) no));
  why = grind (arith, nat_tests);
}
  where
    no : (ys : List ℕ) → ¬ (IsValue (2 ∷ h ∷ l ∷ ys))
    no ys v = absurd (omega (arith, (length_is h l ys v).0))

    none : (n : ℕ) → ¬ (IsValue (take n (2 ∷ h ∷ l ∷ xs)))
    none zero v = no_value v
    none (suc zero) v = text_cut_off [] (omega arith) v
    none (suc (suc zero)) v = text_cut_off (h ∷ []) (omega arith) v
    none (suc (suc (suc n))) v = no (take n xs) v

-- as many items as are taken
take_taken : (n : ℕ) (xs : List ℕ) → take (length (take n xs)) xs ≡ take n xs
take_taken zero xs = refl
take_taken (suc n) [] = refl
take_taken (suc n) (x ∷ xs) = ap (λ ys. x ∷ ys) (take_taken n xs)

-- why a text's bytes are refused
abbrev pub text_reason : List ℕ → ℕ → ValueReason
text_reason body p = if p == length body then reason.Short else reason.Utf8

pub body_bad : (h l : ℕ) (body : List ℕ) (p : ℕ) → h * 256 + l ≤ 256 → l < 256 → IsPlace (IsTextOf (h * 256 + l)) body p → ¬ (IsTextOf (h * 256 + l) (take (h * 256 + l) body))
    → IsBadValue (2 ∷ h ∷ l ∷ body) (3 + p) (text_reason body p)
body_bad h l body p small byte there refused = record {
  none = none;
  at = let e : suc (suc (suc p)) ≡ 3 + p = omega arith in
      subst (IsPlace IsValue (2 ∷ h ∷ l ∷ body)) e
      (place_next IsValue 2 (h ∷ l ∷ body) (suc (suc p)) (place_next (λ ys. IsValue (2 ∷ ys)) h (l ∷ body) (suc p) (place_next (λ ys. IsValue (2 ∷ h ∷ ys)) l body p
      (place_same (IsTextOf (h * 256 + l)) (λ ys. IsValue (2 ∷ h ∷ l ∷ ys)) body p (λ ys t. text_after h l ys small byte t) (λ ys v. (length_is h l ys v).2) there))));
  why = grind (arith, nat_tests);
}
  where
    none : (n : ℕ) → ¬ (IsValue (take n (2 ∷ h ∷ l ∷ body)))
    none zero v = no_value v
    none (suc zero) v = text_cut_off [] (omega arith) v
    none (suc (suc zero)) v = text_cut_off (h ∷ []) (omega arith) v
    none (suc (suc (suc n))) v =
        let t = (length_is h l (take n body) v).2 in
        refused (subst (IsTextOf (h * 256 + l)) (sym (ap (λ m. take m body) (sym t.length_is) ∙ take_taken n body)) t)

-- ---- one value at the front

-- equally long fronts
same_parts : (us vs xs ys : List ℕ) → length us ≡ length vs → us ++ xs ≡ vs ++ ys → (us ≡ vs) × (xs ≡ ys)
same_parts [] [] xs ys l e = (refl, e)
same_parts [] (v ∷ vs) xs ys l e = absurd (omega arith)
same_parts (u ∷ us) [] xs ys l e = absurd (omega arith)
same_parts (u ∷ us) (v ∷ vs) xs ys l e =
    let rest = same_parts us vs xs ys (omega arith) (cc) in
    (cc (rest.0), rest.1)

same_number : (y z : ℤ) → FitsSigned w64 y → FitsSigned w64 z → to_be_bytes w64 (cast_unsigned w64 y) ≡ to_be_bytes w64 (cast_unsigned w64 z) → y ≡ z
same_number y z p q e =
    let bound_y : cast_unsigned w64 y < 2 ^ 64 = omega (arith, ints) in
    let bound_z : cast_unsigned w64 z < 2 ^ 64 = omega (arith, ints) in
    let same : cast_unsigned w64 y ≡ cast_unsigned w64 z = sym (from_be_bytes-to_be_bytes_8 _ bound_y) ∙ ap (from_be_bytes w64) e ∙ from_be_bytes-to_be_bytes_8 _ bound_z in
    sym (to_z-of_z p) ∙ ap (cast_signed w64) same ∙ to_z-of_z q

same_length : (m n : ℕ) → m ≤ 256 → n ≤ 256 → m / 256 % 256 ≡ n / 256 % 256 → m % 256 ≡ n % 256 → m ≡ n
same_length m n p q e f = omega arith

-- the fault of a code
abbrev fault_of : ℕ → Fault
fault_of n = if n == 1 then Overflow else (if n == 2 then Zero else (if n == 3 then Long else (if n == 4 then Number else Empty)))

coded : (f : Fault) → fault_of (fault_code f) ≡ f
coded Overflow = refl
coded Zero = refl
coded Long = refl
coded Number = refl
coded Empty = refl

same_fault : (f g : Fault) → fault_code f ≡ fault_code g → f ≡ g
same_fault f g e = sym (coded f) ∙ ap fault_of e ∙ coded g

pub one_value : (a b : Value) (xs ys : List ℕ) → IsWithin a → IsWithin b → layout a ++ xs ≡ layout b ++ ys → (a ≡ b) × (xs ≡ ys)
one_value (Int y) (Int z) xs ys p q e =
    let parts = same_parts (to_be_bytes w64 (cast_unsigned w64 y)) (to_be_bytes w64 (cast_unsigned w64 z)) xs ys refl (cc) in
    (ap (λ n. Int n) (same_number y z p q parts.0), parts.1)
one_value (Words t) (Words u) xs ys p q e =
    let n : length t ≡ length u = same_length (length t) (length u) p.0 q.0 (cc) (cc) in
    let parts = same_parts t u xs ys n (cc) in
    (ap (λ v. Words v) parts.0, parts.1)
one_value (Bad f) (Bad g) xs ys p q e =
    let is : fault_code f ≡ fault_code g = cc in
    (ap (λ h. Bad h) (same_fault f g is), cc)
one_value (Int y) (Words u) xs ys p q e = absurd (cc)
one_value (Int y) (Bad g) xs ys p q e = absurd (cc)
one_value (Words t) (Int z) xs ys p q e = absurd (cc)
one_value (Words t) (Bad g) xs ys p q e = absurd (cc)
one_value (Bad f) (Int z) xs ys p q e = absurd (cc)
one_value (Bad f) (Words u) xs ys p q e = absurd (cc)
