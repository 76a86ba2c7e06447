-- How far bytes begin a text of UTF-8 of one length.
use Rattle.std.proofs.Common.{◌≡◌, ◌≢◌, refl, sym, ap, subst, ◌∙◌, ℕ, suc, ◌+◌, ◌-◌, ◌*◌, ◌/◌, ◌%◌, ◌<◌, ◌≤◌, min, ◌⊎◌, inl, inr, true, false, List, [], ◌∷◌, ◌++◌, length, take, drop, get_or, replicate, Option, Some, None, arith, length-append, length-drop, length-take, take-append-drop}
use Rattle.std.proofs.lemmas.Bool.{cases_lt, cases_eq, cases_Bool, and_parts, both_ways}
use Rattle.std.proofs.lemmas.Bool.Decides.{nat_tests}
use Rattle.std.proofs.lemmas.Str.{IsUtf8-append, IsUtf8-encode, IsUtf8-from_ascii}
use Rattle.std.proofs.lemmas.List.{get_or-replicate, get_or_past, length-replicate}
use Rattle.std.proofs.Math.Seq.{take_all, take-add, drop-cons, take-append_seam, drop-append_seam}
use Rattle.std.proofs.iter.FirstChar.{after_text}
use Rattle.std.proofs.str.Lossy.{utf8_error_len_some}
use Rattle.std.proofs.str.Laws.{Shape, of1, of2, of3, of4, shape, Scalar, Follows, one, two, three, four}
use lib.Utf8.{scalar_cases, scalar as is_scalar}
use Rattle.std.specs.Char.{IsScalar, encode_utf8}
use Rattle.std.specs.Int.{is_in_range}
use Rattle.std.specs.Option.{unwrap_or}
use Rattle.std.specs.Str.{IsUtf8, IsValidUpTo, all_scalars, encode_utf8_all}
use Rattle.std.specs.Str.Lossy.{second_byte_min, second_byte_max, error_len_of_some, utf8_error_len, utf8_invalid_len}
use Rattle.svc_value.specs.Prefix.{IsPlace}
use Rattle.svc_value.specs.Utf8Front.{IsTextOf, char_len}
use Rattle.svc_value.proofs.Places.{place_end, place_here, place_next, place_after, place_same, place_whole, place_cut}

-- ---- characters from their bytes

pub scalar_of : (c : ℕ) → Scalar c → IsScalar c
scalar_of c (inl h) = grind (arith, nat_tests)
scalar_of c (inr h) = grind (arith, nat_tests)

-- a character with these bytes
pub record HasBytes (p : List ℕ) : Type 0 where
  pub code : ℕ
  pub scalar : IsScalar code
  pub bytes : encode_utf8 code ≡ p

pub two_bytes : (x y : ℕ) → 194 ≤ x → x < 224 → Follows y → HasBytes (x ∷ y ∷ [])
two_bytes x y l u f =
    let c : ℕ = (x - 192) * 64 + (y - 128) in
    let a : 192 + c / 64 ≡ x = omega arith in
    let b : 128 + c % 64 ≡ y = omega arith in
    record {
      code = c;
      scalar = scalar_of c (inl (omega arith));
      bytes = two c (omega arith) (omega arith) ∙ ap (λ z. z ∷ (128 + c % 64) ∷ []) a ∙ ap (λ z. x ∷ z ∷ []) b;
    }

-- what may stand second behind the first byte x
pub record Second (x y : ℕ) : Type 0 where
  pub low : 128 ≤ y
  pub high : y < 192
  pub long : x ≡ 224 → 160 ≤ y
  pub paired : x ≡ 237 → y < 160
  pub longest : x ≡ 240 → 144 ≤ y
  pub last : x ≡ 244 → y < 144

-- the numbers that say a character's first two bytes, apart from the last six bits
three_code : (x y : ℕ) → 224 ≤ x → x < 240 → Second x y → let high : ℕ = (x - 224) * 64 + (y - 128) in (32 ≤ high) × ((high < 864) ⊎ ((896 ≤ high) × (high < 1024)))
three_code x y l u s = by (cases_eq x 224) (cases_lt x 237) (cases_eq x 237)
  where
    by : (x ≡ 224) ⊎ (x ≢ 224) → (x < 237) ⊎ (237 ≤ x) → (x ≡ 237) ⊎ (x ≢ 237) → let high : ℕ = (x - 224) * 64 + (y - 128) in (32 ≤ high) × ((high < 864) ⊎ ((896 ≤ high) × (high < 1024)))
    by (inl e) _ _ = (omega (arith, s.long e, s.high), inl (omega (arith, s.low, s.high)))
    by (inr n) (inl b) _ = (omega (arith, s.low), inl (omega (arith, s.low, s.high)))
    by (inr n) (inr b) (inl e) = (omega (arith, s.low), inl (omega (arith, s.low, s.paired e)))
    by (inr n) (inr b) (inr m) = (omega (arith, s.low), inr (omega (arith, s.low), omega (arith, s.high)))

pub three_bytes : (x y z : ℕ) → 224 ≤ x → x < 240 → Second x y → Follows z → HasBytes (x ∷ y ∷ z ∷ [])
three_bytes x y z l u s f =
    let k = three_code x y l u s in
    let low : 128 ≤ y = s.low in
    let high : y < 192 = s.high in
    let c : ℕ = ((x - 224) * 64 + (y - 128)) * 64 + (z - 128) in
    let a : 224 + c / 4096 ≡ x = omega arith in
    let b : 128 + (c / 64) % 64 ≡ y = omega arith in
    let d : 128 + c % 64 ≡ z = omega arith in
    record {
      code = c;
      scalar = scalar_of c (elim k.1 [ inl h ↦ inl (omega arith) | inr h ↦ inr (omega arith, omega arith) ]);
      bytes = three c (omega arith) (omega arith) ∙ ap (λ w. w ∷ (128 + (c / 64) % 64) ∷ (128 + c % 64) ∷ []) a ∙ ap (λ w. x ∷ w ∷ (128 + c % 64) ∷ []) b ∙ ap (λ w. x ∷ y ∷ w ∷ []) d;
    }

four_code : (x y : ℕ) → 240 ≤ x → x ≤ 244 → Second x y → let high : ℕ = (x - 240) * 64 + (y - 128) in (16 ≤ high) × (high < 272)
four_code x y l u s = by (cases_eq x 240) (cases_eq x 244)
  where
    by : (x ≡ 240) ⊎ (x ≢ 240) → (x ≡ 244) ⊎ (x ≢ 244) → let high : ℕ = (x - 240) * 64 + (y - 128) in (16 ≤ high) × (high < 272)
    by (inl e) _ = (omega (arith, s.longest e), omega (arith, s.high))
    by (inr n) (inl e) = (omega (arith, s.low), omega (arith, s.last e))
    by (inr n) (inr m) = (omega (arith, s.low), omega (arith, s.low, s.high))

pub four_bytes : (x y z w : ℕ) → 240 ≤ x → x ≤ 244 → Second x y → Follows z → Follows w → HasBytes (x ∷ y ∷ z ∷ w ∷ [])
four_bytes x y z w l u s f g =
    let k = four_code x y l u s in
    let low : 128 ≤ y = s.low in
    let high : y < 192 = s.high in
    let c : ℕ = (((x - 240) * 64 + (y - 128)) * 64 + (z - 128)) * 64 + (w - 128) in
    let a : 240 + c / 262144 ≡ x = omega arith in
    let b : 128 + (c / 4096) % 64 ≡ y = omega arith in
    let d : 128 + (c / 64) % 64 ≡ z = omega arith in
    let e : 128 + c % 64 ≡ w = omega arith in
    record {
      code = c;
      scalar = scalar_of c (inr (omega arith, omega arith));
      bytes = four c (omega arith) ∙ ap (λ v. v ∷ (128 + (c / 4096) % 64) ∷ (128 + (c / 64) % 64) ∷ (128 + c % 64) ∷ []) a ∙ ap (λ v. x ∷ v ∷ (128 + (c / 64) % 64) ∷ (128 + c % 64) ∷ []) b
          ∙ ap (λ v. x ∷ y ∷ v ∷ (128 + c % 64) ∷ []) d ∙ ap (λ v. x ∷ y ∷ z ∷ v ∷ []) e;
    }

-- the test of the second byte
pub second_from : (x y : ℕ) → is_in_range (second_byte_min x) (second_byte_max x) y ≡ true → Second x y
second_from x y e = record {
  low = grind (arith, nat_tests);
  high = grind (arith, nat_tests);
  long = λ t. grind (arith, nat_tests);
  paired = λ t. grind (arith, nat_tests);
  longest = λ t. grind (arith, nat_tests);
  last = λ t. grind (arith, nat_tests);
}

pub second_to : (x y : ℕ) → Second x y → is_in_range (second_byte_min x) (second_byte_max x) y ≡ true
second_to x y s = grind (arith, nat_tests, s.low, s.high, s.long, s.paired, s.longest, s.last)

-- a byte that may stand second
pub some_second : (x : ℕ) → Second x (second_byte_min x)
some_second x = record {
  low = grind (arith, nat_tests);
  high = grind (arith, nat_tests);
  long = λ t. grind (arith, nat_tests);
  paired = λ t. grind (arith, nat_tests);
  longest = λ t. grind (arith, nat_tests);
  last = λ t. grind (arith, nat_tests);
}

-- ---- the first character of a text

past_one : (c : ℕ) → 1 < length (encode_utf8 c) → 128 ≤ c
past_one c h = elim (cases_lt c 128) [ inl l ↦ absurd (omega (arith, ap length (one c l))) | inr l ↦ l ]

past_two : (c : ℕ) → 2 < length (encode_utf8 c) → 2048 ≤ c
past_two c h = elim (cases_lt c 2048) [ inl l ↦ absurd (omega (arith, ap length (two c (past_one c (omega arith)) l))) | inr l ↦ l ]

past_three : (c : ℕ) → 3 < length (encode_utf8 c) → 65536 ≤ c
past_three c h = elim (cases_lt c 65536) [ inl l ↦ absurd (omega (arith, ap length (three c (past_two c (omega arith)) l))) | inr l ↦ l ]

-- how a text goes on behind its first byte x
pub data Goes (x : ℕ) (xs : List ℕ) : Type 0 where
  alone : x < 128 → Goes x xs
  by_two : (y : ℕ) (rest : List ℕ) → 194 ≤ x → x < 224 → Follows y → xs ≡ y ∷ rest → Goes x xs
  by_three : (y z : ℕ) (rest : List ℕ) → 224 ≤ x → x < 240 → Second x y → Follows z → xs ≡ y ∷ z ∷ rest → Goes x xs
  by_four : (y z w : ℕ) (rest : List ℕ) → 240 ≤ x → x ≤ 244 → Second x y → Follows z → Follows w → xs ≡ y ∷ z ∷ w ∷ rest → Goes x xs

heads : (a x : ℕ) (p xs : List ℕ) → a ∷ p ≡ x ∷ xs → (a ≡ x) × (xs ≡ p)
heads a x p xs e = (cc, cc)

-- the same of two fronts
heads_of : (a x : ℕ) (p xs : List ℕ) → a ∷ p ≡ x ∷ xs → (a ≡ x) × (p ≡ xs)
heads_of a x p xs e = (cc, cc)

goes_by : (c x : ℕ) (xs rest : List ℕ) → Scalar c → Shape c → encode_utf8 c ++ rest ≡ x ∷ xs → Goes x xs
goes_by c x xs rest k (of1 l e) all =
    let h = heads c x rest xs (ap (λ p. p ++ rest) (sym e) ∙ all) in
    alone (omega (arith, h.0))
goes_by c x xs rest k (of2 a b l u f s e) all =
    let h = heads a x (b ∷ rest) xs (ap (λ p. p ++ rest) (sym e) ∙ all) in
    let least : 128 ≤ c = past_one c (omega (arith, ap length e)) in
    by_two b rest (omega (arith, h.0)) (omega (arith, h.0)) f h.1
goes_by c x xs rest k (of3 a b d l u f g s e) all =
    let h = heads a x (b ∷ d ∷ rest) xs (ap (λ p. p ++ rest) (sym e) ∙ all) in
    let least : 2048 ≤ c = past_two c (omega (arith, ap length e)) in
    let is : a ≡ x = h.0 in
    by_three b d rest (omega arith) (omega arith) (record {
      low = f.0;
      high = f.1;
      long = λ t. omega arith;
      paired = λ t. elim k [ inl q ↦ omega arith | inr q ↦ absurd (omega (arith, q.0)) ];
      longest = λ t. absurd (omega arith);
      last = λ t. absurd (omega arith);
    }) g h.1
goes_by c x xs rest k (of4 a b d w l u f g m s e) all =
    let h = heads a x (b ∷ d ∷ w ∷ rest) xs (ap (λ p. p ++ rest) (sym e) ∙ all) in
    let least : 65536 ≤ c = past_three c (omega (arith, ap length e)) in
    let is : a ≡ x = h.0 in
    let top : c < 1114112 = elim k [ inl q ↦ omega arith | inr q ↦ q.1 ] in
    by_four b d w rest (omega arith) (omega arith) (record {
      low = f.0;
      high = f.1;
      long = λ t. absurd (omega arith);
      paired = λ t. absurd (omega arith);
      longest = λ t. omega arith;
      last = λ t. omega arith;
    }) g m h.1

scalar_from : (c : ℕ) → IsScalar c → Scalar c
scalar_from c h = scalar_cases c h

pub goes : (x : ℕ) (xs : List ℕ) → IsUtf8 (x ∷ xs) → Goes x xs
goes x xs u = by u.0 u.1.0 u.1.1
  where
    by : (cs : List ℕ) → all_scalars cs ≡ true → encode_utf8_all cs ≡ x ∷ xs → Goes x xs
    by [] h e = absurd (cc)
    by (c ∷ cs) h e = let k = scalar_from c (and_parts (is_scalar c) (all_scalars cs) h).0 in goes_by c x xs (encode_utf8_all cs) k (shape c k) e

second_seen : (x y : ℕ) (ys : List ℕ) → 194 ≤ x → Goes x (y ∷ ys) → Second x y
second_seen x y ys l (alone h) = absurd (omega arith)
second_seen x y ys l (by_two b rest _ u f e) =
    let is : y ≡ b = (heads_of y b ys rest e).0 in
    record {
      low = omega (arith, f.0);
      high = omega (arith, f.1);
      long = λ t. absurd (omega arith);
      paired = λ t. absurd (omega arith);
      longest = λ t. absurd (omega arith);
      last = λ t. absurd (omega arith);
    }
second_seen x y ys l (by_three b d rest _ u s f e) = subst (Second x) (sym (heads_of y b ys (d ∷ rest) e).0) s
second_seen x y ys l (by_four b d w rest _ u s f g e) = subst (Second x) (sym (heads_of y b ys (d ∷ w ∷ rest) e).0) s

third_seen : (x y z : ℕ) (zs : List ℕ) → 224 ≤ x → Goes x (y ∷ z ∷ zs) → Follows z
third_seen x y z zs l (alone h) = absurd (omega arith)
third_seen x y z zs l (by_two b rest _ u f e) = absurd (omega arith)
third_seen x y z zs l (by_three b d rest _ u s f e) = subst Follows (sym (heads_of z d zs rest (heads_of y b (z ∷ zs) (d ∷ rest) e).1).0) f
third_seen x y z zs l (by_four b d w rest _ u s f g e) = subst Follows (sym (heads_of z d zs (w ∷ rest) (heads_of y b (z ∷ zs) (d ∷ w ∷ rest) e).1).0) f

fourth_seen : (x y z w : ℕ) (ws : List ℕ) → 240 ≤ x → Goes x (y ∷ z ∷ w ∷ ws) → Follows w
fourth_seen x y z w ws l (alone h) = absurd (omega arith)
fourth_seen x y z w ws l (by_two b rest _ u f e) = absurd (omega arith)
fourth_seen x y z w ws l (by_three b d rest _ u s f e) = absurd (omega arith)
fourth_seen x y z w ws l (by_four b d v rest _ u s f g e) =
    subst Follows (sym (heads_of w v ws rest (heads_of z d (w ∷ ws) (v ∷ rest) (heads_of y b (z ∷ w ∷ ws) (d ∷ v ∷ rest) e).1).1).0) g

-- a text is at least as long as the character that begins it
pub long_enough : (x room : ℕ) (xs : List ℕ) → 194 ≤ x → Goes x xs → length (x ∷ xs) ≡ room → char_len x ≤ room
long_enough x room xs l (alone h) e = absurd (omega arith)
long_enough x room xs l (by_two b rest _ u f is) e = let n : 2 ≤ room = omega (arith, ap length is) in grind (arith, nat_tests)
long_enough x room xs l (by_three b d rest _ u s f is) e = let n : 3 ≤ room = omega (arith, ap length is) in grind (arith, nat_tests)
long_enough x room xs l (by_four b d w rest _ u s f g is) e = let n : 4 ≤ room = omega (arith, ap length is) in grind (arith, nat_tests)

-- ---- texts of one length

ascii_zeros : (n i : ℕ) → get_or (replicate n 0) i 0 < 128
ascii_zeros n i = elim (cases_lt i n) [ inl h ↦ omega (arith, get_or-replicate {A = ℕ} n i 0 0 h) | inr h ↦ omega (arith, get_or_past {X = ℕ} (replicate n 0) i 0 (omega (arith, length-replicate {A = ℕ} n 0))) ]

pub zeros : (n : ℕ) → IsTextOf n (replicate n 0)
zeros n = record { utf8 = IsUtf8-from_ascii (replicate n 0) (ascii_zeros n); length_is = length-replicate {A = ℕ} n 0 }

-- a text of this length begins with the bytes
record Filled (room : ℕ) (p : List ℕ) : Type 0 where
  pub rest : List ℕ
  pub is : IsTextOf room (p ++ rest)

filled : (room : ℕ) (p : List ℕ) → HasBytes p → length p ≤ room → Filled room p
filled room p h fits = record {
  rest = replicate (room - length p) 0;
  is = record {
    utf8 = IsUtf8-append p _ (subst IsUtf8 h.bytes (IsUtf8-encode h.code h.scalar)) (zeros (room - length p)).utf8;
    length_is = omega (arith, length-append p (replicate (room - length p) 0), length-replicate {A = ℕ} (room - length p) 0);
  };
}

-- ---- where bytes stop being a text

-- how `utf8_invalid_len` goes on
invalid_by : (bs : List ℕ) (o : Option ℕ) → 0 < length bs → error_len_of_some bs ≡ o → utf8_invalid_len bs ≡ unwrap_or o (length bs)
invalid_by bs o some e = ap (λ l. unwrap_or l (length bs)) (utf8_error_len_some bs some ∙ e)

module _ (room x : ℕ) (above : 194 ≤ x) (most : x ≤ 244) (fits : char_len x ≤ room) where
  abbrev Member : List ℕ → Type 0
  Member xs = IsTextOf room (x ∷ xs)

  -- no front of the bytes is a text
  abbrev pub NoText : List ℕ → Type 0
  NoText xs = (m : ℕ) → 0 < m → ¬ (IsUtf8 (take m (x ∷ xs)))

  utf8_of : (p : List ℕ) → HasBytes p → IsUtf8 p
  utf8_of p h = subst IsUtf8 h.bytes (IsUtf8-encode h.code h.scalar)

  any_follow : Follows 128
  any_follow = (omega arith, omega arith)

  -- bytes that go on to a text behind three, two and one
  after_three : (y z : ℕ) → 240 ≤ x → Second x y → Follows z → Filled room (x ∷ y ∷ z ∷ [])
  after_three y z l s f =
      let four_fit : 4 ≤ room = grind (arith, nat_tests) in
      let t : Filled room (x ∷ y ∷ z ∷ 128 ∷ []) = filled room (x ∷ y ∷ z ∷ 128 ∷ []) (four_bytes x y z 128 l most s f any_follow) (omega arith) in
      record { rest = 128 ∷ t.rest; is = t.is }

  after_two : (y : ℕ) → 224 ≤ x → Second x y → Filled room (x ∷ y ∷ [])
  after_two y l s = by (cases_lt x 240)
    where
      by : (x < 240) ⊎ (240 ≤ x) → Filled room (x ∷ y ∷ [])
      by (inl u) =
          let three_fit : 3 ≤ room = grind (arith, nat_tests) in
          let t : Filled room (x ∷ y ∷ 128 ∷ []) = filled room (x ∷ y ∷ 128 ∷ []) (three_bytes x y 128 l u s any_follow) (omega arith) in
          record { rest = 128 ∷ t.rest; is = t.is }
      by (inr u) = let t : Filled room (x ∷ y ∷ 128 ∷ []) = after_three y 128 u s any_follow in record { rest = 128 ∷ t.rest; is = t.is }

  after_one : Filled room (x ∷ [])
  after_one = by (cases_lt x 224)
    where
      by : (x < 224) ⊎ (224 ≤ x) → Filled room (x ∷ [])
      by (inl u) =
          let two_fit : 2 ≤ room = grind (arith, nat_tests) in
          let t : Filled room (x ∷ 128 ∷ []) = filled room (x ∷ 128 ∷ []) (two_bytes x 128 above u any_follow) (omega arith) in
          record { rest = 128 ∷ t.rest; is = t.is }
      by (inr u) = let t : Filled room (x ∷ second_byte_min x ∷ []) = after_two (second_byte_min x) u (some_second x) in record { rest = second_byte_min x ∷ t.rest; is = t.is }

  abbrev Stops : List ℕ → ℕ → Type 0
  Stops xs n = IsPlace (IsTextOf room) (x ∷ xs) n

  abbrev Invalid : List ℕ → Type 0
  Invalid xs = Stops xs (utf8_invalid_len (x ∷ xs))

  at : (xs : List ℕ) (n : ℕ) (o : Option ℕ) → error_len_of_some (x ∷ xs) ≡ o → unwrap_or o (length (x ∷ xs)) ≡ n → Stops xs n → Invalid xs
  at xs n o e k h = subst (Stops xs) (sym (invalid_by (x ∷ xs) o (omega arith) e ∙ k)) h

  fourth : (y z : ℕ) (xs : List ℕ) → 240 ≤ x → Second x y → Follows z → is_in_range (second_byte_min x) (second_byte_max x) y ≡ true → is_in_range 0x80 0xBF z ≡ true → NoText (y ∷ z ∷ xs) → Invalid (y ∷ z ∷ xs)
  fourth y z [] l s f p q none = let t = after_three y z l s f in
      at (y ∷ z ∷ []) 3 None (grind (arith, nat_tests)) refl
      (place_next _ x _ 2 (place_next _ y _ 1 (place_next _ z [] 0 (place_end (λ v. Member (y ∷ z ∷ v)) t.rest t.is))))
  fourth y z (w ∷ ws) l s f p q none = by (cases_Bool (is_in_range 0x80 0xBF w))
    where
      by : (is_in_range 0x80 0xBF w ≡ true) ⊎ (is_in_range 0x80 0xBF w ≡ false) → Invalid (y ∷ z ∷ w ∷ ws)
      by (inl r) = let g : Follows w = (grind (arith, nat_tests), grind (arith, nat_tests)) in absurd (none 4 (omega arith) (utf8_of (x ∷ y ∷ z ∷ w ∷ []) (four_bytes x y z w l most s f g)))
      by (inr r) = let t = after_three y z l s f in
          let stuck : (v : List ℕ) → Member (y ∷ z ∷ w ∷ v) → ⊥ = λ v m. let g = fourth_seen x y z w v l (goes x (y ∷ z ∷ w ∷ v) m.utf8) in grind (arith, nat_tests, g.0, g.1) in
          at (y ∷ z ∷ w ∷ ws) 3 (Some 3) (grind (arith, nat_tests)) refl
          (place_next _ x _ 2 (place_next _ y _ 1 (place_next _ z (w ∷ ws) 0 (place_here (λ v. Member (y ∷ z ∷ v)) w ws t.rest t.is stuck))))

  third : (y : ℕ) (xs : List ℕ) → 224 ≤ x → Second x y → is_in_range (second_byte_min x) (second_byte_max x) y ≡ true → NoText (y ∷ xs) → Invalid (y ∷ xs)
  third y [] l s p none = let t = after_two y l s in
      at (y ∷ []) 2 None (grind (arith, nat_tests)) refl (place_next _ x _ 1 (place_next _ y [] 0 (place_end (λ v. Member (y ∷ v)) t.rest t.is)))
  third y (z ∷ zs) l s p none = by (cases_Bool (is_in_range 0x80 0xBF z)) (cases_lt x 240)
    where
      by : (is_in_range 0x80 0xBF z ≡ true) ⊎ (is_in_range 0x80 0xBF z ≡ false) → (x < 240) ⊎ (240 ≤ x) → Invalid (y ∷ z ∷ zs)
      by (inl q) (inl u) = let f : Follows z = (grind (arith, nat_tests), grind (arith, nat_tests)) in absurd (none 3 (omega arith) (utf8_of (x ∷ y ∷ z ∷ []) (three_bytes x y z l u s f)))
      by (inl q) (inr u) = let f : Follows z = (grind (arith, nat_tests), grind (arith, nat_tests)) in fourth y z zs u s f p q none
      by (inr q) _ = let t = after_two y l s in
          let stuck : (v : List ℕ) → Member (y ∷ z ∷ v) → ⊥ = λ v m. let g = third_seen x y z v l (goes x (y ∷ z ∷ v) m.utf8) in grind (arith, nat_tests, g.0, g.1) in
          at (y ∷ z ∷ zs) 2 (Some 2) (grind (arith, nat_tests)) refl
          (place_next _ x _ 1 (place_next _ y (z ∷ zs) 0 (place_here (λ v. Member (y ∷ v)) z zs t.rest t.is stuck)))

  pub invalid : (xs : List ℕ) → NoText xs → Invalid xs
  invalid [] none = at [] 1 None (grind (arith, nat_tests)) refl (place_next _ x [] 0 (place_end Member after_one.rest after_one.is))
  invalid (y ∷ ys) none = by (cases_Bool (is_in_range (second_byte_min x) (second_byte_max x) y)) (cases_lt x 224)
    where
      by : (is_in_range (second_byte_min x) (second_byte_max x) y ≡ true) ⊎ (is_in_range (second_byte_min x) (second_byte_max x) y ≡ false) → (x < 224) ⊎ (224 ≤ x) → Invalid (y ∷ ys)
      by (inl p) (inl u) = let s = second_from x y p in absurd (none 2 (omega arith) (utf8_of (x ∷ y ∷ []) (two_bytes x y above u (s.low, s.high))))
      by (inl p) (inr u) = third y ys u (second_from x y p) p none
      by (inr p) _ =
          let stuck : (v : List ℕ) → Member (y ∷ v) → ⊥ = λ v m. both_ways _ p (second_to x y (second_seen x y v above (goes x (y ∷ v) m.utf8))) in
          at (y ∷ ys) 1 (Some 1) (grind (arith, nat_tests)) refl
          (place_next _ x (y ∷ ys) 0 (place_here Member y ys after_one.rest after_one.is stuck))

-- a byte that begins no character of several, and is none alone
pub stray : (room x : ℕ) (xs : List ℕ) → 128 ≤ x → (x < 194) ⊎ (244 < x) → IsPlace (IsTextOf room) (x ∷ xs) 0
stray room x xs h k = place_here (IsTextOf room) x xs (replicate room 0) (zeros room) (λ v m. by (goes x v m.utf8) k)
  where
    by : {v : List ℕ} → Goes x v → (x < 194) ⊎ (244 < x) → ⊥
    by (alone l) _ = absurd (omega arith)
    by (by_two b rest l u f e) (inl n) = absurd (omega arith)
    by (by_two b rest l u f e) (inr n) = absurd (omega arith)
    by (by_three b d rest l u s f e) (inl n) = absurd (omega arith)
    by (by_three b d rest l u s f e) (inr n) = absurd (omega arith)
    by (by_four b d w rest l u s f g e) (inl n) = absurd (omega arith)
    by (by_four b d w rest l u s f g e) (inr n) = absurd (omega arith)

-- a first byte of a character that is too long
pub too_long : (room x : ℕ) (xs : List ℕ) → 194 ≤ x → room < char_len x → IsPlace (IsTextOf room) (x ∷ xs) 0
too_long room x xs h k =
    place_here (IsTextOf room) x xs (replicate room 0) (zeros room) (λ v m. let n = long_enough x room v h (goes x v m.utf8) m.length_is in absurd (omega arith))

-- ---- behind the part that is a text

-- the place in what follows a text, as a place in the whole
lifted : (len start q : ℕ) (bytes : List ℕ) → start ≤ length bytes → length bytes ≤ len → IsUtf8 (take start bytes)
    → IsPlace (IsTextOf (len - start)) (drop start bytes) q → IsPlace (IsTextOf len) bytes (start + q)
lifted len start q bytes short fits front h =
    let f = take start bytes in
    let long : length f ≡ start = omega (arith, length-take start bytes) in
    let to : (xs : List ℕ) → IsTextOf (len - start) xs → IsTextOf len (f ++ xs) =
    λ xs t. record { utf8 = IsUtf8-append f xs front t.utf8; length_is = omega (arith, length-append f xs, t.length_is) } in
    let from : (xs : List ℕ) → IsTextOf len (f ++ xs) → IsTextOf (len - start) xs =
    λ xs t. record {
      utf8 = subst IsUtf8 (drop-append_seam f xs) (after_text (f ++ xs) (length f) t.utf8 (subst IsUtf8 (sym (take-append_seam f xs)) front));
      length_is = omega (arith, length-append f xs, t.length_is);
    } in
    let there = place_after (IsTextOf len) f (drop start bytes) q (place_same (IsTextOf (len - start)) (λ xs. IsTextOf len (f ++ xs)) (drop start bytes) q to from h) in
    subst (λ bs. IsPlace (IsTextOf len) bs (start + q)) (take-append-drop start bytes) (subst (λ n. IsPlace (IsTextOf len) (f ++ drop start bytes) (n + q)) long there)

-- what follows the longest text
record Follow (bytes : List ℕ) (start : ℕ) : Type 0 where
  pub first : ℕ
  pub rest : List ℕ
  pub is : drop start bytes ≡ first ∷ rest
  pub byte : first ≡ get_or bytes start 0
  pub none : (m : ℕ) → 0 < m → ¬ (IsUtf8 (take m (first ∷ rest)))
  pub several : 128 ≤ first

follow : (bytes : List ℕ) (start : ℕ) → IsValidUpTo bytes start → Follow bytes start
follow bytes start v =
    let x : ℕ = get_or bytes start 0 in
    let xs : List ℕ = drop (suc start) bytes in
    let is : drop start bytes ≡ x ∷ xs = drop-cons bytes start 0 v.short in
    let none : (m : ℕ) → 0 < m → ¬ (IsUtf8 (take m (x ∷ xs))) =
    λ m some u. v.longest (start + m) (omega arith)
    (subst IsUtf8 (sym (take-add start m bytes)) (IsUtf8-append _ _ v.front (subst (λ ds. IsUtf8 (take m ds)) (sym is) u))) in
    record {
      first = x;
      rest = xs;
      is = is;
      byte = refl;
      none = none;
      several = elim (cases_lt x 128) [ inl l ↦ absurd (none 1 (omega arith) (subst IsUtf8 (one x l) (IsUtf8-encode x (scalar_of x (inl (omega arith)))))) | inr h ↦ h ];
    }

-- the byte there begins no character, or one that is too long
pub stops_here : (len start : ℕ) (bytes : List ℕ) → IsValidUpTo bytes start → length bytes ≤ len
    → ((get_or bytes start 0 < 194) ⊎ (244 < get_or bytes start 0)) ⊎ (len - start < char_len (get_or bytes start 0)) → IsPlace (IsTextOf len) bytes start
stops_here len start bytes v fits k =
    let f = follow bytes start v in
    let there : IsPlace (IsTextOf (len - start)) (f.first ∷ f.rest) 0 = by f.first f.rest f.several (subst (λ x. ((x < 194) ⊎ (244 < x)) ⊎ (len - start < char_len x)) (sym f.byte) k) in
    let whole = lifted len start 0 bytes (omega (arith, v.short)) fits v.front (subst (λ ds. IsPlace (IsTextOf (len - start)) ds 0) (sym f.is) there) in
    let e : start + 0 ≡ start = omega arith in
    subst (IsPlace (IsTextOf len) bytes) e whole
  where
    by : (x : ℕ) (xs : List ℕ) → 128 ≤ x → ((x < 194) ⊎ (244 < x)) ⊎ (len - start < char_len x) → IsPlace (IsTextOf (len - start)) (x ∷ xs) 0
    by x xs s (inl n) = stray (len - start) x xs s n
    by x xs s (inr n) = elim (cases_lt x 194) [ inl l ↦ stray (len - start) x xs s (inl l) | inr l ↦ too_long (len - start) x xs l n ]

-- the bytes there begin a character, and then no more
pub stops_within : (len start : ℕ) (bytes : List ℕ) → IsValidUpTo bytes start → length bytes ≤ len
    → 194 ≤ get_or bytes start 0 → get_or bytes start 0 ≤ 244 → char_len (get_or bytes start 0) ≤ len - start
    → IsPlace (IsTextOf len) bytes (start + utf8_invalid_len (drop start bytes))
stops_within len start bytes v fits low high room =
    let f = follow bytes start v in
    let there = invalid (len - start) f.first (omega (arith, f.byte)) (omega (arith, f.byte)) (subst (λ x. char_len x ≤ len - start) (sym f.byte) room) f.rest f.none in
    lifted len start _ bytes (omega (arith, v.short)) fits v.front (subst (λ ds. IsPlace (IsTextOf (len - start)) ds (utf8_invalid_len ds)) (sym f.is) there)

-- a text that is not long enough
pub text_short : (len : ℕ) (bytes : List ℕ) → IsUtf8 bytes → length bytes ≤ len → IsPlace (IsTextOf len) bytes (length bytes)
text_short len bytes u fits =
    place_whole (IsTextOf len) bytes (replicate (len - length bytes) 0) (record {
      utf8 = IsUtf8-append bytes _ u (zeros (len - length bytes)).utf8;
      length_is = omega (arith, length-append bytes (replicate (len - length bytes) 0), length-replicate {A = ℕ} (len - length bytes) 0);
    })

-- bytes past the length of the text don't matter
pub text_cut : (len : ℕ) (bytes : List ℕ) (p : ℕ) → IsPlace (IsTextOf len) (take len bytes) p → IsPlace (IsTextOf len) bytes p
text_cut len bytes p h = place_cut (IsTextOf len) len bytes p (λ xs t. omega (arith, t.length_is)) h

-- the same where the bytes are cut at their end too
pub cut_at : (len m p : ℕ) (bytes : List ℕ) → m ≡ min len (length bytes) → IsPlace (IsTextOf len) (take m bytes) p → IsPlace (IsTextOf len) bytes p
cut_at len m p bytes e h = by (cases_lt (length bytes) len)
  where
    by : (length bytes < len) ⊎ (len ≤ length bytes) → IsPlace (IsTextOf len) bytes p
    by (inl short) = subst (λ bs. IsPlace (IsTextOf len) bs p) (take_all m bytes (omega arith)) h
    by (inr long) = let n : m ≡ len = omega arith in text_cut len bytes p (subst (λ k. IsPlace (IsTextOf len) (take k bytes) p) n h)

pub ends_short : (len m : ℕ) (bytes text : List ℕ) → m ≡ min len (length bytes) → text ≡ take m bytes → IsUtf8 (take m bytes) → IsPlace (IsTextOf len) bytes (length text)
ends_short len m bytes text e is u =
    let there : IsPlace (IsTextOf len) (take m bytes) (length (take m bytes)) = text_short len (take m bytes) u (omega (arith, length-take m bytes)) in
    cut_at len m (length text) bytes e (subst (IsPlace (IsTextOf len) (take m bytes)) (sym (ap length is)) there)

-- how many bytes begin a character, as the error says
pub invalid_is : (start v q : ℕ) (bytes : List ℕ) (o e : Option ℕ) → start ≡ v → o ≡ e → e ≡ utf8_error_len (drop v bytes) → q ≡ unwrap_or o (length bytes - start) → q ≡ utf8_invalid_len (drop start bytes)
invalid_is start v q bytes o e at is told found =
    let same : o ≡ utf8_error_len (drop start bytes) = is ∙ told ∙ ap (λ n. utf8_error_len (drop n bytes)) (sym at) in
    let long : length bytes - start ≡ length (drop start bytes) = sym (length-drop start bytes) in
    found ∙ ap (λ l. unwrap_or l (length bytes - start)) same ∙ ap (unwrap_or (utf8_error_len (drop start bytes))) long
