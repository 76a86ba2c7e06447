-- Words are names where they are short and free, and names are texts.
use Rattle.std.proofs.Common.{◌≡◌, ℕ, zero, suc, ◌<◌, ◌≤◌, Bool, true, false, cond, ◌⊎◌, inl, inr, ⊎_elim, List, [], ◌∷◌, length, take, get_or, refl, ap, ◌∙◌, arith}
use Rattle.std.specs.Prelude.{◌||◌, ◌&&◌, ◌==◌}
use Rattle.std.specs.List.{list_all, take_while}
use Rattle.std.specs.Char.{is_ascii_alphabetic, is_ascii_digit}
use Rattle.std.specs.Int.{is_in_range}
use Rattle.std.specs.Str.{IsAscii, IsUtf8}
use Rattle.std.proofs.lemmas.Str.{IsUtf8-from_ascii}
use Rattle.std.proofs.lemmas.List.Sums.{take_while-cons}
use Rattle.std.proofs.lemmas.List.Folds.{length-prefix_len}
use Rattle.std.proofs.lemmas.Bool.{eqb-true}
use Rattle.svc_token.specs.Word.{is_word_byte, is_word, IsName}

either : (p q : Bool) → (p || q) ≡ true → (p ≡ true) ⊎ (q ≡ true)
either true q h = inl refl
either false q h = inr h

both : (p q : Bool) → (p && q) ≡ true → (p ≡ true) × (q ≡ true)
both true q h = (refl, h)
both false q h = absurd (cc)

in_range_below : (low high b : ℕ) → is_in_range low high b ≡ true → b ≤ high
in_range_below low high b h = grind (arith, h)

letter_below : (b : ℕ) → is_ascii_alphabetic b ≡ true → b < 128
letter_below b h =
    ⊎_elim
    (λ g. let k = in_range_below 65 90 b g in omega arith)
    (λ g. let k = in_range_below 97 122 b g in omega arith)
    (either (is_in_range 65 90 b) (is_in_range 97 122 b) h)

word_byte_below : (b : ℕ) → is_word_byte b ≡ true → b < 128
word_byte_below b h =
    ⊎_elim
    (λ g. ⊎_elim (λ k. letter_below b k) (λ k. let l = in_range_below 48 57 b k in omega arith) (either (is_ascii_alphabetic b) (is_ascii_digit b) g))
    (λ g. let e = eqb-true b 95 g in omega arith)
    (either (is_ascii_alphabetic b || is_ascii_digit b) (b == 95) h)

word_bytes_below : (bs : List ℕ) → list_all is_word_byte bs ≡ true → IsAscii bs
word_bytes_below [] h i = omega arith
word_bytes_below (b ∷ bs) h zero = word_byte_below b (both (is_word_byte b) (list_all is_word_byte bs) h).0
word_bytes_below (b ∷ bs) h (suc i) = word_bytes_below bs (both (is_word_byte b) (list_all is_word_byte bs) h).1 i

word_ascii : (word : List ℕ) → is_word word ≡ true → IsAscii word
word_ascii [] h i = omega arith
word_ascii (b ∷ bs) h zero = letter_below b (both (is_ascii_alphabetic b) (list_all is_word_byte bs) h).0
word_ascii (b ∷ bs) h (suc i) = word_bytes_below bs (both (is_ascii_alphabetic b) (list_all is_word_byte bs) h).1 i

-- a name is a text
pub IsName-utf8 : (word : List ℕ) → IsName word → IsUtf8 word
IsName-utf8 word h = IsUtf8-from_ascii word (word_ascii word h.is_word)

taken_on : (p : ℕ → Bool) (x : ℕ) (xs : List ℕ) → p x ≡ true → take_while p (x ∷ xs) ≡ x ∷ take_while p xs
taken_on p x xs e = take_while-cons p x xs ∙ ap (λ (b : Bool). cond b (x ∷ take_while p xs) []) e

stopped_at : (p : ℕ → Bool) (x : ℕ) (xs : List ℕ) → p x ≡ false → take_while p (x ∷ xs) ≡ []
stopped_at p x xs e = take_while-cons p x xs ∙ ap (λ (b : Bool). cond b (x ∷ take_while p xs) []) e

all_taken : (p : ℕ → Bool) (x : ℕ) (xs : List ℕ) (b : Bool) → p x ≡ b → list_all p (take_while p xs) ≡ true → list_all p (take_while p (x ∷ xs)) ≡ true
all_taken p x xs true e h = ap (list_all p) (taken_on p x xs e) ∙ ap (λ (b : Bool). b && list_all p (take_while p xs)) e ∙ h
all_taken p x xs false e h = ap (list_all p) (stopped_at p x xs e)

list_all-take_while : (p : ℕ → Bool) (xs : List ℕ) → list_all p (take_while p xs) ≡ true
list_all-take_while p [] = refl
list_all-take_while p (x ∷ xs) = all_taken p x xs (p x) refl (list_all-take_while p xs)

-- letters, digits and `_` from a letter on are a word
pub is_word-taken : (b : ℕ) (rest : List ℕ) → is_ascii_alphabetic b ≡ true → is_word (take_while is_word_byte (b ∷ rest)) ≡ true
is_word-taken b rest h =
    let on : is_word_byte b ≡ true = ap (λ (p : Bool). (p || is_ascii_digit b) || b == 95) h in
    ap is_word (taken_on is_word_byte b rest on)
    ∙ ap (λ (p : Bool). p && list_all is_word_byte (take_while is_word_byte rest)) h
    ∙ list_all-take_while is_word_byte rest

pub is_word-front : (text : List ℕ) → 0 < length text → is_ascii_alphabetic (get_or text 0 0) ≡ true
    → is_word (take (length (take_while is_word_byte text)) text) ≡ true
is_word-front [] below h = absurd (omega arith)
is_word-front (b ∷ rest) below h =
    ap (λ (n : ℕ). is_word (take n (b ∷ rest))) (length-prefix_len is_word_byte (b ∷ rest)) ∙ is_word-taken b rest h
