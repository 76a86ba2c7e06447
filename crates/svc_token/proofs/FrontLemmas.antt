-- The names among the tokens of a text are names.
use Rattle.std.proofs.Common.{◌≡◌, ℕ, Bool, true, false, List, [], ◌∷◌, length, take, drop, Option, Some, None, refl, subst}
use Rattle.std.specs.Prelude.{if◌then◌else◌, nat_le, option_map, ◌==◌, ◌||◌}
use Rattle.std.specs.List.{take_while}
use Rattle.std.specs.Char.{is_ascii_alphabetic, is_ascii_digit}
use Rattle.std.proofs.lemmas.Bool.{leb-true}
use Rattle.svc_token.specs.declared.keyword.Keyword.{Keyword}
use Rattle.svc_token.specs.declared.token.Token.{Token}
use Rattle.svc_token.specs.declared.token.Token.TheVariants as tok
use Rattle.svc_token.specs.Cutting.{Front, begins, word_or, word_token, number_at, closing, quoted_at, longer, long_mark_at, short_mark_at, mark_at, front, Cuts, ends, blank, token, IsNamed, AreNamed}
use Rattle.svc_token.specs.Keyword.{keyword_of}
use Rattle.svc_token.specs.Word.{is_word, is_word_byte}
use Rattle.svc_token.proofs.WordLemmas.{is_word-taken}

-- the token at the front is a name if it is to be one
abbrev FrontNamed : Front → Type 0
FrontNamed None = Unit {0}
FrontNamed (Some x) = IsNamed x.0

either_named : (b : Bool) (x y : Front) → FrontNamed x → FrontNamed y → FrontNamed (if b then x else y)
either_named true x y h k = h
either_named false x y h k = k

either_token : (b : Bool) (x y : Token × ℕ) → IsNamed x.0 → IsNamed y.0 → IsNamed (if b then x else y).0
either_token true x y h k = h
either_token false x y h k = k

word_named : (word : List ℕ) → is_word word ≡ true → IsNamed (word_token word)
unfolding word_token
word_named word h = by_keyword (keyword_of word) refl
  where
    if_short : (b : Bool) → nat_le (length word) 32 ≡ b → keyword_of word ≡ None → IsNamed (if b then tok.Name word else tok.Long)
    if_short true e free = record { is_word = h; short = leb-true (length word) 32 e; free = free }
    if_short false e free = tt

    by_keyword : (k : Option Keyword) → keyword_of word ≡ k → IsNamed (word_or k word)
    by_keyword None e = if_short (nat_le (length word) 32) refl e
    by_keyword (Some k) e = tt

number_named : (digits text : List ℕ) → FrontNamed (number_at digits text)
unfolding number_at
number_named digits text = either_named (begins is_word_byte (drop (length digits) text)) None _ tt tt

quoted_named : (text : List ℕ) → FrontNamed (quoted_at text)
unfolding quoted_at
quoted_named text = go (closing 1 false (drop 1 text))
  where
    go : (n : Option ℕ) → FrontNamed (option_map (λ n. (tok.Quoted (take n text), n)) n)
    go None = tt
    go (Some n) = tt

long_named : (b : ℕ) (rest : List ℕ) → FrontNamed (long_mark_at b rest)
long_named b rest =
    either_named (b == 43) _ _ (either_token (begins (λ c. c == 43) rest) (tok.Join, 2) (tok.Plus, 1) tt tt)
    (either_named (b == 60) _ _
    (either_token (begins (λ c. c == 62) rest) (tok.NotEqual, 2) (longer 61 tok.Less tok.LessOrEqual rest) tt
    (either_token (begins (λ c. c == 61) rest) (tok.LessOrEqual, 2) (tok.Less, 1) tt tt))
    (either_named (b == 62) _ _ (either_token (begins (λ c. c == 61) rest) (tok.GreaterOrEqual, 2) (tok.Greater, 1) tt tt)
    (either_named (b == 45) _ _ (dash (begins is_ascii_digit rest)) tt)))
  where
    dash : (t : Bool) → IsNamed (if t then tok.Dash else tok.Minus)
    dash true = tt
    dash false = tt

short_named : (b : ℕ) → FrontNamed (short_mark_at b)
short_named b =
    either_named (b == 58) _ _ tt (either_named (b == 61) _ _ tt (either_named (b == 44) _ _ tt (either_named (b == 40) _ _ tt
    (either_named (b == 41) _ _ tt (either_named (b == 42) _ _ tt (either_named (b == 47) _ _ tt (either_named (b == 37) _ _ tt tt)))))))

mark_named : (b : ℕ) (rest : List ℕ) → FrontNamed (mark_at b rest)
unfolding mark_at
mark_named b rest =
    either_named (b == 43 || b == 60 || b == 62 || b == 45) (long_mark_at b rest) (short_mark_at b) (long_named b rest) (short_named b)

front_named : (text : List ℕ) → FrontNamed (front text)
unfolding front
front_named [] = tt
front_named (b ∷ rest) = by_first (is_ascii_alphabetic b) refl
  where
    by_first : (t : Bool) → is_ascii_alphabetic b ≡ t
        → FrontNamed (if t then Some (word_token (take_while is_word_byte (b ∷ rest)), length (take_while is_word_byte (b ∷ rest)))
        else (if is_ascii_digit b then number_at (take_while is_ascii_digit (b ∷ rest)) (b ∷ rest)
        else (if b == 34 then quoted_at (b ∷ rest) else mark_at b rest)))
    by_first true e = word_named (take_while is_word_byte (b ∷ rest)) (is_word-taken b rest e)
    by_first false e =
        either_named (is_ascii_digit b) _ _ (number_named (take_while is_ascii_digit (b ∷ rest)) (b ∷ rest))
        (either_named (b == 34) _ _ (quoted_named (b ∷ rest)) (mark_named b rest))

-- each name among the tokens is a name
pub cut_named : {text : List ℕ} {tokens : List Token} → Cuts text tokens → AreNamed tokens
cut_named ends = tt
cut_named (blank h s) = cut_named s
cut_named (token {text = text} h s) = (subst FrontNamed h (front_named text), cut_named s)
