-- How a text is cut into tokens: the longest that fits first, with blanks between them.
use Rattle.std.specs.Prelude.{◌≡◌, ◌⊎◌, ℕ, ◌+◌, min, Bool, true, false, ◌==◌, ◌||◌, nat_le, if◌then◌else◌, List, [], ◌∷◌, length, drop, take, Option, Some, None, option_map}
use Rattle.std.specs.List.{take_while}
use Rattle.std.specs.Char.{is_ascii_digit, is_ascii_alphabetic}
use Rattle.svc_token.specs.declared.keyword.Keyword.{Keyword}
use Rattle.svc_token.specs.declared.token.Token.{Token}
use Rattle.svc_token.specs.declared.token.Token.TheVariants as tok
use Rattle.svc_token.specs.Keyword.{keyword_of}
use Rattle.svc_token.specs.Word.{is_word_byte, decimal_value, IsName}
use Rattle.svc_token.specs.declared.token.TheConstants.{MAX_NAME_LEN}

-- space, tab, CR
abbrev pub is_blank : ℕ → Bool
is_blank b = b == 32 || b == 9 || b == 13

-- whether the first byte passes a test
abbrev pub begins : (ℕ → Bool) → List ℕ → Bool
begins test [] = false
begins test (b ∷ bs) = test b

-- a token and how many bytes it has, where there is one
abbrev pub Front : Type 0
Front = Option (Token × ℕ)

-- a word is its keyword, or else a name where it has at most 32 bytes
abbrev pub word_or : Option Keyword → List ℕ → Token
word_or (Some keyword) word = tok.Keyword keyword
word_or None word = if nat_le (length word) MAX_NAME_LEN then tok.Name word else tok.Long

unfoldable pub word_token : List ℕ → Token
word_token word = word_or (keyword_of word) word

-- digits with nothing of a word directly behind them are a number, which counts as 2 ^ 64 - 1 if it is greater
unfoldable pub number_at : List ℕ → List ℕ → Front
number_at digits text =
    if begins is_word_byte (drop (length digits) text) then None
    else Some (tok.Number (min (decimal_value digits) 18446744073709551615), length digits)

-- how many bytes there are up to a quote that no backslash escapes, counted on from n
abbrev pub closing : ℕ → Bool → List ℕ → Option ℕ
closing n escaped [] = None
closing n escaped (b ∷ bs) =
    if escaped then closing (n + 1) false bs
    else (if b == 34 then Some (n + 1) else closing (n + 1) (b == 92) bs)

-- there are no bytes, or the first is a quote or a backslash
abbrev pub StopsOrEnds : List ℕ → Type 0
StopsOrEnds [] = Unit {0}
StopsOrEnds (b ∷ bs) = (b ≡ 34) ⊎ (b ≡ 92)

-- a quoted text, from quote to quote
unfoldable pub quoted_at : List ℕ → Front
quoted_at text = option_map (λ n. (tok.Quoted (take n text), n)) (closing 1 false (drop 1 text))

-- a mark of one byte, or the longer one if this byte follows
abbrev pub longer : ℕ → Token → Token → List ℕ → Token × ℕ
longer next short long rest = if begins (λ b. b == next) rest then (long, 2) else (short, 1)

-- the marks that others begin with; a `-` directly before a digit is a token of its own
abbrev pub long_mark_at : ℕ → List ℕ → Front
long_mark_at b rest =
    if b == 43 then Some (longer 43 tok.Plus tok.Join rest)
    else (if b == 60 then Some (if begins (λ c. c == 62) rest then (tok.NotEqual, 2) else longer 61 tok.Less tok.LessOrEqual rest)
    else (if b == 62 then Some (longer 61 tok.Greater tok.GreaterOrEqual rest)
    else (if b == 45 then Some ((if begins is_ascii_digit rest then tok.Dash else tok.Minus), 1)
    else None)))

-- the marks of one byte that no other begins with
abbrev pub short_mark_at : ℕ → Front
short_mark_at b =
    if b == 58 then Some (tok.Colon, 1)
    else (if b == 61 then Some (tok.Equals, 1)
    else (if b == 44 then Some (tok.Comma, 1)
    else (if b == 40 then Some (tok.Open, 1)
    else (if b == 41 then Some (tok.Close, 1)
    else (if b == 42 then Some (tok.Star, 1)
    else (if b == 47 then Some (tok.Slash, 1)
    else (if b == 37 then Some (tok.Percent, 1)
    else None)))))))

-- the mark at the front
unfoldable pub mark_at : ℕ → List ℕ → Front
mark_at b rest =
    if b == 43 || b == 60 || b == 62 || b == 45 then long_mark_at b rest else short_mark_at b

-- the longest token at the front
unfoldable pub front : List ℕ → Front
front [] = None
front (b ∷ rest) =
    if is_ascii_alphabetic b then (let word = take_while is_word_byte (b ∷ rest) in Some (word_token word, length word))
    else (if is_ascii_digit b then number_at (take_while is_ascii_digit (b ∷ rest)) (b ∷ rest)
    else (if b == 34 then quoted_at (b ∷ rest)
    else mark_at b rest))

-- the text is these tokens, with blanks between them where wanted
pub data Cuts : List ℕ → List Token → Type 0 where
  ends : Cuts [] []
  blank : {b : ℕ} {text : List ℕ} {tokens : List Token} → is_blank b ≡ true → Cuts text tokens → Cuts (b ∷ text) tokens
  token : {text : List ℕ} {first : Token} {n : ℕ} {tokens : List Token} → front text ≡ Some (first, n) → Cuts (drop n text) tokens → Cuts text (first ∷ tokens)

-- the token is a name where it is said to be one
abbrev pub IsNamed : Token → Type 0
IsNamed (tok.Name word) = IsName word
IsNamed other = Unit {0}

-- so is each of these
abbrev pub AreNamed : List Token → Type 0
AreNamed [] = Unit {0}
AreNamed (first ∷ tokens) = IsNamed first × AreNamed tokens
