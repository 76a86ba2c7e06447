-- Words, numbers and names.
use Rattle.std.specs.Prelude.{◌≡◌, ℕ, ◌+◌, ◌-◌, ◌*◌, ◌≤◌, Bool, true, false, ◌==◌, ◌||◌, ◌&&◌, List, [], ◌∷◌, length, None}
use Rattle.std.specs.List.{list_all}
use Rattle.std.specs.Char.{is_ascii_digit, is_ascii_alphabetic}
use Rattle.svc_token.specs.Keyword.{keyword_of}
use Rattle.svc_token.specs.declared.token.TheConstants.{MAX_NAME_LEN}

-- a letter, a digit or `_`: what a word goes on with
abbrev pub is_word_byte : ℕ → Bool
is_word_byte b = is_ascii_alphabetic b || is_ascii_digit b || b == 95

-- a letter, then letters, digits and `_`
abbrev pub is_word : List ℕ → Bool
is_word [] = false
is_word (b ∷ bs) = is_ascii_alphabetic b && list_all is_word_byte bs

-- a word of at most 32 bytes that is no keyword
pub record IsName (word : List ℕ) : Type 0 where
  pub is_word : is_word word ≡ true
  pub short : length word ≤ MAX_NAME_LEN
  pub free : keyword_of word ≡ None

-- the number that decimal digits spell behind a number
abbrev pub number_from : ℕ → List ℕ → ℕ
number_from n [] = n
number_from n (d ∷ ds) = number_from (n * 10 + (d - 48)) ds

-- the number that decimal digits spell
abbrev pub decimal_value : List ℕ → ℕ
decimal_value digits = number_from 0 digits
