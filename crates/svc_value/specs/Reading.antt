-- How literals and printed texts are read, a character or a run of characters at a time. The code answers what these functions do; no public clause speaks of them.
use Rattle.std.specs.Prelude.{◌≡◌, ℕ, ◌+◌, ◌-◌, ◌*◌, ◌^◌, ◌<◌, ◌≤◌, Bool, true, false, not, ◌&&◌, ◌||◌, ◌==◌, nat_lt, nat_le, if◌then◌else◌, List, [], ◌∷◌, ◌++◌, length, slice_index, Option, Some, None, Result, Ok, Err, ℤ, pos}
use lib.IntN.{neg_ℤ}
use Rattle.std.specs.Char.{digit_value, len_utf8, encode_utf8, is_ascii_digit}
use Rattle.std.specs.List.{list_all}
use Rattle.std.specs.Str.{IsUtf8}
use Rattle.svc_value.specs.declared.inside.Form.{Form}
use Rattle.svc_value.specs.declared.inside.Form.TheVariants.{Any, Printed}
use Rattle.svc_value.specs.declared.inside.Inside.{Inside}
use Rattle.svc_value.specs.declared.inside.Inside.TheVariants.{Open, Plain, Escape, Hex, Low}
use Rattle.svc_value.specs.declared.inside.Step.{Step}
use Rattle.svc_value.specs.declared.inside.Step.TheVariants.{Close, Stop, Enter, Give}
use Rattle.svc_value.specs.declared.literal.LiteralError.{LiteralError}
use Rattle.svc_value.specs.declared.literal.LiteralError.TheVariants as error
use Rattle.svc_value.specs.declared.value.Fault.{Fault}
use Rattle.svc_value.specs.declared.value.Fault.TheVariants.{Overflow, Zero, Long, Number, Empty}
use Rattle.svc_value.specs.declared.value.Value.{Value}
use Rattle.svc_value.specs.declared.value.Value.TheVariants.{Int, Words, Bad}
use Rattle.svc_value.specs.Quoted.{is_itself, short_escape, hex_escape, IsQuoted}
use Rattle.svc_value.specs.declared.limits.TheConstants.{MAX_TEXT_LEN}

-- what is read and how many bytes it is, or how many bytes begin something
abbrev pub Read : Type 0 → Type 0
Read A = Result (A × ℕ) ℕ

-- the character may stand behind `\x`
abbrev pub may_lead : Form → ℕ → Bool
may_lead Any char = nat_lt (digit_value char) 8
may_lead Printed char = char == 48 || char == 49 || char == 55

-- a character is given, where there is one
abbrev pub give : Option ℕ → Step
give (Some char) = Give char
give None = Stop

-- what a character does at this place of a quoted text, whose meaning may have so many bytes more
abbrev pub next_step : Form → Inside → ℕ → ℕ → Step
next_step form Open room char = if char == 34 then Enter Plain else Stop
next_step form Plain room char =
    if char == 34 then Close
    else (if nat_lt room (len_utf8 char) then Stop
    else (if char == 92 then Enter Escape
    else (if is_itself form char then Give char
    else Stop)))
next_step form Escape room char = if char == 120 then Enter Hex else give (short_escape char)
next_step form Hex room char = if may_lead form char then Enter (Low char) else Stop
next_step form (Low high) room char = give (hex_escape form high char)

-- so many bytes stand before, and mean this
abbrev pub past : ℕ → List ℕ → Read (List ℕ) → Read (List ℕ)
past count front (Ok read) = Ok (front ++ read.0, count + read.1)
past count front (Err place) = Err (count + place)

-- how a step goes on
abbrev pub goes_on : ℕ → ℕ → (Inside → ℕ → Read (List ℕ)) → Step → Read (List ℕ)
goes_on room count next Close = Ok ([], 1)
goes_on room count next Stop = Err 0
goes_on room count next (Enter inside) = past count [] (next inside room)
goes_on room count next (Give char) = past count (encode_utf8 char) (next Plain (room - len_utf8 char))

-- the quoted text that characters begin with, from this place on
abbrev pub inside_at : Form → List ℕ → Inside → ℕ → Read (List ℕ)
inside_at form [] inside room = Err 0
inside_at form (char ∷ chars) inside room = goes_on room (len_utf8 char) (λ next left. inside_at form chars next left) (next_step form inside room char)

-- what a function returned, seen by a view, is what reading gives, unless memory ran out
abbrev pub Gives : {X Y : Type 0} → (X → Y) → Result X LiteralError → Result Y ℕ → Type 0
Gives view (Ok x) read = read ≡ Ok (view x)
Gives view (Err (error.Bad place)) read = read ≡ Err place
Gives view (Err error.OutOfMemory) read = Unit {0}

-- a digit may follow the number so far, up to a limit; where only printed forms are read, none follows a 0
abbrev pub takes_digit : Form → ℕ → ℕ → ℕ → Bool
takes_digit Any limit so_far byte = is_ascii_digit byte && nat_le (so_far * 10 + (byte - 48)) limit
takes_digit Printed limit so_far byte = is_ascii_digit byte && nat_le (so_far * 10 + (byte - 48)) limit && not (so_far == 0)

-- the number that goes on with these bytes from this place, or the place of the first that does not belong to it
abbrev pub digits_at : Form → ℕ → List ℕ → ℕ → ℕ → Result ℕ ℕ
digits_at form limit [] at so_far = Ok so_far
digits_at form limit (byte ∷ bytes) at so_far =
    if takes_digit form limit so_far byte then digits_at form limit bytes (at + 1) (so_far * 10 + (byte - 48)) else Err at

-- the number of one or more digits from this place; whether the first may be 0
abbrev pub number_at : Form → Bool → ℕ → ℕ → List ℕ → Result ℕ ℕ
number_at form zero limit at [] = Err at
number_at form zero limit at (byte ∷ bytes) =
    if is_ascii_digit byte && (zero || not (byte == 48)) then digits_at form limit bytes (at + 1) (byte - 48) else Err at

-- `-0` is a literal and never printed
abbrev pub zero_follows_minus : Form → Bool
zero_follows_minus Any = true
zero_follows_minus Printed = false

-- the number that a function of naturals gives
abbrev pub with_sign : (ℕ → ℤ) → Result ℕ ℕ → Result ℤ ℕ
with_sign sign (Ok number) = Ok (sign number)
with_sign sign (Err place) = Err place

-- the signed number that the bytes are
abbrev pub signed_at : Form → List ℕ → Result ℤ ℕ
signed_at form [] = Err 0
signed_at form (byte ∷ bytes) =
    if byte == 45 then with_sign (λ n. neg_ℤ (pos n)) (number_at form (zero_follows_minus form) (2 ^ 63) 1 bytes)
    else with_sign pos (number_at form true (2 ^ 63 - 1) 0 (byte ∷ bytes))

-- an escape has begun only where a byte more fits
abbrev pub HasRoom : Inside → ℕ → Type 0
HasRoom Open room = Unit {0}
HasRoom Plain room = Unit {0}
HasRoom Escape room = 1 ≤ room
HasRoom Hex room = 1 ≤ room
HasRoom (Low high) room = 1 ≤ room

-- no character of a run leads from this place: between characters each byte stands for itself, and elsewhere there is none
abbrev pub StaysAt : Form → Inside → List ℕ → Type 0
StaysAt form Open run = run ≡ []
StaysAt form Plain run = list_all (is_itself form) run ≡ true
StaysAt form Escape run = run ≡ []
StaysAt form Hex run = run ≡ []
StaysAt form (Low high) run = run ≡ []

-- a run of so many bytes at the front of a text goes to the end of the words, and this is left of the text
pub record Moves (form : Form) (inside : Inside) (words new text left : List ℕ) (count : ℕ) : Type 0 where
  pub run : List ℕ
  pub split : text ≡ run ++ left
  pub added : new ≡ words ++ run
  pub counted : count ≡ length run
  pub fits : length run ≤ MAX_TEXT_LEN - length words
  pub front : IsUtf8 run
  pub back : IsUtf8 left
  pub stays : StaysAt form inside run

-- a whole number that a function returned is what reading gives, unless memory ran out
abbrev pub GivesNumber : Result Value LiteralError → Result ℤ ℕ → Type 0
GivesNumber (Ok (Int number)) read = read ≡ Ok number
GivesNumber (Ok (Words text)) read = ⊥
GivesNumber (Ok (Bad fault)) read = ⊥
GivesNumber (Err (error.Bad place)) read = read ≡ Err place
GivesNumber (Err error.OutOfMemory) read = Unit {0}

-- a text value whose quoted text the bytes are
abbrev pub IsQuotedValue : Form → List ℕ → Value → Type 0
IsQuotedValue form bytes (Int number) = ⊥
IsQuotedValue form bytes (Words text) = IsQuoted form bytes text []
IsQuotedValue form bytes (Bad fault) = ⊥

-- the bytes begin with this byte
abbrev pub BeginsWith : List ℕ → ℕ → Type 0
BeginsWith bytes byte = (0 < length bytes) × (slice_index bytes 0 ≡ byte)

-- the fault whose name begins with this letter
abbrev pub fault_of_letter : ℕ → Option Fault
fault_of_letter letter =
    if letter == 111 then Some Overflow
    else (if letter == 122 then Some Zero
    else (if letter == 108 then Some Long
    else (if letter == 110 then Some Number
    else (if letter == 101 then Some Empty
    else None))))

-- the fault whose text may begin with these bytes, by the letter behind the first
abbrev pub fault_by : List ℕ → Option Fault
fault_by bytes = if nat_lt (length bytes) 2 then None else fault_of_letter (slice_index bytes 1)
