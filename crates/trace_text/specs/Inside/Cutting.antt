-- How parts of a line are cut and read.
use Rattle.std.specs.Prelude.{◌≡◌, ◌≢◌, ◌<◌, ◌^◌, All, length, map, ℕ, List, [], ◌∷◌, ◌++◌, Option, Some, None, Ok, Err}
use Rattle.std.specs.Borrow.{Bor}
use Rattle.std.specs.Str.Parse.{ParsesUnsigned}
use Rattle.propagation.specs.Stamps.{Stamps, Rise}
use Rattle.trace_text.specs.Entries.{ArePicks}

-- none of the bytes is this one
abbrev pub Lacks : ℕ → List ℕ → Type 0
Lacks stop [] = Unit {0}
Lacks stop (b ∷ bytes) = (b ≢ stop) × Lacks stop bytes

-- the bytes stand round the first such byte, or there is none
abbrev pub CutsAtFirst : ℕ → List ℕ → Option (Bor (List ℕ) × Bor (List ℕ)) → Type 0
CutsAtFirst stop bytes (Some parts) = (bytes ≡ parts.0.now ++ stop ∷ parts.1.now) × Lacks stop parts.0.now
CutsAtFirst stop bytes None = Lacks stop bytes

-- the bytes stand round the last such byte, or there is none
abbrev pub CutsAtLast : ℕ → List ℕ → Option (Bor (List ℕ) × Bor (List ℕ)) → Type 0
CutsAtLast stop bytes (Some parts) = (bytes ≡ parts.0.now ++ stop ∷ parts.1.now) × Lacks stop parts.1.now
CutsAtLast stop bytes None = Lacks stop bytes

-- the bytes stand round this word between blanks, with no blank behind it but one, or there is no such word
abbrev pub CutsAtWord : List ℕ → List ℕ → Option (Bor (List ℕ) × Bor (List ℕ)) → Type 0
CutsAtWord word bytes (Some parts) = (bytes ≡ parts.0.now ++ 32 ∷ (word ++ 32 ∷ parts.1.now)) × Lacks 32 parts.1.now
CutsAtWord word bytes None = (front last : List ℕ) → Lacks 32 last → bytes ≢ front ++ 32 ∷ (word ++ 32 ∷ last)

-- picks, and there is one
abbrev pub AreSomePicks : List ℕ → Type 0
AreSomePicks picks = (0 < length picks) × ArePicks picks

-- the clock is at least 1 and has 32 bits
abbrev pub IsClock : ℕ → Type 0
IsClock clock = (0 < clock) × (clock < 2 ^ 32)

-- the key is one of the first `count` services, with such a clock
abbrev pub IsStampOf : ℕ → ℕ × ℕ → Type 0
IsStampOf count pair = (pair.0 < count) × IsClock pair.1

-- such keys with their clocks, and there is one
abbrev pub AreSomeStamps : ℕ → List (ℕ × ℕ) → Type 0
AreSomeStamps count pairs = (0 < length pairs) × All (IsStampOf count) pairs

-- their keys, and their clocks
abbrev pub key_list : List (ℕ × ℕ) → List ℕ
key_list pairs = map (λ pair. pair.0) pairs

abbrev pub clock_list : List (ℕ × ℕ) → List ℕ
clock_list pairs = map (λ pair. pair.1) pairs

-- the pairs as stamps, or nothing where their keys do not rise
abbrev pub MakesStamps : List (ℕ × ℕ) → Option Stamps → Type 0
MakesStamps pairs (Some stamps) = (stamps ≡ pairs) × Rise 0 (key_list pairs)
MakesStamps pairs None = Rise 0 (key_list pairs) → ⊥

-- what std's reading of a number of 64 bits gives of the text, or nothing where it gives an error
abbrev pub IsParsed : List ℕ → Option ℕ → Type 0
IsParsed text (Some number) = ParsesUnsigned {E = Unit {0}} 64 10 text (Ok number)
IsParsed text None = ParsesUnsigned {E = Unit {0}} 64 10 text (Err tt)
