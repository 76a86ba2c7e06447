-- How a text grows.
use Rattle.std.proofs.Common.{◌≡◌, ◌∙◌, ap, refl, ℕ, List, ◌++◌, append_assoc, length, take, drop}
use Rattle.std.proofs.KnownBytes.{starts_with_rest}
use Rattle.std.proofs.lemmas.List.{take_at}
use Rattle.std.specs.Io.{StartsWith}

-- what begins with a text that begins with another begins with that one
pub starts_further : (start behind was now : List ℕ) → was ≡ start ++ behind → StartsWith now was → StartsWith now start
starts_further start behind was now e h =
    ap (take (length start)) (starts_with_rest now was h ∙ ap (λ (t : List ℕ). t ++ drop (length was) now) e ∙ append_assoc start behind (drop (length was) now)) ∙ take_at start (behind ++ drop (length was) now) (length start) refl

-- what is a text with more behind it begins with the text
pub begins : (start behind now : List ℕ) → now ≡ start ++ behind → StartsWith now start
begins start behind now e = ap (take (length start)) e ∙ take_at start behind (length start) refl

-- a text that grew by a part, and then by what begins with it, begins with its start
pub kept_further : (start behind was part_end now part : List ℕ) → was ≡ start ++ behind → part_end ≡ was ++ part → StartsWith now part_end → StartsWith now start
kept_further start behind was part_end now part e f h =
    starts_further start (behind ++ part) part_end now (f ∙ ap (λ (t : List ℕ). t ++ part) e ∙ append_assoc start behind part) h

-- the same, where the text is known to begin with its start
pub kept_over : (start was part_end now part : List ℕ) → StartsWith was start → part_end ≡ was ++ part → StartsWith now part_end → StartsWith now start
kept_over start was part_end now part g f h = kept_further start (drop (length start) was) was part_end now part (starts_with_rest was start g) f h

-- a text that begins with one that begins with another begins with that one
pub kept_by : (start was now : List ℕ) → StartsWith was start → StartsWith now was → StartsWith now start
kept_by start was now g h = starts_further start (drop (length start) was) was now (starts_with_rest was start g) h
