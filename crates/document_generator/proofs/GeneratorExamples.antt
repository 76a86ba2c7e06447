-- The definitions at the document with 3 services, 5 changes and the start 1.
use Rattle.std.proofs.Common.{◌≡◌, ℕ, zero, suc, List, [], ◌∷◌, ◌++◌, refl, codes}
use Rattle.std.specs.Fmt.{digits}
use Rattle.document_generator.specs.Generator.{next_draw, number_text, generated}

-- x after each of the first draws
abbrev draws : ℕ → ℕ → List ℕ
draws x zero = []
draws x (suc n) = next_draw x ∷ draws (next_draw x) n

first_draws : draws 1 11 ≡ 149 ∷ 11249 ∷ 57305 ∷ 38044 ∷ 35283 ∷ 24819 ∷ 26463 ∷ 18689 ∷ 25472 ∷ 9901 ∷ 21742 ∷ []
first_draws = refl

abbrev document : List ℕ
document =
    codes "input i1 : int = 149\n"
    ++ codes "derived d1 : int rank 1 = sum() over i1\n"
    ++ codes "derived d2 : int rank 2 = sum() over i1, d1\n"
    ++ codes "drop d2 d1\n"
    ++ codes "set i1 = 742\n"
    ++ codes "settle\n"

document_is : generated 3 5 1 ≡ document
unfolding number_text digits
document_is = refl
