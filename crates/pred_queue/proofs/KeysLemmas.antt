-- Keys that rise, one after the other.
use Rattle.std.proofs.Common.{◌≡◌, ℕ, suc, ◌<◌, ◌≤◌, List, [], ◌∷◌, ◌++◌, inl, inr, sym, subst, arith}
use Rattle.std.specs.Prelude.{All}
use Rattle.propagation.specs.Stamps.{Rise}
use Rattle.propagation.specs.Lists.{Has}
use Rattle.stamp_clock.proofs.RiseLemmas.{all-has}

rise-least : (least : ℕ) (xs : List ℕ) (key : ℕ) (rest : List ℕ) → Rise least (xs ++ key ∷ rest) → least ≤ key
rise-least least [] key rest rise = rise.0
rise-least least (x ∷ xs) key rest rise = let le = rise-least (suc x) xs key rest rise.1 in omega (arith, le, rise.0)

has-below : (least : ℕ) (xs : List ℕ) (key : ℕ) (rest : List ℕ) → Rise least (xs ++ key ∷ rest) → (q : ℕ) → Has xs q → q < key
has-below least [] key rest rise q has = absurd has
has-below least (x ∷ xs) key rest rise q (inl same) = let le = rise-least (suc x) xs key rest rise.1 in omega (arith, le)
has-below least (x ∷ xs) key rest rise q (inr more) = has-below (suc x) xs key rest rise.1 q more

-- the keys before one are below it
pub all-below : (keys xs left : List ℕ) (key : ℕ) (rest : List ℕ) → Rise 0 keys → xs ++ left ≡ keys → left ≡ key ∷ rest → All (λ before. before < key) xs
all-below keys xs left key rest rise whole steps =
    let all : Rise 0 (xs ++ left) = subst (λ (ks : List ℕ). Rise 0 ks) (sym whole) rise in
    all-has (λ before. before < key) xs (has-below 0 xs key rest (subst (λ (ks : List ℕ). Rise 0 (xs ++ ks)) steps all))
