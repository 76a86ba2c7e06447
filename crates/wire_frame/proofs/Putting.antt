-- A list whose items are spelled one behind the other.
use Rattle.std.proofs.Common.{◌≡◌, ◌∙◌, sym, ap, subst, ℕ, ◌+◌, ◌<◌, List, [], ◌∷◌, ◌++◌, length, get_or, take, flat_map, All}
use Rattle.std.proofs.lemmas.List.{take_more, flat_map_more}
use Rattle.std.proofs.lemmas.List.Elements.{All-push}

-- one item more
next_item : {X : Type 0} (xs : List X) (i : ℕ) (x : X) → i < length xs → x ≡ get_or xs i x → take i xs ++ x ∷ [] ≡ take (i + 1) xs
next_item xs i x l e = ap (λ y. take i xs ++ y ∷ []) e ∙ sym (take_more xs i x l)

pub spelled_next : {X : Type 0} (f : X → List ℕ) (start old new : List ℕ) (xs : List X) (i : ℕ) (x : X) → i < length xs → x ≡ get_or xs i x →
    old ≡ start ++ flat_map f (take i xs) → new ≡ old ++ f x → new ≡ start ++ flat_map f (take (i + 1) xs)
spelled_next f start old new xs i x l e h more =
    more ∙ ap (λ ys. ys ++ f x) h ∙ flat_map_more f start (take i xs) x ∙ ap (λ ys. start ++ flat_map f ys) (next_item xs i x l e)

pub all_next : {X : Type 0} (P : X → Type 0) (xs : List X) (i : ℕ) (x : X) → i < length xs → x ≡ get_or xs i x → All P (take i xs) → P x → All P (take (i + 1) xs)
all_next {X} P xs i x l e h p = subst (λ (ys : List X). All P ys) (next_item xs i x l e) (All-push P (take i xs) x h p)
