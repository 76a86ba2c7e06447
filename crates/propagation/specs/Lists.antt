-- Small words on lists. Lists of things that happened stand newest first: the rest of such a list is what came before.
use Rattle.std.specs.Prelude.{◌≡◌, ℕ, Bool, true, false, not, filter, ◌==◌, List, [], ◌∷◌, ◌++◌, ◌⊎◌, length, if◌then◌else◌}
use Rattle.std.proofs.Common.{Option, Some, None}

-- x is in the list
abbrev pub Has : {A : Type 0} → List A → A → Type 0
Has [] x = ⊥
Has (y ∷ ys) x = (y ≡ x) ⊎ Has ys x

-- whether the number is in the list
abbrev pub is_among : List ℕ → ℕ → Bool
is_among [] q = false
is_among (p ∷ ps) q = if p == q then true else is_among ps q

-- of a list of what happened, the older part: what had happened at some earlier time
abbrev pub IsOlderPart : {A : Type 0} → List A → List A → Type 0
IsOlderPart {A} older xs = (newer : List A) × (newer ++ older ≡ xs)

-- the latest of a list
abbrev pub latest : {A : Type 0} → List A → Option A
latest [] = None
latest (x ∷ older) = Some x

-- the one before which just k others came
abbrev pub numbered : {A : Type 0} → List A → ℕ → Option A
numbered [] k = None
numbered (x ∷ older) k = if length older == k then Some x else numbered older k

-- a list of what may be there
abbrev pub as_list : {A : Type 0} → Option A → List A
as_list None = []
as_list (Some x) = x ∷ []

-- no number stands twice
abbrev pub AreDistinct : List ℕ → Type 0
AreDistinct [] = Unit {0}
AreDistinct (p ∷ ps) = (Has ps p → ⊥) × AreDistinct ps

-- those of the first list that are not in the second
abbrev pub without : List ℕ → List ℕ → List ℕ
without ps others = filter (λ p. not (is_among others p)) ps
