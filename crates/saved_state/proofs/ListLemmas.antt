-- Small facts on lists.
use Rattle.std.proofs.Common.{◌≡◌, ℕ, zero, suc, ◌+◌, ◌<◌, ◌≤◌, List, [], ◌∷◌, ◌++◌, length, map, take, drop, flat_map, get_or, All, refl, sym, ap, subst, ◌∙◌, arith, append_assoc}
use Rattle.std.proofs.lemmas.List.{take_more, take_all, drop_all, flat_map_more, map-append}
use Rattle.std.proofs.lemmas.List.Elements.{All-push}

pub all_cons : {X : Type 0} (P : X → Type 0) (x : X) (xs : List X) → P x → All P xs → All P (x ∷ xs)
all_cons P x xs p h zero d l = p
all_cons P x xs p h (suc k) d l = h k d (omega arith)

pub all_head : {X : Type 0} (P : X → Type 0) (x : X) (xs : List X) → All P (x ∷ xs) → P x
all_head P x xs h = h 0 x (omega arith)

pub all_tail : {X : Type 0} (P : X → Type 0) (x : X) (xs : List X) → All P (x ∷ xs) → All P xs
all_tail P x xs h k d l = h (suc k) d (omega arith)

pub all_nil : {X : Type 0} (P : X → Type 0) → All P []
all_nil P k d l = absurd (omega (arith, l))

-- what holds of the images holds of the elements, and the other way round
pub all_mapped : {X Y : Type 0} (P : Y → Type 0) (f : X → Y) (xs : List X) → All (λ x. P (f x)) xs → All P (map f xs)
all_mapped P f [] h = all_nil P
all_mapped P f (x ∷ xs) h = all_cons P (f x) (map f xs) (all_head (λ y. P (f y)) x xs h) (all_mapped P f xs (all_tail (λ y. P (f y)) x xs h))

pub all_unmapped : {X Y : Type 0} (P : Y → Type 0) (f : X → Y) (xs : List X) → All P (map f xs) → All (λ x. P (f x)) xs
all_unmapped P f [] h = all_nil (λ x. P (f x))
all_unmapped P f (x ∷ xs) h = all_cons (λ y. P (f y)) x xs (all_head P (f x) (map f xs) h) (all_unmapped P f xs (all_tail P (f x) (map f xs) h))

-- one implies the other
pub all_so : {X : Type 0} (P Q : X → Type 0) (xs : List X) → ((x : X) → P x → Q x) → All P xs → All Q xs
all_so P Q xs so h k d l = so (get_or xs k d) (h k d l)

-- one element more
pub next_item : {X : Type 0} (xs : List X) (i : ℕ) (x : X) → i < length xs → x ≡ get_or xs i x → take i xs ++ x ∷ [] ≡ take (i + 1) xs
next_item xs i x l e = ap (λ y. take i xs ++ y ∷ []) e ∙ sym (take_more xs i x l)

pub all_next : {X : Type 0} (P : X → Type 0) (xs : List X) (i : ℕ) (x : X) → i < length xs → x ≡ get_or xs i x → All P (take i xs) → P x → All P (take (i + 1) xs)
all_next {X} P xs i x l e h p = subst (λ (ys : List X). All P ys) (next_item xs i x l e) (All-push P (take i xs) x h p)

pub mapped_next : {X Y : Type 0} (f : X → Y) (xs : List X) (i : ℕ) (x : X) (y : Y) → i < length xs → x ≡ get_or xs i x → y ≡ f x → map f (take i xs) ++ y ∷ [] ≡ map f (take (i + 1) xs)
mapped_next f xs i x y l e same = (λ k. map f (take i xs) ++ same k ∷ []) ∙ sym (map-append f (take i xs) (x ∷ [])) ∙ ap (map f) (next_item xs i x l e)

pub spelled_next : {X : Type 0} (f : X → List ℕ) (start old new : List ℕ) (xs : List X) (i : ℕ) (x : X) → i < length xs → x ≡ get_or xs i x →
    old ≡ start ++ flat_map f (take i xs) → new ≡ old ++ f x → new ≡ start ++ flat_map f (take (i + 1) xs)
spelled_next f start old new xs i x l e h more =
    more ∙ ap (λ ys. ys ++ f x) h ∙ flat_map_more f start (take i xs) x ∙ ap (λ ys. start ++ flat_map f ys) (next_item xs i x l e)

-- ---- items whose bytes stand one behind the other

-- an item of a list, with what is before and behind it
pub record ItemAt {X : Type 0} (P : X → Type 0) (all : List X) (i : ℕ) : Type 0 where
  pub item : X
  pub good : P item
  pub behind : drop i all ≡ item ∷ drop (suc i) all
  pub before : take (suc i) all ≡ take i all ++ item ∷ []

pub item_at : {X : Type 0} (P : X → Type 0) (all : List X) (i : ℕ) → All P all → i < length all → ItemAt P all i
item_at P [] i h l = absurd (omega (arith, l))
item_at P (x ∷ xs) zero h l = record { item = x; good = all_head P x xs h; behind = refl; before = refl }
item_at {X} P (x ∷ xs) (suc i) h l =
    let rest = item_at P xs i (all_tail P x xs h) (omega (arith, l)) in
    record { item = rest.item; good = rest.good; behind = rest.behind; before = ap (λ (ys : List X). x ∷ ys) rest.before }

-- the items are read up to this one: they are gathered, and the others are left with more behind
pub record IsReadTo {X : Type 0} (f : X → List ℕ) (all : List X) (more : List ℕ) (i : ℕ) (gathered : List X) (left : List ℕ) : Type 0 where
  pub gathered_are : gathered ≡ take i all
  pub left_is : left ≡ flat_map f (drop i all) ++ more

pub read_none : {X : Type 0} (f : X → List ℕ) (all : List X) (more bytes : List ℕ) → bytes ≡ flat_map f all ++ more → IsReadTo f all more 0 [] bytes
read_none f all more bytes e = record { gathered_are = refl; left_is = e }

-- the next item stands in front of what is left
pub next_in_front : {X : Type 0} (P : X → Type 0) (f : X → List ℕ) (all : List X) (more : List ℕ) (i : ℕ) (gathered : List X) (left : List ℕ) →
    (at : ItemAt P all i) → IsReadTo f all more i gathered left → left ≡ f at.item ++ (flat_map f (drop (suc i) all) ++ more)
next_in_front {X} P f all more i gathered left at to =
    to.left_is ∙ ap (λ (xs : List X). flat_map f xs ++ more) at.behind ∙ append_assoc (f at.item) (flat_map f (drop (suc i) all)) more

pub read_next : {X : Type 0} (P : X → Type 0) (f : X → List ℕ) (all : List X) (more : List ℕ) (i : ℕ) (gathered : List X) (left : List ℕ) (x : X) (rest : List ℕ) →
    (at : ItemAt P all i) → IsReadTo f all more i gathered left → x ≡ at.item → rest ≡ flat_map f (drop (suc i) all) ++ more →
    IsReadTo f all more (i + 1) (gathered ++ x ∷ []) rest
read_next {X} P f all more i gathered left x rest at to same behind =
    let next : i + 1 ≡ suc i = omega arith in
    record {
      gathered_are = (λ k. to.gathered_are k ++ same k ∷ []) ∙ sym at.before ∙ ap (λ n. take n all) (sym next);
      left_is = behind ∙ ap (λ n. flat_map f (drop n all) ++ more) (sym next);
    }

-- they are all read
pub read_all : {X : Type 0} (f : X → List ℕ) (all : List X) (more : List ℕ) (i : ℕ) (gathered : List X) (left : List ℕ) → length all ≤ i → IsReadTo f all more i gathered left →
    (gathered ≡ all) × (left ≡ more)
read_all {X} f all more i gathered left done to =
    (to.gathered_are ∙ take_all i all done, to.left_is ∙ ap (λ (xs : List X). flat_map f xs ++ more) (drop_all i all done))
