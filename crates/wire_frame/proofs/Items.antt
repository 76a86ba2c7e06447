-- The items of a stream are the only ones.
use Rattle.std.proofs.Common.{◌≡◌, ◌∙◌, sym, ap, refl, ℕ, zero, suc, ◌+◌, ◌≤◌, ◌⊎◌, inl, true, false, cond, List, [], ◌∷◌, ◌++◌, length, take, drop, arith, append_assoc, append-nil, All, flat_map}
use Rattle.std.proofs.lemmas.Bool.Decides.{nat_tests}
use Rattle.std.proofs.lemmas.List.{take_at, drop_at, length-append}
use Rattle.wire_frame.specs.Stream.{framed_item, size_at, begins, IsItem, IsPartial, IsTooLong, items_in, items_of}

-- the length in front of an item is the item's
pub size_framed : (item more : List ℕ) → size_at (framed_item item ++ more) ≡ length item
size_framed item more = omega arith

-- an item in front is a whole one
begins_framed : (item more : List ℕ) → IsItem item → begins (framed_item item ++ more) ≡ true
begins_framed item more fits =
    let s : size_at (framed_item item ++ more) ≡ length item = size_framed item more in
    let l : length (framed_item item ++ more) ≡ length item + length more + 2 = omega (arith, length-append item more) in
    grind (arith, nat_tests)

-- no item begins with less than one, and none with a length that is too great
begins_not : (rest : List ℕ) → IsPartial rest ⊎ IsTooLong rest → begins rest ≡ false
begins_not rest h = grind (arith, nat_tests)

items_in_rest : (n : ℕ) (rest : List ℕ) → IsPartial rest ⊎ IsTooLong rest → items_in n rest ≡ []
unfolding items_in
items_in_rest zero rest h = refl
items_in_rest (suc n) rest h = ap (λ b. cond b (take (size_at rest) (drop 2 rest) ∷ items_in n (drop (size_at rest + 2) rest)) []) (begins_not rest h)

items_in_next : (n : ℕ) (item more : List ℕ) → IsItem item → items_in (suc n) (framed_item item ++ more) ≡ item ∷ items_in n more
unfolding items_in
items_in_next n item more fits =
    let s : size_at (framed_item item ++ more) ≡ length item = size_framed item more in
    let b : begins (framed_item item ++ more) ≡ true = begins_framed item more fits in
    let t : take (size_at (framed_item item ++ more)) (item ++ more) ≡ item = take_at item more (size_at (framed_item item ++ more)) (sym s) in
    let d : drop (size_at (framed_item item ++ more) + 2) (framed_item item ++ more) ≡ more = drop_at (framed_item item) more (size_at (framed_item item ++ more) + 2) (omega arith) in
    ap (λ c. cond c (take (size_at (framed_item item ++ more)) (item ++ more) ∷ items_in n (drop (size_at (framed_item item ++ more) + 2) (framed_item item ++ more))) []) b ∙ (λ i. t i ∷ items_in n (d i))

items_in_split : (n : ℕ) (items : List (List ℕ)) (rest : List ℕ) → All IsItem items → IsPartial rest ⊎ IsTooLong rest → length (flat_map framed_item items ++ rest) ≤ n → items_in n (flat_map framed_item items ++ rest) ≡ items
items_in_split n [] rest each h le = items_in_rest n rest h
items_in_split zero (item ∷ items) rest each h le = absurd (omega arith)
items_in_split (suc n) (item ∷ items) rest each h le =
    let more = flat_map framed_item items ++ rest in
    let a : flat_map framed_item (item ∷ items) ++ rest ≡ framed_item item ++ more = append_assoc (framed_item item) (flat_map framed_item items) rest in
    let l : length more ≤ n = omega (arith, ap length a, length-append (framed_item item) more) in
    let ih : items_in n more ≡ items = items_in_split n items rest (λ k d k_lt. each (suc k) d (omega arith)) h l in
    ap (items_in (suc n)) a ∙ items_in_next n item more (each 0 [] (omega arith)) ∙ ap (λ xs. item ∷ xs) ih

-- whatever splits the stream gives the items that the stream is told to have
pub items_of_split : (items : List (List ℕ)) (rest : List ℕ) → All IsItem items → IsPartial rest ⊎ IsTooLong rest → items_of (flat_map framed_item items ++ rest) ≡ items
unfolding items_of
items_of_split items rest each h = items_in_split (length (flat_map framed_item items ++ rest)) items rest each h (omega arith)

-- the same for a stream of whole items
pub items_of_whole : (items : List (List ℕ)) → All IsItem items → items_of (flat_map framed_item items) ≡ items
items_of_whole items each = ap items_of (sym (append-nil (flat_map framed_item items))) ∙ items_of_split items [] each (inl (inl (omega arith)))
