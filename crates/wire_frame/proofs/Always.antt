-- Every stream of bytes splits.
use Rattle.std.proofs.Common.{◌≡◌, ◌∙◌, sym, ap, refl, subst, ℕ, zero, suc, ◌+◌, ◌≤◌, ◌⊎◌, inl, Bool, true, false, cond, List, [], ◌∷◌, ◌++◌, length, take, drop, arith, append_assoc, All, flat_map}
use Rattle.std.proofs.lemmas.Bool.Decides.{nat_tests}
use Rattle.std.proofs.lemmas.List.{length-take, length-drop, drop-drop, get_or-drop}
use Rattle.wire_frame.specs.Stream.{framed_item, size_at, begins, IsByte, IsItem, IsPartial, IsTooLong, Splits, items_in, items_of}
use Rattle.wire_frame.proofs.Fronts.{front_item}

stuck_where : (bytes : List ℕ) → begins bytes ≡ false → IsPartial bytes ⊎ IsTooLong bytes
stuck_where bytes h = grind (arith, nat_tests)

begun_where : (bytes : List ℕ) → begins bytes ≡ true → (2 ≤ length bytes) × (size_at bytes ≤ 585) × (size_at bytes + 2 ≤ length bytes)
begun_where bytes h = grind (arith, nat_tests)

all_dropped : (n : ℕ) (bytes : List ℕ) → All IsByte bytes → All IsByte (drop n bytes)
all_dropped n bytes h k d l = subst IsByte (sym (get_or-drop n bytes k d)) (h (n + k) d (omega (arith, length-drop n bytes)))

none_in : (items : List (List ℕ)) → items ≡ [] → All IsItem items
none_in items e k d l = absurd (omega (arith, ap length e))

all_cons : (x : List ℕ) (xs : List (List ℕ)) → IsItem x → All IsItem xs → All IsItem (x ∷ xs)
all_cons x xs p h zero d l = p
all_cons x xs p h (suc k) d l = h k d (omega arith)

-- no item is in front
stuck_at : (bytes : List ℕ) (items : List (List ℕ)) → items ≡ [] → IsPartial bytes ⊎ IsTooLong bytes → Splits bytes items bytes
stuck_at bytes items e h = record { whole = ap (λ xs. flat_map framed_item xs ++ bytes) (sym e); each = none_in items e; stuck = h }

-- an item is in front of what splits
begun_at : (bytes item more rest : List ℕ) (items all : List (List ℕ)) → bytes ≡ framed_item item ++ more → IsItem item → Splits more items rest → all ≡ item ∷ items → Splits bytes all rest
begun_at bytes item more rest items all front fits s e = subst (λ xs. Splits bytes xs rest) (sym e) record {
  whole = front ∙ ap (λ b. framed_item item ++ b) s.whole ∙ sym (append_assoc (framed_item item) (flat_map framed_item items) rest);
  each = all_cons item items fits s.each;
  stuck = s.stuck;
}

splits_step : (n : ℕ) (bytes : List ℕ) (b : Bool) → begins bytes ≡ b → All IsByte bytes → length bytes ≤ suc n →
    ((more : List ℕ) → All IsByte more → length more ≤ n → (rest : List ℕ) × Splits more (items_in n more) rest) →
    (rest : List ℕ) × Splits bytes (items_in (suc n) bytes) rest
unfolding items_in
splits_step n bytes false e h le ih =
    let none : items_in (suc n) bytes ≡ [] = ap (λ b. cond b (take (size_at bytes) (drop 2 bytes) ∷ items_in n (drop (size_at bytes + 2) bytes)) []) e in
    (bytes, stuck_at bytes (items_in (suc n) bytes) none (stuck_where bytes e))
splits_step n bytes true e h le ih =
    let size = size_at bytes in
    let item = take size (drop 2 bytes) in
    let more = drop (size + 2) bytes in
    let w = begun_where bytes e in
    let same : more ≡ drop size (drop 2 bytes) = ap (λ k. drop k bytes) (omega arith) ∙ sym (drop-drop size 2 bytes) in
    let front : bytes ≡ framed_item item ++ more = front_item bytes item more size (h 1 0 (omega (arith, w.0))) refl (w.2) refl same in
    let fits : IsItem item = omega (arith, w.1, length-take size (drop 2 bytes)) in
    let r = ih more (all_dropped (size + 2) bytes h) (omega (arith, w.2, length-drop (size + 2) bytes)) in
    let first : items_in (suc n) bytes ≡ item ∷ items_in n more = ap (λ b. cond b (item ∷ items_in n more) []) e in
    (r.0, begun_at bytes item more r.0 (items_in n more) (items_in (suc n) bytes) front fits r.1 first)

none_at_all : (bytes : List ℕ) → items_in zero bytes ≡ []
unfolding items_in
none_at_all bytes = refl

splits_in : (n : ℕ) (bytes : List ℕ) → All IsByte bytes → length bytes ≤ n → (rest : List ℕ) × Splits bytes (items_in n bytes) rest
splits_in zero bytes h le = (bytes, stuck_at bytes (items_in zero bytes) (none_at_all bytes) (inl (inl (omega arith))))
splits_in (suc n) bytes h le = splits_step n bytes (begins bytes) refl h le (λ more k l. splits_in n more k l)

pub always : (stream : List ℕ) → All IsByte stream → (rest : List ℕ) × Splits stream (items_of stream) rest
unfolding items_of
always stream h = splits_in (length stream) stream h (omega arith)
