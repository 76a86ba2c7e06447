-- Pieces of a list.
use Rattle.std.proofs.Common.{◌≡◌, ◌∙◌, sym, ap, refl, ℕ, zero, suc, ◌+◌, ◌<◌, ◌≤◌, List, [], ◌∷◌, ◌++◌, length, take, drop, arith, append_assoc, append-nil, flat_map}
use Rattle.std.proofs.lemmas.List.{length-drop, drop-drop, take-append-drop}
use Rattle.std.proofs.lemmas.List.Concat.{flat_map-append}
use Rattle.wire_frame.specs.Stream.{framed_item}
use Rattle.link_fifo.specs.Cuts.{cuts_in, cuts_of, bytes_of_pieces, pieces_of}

-- more room for pieces changes nothing
cuts_in_enough : (n m : ℕ) (bytes : List ℕ) → length bytes ≤ n → length bytes ≤ m → cuts_in n bytes ≡ cuts_in m bytes
unfolding cuts_in
cuts_in_enough zero zero [] p q = refl
cuts_in_enough zero (suc m) [] p q = refl
cuts_in_enough (suc n) zero [] p q = refl
cuts_in_enough (suc n) (suc m) [] p q = refl
cuts_in_enough zero m (b ∷ bytes) p q = absurd (omega arith)
cuts_in_enough (suc n) zero (b ∷ bytes) p q = absurd (omega arith)
cuts_in_enough (suc n) (suc m) (b ∷ bytes) p q =
    ap (λ xs. take 64 (b ∷ bytes) ∷ xs) (cuts_in_enough n m (drop 63 bytes) (omega (arith, length-drop 63 bytes)) (omega (arith, length-drop 63 bytes)))

pub cuts_none : cuts_of [] ≡ []
unfolding cuts_of cuts_in
cuts_none = refl

pub cuts_next : (bytes : List ℕ) → 0 < length bytes → cuts_of bytes ≡ take 64 bytes ∷ cuts_of (drop 64 bytes)
unfolding cuts_of cuts_in
cuts_next [] some = absurd (omega arith)
cuts_next (b ∷ bytes) some =
    ap (λ xs. take 64 (b ∷ bytes) ∷ xs) (cuts_in_enough (length bytes) (length (drop 63 bytes)) (drop 63 bytes) (omega (arith, length-drop 63 bytes)) (omega arith))

joined_cuts_in : (n : ℕ) (bytes : List ℕ) → length bytes ≤ n → bytes_of_pieces (cuts_in n bytes) ≡ bytes
unfolding bytes_of_pieces cuts_in
joined_cuts_in zero [] p = refl
joined_cuts_in (suc n) [] p = refl
joined_cuts_in zero (b ∷ bytes) p = absurd (omega arith)
joined_cuts_in (suc n) (b ∷ bytes) p =
    ap (λ xs. take 64 (b ∷ bytes) ++ xs) (joined_cuts_in n (drop 63 bytes) (omega (arith, length-drop 63 bytes))) ∙ take-append-drop 64 (b ∷ bytes)

pub joined_cuts : (bytes : List ℕ) → bytes_of_pieces (cuts_of bytes) ≡ bytes
unfolding cuts_of
joined_cuts bytes = joined_cuts_in (length bytes) bytes (omega arith)

pub joined_append : (xs ys : List (List ℕ)) → bytes_of_pieces (xs ++ ys) ≡ bytes_of_pieces xs ++ bytes_of_pieces ys
unfolding bytes_of_pieces
joined_append xs ys = flat_map-append (λ piece. piece) xs ys

pub joined_push : (xs : List (List ℕ)) (x : List ℕ) → bytes_of_pieces (xs ++ x ∷ []) ≡ bytes_of_pieces xs ++ x
unfolding bytes_of_pieces
joined_push xs x = flat_map-append (λ piece. piece) xs (x ∷ []) ∙ ap (λ ys. bytes_of_pieces xs ++ ys) (append-nil x)

joined_none : bytes_of_pieces [] ≡ []
unfolding bytes_of_pieces
joined_none = refl

-- the bytes of the pieces of items
pub joined_pieces : (items : List (List ℕ)) → bytes_of_pieces (pieces_of items) ≡ flat_map framed_item items
joined_pieces [] = joined_none
joined_pieces (item ∷ items) =
    joined_append (cuts_of (framed_item item)) (pieces_of items) ∙ (λ i. joined_cuts (framed_item item) i ++ joined_pieces items i)

-- one piece further on
pub pushed_next : (sent new old : List (List ℕ)) (bytes : List ℕ) (at : ℕ) → at < length bytes → new ≡ sent ++ take 64 (drop at bytes) ∷ [] →
    sent ++ cuts_of (drop at bytes) ≡ old → new ++ cuts_of (drop (at + 64) bytes) ≡ old
pushed_next sent new old bytes at within e before =
    let some : 0 < length (drop at bytes) = omega (arith, length-drop at bytes) in
    let d : cuts_of (drop (at + 64) bytes) ≡ cuts_of (drop 64 (drop at bytes)) = ap cuts_of (sym (drop-drop 64 at bytes)) in
    (λ i. e i ++ d i) ∙ append_assoc sent (take 64 (drop at bytes) ∷ []) (cuts_of (drop 64 (drop at bytes))) ∙ ap (λ xs. sent ++ xs) (sym (cuts_next (drop at bytes) some)) ∙ before
