-- Lists that grow, and offsets that rise.
use Rattle.std.proofs.Common.{◌≡◌, ◌∙◌, sym, ap, ℕ, ◌+◌, ◌-◌, ◌≤◌, List, [], ◌∷◌, ◌++◌, length, arith, append_assoc, append-nil, flat_map}
use Rattle.std.proofs.lemmas.List.{length-append}
use Rattle.wire_frame.specs.Stream.{framed_item}
use Rattle.wire_frame.specs.Cut.{past}
use Rattle.link_fifo.specs.Cuts.{bytes_of_pieces, Grows, IsRead, place_of, received_items}
use Rattle.link_fifo.proofs.Cuts.{joined_push}

pub grows_not : (old : List (List ℕ)) → Grows old old
grows_not old = record { more = []; is = sym (append-nil old) }

pub grows_push : (old mid new : List (List ℕ)) (x : List ℕ) → Grows old mid → new ≡ mid ++ x ∷ [] → Grows old new
grows_push old mid new x g e = record { more = g.more ++ x ∷ []; is = e ∙ ap (λ xs. xs ++ x ∷ []) g.is ∙ append_assoc old g.more (x ∷ []) }

pub grows_twice : (old mid new : List (List ℕ)) → Grows old mid → Grows mid new → Grows old new
grows_twice old mid new g h = record { more = g.more ++ h.more; is = h.is ∙ ap (λ xs. xs ++ h.more) g.is ∙ append_assoc old g.more h.more }

-- what is held is a part of what was popped
held_within : (pieces : List (List ℕ)) (held : List ℕ) → IsRead pieces held → length held ≤ length (bytes_of_pieces pieces)
held_within pieces held h = omega (arith, ap length h.whole, length-append (flat_map framed_item (received_items pieces held)) held)

pub place_fed : (pieces new : List (List ℕ)) (held more piece : List ℕ) (was is : ℕ) → IsRead pieces held → new ≡ pieces ++ piece ∷ [] → more ≡ held ++ piece →
    was ≡ place_of pieces held → is ≡ was → is ≡ place_of new more
place_fed pieces new held more piece was is h p q w same =
    let a : length (bytes_of_pieces new) ≡ length (bytes_of_pieces pieces) + length piece = ap length (ap bytes_of_pieces p ∙ joined_push pieces piece) ∙ length-append (bytes_of_pieces pieces) piece in
    let b : length more ≡ length held + length piece = ap length q ∙ length-append held piece in
    let l : length held ≤ length (bytes_of_pieces pieces) = held_within pieces held h in
    let d : length (bytes_of_pieces pieces) - length held ≡ length (bytes_of_pieces new) - length more = omega arith in
    same ∙ w ∙ ap (past 0) d

pub place_next : (pieces : List (List ℕ)) (held left item : List ℕ) (was is : ℕ) → IsRead pieces held → held ≡ framed_item item ++ left →
    was ≡ place_of pieces held → is ≡ past was (length item + 2) → is ≡ place_of pieces left
place_next pieces held left item was is h e w next =
    let b : length held ≡ length item + length left + 2 = omega (arith, ap length e, length-append item left) in
    let l : length held ≤ length (bytes_of_pieces pieces) = held_within pieces held h in
    omega arith

past_none : (n : ℕ) → past 0 (0 - n) ≡ 0
past_none n = omega arith

pub place_none : (pieces : List (List ℕ)) (held : List ℕ) → pieces ≡ [] → place_of pieces held ≡ 0
unfolding bytes_of_pieces
place_none pieces held e = ap (λ xs. place_of xs held) e ∙ past_none (length held)
