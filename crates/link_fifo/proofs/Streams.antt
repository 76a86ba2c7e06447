-- What was sent and what was received, as items.
use Rattle.std.proofs.Common.{◌≡◌, ◌∙◌, sym, ap, subst, ℕ, ◌-◌, List, [], ◌∷◌, ◌++◌, length, take, arith, append_assoc, append-nil, All, flat_map}
use Rattle.std.proofs.lemmas.List.{length-append, take_at, flat_map_more}
use Rattle.std.proofs.lemmas.List.Elements.{All-push}
use Rattle.wire_frame.specs.Stream.{framed_item, items_of, IsItem}
use Rattle.wire_frame.proofs.Items.{items_of_whole}
use Rattle.link_fifo.specs.Cuts.{cuts_of, bytes_of_pieces, pieces_of, sent_items, received_items, before, IsSent, IsRead}
use Rattle.link_fifo.proofs.Cuts.{joined_append, joined_push, joined_cuts, joined_pieces, cuts_none}

-- where the pieces pushed and those of what is kept are the pieces of items, these are the items sent
pub sent_from : (pieces : List (List ℕ)) (kept : List ℕ) (items : List (List ℕ)) → All IsItem items → pieces ++ cuts_of kept ≡ pieces_of items →
    IsSent pieces kept × (sent_items pieces kept ≡ items)
sent_from pieces kept items each e =
    let bytes : bytes_of_pieces pieces ++ kept ≡ flat_map framed_item items =
    sym (joined_append pieces (cuts_of kept) ∙ ap (λ xs. bytes_of_pieces pieces ++ xs) (joined_cuts kept)) ∙ ap bytes_of_pieces e ∙ joined_pieces items in
    let told : sent_items pieces kept ≡ items = ap items_of bytes ∙ items_of_whole items each in
    (record { cut = e ∙ ap pieces_of (sym told); each = subst (λ xs. All IsItem xs) (sym told) each }, told)

-- pieces that move from what is kept to what was pushed change no item
pub sent_step : (pieces new : List (List ℕ)) (kept left : List ℕ) → IsSent pieces kept → new ++ cuts_of left ≡ pieces ++ cuts_of kept →
    IsSent new left × (sent_items new left ≡ sent_items pieces kept)
sent_step pieces new kept left h e = sent_from new left (sent_items pieces kept) h.each (e ∙ h.cut)

-- one more item, where nothing was kept
pub sent_more : (pieces new : List (List ℕ)) (left item : List ℕ) → IsItem item → IsSent pieces [] → new ++ cuts_of left ≡ pieces ++ cuts_of (framed_item item) →
    IsSent new left × (sent_items new left ≡ sent_items pieces [] ++ item ∷ [])
sent_more pieces new left item fits h e =
    let items = sent_items pieces [] in
    let was : pieces ≡ pieces_of items = sym (append-nil pieces) ∙ ap (λ xs. pieces ++ xs) (sym cuts_none) ∙ h.cut in
    let more : pieces_of items ++ cuts_of (framed_item item) ≡ pieces_of (items ++ item ∷ []) = flat_map_more (λ item. cuts_of (framed_item item)) [] items item in
    sent_from new left (items ++ item ∷ []) (All-push IsItem items item h.each fits) (e ∙ ap (λ xs. xs ++ cuts_of (framed_item item)) was ∙ more)

-- nothing was sent
pub sent_none : IsSent [] [] × (sent_items [] [] ≡ [])
sent_none = sent_from [] [] [] (λ k d k_lt. absurd (omega arith)) cuts_none

-- where the bytes popped are items and then what is held, these are the items received
pub read_from : (pieces : List (List ℕ)) (held : List ℕ) (items : List (List ℕ)) → All IsItem items → bytes_of_pieces pieces ≡ flat_map framed_item items ++ held →
    IsRead pieces held × (received_items pieces held ≡ items)
read_from pieces held items each e =
    let l : length (flat_map framed_item items) ≡ length (bytes_of_pieces pieces) - length held = omega (arith, ap length e, length-append (flat_map framed_item items) held) in
    let front : before (bytes_of_pieces pieces) held ≡ flat_map framed_item items =
    ap (take (length (bytes_of_pieces pieces) - length held)) e ∙ take_at (flat_map framed_item items) held (length (bytes_of_pieces pieces) - length held) l in
    let told : received_items pieces held ≡ items = ap items_of front ∙ items_of_whole items each in
    (record { whole = e ∙ ap (λ xs. flat_map framed_item xs ++ held) (sym told); each = subst (λ xs. All IsItem xs) (sym told) each }, told)

-- a piece that was popped and is held changes no item
pub read_fed : (pieces new : List (List ℕ)) (held more piece : List ℕ) → IsRead pieces held → new ≡ pieces ++ piece ∷ [] → more ≡ held ++ piece →
    IsRead new more × (received_items new more ≡ received_items pieces held)
read_fed pieces new held more piece h p q =
    read_from new more (received_items pieces held) h.each
    (ap bytes_of_pieces p ∙ joined_push pieces piece ∙ ap (λ xs. xs ++ piece) h.whole ∙ append_assoc (flat_map framed_item (received_items pieces held)) held piece ∙ ap (λ xs. flat_map framed_item (received_items pieces held) ++ xs) (sym q))

-- an item off the front of what is held is received
pub read_next : (pieces : List (List ℕ)) (held left item : List ℕ) → IsRead pieces held → IsItem item → held ≡ framed_item item ++ left →
    IsRead pieces left × (received_items pieces left ≡ received_items pieces held ++ item ∷ [])
read_next pieces held left item h fits e =
    let items = received_items pieces held in
    read_from pieces left (items ++ item ∷ []) (All-push IsItem items item h.each fits)
    (h.whole ∙ ap (λ xs. flat_map framed_item items ++ xs) e ∙ sym (append_assoc (flat_map framed_item items) (framed_item item) left) ∙ ap (λ xs. xs ++ left) (flat_map_more framed_item [] items item))

-- nothing was received
pub read_none : IsRead [] [] × (received_items [] [] ≡ [])
read_none = read_from [] [] [] (λ k d k_lt. absurd (omega arith)) (joined_pieces [])
