-- Whole items in front of whole items.
use Rattle.std.proofs.Common.{◌≡◌, ◌∙◌, sym, ap, refl, subst, ℕ, suc, ◌+◌, ◌/◌, ◌%◌, List, [], ◌∷◌, ◌++◌, length, take, drop, arith, append_assoc, append-nil, All, flat_map, inl, inr}
use Rattle.std.proofs.lemmas.List.{take_at, drop_at, append_cancel_left, flat_map_more, drop-drop, take-append-drop}
use Rattle.wire_frame.specs.Stream.{framed_item, items_of, IsItem, IsPartial, IsTooLong}
use Rattle.wire_frame.proofs.Items.{items_of_whole, items_of_split}
use Rattle.link_fifo.specs.Cuts.{bytes_of_pieces, IsWhole, IsSent, IsRead, cuts_of, sent_items, received_items}
use Rattle.link_fifo.proofs.Cuts.{joined_append, joined_push, joined_cuts, joined_pieces}

-- the first items of two equal streams are one
first_same : (x y a b : List ℕ) → framed_item x ++ a ≡ framed_item y ++ b → (x ≡ y) × (a ≡ b)
first_same x y a b e =
    let high : length x / 256 ≡ length y / 256 = cc in
    let low : length x % 256 ≡ length y % 256 = cc in
    let long : length x ≡ length y = omega arith in
    let tails : x ++ a ≡ y ++ b = cc in (
      sym (take_at x a (length x) refl) ∙ ap (take (length x)) tails ∙ take_at y b (length x) (sym long),
      sym (drop_at x a (length x) refl) ∙ ap (drop (length x)) tails ∙ drop_at y b (length x) (sym long),
    )

-- what follows whole items in a stream of whole items
pub rest_whole : (xs ys : List (List ℕ)) (t : List ℕ) → All IsItem ys → flat_map framed_item xs ++ t ≡ flat_map framed_item ys →
    IsWhole t × (xs ++ items_of t ≡ ys)
rest_whole [] ys t each e =
    let told : items_of t ≡ ys = ap items_of e ∙ items_of_whole ys each in
    (record { whole = e ∙ ap (flat_map framed_item) (sym told); each = subst (λ zs. All IsItem zs) (sym told) each }, told)
rest_whole (x ∷ xs) [] t each e = absurd (cc)
rest_whole (x ∷ xs) (y ∷ ys) t each e =
    let s = first_same x y (flat_map framed_item xs ++ t) (flat_map framed_item ys) (sym (append_assoc (framed_item x) (flat_map framed_item xs) t) ∙ e) in
    let r = rest_whole xs ys t (λ k d k_lt. each (suc k) d (omega arith)) s.1 in
    (r.0, (λ i. s.0 i ∷ r.1 i))

-- a rest that is partial ends whole items
pub drained : (bytes held : List ℕ) (items : List (List ℕ)) → flat_map framed_item items ++ held ≡ bytes → All IsItem items → IsPartial held → items ≡ items_of bytes
drained bytes held items e each h = sym (items_of_split items held each (inl h)) ∙ ap items_of e

-- no length is too great behind whole items
pub never_too_long : (bytes held : List ℕ) (items : List (List ℕ)) → IsWhole bytes → flat_map framed_item items ++ held ≡ bytes → All IsItem items → IsTooLong held → ⊥
never_too_long bytes held items w e each h =
    let told : items ≡ items_of bytes = sym (items_of_split items held each (inr h)) ∙ ap items_of e in
    let none : held ≡ [] = append_cancel_left (flat_map framed_item items) held [] (e ∙ w.whole ∙ ap (flat_map framed_item) (sym told) ∙ sym (append-nil (flat_map framed_item items))) in
    let long : length held ≡ 0 = ap length none in
    omega arith

-- one more item off the front
pub drained_next : (bytes held left item : List ℕ) (items : List (List ℕ)) → held ≡ framed_item item ++ left → flat_map framed_item items ++ held ≡ bytes →
    flat_map framed_item (items ++ item ∷ []) ++ left ≡ bytes
drained_next bytes held left item items p e =
    ap (λ xs. xs ++ left) (sym (flat_map_more framed_item [] items item)) ∙ append_assoc (flat_map framed_item items) (framed_item item) left ∙ ap (λ xs. flat_map framed_item items ++ xs) (sym p) ∙ e

-- one more piece of what is kept
pub fed_next : (held more bytes was : List ℕ) (at : ℕ) → more ≡ held ++ take 64 (drop at bytes) → held ++ drop at bytes ≡ was → more ++ drop (at + 64) bytes ≡ was
fed_next held more bytes was at p e =
    (λ i. p i ++ sym (drop-drop 64 at bytes) i) ∙ append_assoc held (take 64 (drop at bytes)) (drop 64 (drop at bytes)) ∙ ap (λ xs. held ++ xs) (take-append-drop 64 (drop at bytes)) ∙ e

-- one more piece between the ends
pub poured_next : (popped more : List (List ℕ)) (held fed lead piece : List ℕ) → more ≡ popped ++ piece ∷ [] → fed ≡ held ++ piece → bytes_of_pieces popped ≡ lead ++ held → bytes_of_pieces more ≡ lead ++ fed
poured_next popped more held fed lead piece p q e =
    ap bytes_of_pieces p ∙ joined_push popped piece ∙ ap (λ xs. xs ++ piece) e ∙ append_assoc lead held piece ∙ ap (λ xs. lead ++ xs) (sym q)

-- what was sent, seen from the reader: what is held, poured and kept is whole, and holds the items that are left
pub left_whole : (pushed popped : List (List ℕ)) (kept held poured : List ℕ) → IsSent pushed kept → IsRead popped held →
    ((lead : List ℕ) → bytes_of_pieces popped ≡ lead ++ held → bytes_of_pieces pushed ≡ lead ++ poured) →
    IsWhole (poured ++ kept) × (received_items popped held ++ items_of (poured ++ kept) ≡ sent_items pushed kept)
left_whole pushed popped kept held poured s r more =
    let xs = received_items popped held in
    let ys = sent_items pushed kept in
    let bytes : bytes_of_pieces pushed ++ kept ≡ flat_map framed_item ys =
    sym (joined_append pushed (cuts_of kept) ∙ ap (λ b. bytes_of_pieces pushed ++ b) (joined_cuts kept)) ∙ ap bytes_of_pieces s.cut ∙ joined_pieces ys in
    rest_whole xs ys (poured ++ kept) s.each
    (sym (append_assoc (flat_map framed_item xs) poured kept) ∙ ap (λ b. b ++ kept) (sym (more (flat_map framed_item xs) r.whole)) ∙ bytes)
