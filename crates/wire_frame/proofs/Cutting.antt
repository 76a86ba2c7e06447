-- A stream that is being cut.
use Rattle.std.proofs.Common.{◌≡◌, ◌∙◌, sym, ap, ℕ, ◌+◌, List, [], ◌∷◌, ◌++◌, length, get_or, arith, append_assoc, flat_map, ◌⊎◌}
use Rattle.std.proofs.lemmas.List.{length-append, flat_map_more, get_or_append_left, append_cancel_left}
use Rattle.std.proofs.lemmas.List.Elements.{All-push}
use Rattle.wire_frame.specs.Stream.{framed_item, items_of, IsItem, IsPartial, IsTooLong, Splits}
use Rattle.wire_frame.specs.Cut.{Cut, past, IsCutting}
use Rattle.wire_frame.proofs.Items.{items_of_split}

-- nothing has come
pub cutting_begun : (cut : Cut) → cut.held ≡ [] → cut.offset ≡ 0 → IsCutting [] [] cut
cutting_begun cut held place = record { whole = sym held; each = λ k d l. absurd (omega arith); place = place }

-- an item off the front
pub cutting_next : (stream item : List ℕ) (items : List (List ℕ)) (old new : Cut) → IsCutting stream items old → old.held ≡ framed_item item ++ new.held → IsItem item →
    new.offset ≡ past old.offset (length item + 2) → IsCutting stream (items ++ item ∷ []) new
cutting_next stream item items old new h front fits further =
    let more : flat_map framed_item items ++ framed_item item ≡ flat_map framed_item (items ++ item ∷ []) = flat_map_more framed_item [] items item in
    let long : length (flat_map framed_item (items ++ item ∷ [])) ≡ length (flat_map framed_item items) + (length item + 2) =
    ap length (sym more) ∙ length-append (flat_map framed_item items) (framed_item item) ∙ omega arith in
    record {
      whole = h.whole ∙ ap (λ b. flat_map framed_item items ++ b) front ∙ sym (append_assoc (flat_map framed_item items) (framed_item item) new.held) ∙ ap (λ b. b ++ new.held) more;
      each = All-push IsItem items item h.each fits;
      place = omega (arith, h.place, further, long);
    }

-- a piece behind
pub cutting_fed : (stream piece : List ℕ) (items : List (List ℕ)) (old new : Cut) → IsCutting stream items old → new.held ≡ old.held ++ piece →
    new.offset ≡ old.offset → IsCutting (stream ++ piece) items new
cutting_fed stream piece items old new h held same = record {
  whole = ap (λ b. b ++ piece) h.whole ∙ append_assoc (flat_map framed_item items) old.held piece ∙ ap (λ b. flat_map framed_item items ++ b) (sym held);
  each = h.each;
  place = same ∙ h.place;
}

-- the items are the only ones
pub one_splitting : (stream rest : List ℕ) (items : List (List ℕ)) → Splits stream items rest → items ≡ items_of stream
one_splitting stream rest items h = sym (items_of_split items rest h.each h.stuck) ∙ ap items_of (sym h.whole)

-- with no whole item left, the items are those of the stream
pub cutting_stuck : (stream : List ℕ) (items : List (List ℕ)) (cut : Cut) → IsCutting stream items cut → IsPartial cut.held ⊎ IsTooLong cut.held → items ≡ items_of stream
cutting_stuck stream items cut h stuck = one_splitting stream cut.held items record { whole = h.whole; each = h.each; stuck = stuck }

-- and so is the rest
pub one_rest : (stream : List ℕ) (items : List (List ℕ)) (one other : List ℕ) → Splits stream items one → Splits stream items other → one ≡ other
one_rest stream items one other h k = append_cancel_left (flat_map framed_item items) one other (sym h.whole ∙ k.whole)

-- a length that is too great stays so
pub too_long_more : (held more : List ℕ) → IsTooLong held → IsTooLong (held ++ more)
too_long_more held more h =
    let a : get_or (held ++ more) 0 0 ≡ get_or held 0 0 = get_or_append_left held more 0 0 (omega (arith, h.0)) in
    let b : get_or (held ++ more) 1 0 ≡ get_or held 1 0 = get_or_append_left held more 0 1 (omega (arith, h.0)) in
    (omega (arith, h.0, length-append held more), omega (arith, h.1, a, b))
