-- The next frame of a stream is one, or wrong in one way, however the stream goes on.
use Rattle.std.proofs.Common.{◌≡◌, ◌∙◌, sym, ap, refl, subst, ℕ, ◌+◌, ◌≤◌, inl, inr, List, ◌++◌, length, take, drop, arith, append_assoc}
use Rattle.std.proofs.lemmas.List.{length-append, take_all, take_at, drop_at}
use Rattle.wire_frame.specs.declared.frame.Frame.{Frame}
use Rattle.wire_frame.specs.declared.reason.FrameReason.{FrameReason}
use Rattle.wire_frame.specs.Frames.{frame_bytes, FrameOf}
use Rattle.wire_frame.specs.Framing.{Unread, IsAnswered, IsNoFrame, IsWrongNext}
use Rattle.wire_frame.specs.Stream.{framed_item, size_at, IsFront, IsPartial}
use Rattle.wire_frame.specs.Taking.{IsAtFront}
use Rattle.wire_frame.proofs.Agreeing.{bad_once}
use Rattle.wire_frame.proofs.Cutting.{too_long_more}
use Rattle.wire_frame.proofs.Items.{size_framed}
use Rattle.wire_frame.proofs.Longest.{frame_length}
use Rattle.wire_frame.proofs.Told.{same_front}

-- the length in front is that of the item
front_size : (held item : List ℕ) → IsFront held item → size_at held ≡ length item
front_size held item f = ap size_at f.whole ∙ size_framed item (drop (length item + 2) held)

front_long : (held item : List ℕ) → IsFront held item → length item + 2 ≤ length held
front_long held item f = omega (arith, ap length f.whole, length-append item (drop (length item + 2) held))

-- one item stands in front
one_front : (held a b : List ℕ) → IsFront held a → IsFront held b → a ≡ b
one_front held a b p q =
    let size : length a ≡ length b = sym (front_size held a p) ∙ front_size held b q in
    sym (take_at a (drop (length a + 2) held) (length a) refl) ∙ ap (λ bs. take (length a) (drop 2 bs)) (sym p.whole ∙ q.whole) ∙ take_at b (drop (length b + 2) held) (length a) (sym size)

-- bytes that are not just a frame are so in one way
pub no_frame_once : (item : List ℕ) (m n : ℕ) (why other : FrameReason) → IsNoFrame item m why → IsNoFrame item n other → (m ≡ n) × (why ≡ other)
no_frame_once item m n why other (inl p) (inl q) = bad_once item m n why other p q
no_frame_once item m n why other (inl p) (inr q) = absurd (p.none n (q.frame, q.front.frame_of))
no_frame_once item m n why other (inr p) (inl q) = absurd (q.none m (p.frame, p.front.frame_of))
no_frame_once item m n why other (inr p) (inr q) = ((same_front item p.frame q.frame m n p.front q.front).1, p.rest ∙ sym q.rest)

-- and none that are one are so
pub frame_is_one : (item : List ℕ) (frame : Frame) (place : ℕ) (why : FrameReason) → FrameOf frame item → IsNoFrame item place why → ⊥
frame_is_one item frame place why is no_frame = go no_frame
  where
    all : FrameOf frame (take (length item) item)
    all = record { within = is.within; fits = is.fits; is = take_all (length item) item (omega arith) ∙ is.is }

    go : IsNoFrame item place why → ⊥
    go (inl bad) = bad.none (length item) (frame, all)
    go (inr longer) =
        let front : IsAtFront item frame (length item) = record { fits = omega arith; frame_of = all } in
        omega (arith, longer.longer, (same_front item longer.frame frame place (length item) longer.front front).1)

pub wrong_once : (held : List ℕ) (m n : ℕ) (why other : FrameReason) → IsWrongNext held m why → IsWrongNext held n other → (m ≡ n) × (why ≡ other)
wrong_once held m n why other (inl p) (inl q) = (p.start ∙ sym q.start, p.length_is ∙ sym q.length_is)
wrong_once held m n why other (inl p) (inr q) = absurd (omega (arith, p.too_long.1, front_size held q.item q.front, q.front.fits))
wrong_once held m n why other (inr p) (inl q) = absurd (omega (arith, q.too_long.1, front_size held p.item p.front, p.front.fits))
wrong_once held m n why other (inr p) (inr q) =
    let same : q.item ≡ p.item = one_front held q.item p.item q.front p.front in
    no_frame_once p.item m n why other p.no_frame (subst (λ (item : List ℕ). IsNoFrame item n other) same q.no_frame)

-- an item in front stays there
front_more : (held more item : List ℕ) → IsFront held item → IsFront (held ++ more) item
front_more held more item f =
    let rest = drop (length item + 2) held in
    let spelled : held ++ more ≡ framed_item item ++ (rest ++ more) = ap (λ bs. bs ++ more) f.whole ∙ append_assoc (framed_item item) rest more in
    record {
      whole = spelled ∙ ap (λ bs. framed_item item ++ bs)
          (sym (drop_at (framed_item item) (rest ++ more) (length item + 2) (omega arith)) ∙ ap (drop (length item + 2)) (sym spelled));
      fits = f.fits;
    }

pub wrong_stays : (held more : List ℕ) (place : ℕ) (why : FrameReason) → IsWrongNext held place why → IsWrongNext (held ++ more) place why
wrong_stays held more place why (inl p) = inl (record { too_long = too_long_more held more p.too_long; start = p.start; length_is = p.length_is })
wrong_stays held more place why (inr p) = inr (record { item = p.item; front = front_more held more p.item p.front; no_frame = p.no_frame })

pub wrong_is_whole : (held : List ℕ) (place : ℕ) (why : FrameReason) → IsWrongNext held place why → IsPartial held → ⊥
wrong_is_whole held place why (inl p) (inl short) = omega (arith, p.too_long.0, short)
wrong_is_whole held place why (inl p) (inr part) = omega (arith, p.too_long.1, part.0)
wrong_is_whole held place why (inr p) (inl short) = omega (arith, front_long held p.item p.front, short)
wrong_is_whole held place why (inr p) (inr part) = omega (arith, front_long held p.item p.front, front_size held p.item p.front, part.1)

pub wrong_is_none : (old new : Unread) (frame : Frame) (place : ℕ) (why : FrameReason) → IsAnswered old new frame → IsWrongNext old.held place why → ⊥
wrong_is_none old new frame place why a w =
    let bytes = frame_bytes frame in
    let rest : drop (length bytes + 2) old.held ≡ new.held = ap (drop (length bytes + 2)) a.whole ∙ drop_at (framed_item bytes) new.held (length bytes + 2) (omega arith) in
    let front : IsFront old.held bytes = record {
      whole = a.whole ∙ ap (λ bs. framed_item bytes ++ bs) (sym rest);
      fits = frame_length frame (a.frame_of.within, a.frame_of.fits);
    } in by w front
  where
    by : IsWrongNext old.held place why → IsFront old.held (frame_bytes frame) → ⊥
    by (inl p) front = omega (arith, p.too_long.1, front_size old.held (frame_bytes frame) front, front.fits)
    by (inr p) front =
        let same : p.item ≡ frame_bytes frame = one_front old.held p.item (frame_bytes frame) p.front front in
        frame_is_one p.item frame place why (record { within = a.frame_of.within; fits = a.frame_of.fits; is = same }) p.no_frame
