-- The bytes of a frame tell it, and what is read is what the definitions say.
use Rattle.std.proofs.Common.{◌≡◌, ◌∙◌, sym, ap, refl, subst, ℕ, suc, inl, inr, List, [], ◌++◌, length, get_or, take, drop, min, arith, append-nil}
use Rattle.std.proofs.lemmas.Bool.{cases_lt}
use Rattle.std.proofs.lemmas.List.{length-take, length-take-le, take-append-drop, take-append-le, take_at, take-take, take_all, get_or_default, append_cancel_left}
use Rattle.wire_frame.specs.declared.errors.FrameError.{FrameError}
use Rattle.wire_frame.specs.declared.errors.FrameError.TheVariants as error
use Rattle.wire_frame.specs.declared.frame.Frame.{Frame}
use Rattle.wire_frame.specs.declared.frame.Frame.TheVariants.{Subscribe, Unsubscribe, Sources, Carried, Changed}
use Rattle.wire_frame.specs.declared.reason.FrameReason.{FrameReason}
use Rattle.wire_frame.specs.declared.reason.FrameReason.TheVariants.{Short, Epoch}
use Rattle.wire_frame.specs.Bodies.{counted_items, valued, announced_body, cargo_body, delta_body, of_announced, of_cargo, of_delta, frame_part}
use Rattle.wire_frame.specs.Fields.{frame_fields}
use Rattle.wire_frame.specs.Frames.{frame_bytes, FrameOf}
use Rattle.wire_frame.specs.Parts.{IsWrong, Stands, Fails}
use Rattle.wire_frame.specs.Runs.{key_items, clock_items, place_items}
use Rattle.wire_frame.specs.Taking.{IsFrame, IsAtFront, IsBadFrame, IsRefused}
use Rattle.wire_frame.proofs.Counting.{keys_have, clocks_have, places_have, counted-one_way, counted-fields, under-one_way, under-fields, valued-one_way, valued-fields}
use Rattle.wire_frame.proofs.Digits.{clock-one_way}
use Rattle.wire_frame.proofs.Parts.{OneWay, EachHasField}
use Rattle.wire_frame.proofs.Whole.{announced_good, cargo_good, delta_good}

announced-one_way : OneWay announced_body
announced-one_way = under-one_way (counted_items key_items 1) (counted-one_way key_items 1 keys_have)

cargo-one_way : OneWay cargo_body
cargo-one_way = under-one_way (valued (counted_items clock_items 1)) (valued-one_way (counted_items clock_items 1) (counted-one_way clock_items 1 clocks_have))

delta-one_way : OneWay delta_body
delta-one_way = under-one_way (valued (counted_items place_items 0)) (valued-one_way (counted_items place_items 0) (counted-one_way place_items 0 places_have))

-- no frame's bytes begin another's
pub frame-one_way : OneWay frame_part
frame-one_way (Subscribe x) (Subscribe y) s t good_x good_y e = ap Subscribe (clock-one_way Epoch x y s t good_x good_y (ap (drop 1) e))
frame-one_way (Unsubscribe x) (Unsubscribe y) s t good_x good_y e = ap Unsubscribe (clock-one_way Epoch x y s t good_x good_y (ap (drop 1) e))
frame-one_way (Sources a) (Sources b) s t good_x good_y e =
    let same = announced-one_way (of_announced a) (of_announced b) s t (announced_good a good_x) (announced_good b good_y) (ap (drop 1) e) in
    λ i. Sources (record { epoch = (same i).0; keys = (same i).1.1 })
frame-one_way (Carried a) (Carried b) s t good_x good_y e =
    let same = cargo-one_way (of_cargo a) (of_cargo b) s t (cargo_good a good_x) (cargo_good b good_y) (ap (drop 1) e) in
    λ i. Carried (record { epoch = (same i).0; value = (same i).1.0; clocks = (same i).1.1.1 })
frame-one_way (Changed a) (Changed b) s t good_x good_y e =
    let same = delta-one_way (of_delta a) (of_delta b) s t (delta_good a good_x) (delta_good b good_y) (ap (drop 1) e) in
    λ i. Changed (record { epoch = (same i).0; value = (same i).1.0; clocks = (same i).1.1.1 })
frame-one_way f g s t good_x good_y e = absurd (omega (arith, ap (λ bs. get_or bs 0 0) e))

pub frame-fields : EachHasField frame_part
frame-fields (Subscribe x) = refl
frame-fields (Unsubscribe x) = refl
frame-fields (Sources a) = ap suc (under-fields (counted_items key_items 1) (counted-fields key_items 1 keys_have) (of_announced a))
frame-fields (Carried a) = ap suc (under-fields (valued (counted_items clock_items 1)) (valued-fields (counted_items clock_items 1) (counted-fields clock_items 1 clocks_have)) (of_cargo a))
frame-fields (Changed a) = ap suc (under-fields (valued (counted_items place_items 0)) (valued-fields (counted_items place_items 0) (counted-fields place_items 0 places_have)) (of_delta a))

-- what stands in front is the frame
pub front_of : (bytes : List ℕ) (frame : Frame) (to : ℕ) → Stands frame_part frame bytes 0 to → IsAtFront bytes frame to
front_of bytes frame to s = record {
  fits = s.within;
  frame_of = record { within = s.good.0; fits = s.good.1; is = ap (take to) s.is ∙ take_at (frame_bytes frame) (drop to bytes) to (omega (arith, s.end)) };
}

-- a frame that is a front of the bytes is the one that goes wrong, or goes on further than it
no_front : (bytes : List ℕ) (place : ℕ) (why : FrameReason) → IsWrong frame_part bytes place why → (n : ℕ) → IsFrame (take n bytes) → ⊥
no_front bytes place why w n f =
    let m = length (frame_bytes f.0) in
    let is : take n bytes ≡ frame_bytes f.0 = f.1.is in
    let long : m ≡ min n (length bytes) = ap length (sym is) ∙ length-take n bytes in
    elim (cases_lt place m) [
      | inl inside ↦ w.end (omega arith) f.0 (f.1.within, f.1.fits) (ap (take (suc place)) (sym is) ∙ take-take (suc place) n bytes (omega arith))
      | inr past ↦
          let front : frame_bytes f.0 ≡ take m (frame_bytes w.like) =
          sym (take_all m (frame_bytes f.0) (omega arith)) ∙ ap (take m) (sym is) ∙ take-take m n bytes (omega arith)
          ∙ sym (take-take m place bytes past) ∙ ap (take m) (sym w.begun) ∙ take-take m place (frame_bytes w.like) past in
          let same : w.like ≡ f.0 = frame-one_way w.like f.0 [] (drop m (frame_bytes w.like)) w.good (f.1.within, f.1.fits)
          (append-nil (frame_bytes w.like) ∙ sym (take-append-drop m (frame_bytes w.like)) ∙ ap (λ bs. bs ++ drop m (frame_bytes w.like)) (sym front)) in
          omega (arith, w.more, past, ap (λ (g : Frame). length (frame_bytes g)) same)
    ]

-- a frame that goes wrong is a bad one
bad_of : (bytes : List ℕ) (place : ℕ) (why : FrameReason) → IsWrong frame_part bytes place why → IsBadFrame bytes place why
bad_of bytes place why w =
    let spelled : take place bytes ++ drop place (frame_bytes w.like) ≡ frame_bytes w.like = ap (λ bs. bs ++ drop place (frame_bytes w.like)) (sym w.begun) ∙ take-append-drop place (frame_bytes w.like) in
    let this : FrameOf w.like (take place bytes ++ drop place (frame_bytes w.like)) = record { within = w.good.0; fits = w.good.1; is = spelled } in
    let front : length (take place bytes) ≡ place = length-take-le place bytes w.within in
    record {
      none = no_front bytes place why w;
      at = record {
        within = w.within;
        begins = record { rest = drop place (frame_bytes w.like); member = (w.like, this) };
        longest = λ n further there b.
            w.end (omega arith) b.member.0 (b.member.1.within, b.member.1.fits)
            (ap (take (suc place)) (sym b.member.1.is) ∙ take-append-le (suc place) (take n bytes) b.rest (omega (arith, length-take n bytes)) ∙ take-take (suc place) n bytes (omega arith));
      };
      short = w.short;
      field = λ l. record {
        frame = w.like;
        rest = drop place (frame_bytes w.like);
        frame_of = this;
        there = omega (arith, front, w.more, frame-fields w.like);
        field_is = ap (λ k. get_or (frame_fields w.like) k why) front ∙ get_or_default (frame_fields w.like) place why Short (omega (arith, w.more, frame-fields w.like)) ∙ w.field l;
      };
    }

pub refused_of : (bytes : List ℕ) (e : FrameError) → Fails frame_part bytes 0 e → IsRefused bytes e
refused_of bytes (error.Bad place why) w =
    let at : w.0 ≡ place = omega (arith, w.1) in
    subst (λ n. IsBadFrame bytes n why) at (bad_of bytes w.0 why w.2)
refused_of bytes error.OutOfMemory w = tt

-- ---- laws

pub same_frame : (f g : Frame) (a b x y : List ℕ) → FrameOf f a → FrameOf g b → a ++ x ≡ b ++ y → (f ≡ g) × (a ≡ b) × (x ≡ y)
same_frame f g a b x y p q e =
    let spelled : frame_bytes f ++ x ≡ frame_bytes g ++ y = ap (λ bs. bs ++ x) (sym p.is) ∙ e ∙ ap (λ bs. bs ++ y) q.is in
    let same : f ≡ g = frame-one_way f g x y (p.within, p.fits) (q.within, q.fits) spelled in
    let bytes : a ≡ b = p.is ∙ ap frame_bytes same ∙ sym q.is in
    (same, bytes, append_cancel_left b x y (ap (λ bs. bs ++ x) (sym bytes) ∙ e))

pub same_front : (bytes : List ℕ) (f g : Frame) (m n : ℕ) → IsAtFront bytes f m → IsAtFront bytes g n → (f ≡ g) × (m ≡ n)
same_front bytes f g m n p q =
    let same = same_frame f g (take m bytes) (take n bytes) (drop m bytes) (drop n bytes) p.frame_of q.frame_of (take-append-drop m bytes ∙ sym (take-append-drop n bytes)) in
    (same.0, sym (length-take-le m bytes p.fits) ∙ ap length same.1 ∙ length-take-le n bytes q.fits)
