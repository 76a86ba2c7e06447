-- A frame's bytes and its message tell each other.
use Rattle.std.proofs.Common.{◌≡◌, ◌∙◌, sym, ap, refl, ℕ, List, [], ◌∷◌, get_or, Some}
use Rattle.propagation.specs.Logs.{Frame as TheoryFrame}
use Rattle.svc_value.specs.declared.value.Value.{Value}
use Rattle.wire_frame.specs.declared.frame.Frame.{Frame}
use Rattle.wire_frame.specs.declared.frame.Frame.TheVariants.{Subscribe, Unsubscribe, Sources, Changed}
use Rattle.wire_frame.specs.declared.place_clock.PlaceClock.{PlaceClock}
use Rattle.wire_frame.specs.Frames.{frame_bytes, pairs}
use Rattle.wire_frame.specs.Message.{message, IsMessage}
use Rattle.wire_frame.proofs.Told.{same_frame}

-- pairs tell the places
same_pairs : (xs ys : List PlaceClock) → pairs xs ≡ pairs ys → xs ≡ ys
same_pairs [] [] e = refl
same_pairs [] (y ∷ ys) e = cc
same_pairs (x ∷ xs) [] e = cc
same_pairs (x ∷ xs) (y ∷ ys) e =
    let place : x.place ≡ y.place = ap (λ (ps : List (ℕ × ℕ)). (get_or ps 0 (0, 0)).0) e in
    let clock : x.clock ≡ y.clock = ap (λ (ps : List (ℕ × ℕ)). (get_or ps 0 (0, 0)).1) e in
    let rest : xs ≡ ys = same_pairs xs ys (cc) in
    λ i. record { place = place i; clock = clock i } ∷ rest i

same_message : (f g : Frame) (m : TheoryFrame Value) → message f ≡ Some m → message g ≡ Some m → f ≡ g
same_message (Subscribe x) (Subscribe y) m p q = ap Subscribe (cc)
same_message (Unsubscribe x) (Unsubscribe y) m p q = ap Unsubscribe (cc)
same_message (Sources a) (Sources b) m p q =
    let epoch : a.epoch ≡ b.epoch = cc in
    let keys : a.keys ≡ b.keys = cc in
    λ i. Sources (record { epoch = epoch i; keys = keys i })
same_message (Changed a) (Changed b) m p q =
    let epoch : a.epoch ≡ b.epoch = cc in
    let value : a.value ≡ b.value = cc in
    let clocks : a.clocks ≡ b.clocks = same_pairs a.clocks b.clocks (cc) in
    λ i. Changed (record { epoch = epoch i; value = value i; clocks = clocks i })
same_message f g m p q = absurd (cc)

pub one_message : (bytes : List ℕ) (m n : TheoryFrame Value) → IsMessage bytes m → IsMessage bytes n → m ≡ n
one_message bytes m n p q =
    let same : p.frame ≡ q.frame = (same_frame p.frame q.frame bytes bytes [] [] p.frame_of q.frame_of refl).0 in
    let both : Some m ≡ Some n = sym p.is ∙ ap message same ∙ q.is in cc

pub one_spelling : (a b : List ℕ) (m : TheoryFrame Value) → IsMessage a m → IsMessage b m → a ≡ b
one_spelling a b m p q = p.frame_of.is ∙ ap frame_bytes (same_message p.frame q.frame m p.is q.is) ∙ sym q.frame_of.is
