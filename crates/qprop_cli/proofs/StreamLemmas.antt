-- What stands in front of a stream, a stream with one frame more, and that a stream has one reading.
use Rattle.std.proofs.Common.{◌≡◌, ◌∙◌, sym, ap, refl, subst, ℕ, ◌+◌, ◌<◌, ◌≤◌, ◌≢◌, inl, inr, List, [], ◌∷◌, ◌++◌, length, take, drop, arith, append_assoc, append-nil, flat_map}
use Rattle.std.proofs.lemmas.List.{length-append, take_all, take_at, append_cancel_left, flat_map_more}
use Rattle.document_reading.specs.declared.refusal.Refusal.{Refusal}
use Rattle.wire_frame.specs.declared.frame.Frame.{Frame}
use Rattle.wire_frame.specs.declared.reason.FrameReason.{FrameReason}
use Rattle.wire_frame.specs.Frames.{FrameOf}
use Rattle.wire_frame.specs.Stream.{framed_item, size_at}
use Rattle.wire_frame.specs.Taking.{IsFrame, IsAtFront, IsBadFrame}
use Rattle.wire_frame.proofs.Items.{size_framed}
use Rattle.wire_frame.proofs.Told.{same_front, same_frame}
use Rattle.qprop_cli.specs.Commands.FrameLine.{frame_line}
use Rattle.qprop_cli.specs.Commands.Frames.{IsStream, HasFrames, BeginsWithFrame, IsFirstWrong, IsStreamRefusal}
use Rattle.qprop_cli.specs.Inside.FrameLines.{AddsLine}

-- ---- no frame

-- bytes that begin with no frame
pub no_bad : (item : List ℕ) (place : ℕ) (why : FrameReason) → IsBadFrame item place why → IsFrame item → ⊥
no_bad item place why bad f = bad.none (length item) (subst IsFrame (sym (take_all (length item) item (omega arith))) f)

-- bytes that go on behind their frame
pub no_longer : (item : List ℕ) (frame : Frame) (len : ℕ) → IsAtFront item frame len → len ≢ length item → IsFrame item → ⊥
no_longer item frame len front other f =
    let all : IsAtFront item f.0 (length item) = record { fits = omega arith; frame_of = subst (FrameOf f.0) (sym (take_all (length item) item (omega arith))) f.1 } in
    other (same_front item frame f.0 len (length item) front all).1

-- ---- no frame in front of a stream

front_size : (bytes : List ℕ) (b : BeginsWithFrame bytes) → size_at bytes ≡ length b.own
front_size bytes b = ap size_at b.whole ∙ size_framed b.own b.behind

front_length : (bytes : List ℕ) (b : BeginsWithFrame bytes) → length b.own + 2 ≤ length bytes
front_length bytes b = omega (arith, ap length b.whole, length-append b.own b.behind)

-- less than a length, and less than the item of that length
pub no_short : (bytes : List ℕ) → length bytes < 2 → BeginsWithFrame bytes → ⊥
no_short bytes short b = omega (arith, short, front_length bytes b)

pub no_part : (bytes : List ℕ) → length bytes < size_at bytes + 2 → BeginsWithFrame bytes → ⊥
no_part bytes short b = omega (arith, short, front_size bytes b, front_length bytes b)

-- one item stands in front
same_item : (a b x y : List ℕ) → framed_item a ++ x ≡ framed_item b ++ y → a ≡ b
same_item a b x y e =
    let size : length a ≡ length b = sym (size_framed a x) ∙ ap size_at e ∙ size_framed b y in
    sym (take_at a x (length a) refl) ∙ ap (λ bytes. take (length a) (drop 2 bytes)) e ∙ take_at b y (length a) (sym size)

-- an item that is no frame
pub no_item : (bytes item rest : List ℕ) → bytes ≡ framed_item item ++ rest → (IsFrame item → ⊥) → BeginsWithFrame bytes → ⊥
no_item bytes item rest whole none b =
    none (b.frame, subst (FrameOf b.frame) (same_item b.own item b.behind rest (sym b.whole ∙ whole)) b.frame_of)

-- ---- one frame more

-- one frame more behind a stream
stream_more : {front : List ℕ} {frames : List Frame} (own : List ℕ) (frame : Frame) → IsStream front frames → FrameOf frame own → IsStream (front ++ framed_item own) (frames ++ frame ∷ [])
stream_more own frame IsStream.ends is = subst (λ bytes. IsStream bytes (frame ∷ [])) (append-nil (framed_item own)) (IsStream.goes_on is IsStream.ends)
stream_more own frame (IsStream.goes_on {own = first_own} {rest = rest} {frame = first} {frames = frames} first_is later) is =
    subst (λ bytes. IsStream bytes (first ∷ (frames ++ frame ∷ []))) (sym (append_assoc (framed_item first_own) rest (framed_item own)))
    (IsStream.goes_on first_is (stream_more own frame later is))

-- so far the bytes are a stream of frames, with their lines, and what is left; the next frame has this number
pub record IsReadSoFar (bytes text left : List ℕ) (number : ℕ) : Type 0 where
  pub front : List ℕ
  pub frames : List Frame
  pub whole : bytes ≡ front ++ left
  pub stream : IsStream front frames
  pub lines : text ≡ flat_map frame_line frames
  pub number_is : number ≡ length frames + 1

pub read_none : (bytes text left : List ℕ) → text ≡ [] → left ≡ bytes → IsReadSoFar bytes text left 1
read_none bytes text left empty all = record { front = []; frames = []; whole = sym all; stream = IsStream.ends; lines = empty; number_is = refl }

pub read_more : (bytes text left new_text new_left : List ℕ) (number : ℕ) → IsReadSoFar bytes text left number → AddsLine left new_left text new_text →
    IsReadSoFar bytes new_text new_left (number + 1)
read_more bytes text left new_text new_left number so_far next =
    record {
      front = so_far.front ++ framed_item next.own;
      frames = so_far.frames ++ next.frame ∷ [];
      whole = so_far.whole ∙ ap (λ rest. so_far.front ++ rest) next.whole ∙ sym (append_assoc so_far.front (framed_item next.own) new_left);
      stream = stream_more next.own next.frame so_far.stream next.frame_of;
      lines = next.line ∙ ap (λ t. t ++ frame_line next.frame) so_far.lines ∙ flat_map_more frame_line [] so_far.frames next.frame;
      number_is = omega (arith, so_far.number_is, length-append so_far.frames (next.frame ∷ []));
    }

-- a frame and its length have two bytes at least
pub line_gone : (left new_left text new_text : List ℕ) → AddsLine left new_left text new_text → 2 + length new_left ≤ length left
line_gone left new_left text new_text next = omega (arith, ap length next.whole, length-append next.own new_left)

-- ---- one reading

-- nothing begins with no frame
nothing_begins : BeginsWithFrame [] → ⊥
nothing_begins b = omega (arith, front_length [] b)

-- two readings of some bytes, each up to where no frame stands, are one
one_reading : {a b : List ℕ} {f g : List Frame} (x y : List ℕ) → IsStream a f → IsStream b g → a ++ x ≡ b ++ y → (BeginsWithFrame x → ⊥) → (BeginsWithFrame y → ⊥) → (f ≡ g) × (x ≡ y)
one_reading x y IsStream.ends IsStream.ends e stuck other = (refl, e)
one_reading x y IsStream.ends (IsStream.goes_on {own = own} {rest = rest} {frame = frame} is later) e stuck other =
    absurd (stuck (record { frame = frame; own = own; behind = rest ++ y; frame_of = is; whole = e ∙ append_assoc (framed_item own) rest y }))
one_reading x y (IsStream.goes_on {own = own} {rest = rest} {frame = frame} is later) IsStream.ends e stuck other =
    absurd (other (record { frame = frame; own = own; behind = rest ++ x; frame_of = is; whole = sym e ∙ append_assoc (framed_item own) rest x }))
one_reading x y (IsStream.goes_on {own = a} {rest = ra} {frame = f} {frames = fs} f_is f_later) (IsStream.goes_on {own = b} {rest = rb} {frame = g} {frames = gs} g_is g_later) e stuck other =
    let spelled : framed_item a ++ (ra ++ x) ≡ framed_item b ++ (rb ++ y) = sym (append_assoc (framed_item a) ra x) ∙ e ∙ append_assoc (framed_item b) rb y in
    let own : a ≡ b = same_item a b (ra ++ x) (rb ++ y) spelled in
    let behind : ra ++ x ≡ rb ++ y = append_cancel_left (framed_item b) (ra ++ x) (rb ++ y) (ap (λ o. framed_item o ++ (ra ++ x)) (sym own) ∙ spelled) in
    let first : f ≡ g = (same_frame f g b b [] [] (subst (FrameOf f) own f_is) g_is refl).0 in
    let more = one_reading x y f_later g_later behind stuck other in
    (λ i. first i ∷ more.0 i, more.1)

pub one_stream : (bytes : List ℕ) (a b : List Frame) → IsStream bytes a → IsStream bytes b → a ≡ b
one_stream bytes a b p q = (one_reading [] [] p q refl nothing_begins nothing_begins).0

pub one_wrong : (bytes : List ℕ) (m n : ℕ) → IsFirstWrong bytes m → IsFirstWrong bytes n → m ≡ n
one_wrong bytes m n p q =
    p.number_is ∙ ap (λ frames. length frames + 1) (one_reading p.rest q.rest p.stream q.stream (sym p.whole ∙ q.whole) p.no_frame q.no_frame).0 ∙ sym q.number_is

stream_is_right : (bytes : List ℕ) (frames : List Frame) (number : ℕ) → IsStream bytes frames → IsFirstWrong bytes number → ⊥
stream_is_right bytes frames number p q = q.more (sym (one_reading [] q.rest p q.stream (append-nil bytes ∙ q.whole) nothing_begins q.no_frame).1)

pub stream_is_accepted : (bytes : List ℕ) (frames : List Frame) (refusal : Refusal) → HasFrames bytes frames → IsStreamRefusal bytes refusal → ⊥
stream_is_accepted bytes frames refusal p (inl long) = omega (arith, p.short, long.0)
stream_is_accepted bytes frames refusal p (inr wrong) = stream_is_right bytes frames refusal.line p.stream wrong.1
