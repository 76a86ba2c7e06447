-- What is sent is short, since each frame is.
use Rattle.std.proofs.Common.{◌≡◌, ℕ, ◌≤◌, ◌==◌, Bool, true, false, cond, List, [], ◌∷◌, ◌++◌, length, sym, ap, subst, arith}
use Rattle.std.proofs.lemmas.List.Elements.{All-nil, All-cons, All-head, All-tail, All-append}
use Rattle.propagation.specs.Logs.{Frame as TheFrame, Entry as TheEntry}
use Rattle.svc_value.specs.declared.value.Value.{Value}
use Rattle.wire_frame.specs.Message.{IsMessage}
use Rattle.wire_frame.proofs.Longest.{frame_length}
use Rattle.node_core.specs.declared.entry.Entry.{Entry}
use Rattle.node_core.specs.Entries.{Extends, sent_entries, sent_to}
use Rattle.node_core.specs.Outbox.{waiting, AreShort}
use Rattle.node_core.specs.Outgoing.{Says}
use Rattle.node_core.specs.View.{IsLastOut}
use Rattle.node_core.proofs.PostedLemmas.{sent_more}

abbrev IsShort : List ℕ → Type 0
IsShort frame = length frame ≤ 585

-- a message is a frame
short_message : (bytes : List ℕ) (said : TheFrame Value) → IsMessage bytes said → length bytes ≤ 585
short_message bytes said is = omega (arith, ap length is.frame_of.is, frame_length is.frame (is.frame_of.within, is.frame_of.fits))

-- frames that are sent as entries say are short
short_sent : (q : ℕ) (outgoing : List (ℕ × List ℕ)) (log longer : List (TheEntry Value)) → Extends log (sent_entries outgoing) longer → AreShort (waiting q outgoing)
short_sent q [] log longer is = All-nil IsShort
short_sent q (x ∷ outgoing) log longer (said, (frame, message, what), is) = go (x.0 == q) (short_sent q outgoing (said ∷ log) longer is)
  where
    go : (b : Bool) → AreShort (waiting q outgoing) → AreShort (cond b (x.1 ∷ waiting q outgoing) (waiting q outgoing))
    go true h = All-cons IsShort x.1 (waiting q outgoing) (short_message x.1 frame message) h
    go false h = h

pub says_short : (outgoing : List (ℕ × List ℕ)) (step : List (TheEntry Value) → List (TheEntry Value)) → Says outgoing step → (q : ℕ) → AreShort (waiting q outgoing)
says_short outgoing step says q = short_sent q outgoing [] (step []) (says.each [])

-- where there are none
pub short_none : (outgoing : List (ℕ × List ℕ)) → outgoing ≡ [] → (q : ℕ) → AreShort (waiting q outgoing)
short_none outgoing none q = let P : List (ℕ × List ℕ) → Type 0 = λ frames. AreShort (waiting q frames) in subst P (sym none) (All-nil IsShort)

-- what one more event sends is short
pub short_more : (entries : List Entry) (outgoing : List (ℕ × List ℕ)) (first : Entry) → ((p : ℕ) → sent_to p (first ∷ []) ≡ []) → ((p : ℕ) → AreShort (waiting p outgoing)) → ((p : ℕ) → AreShort (sent_to p entries)) →
    (q : ℕ) → AreShort (sent_to q ((entries ++ first ∷ []) ++ sent_entries outgoing))
short_more entries outgoing first none short was q =
    let P : List (List ℕ) → Type 0 = λ frames. AreShort frames in
    subst P (sym (sent_more q entries outgoing first none)) (All-append IsShort (sent_to q entries) (waiting q outgoing) (was q) (short q))

-- equal entries are short alike
pub short_same : (old new : List Entry) → new ≡ old → ((q : ℕ) → AreShort (sent_to q old)) → (q : ℕ) → AreShort (sent_to q new)
short_same old new same was q = let P : List Entry → Type 0 = λ entries. AreShort (sent_to q entries) in subst P (sym same) (was q)

short_among : (gone : List (List ℕ)) (frame : List ℕ) (rest : List (List ℕ)) → AreShort (gone ++ frame ∷ rest) → length frame ≤ 585
short_among [] frame rest h = All-head IsShort frame rest h
short_among (x ∷ gone) frame rest h = short_among gone frame rest (All-tail IsShort x (gone ++ frame ∷ rest) h)

-- and so is the last that was handed over
pub short_out : (q : ℕ) (frame : List ℕ) (entries : List Entry) (outbox : List (ℕ × List ℕ)) → IsLastOut q frame entries outbox → ((p : ℕ) → AreShort (sent_to p entries)) → length frame ≤ 585
short_out q frame entries outbox last short = let P : List (List ℕ) → Type 0 = λ frames. AreShort frames in short_among last.0 frame (waiting q outbox) (subst P last.1 (short q))
