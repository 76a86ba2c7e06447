-- What a taken frame makes of a node.
use Rattle.std.proofs.Common.{◌≡◌, ℕ, ◌<◌, ◌==◌, Bool, true, false, cond, not, List, [], ◌∷◌, ◌++◌, filter, length, Option, Some, None, refl, sym, ap, subst, ◌∙◌, arith, length-append}
use Rattle.propagation.specs.Stamps.{Stamps}
use Rattle.propagation.specs.Logs.{Emission, Frame as TheFrame, stamps_of, reply}
use Rattle.propagation.specs.Logs.Entry.{Took as TheTook}
use Rattle.service_machine.specs.States.{Slot, Reader, reads_in, dropped, epoch_in}
use Rattle.service_machine.specs.Steps.{sends_to, took_log, welcomed}
use Rattle.svc_value.specs.declared.value.Value.{Value}
use Rattle.wire_frame.specs.Message.{IsMessage}
use Rattle.node_core.specs.declared.entry.Entry.{Entry}
use Rattle.node_core.specs.declared.entry.Entry.TheVariants.{Took}
use Rattle.node_core.specs.Entries.{sent_entries}
use Rattle.node_core.specs.Outgoing.{Says}
use Rattle.node_core.specs.View.{NodeView, Grows, told_all, AreCounted}
use Rattle.node_core.proofs.EventLemmas.{counted_more, grows_event}

-- ---- readers that all were told the same

-- each reads under its epoch
pub reads_told : (S : Stamps) (present : List (ℕ × ℕ)) (q : ℕ) → reads_in (told_all S present) q ≡ epoch_in present q
reads_told S [] q = refl
reads_told S (x ∷ rest) q = ap (λ (o : Option ℕ). cond (x.0 == q) (Some x.1) o) (reads_told S rest q)

-- without one of them
pub dropped_told : (S : Stamps) (present : List (ℕ × ℕ)) (q : ℕ) → told_all S (filter (λ (pair : ℕ × ℕ). not (pair.0 == q)) present) ≡ dropped (told_all S present) q
dropped_told S [] q = refl
dropped_told S (x ∷ rest) q = go (x.0 == q) (dropped_told S rest q)
  where
    go : (b : Bool) → told_all S (filter (λ (pair : ℕ × ℕ). not (pair.0 == q)) rest) ≡ dropped (told_all S rest) q →
        told_all S (cond (not b) (x ∷ filter (λ (pair : ℕ × ℕ). not (pair.0 == q)) rest) (filter (λ (pair : ℕ × ℕ). not (pair.0 == q)) rest)) ≡
        cond b (dropped (told_all S rest) q) (record { service = x.0; epoch = x.1; told = S } ∷ dropped (told_all S rest) q)
    go true h = h
    go false h = ap (λ (rs : List Reader). record { service = x.0; epoch = x.1; told = S } ∷ rs) h

-- what a new one is told
welcomed_is : (last : Option (Emission Value)) → stamps_of last ≡ welcomed last
welcomed_is None = refl
welcomed_is (Some m) = refl

more_told : (S : Stamps) (present : List (ℕ × ℕ)) (q e : ℕ) → told_all S (present ++ (q, e) ∷ []) ≡ told_all S present ++ record { service = q; epoch = e; told = S } ∷ []
more_told S [] q e = refl
more_told S (x ∷ rest) q e = ap (λ (rs : List Reader). record { service = x.0; epoch = x.1; told = S } ∷ rs) (more_told S rest q e)

-- with a new one
pub came_told : (last : Option (Emission Value)) (present : List (ℕ × ℕ)) (q e : ℕ) →
    told_all (stamps_of last) (present ++ (q, e) ∷ []) ≡ told_all (stamps_of last) present ++ record { service = q; epoch = e; told = welcomed last } ∷ []
came_told last present q e =
    more_told (stamps_of last) present q e
    ∙ ap (λ (S : Stamps). told_all (stamps_of last) present ++ record { service = q; epoch = e; told = S } ∷ []) (welcomed_is last)

-- ---- the log

-- a taken frame and what it is answered with
pub grows_took : (old new : NodeView) (p : ℕ) (bytes : List ℕ) (said : TheFrame Value) (before : List Entry) (waiting outgoing : List (ℕ × List ℕ)) →
    new.entries ≡ before ++ Took p bytes ∷ sent_entries outgoing → before ≡ old.entries → new.outbox ≡ waiting ++ outgoing → waiting ≡ old.outbox → new.handed ≡ old.handed → new.roster ≡ old.roster → new.changes ≡ old.changes →
    IsMessage bytes said → Says outgoing (sends_to p (reply said old.state.last)) → Grows old new (took_log p said old.state)
grows_took old new p bytes said before waiting outgoing entries entries_were outbox outbox_was handed roster changes is says =
    grows_event old new (Took p bytes) (TheTook p said) outgoing (sends_to p (reply said old.state.last)) (took_log p said old.state)
    (entries ∙ ap (λ (es : List Entry). es ++ Took p bytes ∷ sent_entries outgoing) entries_were)
    (outbox ∙ ap (λ (ps : List (ℕ × List ℕ)). ps ++ outgoing) outbox_was)
    handed roster changes (said, is, refl) refl says (λ log. refl)

-- a frame without an answer
pub says_nothing : (p : ℕ) (said : TheFrame Value) (last : Option (Emission Value)) (outgoing : List (ℕ × List ℕ)) → outgoing ≡ [] → reply said last ≡ [] → Says outgoing (sends_to p (reply said last))
says_nothing p said last outgoing none quiet =
    let P : List (ℕ × List ℕ) → Type 0 = λ m. Says m (sends_to p (reply said last)) in
    subst P (sym none) (record { each = λ log. ap (λ (fs : List (TheFrame Value)). sends_to p fs log) quiet })

-- ---- slots

-- the log is longer
pub longer : (old before after : List Entry) (first : Entry) (rest : List Entry) → before ≡ old → after ≡ before ++ first ∷ rest → length old < length after
longer old before after first rest was is =
    let one : length before ≡ length old = ap (λ (es : List Entry). length es) was in
    let two : length after ≡ length (before ++ first ∷ rest) = ap (λ (es : List Entry). length es) is in
    omega (arith, one, two, length-append before (first ∷ rest))

-- and the same slots are counted
pub counted_longer : {V : Type 0} (old before after : List Entry) (first : Entry) (rest : List Entry) (slots : List (Slot V)) → before ≡ old → after ≡ before ++ first ∷ rest → AreCounted old slots → AreCounted after slots
counted_longer old before after first rest slots was is counted =
    let more = longer old before after first rest was is in
    counted_more old after slots (omega (arith, more)) counted
