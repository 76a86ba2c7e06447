-- What one event makes of a node.
use Rattle.std.proofs.Common.{◌≡◌, ℕ, ◌≤◌, false, List, [], ◌∷◌, ◌++◌, length, Option, Some, refl, sym, ap, subst, ◌∙◌, arith}
use Rattle.std.proofs.lemmas.List.{append-nil, append_cancel_left}
use Rattle.propagation.specs.Stamps.{Stamps}
use Rattle.propagation.specs.Logs.{Emission, Entry as TheEntry, stamps_of}
use Rattle.propagation.specs.Logs.Entry.{Computed as TheComputed}
use Rattle.service_machine.specs.States.{Slot, Reader, State, all_told, raise}
use Rattle.service_machine.specs.Turning.{inputs}
use Rattle.service_machine.specs.Steps.{emission, after_computing, computed_log, reports, picks}
use Rattle.svc_graph.specs.declared.definition.Definition.{Definition}
use Rattle.svc_graph.specs.History.{meaning_of}
use Rattle.svc_value.specs.declared.value.Value.{Value}
use Rattle.node_core.specs.declared.entry.Entry.{Entry}
use Rattle.node_core.specs.Entries.{IsEntry, Extends, sent_entries}
use Rattle.node_core.specs.Outgoing.{Says}
use Rattle.node_core.specs.View.{NodeView, Grows, Logs, outgoing_in, told_all, AreCounted}

-- with more entries the slots stay counted
pub counted_more : {V : Type 0} (entries more : List Entry) (slots : List (Slot V)) → length entries ≤ length more → AreCounted entries slots → AreCounted more slots
counted_more entries more slots le was k s lt = omega (arith, le, was k s lt)

outgoing_sent : (outgoing : List (ℕ × List ℕ)) → outgoing_in (sent_entries outgoing) ≡ outgoing
outgoing_sent [] = refl
outgoing_sent (x ∷ outgoing) = ap (λ zs. (x.0, x.1) ∷ zs) (outgoing_sent outgoing)

-- an entry and the frames after it
pub grows_event : (old new : NodeView) (first : Entry) (said : TheEntry Value) (outgoing : List (ℕ × List ℕ)) (step target : List (TheEntry Value) → List (TheEntry Value)) →
    new.entries ≡ old.entries ++ first ∷ sent_entries outgoing → new.outbox ≡ old.outbox ++ outgoing → new.handed ≡ old.handed → new.roster ≡ old.roster → new.changes ≡ old.changes →
    IsEntry first said → outgoing_in (first ∷ sent_entries outgoing) ≡ outgoing_in (sent_entries outgoing) → Says outgoing step → ((log : List (TheEntry Value)) → step (said ∷ log) ≡ target log) → Grows old new target
grows_event old new first said outgoing step target entries outbox handed roster changes is own says same =
    record {
      more = first ∷ sent_entries outgoing;
      entries = entries;
      outbox = outbox ∙ ap (λ zs. old.outbox ++ zs) (sym (own ∙ outgoing_sent outgoing));
      handed = handed;
      roster = roster;
      changes = changes;
      says = λ log. (said, is, (let P : List (TheEntry Value) → Type 0 = λ l. Extends (said ∷ log) (sent_entries outgoing) l in subst P (same log) (says.each (said ∷ log))));
    }

-- the same, by the list of frames
pub logs : (old new : NodeView) (first : Entry) (before : List Entry) (waiting outgoing : List (ℕ × List ℕ)) →
    new.entries ≡ before ++ first ∷ sent_entries outgoing → before ≡ old.entries → new.outbox ≡ waiting ++ outgoing → waiting ≡ old.outbox → Logs first old new
logs old new first before waiting outgoing entries entries_were outbox outbox_was =
    record {
      sent = outgoing;
      entries = entries ∙ ap (λ (es : List Entry). es ++ first ∷ sent_entries outgoing) entries_were;
      outbox = outbox ∙ ap (λ (ps : List (ℕ × List ℕ)). ps ++ outgoing) outbox_was;
    }

-- and it is that by which the log grows
pub logs_grown : (old new : NodeView) (step : List (TheEntry Value) → List (TheEntry Value)) (first : Entry) (grows : Grows old new step) (logged : Logs first old new) → grows.more ≡ first ∷ sent_entries logged.sent
logs_grown old new step first grows logged = append_cancel_left old.entries grows.more (first ∷ sent_entries logged.sent) (sym grows.entries ∙ logged.entries)

-- nothing happens
pub grows_not : (old : NodeView) → Grows old old (λ log. log)
grows_not old = record { more = []; entries = sym (append-nil old.entries); outbox = sym (append-nil old.outbox); handed = refl; roster = refl; changes = refl; says = λ log. refl }

-- all readers are told the same
pub all_told_same : (S T : Stamps) (present : List (ℕ × ℕ)) → told_all S present ≡ all_told S (told_all T present)
all_told_same S T [] = refl
all_told_same S T (x ∷ present) = ap (λ (rs : List Reader). record { service = x.0; epoch = x.1; told = S } ∷ rs) (all_told_same S T present)

-- the state after a computation
pub computed_state : (s : State Value Definition) (d : Definition) (m : Emission Value) (last : Option (Emission Value)) (floor : Stamps) (present : List (ℕ × ℕ)) →
    s.definition ≡ Some d → m ≡ emission meaning_of s d → last ≡ Some m → floor ≡ raise s.floor m.stamps → s.readers ≡ told_all (stamps_of s.last) present →
    record s { due = false; readers = told_all (stamps_of last) present; floor = floor; last = last } ≡ after_computing meaning_of s s.definition
computed_state s d m last floor present current is after raised readers =
    let last_is : last ≡ Some (emission meaning_of s d) = after ∙ ap (λ (x : Emission Value). Some x) is in
    let floor_is : floor ≡ raise s.floor (emission meaning_of s d).stamps = raised ∙ ap (λ (x : Emission Value). raise s.floor x.stamps) is in
    let readers_is : told_all (stamps_of last) present ≡ all_told (emission meaning_of s d).stamps s.readers =
    ap (λ (o : Option (Emission Value)). told_all (stamps_of o) present) last_is ∙ all_told_same (emission meaning_of s d).stamps (stamps_of s.last) present ∙ ap (λ (rs : List Reader). all_told (emission meaning_of s d).stamps rs) (sym readers) in
    (λ i. record s { due = false; readers = readers_is i; floor = floor_is i; last = last_is i }) ∙ ap (λ (o : Option Definition). after_computing meaning_of s o) (sym current)

-- and the log
pub computed_step : (s : State Value Definition) (d : Definition) (m : Emission Value) (value : Value) (stamps : Stamps) (numbers : List ℕ) (readers : List Reader) (log : List (TheEntry Value)) →
    s.definition ≡ Some d → m ≡ emission meaning_of s d → value ≡ m.value → stamps ≡ m.stamps → numbers ≡ picks (inputs s) → readers ≡ s.readers →
    reports readers m (TheComputed value stamps numbers ∷ log) ≡ computed_log meaning_of s s.definition log
computed_step s d m value stamps numbers readers log current is v st n r =
    (λ i. reports (r i) (is i) (TheComputed ((v ∙ ap (λ (x : Emission Value). x.value) is) i) ((st ∙ ap (λ (x : Emission Value). x.stamps) is) i) (n i) ∷ log))
    ∙ ap (λ (o : Option Definition). computed_log meaning_of s o log) (sym current)
