-- Nodes that calls made of new ones: what stays of the leg, how a leg begins, and that a node without a log is as its leg began.
use Rattle.std.proofs.Common.{◌≡◌, ℕ, suc, ◌≤◌, List, [], ◌∷◌, ◌++◌, length, true, false, refl, sym, ap, subst, ◌∙◌, arith, unwrap_or}
use Rattle.propagation.specs.Lists.{Has, without}
use Rattle.propagation.specs.Logs.{Entry as TheEntry, Frame, reply, sends}
use Rattle.propagation.specs.Logs.Frame.{Subscribe, Unsubscribe}
use Rattle.propagation.specs.Logs.Entry.{Did, Sent, Took as TheTook}
use Rattle.service_machine.specs.Draining.{is_work}
use Rattle.service_machine.specs.Openings.{new_state, opened_with, AtRest}
use Rattle.service_machine.specs.States.{Slot, State, epoch_in, front_is, slot_at, has_next}
use Rattle.service_machine.specs.Steps.{choice_of, done_log, done_log_with, done_with, rewired_log, sends_to, targets, took_log, turn_log}
use Rattle.service_machine.specs.Turning.{Choice, inputs}
use Rattle.service_machine.proofs.NodeTurns.{idle_turns_change_nothing}
use Rattle.service_machine.proofs.Table.{Chosen, choice-is}
use Rattle.service_machine.proofs.Table.Chosen.{to_advance, to_compute, to_empty, to_lag, to_still}
use Rattle.service_machine.proofs.Turned.{input-is}
use Rattle.svc_graph.specs.Book.{IsDefinitionOf}
use Rattle.svc_graph.specs.declared.definition.Change.{Change}
use Rattle.svc_graph.specs.declared.definition.Definition.{Definition}
use Rattle.svc_graph.specs.declared.kind.Kind.{Kind}
use Rattle.svc_graph.specs.History.{dependencies, meaning_of}
use Rattle.svc_value.specs.declared.value.Value.{Value}
use Rattle.node_core.specs.Coming.{coming}
use Rattle.node_core.specs.declared.entry.Entry.{Entry}
use Rattle.node_core.specs.Entries.{Extends}
use Rattle.node_core.specs.Legs.{StaysInLeg, OpensWith}
use Rattle.node_core.specs.Lives.{IsReached}
use Rattle.node_core.specs.Lives.IsReached.{made, opened, changed, received, advanced, delivered, closed}
use Rattle.node_core.specs.View.{NodeView, Grows}
use Rattle.node_core.proofs.LegLemmas.{legs_close, legs_open}
use Rattle.node_core.proofs.LivesLemmas.{reached_keeps}
use Rattle.settle_core.specs.Net.{unborn}
use Rattle.settle_core.specs.Opening.{opened_node}
use Rattle.settle_core.proofs.BeginLemmas.{begin_after}

-- ---- the same leg

pub stays_same : (old new : NodeView) → new ≡ old → StaysInLeg old new
stays_same old new is opening changes roster was = subst (λ (s : NodeView). OpensWith opening changes roster s) (sym is) was

pub stays_trans : (a b c : NodeView) → StaysInLeg a b → StaysInLeg b c → StaysInLeg a c
stays_trans a b c p q opening changes roster was = q opening changes roster (p opening changes roster was)

-- a node is what calls made of a new one, with this opening
pub reached_stays : (old new : NodeView) (opening : State Value Definition) → StaysInLeg old new → IsReached opening old → IsReached opening new
reached_stays old new opening stays was = (stays opening old.changes old.roster (record { reached = was; changes_are = refl; roster_is = refl })).reached

-- ---- how a leg begins

pub unborn_reached : (n : ℕ) → IsReached (new_state n) (unborn n)
unborn_reached n = made n refl

module _ (s : NodeView) (before : State Value Definition) (was : IsReached before s) (rest : AtRest s.state) (roster : List Kind) (changes : List Change)
    (accepted : (d : Definition) → Has (coming s.state.definition changes) d → IsDefinitionOf roster s.state.id d) where
  abbrev shut : NodeView
  shut = record s { state = opened_with [] s.state; changes = []; entries = []; handed = 0 }

  abbrev begun : NodeView
  begun = record shut { state = opened_with (coming shut.state.definition changes) shut.state; roster = roster; changes = changes }

  begun_reached : IsReached (opened_with (coming shut.state.definition changes) shut.state) begun
  begun_reached =
      (legs_open (opened_with [] s.state) shut begun changes roster (legs_close before s.changes s.roster s shut (record { reached = was; changes_are = refl; roster_is = refl }) rest refl).reached refl refl accepted refl).reached

  pub opened_reached : (opening : State Value Definition) × IsReached opening (opened_node roster changes s)
  opened_reached = (
    opened_with (coming shut.state.definition changes) shut.state,
    subst (λ (x : NodeView). IsReached (opened_with (coming shut.state.definition changes) shut.state) x) (begin_after s shut begun roster changes changes refl refl refl) begun_reached,
  )

-- ---- a node without a log

front_none : {A : Type 0} (xs ys : List A) → xs ++ ys ≡ [] → xs ≡ []
front_none [] ys e = refl
front_none (x ∷ xs) ys e = absurd (cc e)

rest_none : {A : Type 0} (xs ys : List A) → xs ++ ys ≡ [] → ys ≡ []
rest_none [] ys e = e
rest_none (x ∷ xs) ys e = absurd (cc e)

-- where nothing is due and no value waits, a turn has nothing to do
calm_choice : (s : State Value Definition) → s.due ≡ false → ((p : ℕ) → (slot_at s.slots p).queue ≡ []) → (c : Choice) → Chosen (inputs s) s.floor s.due c → is_work c ≡ false
calm_choice s calm none c (to_advance x has next) =
    let w = input-is s x has in
    let no_next : (y : Slot Value) → y.queue ≡ [] → has_next y ≡ false = λ y empty. empty_next y empty in
    absurd (let t : true ≡ false = sym next ∙ no_next x (ap (λ (y : Slot Value). y.queue) (sym w.1) ∙ none x.sender) in cc t)
  where
    empty_next : (y : Slot Value) → y.queue ≡ [] → has_next y ≡ false
    empty_next y empty = subst (λ q. front_is y.edge q ≡ false) (sym empty) refl
calm_choice s calm none c (to_compute full even due) = absurd (let t : true ≡ false = sym due ∙ calm in cc t)
calm_choice s calm none c (to_empty x has headless next) = refl
calm_choice s calm none c (to_lag x key has lags next) = refl
calm_choice s calm none c (to_still full even idle waits) = refl

sends_long : {V : Type 0} (f : ℕ → Frame V) (ps : List ℕ) (log : List (TheEntry V)) → length log ≤ length (sends f ps log)
sends_long f [] log = omega arith
sends_long f (p ∷ ps) log = let le : suc (length log) ≤ length (sends f ps (Sent p (f p) ∷ log)) = sends_long f ps (Sent p (f p) ∷ log) in omega arith

to_long : {V : Type 0} (r : ℕ) (fs : List (Frame V)) (log : List (TheEntry V)) → length log ≤ length (sends_to r fs log)
to_long r [] log = omega arith
to_long r (f ∷ fs) log = let le : length log ≤ length (sends_to r fs log) = to_long r fs log in omega arith

rewired_long : (edges : List (ℕ × ℕ)) (c : ℕ) (ps : List ℕ) → 1 ≤ length (rewired_log {V = Value} edges c ps [])
rewired_long edges c ps =
    let unsubscribe : ℕ → Frame Value = λ p. Unsubscribe (unwrap_or (epoch_in edges p) 0) in
    let subscribe : ℕ → Frame Value = λ p. Subscribe c in
    let first : List (TheEntry Value) = Did c ∷ [] in
    let middle : List (TheEntry Value) = sends unsubscribe (without (targets edges) ps) first in
    let one : length first ≤ length middle = sends_long unsubscribe (without (targets edges) ps) first in
    let two : length middle ≤ length (sends subscribe (without ps (targets edges)) middle) = sends_long subscribe (without ps (targets edges)) middle in
    omega (arith, one, two)

done_none : (s : State Value Definition) (left : List Definition) → done_log_with dependencies s left [] ≡ [] → done_with dependencies s left ≡ s
done_none s [] none = refl
done_none s (d ∷ rest) none =
    let count : length (rewired_log {V = Value} s.edges (suc s.own) (dependencies d) []) ≡ 0 = ap (λ (xs : List (TheEntry Value)). length xs) none in
    let long : 1 ≤ length (rewired_log {V = Value} s.edges (suc s.own) (dependencies d) []) = rewired_long s.edges (suc s.own) (dependencies d) in
    absurd (omega (arith, count, long))

took_some : (p : ℕ) (f : Frame Value) (s : State Value Definition) → took_log p f s [] ≡ [] → ⊥
took_some p f s none =
    let count : length (took_log p f s []) ≡ 0 = ap (λ (xs : List (TheEntry Value)). length xs) none in
    let le : length (TheTook p f ∷ []) ≤ length (took_log p f s []) = to_long p (reply f s.last) (TheTook p f ∷ []) in
    absurd (omega (arith, count, le))

-- an event that adds no entry makes no log longer
said_none : (old new : NodeView) (step : List (TheEntry Value) → List (TheEntry Value)) (grows : Grows old new step) → new.entries ≡ [] → (old.entries ≡ []) × (step [] ≡ [])
said_none old new step grows none =
    let both : old.entries ++ grows.more ≡ [] = sym grows.entries ∙ none in
    let more : grows.more ≡ [] = rest_none old.entries grows.more both in
    (front_none old.entries grows.more both, (let P : List Entry → Type 0 = λ es. Extends [] es (step []) in subst P more (grows.says [])))

pub begun_is : (opening : State Value Definition) (s : NodeView) → IsReached opening s → s.entries ≡ [] → s.state ≡ opening
begun_is opening s (made id is) none = ap (λ (x : NodeView). x.state) is
begun_is opening t (opened roster changes was over empty accepted is) none = ap (λ (x : NodeView). x.state) is
begun_is opening t (changed {s = s} was state grows) none =
    let said = said_none s t (done_log dependencies s.state) grows none in
    state ∙ done_none s.state s.state.left said.1 ∙ begun_is opening s was said.0
begun_is opening t (received {s = s} rank has_type p frame was ok state grows) none = absurd (took_some p frame s.state (said_none s t (took_log p frame s.state) grows none).1)
begun_is opening t (advanced {s = s} was state grows) none =
    let said = said_none s t (turn_log meaning_of s.state) grows none in
    let same : s.state ≡ opening = begun_is opening s was said.0 in
    let begins = (reached_keeps opening s was).1.keeps.opened.begins in
    let calm : is_work (choice_of opening) ≡ false = calm_choice opening begins.calm begins.none_waits (choice_of opening) (choice-is (inputs opening) opening.floor opening.due) in
    state ∙ (idle_turns_change_nothing Value Definition meaning_of s.state [] (subst (λ (x : State Value Definition). is_work (choice_of x) ≡ false) (sym same) calm)).0 ∙ same
begun_is opening t (delivered {s = s} was state entries) none = state ∙ begun_is opening s was (sym entries ∙ none)
begun_is opening t (closed was rest is) none = ap (λ (x : NodeView). x.state) is
