-- What is said of a node that took a frame, or refused it.
use Rattle.std.proofs.Common.{◌≡◌, ℕ, List, [], Option, None, Some, Result, Ok, Err, refl, sym, ap, subst, inl, inr}
use Rattle.std.specs.Prelude.{OnOk, IfErr}
use Rattle.std.proofs.lemmas.Result.{IfErr-weaker}
use Rattle.propagation.specs.Logs.{Emission, Frame as TheFrame, reply}
use Rattle.service_machine.specs.Refusing.{InLayout}
use Rattle.service_machine.specs.States.{Slot as AnySlot}
use Rattle.service_machine.specs.Steps.{after_taking, took_log, with_slots}
use Rattle.service_machine.proofs.Refusing.{refusals_are_exact}
use Rattle.svc_graph.specs.declared.definition.Definition.{Definition}
use Rattle.svc_value.specs.declared.value.Value.{Value}
use Rattle.wire_frame.specs.declared.frame.Frame.{Frame as AnyFrame}
use Rattle.wire_frame.specs.declared.frame.Frame.TheVariants.{Subscribe, Unsubscribe, Sources, Carried, Changed}
use Rattle.wire_frame.specs.Frames.{FrameOf, pairs}
use Rattle.wire_frame.specs.Message.{message, IsMessage}
use Rattle.node_core.specs.declared.errors.TakeRefusal.{TakeRefusal}
use Rattle.node_core.specs.declared.errors.TakeRefusal.TheVariants.{Frame, Old, Reader, NotBelow, NoSelf, KeyRank, WrongType, Slot, OutOfMemory}
use Rattle.node_core.specs.Ranks.{rank_in, typed_in}
use Rattle.node_core.specs.Receiving.{IsReceived, IsRefusedFrame, failed_in}
use Rattle.node_core.specs.Taking.{IsRefused, IsUnread, Takes, TellsOf, failed_test}
use Rattle.node_core.specs.View.{NodeView, Grows}

-- a message is within its layout
said_layout : (frame : AnyFrame) (bytes : List ℕ) (said : TheFrame Value) → FrameOf frame bytes → message frame ≡ Some said → InLayout said
said_layout (Subscribe epoch) bytes said frame_of is = let same : TheFrame.Subscribe epoch ≡ said = cc is in subst (λ (m : TheFrame Value). InLayout m) same tt
said_layout (Unsubscribe epoch) bytes said frame_of is = let same : TheFrame.Unsubscribe epoch ≡ said = cc is in subst (λ (m : TheFrame Value). InLayout m) same tt
said_layout (Sources announced) bytes said frame_of is =
    let same : TheFrame.Sources announced.epoch announced.keys ≡ said = cc is in subst (λ (m : TheFrame Value). InLayout m) same frame_of.within.rise
said_layout (Carried cargo) bytes said frame_of is = absurd (cc is)
said_layout (Changed delta) bytes said frame_of is =
    let same : TheFrame.Changed delta.epoch delta.value (pairs delta.clocks) ≡ said = cc is in subst (λ (m : TheFrame Value). InLayout m) same frame_of.within.rise

-- a frame that no test refuses was taken
pub takes : {E : Type 0} (result : Result (Unit {0}) E) (old new : NodeView) (p : ℕ) (bytes : List ℕ) (said : TheFrame Value) → IsMessage bytes said →
    OnOk result (failed_test old p said ≡ None) → OnOk result (new.state ≡ after_taking p said old.state) → OnOk result (Grows old new (took_log p said old.state)) → OnOk result (Takes p bytes old new)
takes (Err error) old new p bytes said is tested state log = tt
takes (Ok done) old new p bytes said is tested state log =
    record {
      said = said;
      message = is;
      tested = tested;
      accepted = (refusals_are_exact Value Definition (rank_in old.roster) (typed_in old.roster) p said old.state (said_layout is.frame bytes said is.frame_of is.is)).0 tested;
      state = state;
      log = log;
    }

-- what a test refuses is refused
refused_by : (node : NodeView) (p : ℕ) (bytes : List ℕ) (said : TheFrame Value) → IsMessage bytes said → (error : TakeRefusal) → TellsOf (failed_test node p said) error → IsRefused node p bytes error
refused_by node p bytes said is (Frame place why) tells = absurd (tells.0 (sym tells.1))
refused_by node p bytes said is Old tells = absurd (tells.0 (sym tells.1))
refused_by node p bytes said is (Reader error) tells = (said, is, tells)
refused_by node p bytes said is NotBelow tells = (said, is, tells)
refused_by node p bytes said is NoSelf tells = (said, is, tells)
refused_by node p bytes said is (KeyRank key) tells = (said, is, tells)
refused_by node p bytes said is WrongType tells = (said, is, tells)
refused_by node p bytes said is (Slot error) tells = (said, is, tells)
refused_by node p bytes said is OutOfMemory tells = tt

pub refuses : (result : Result (Unit {0}) (TakeRefusal × List ℕ)) (node : NodeView) (p : ℕ) (bytes : List ℕ) (said : TheFrame Value) → IsMessage bytes said →
    IfErr result (λ refused. TellsOf (failed_test node p said) refused.0) → IfErr result (λ refused. IsRefused node p bytes refused.0)
refuses result node p bytes said is tells =
    IfErr-weaker result (λ refused. TellsOf (failed_test node p said) refused.0) (λ refused. IsRefused node p bytes refused.0)
    (λ refused. refused_by node p bytes said is refused.0) tells

-- no refusal but out of memory tells of no test
pub tells_none : (error : TakeRefusal) → TellsOf None error → error ≡ OutOfMemory
tells_none (Frame place why) tells = absurd (tells.0 refl)
tells_none Old tells = absurd (tells.0 refl)
tells_none (Reader other) tells = absurd (tells.0 refl)
tells_none NotBelow tells = absurd (tells.0 refl)
tells_none NoSelf tells = absurd (tells.0 refl)
tells_none (KeyRank key) tells = absurd (tells.0 refl)
tells_none WrongType tells = absurd (tells.0 refl)
tells_none (Slot other) tells = absurd (tells.0 refl)
tells_none OutOfMemory tells = refl

-- ---- keys and values

-- what is heard passes each test
pub received_tested : (node : NodeView) (p : ℕ) (said : TheFrame Value) (new : List (AnySlot Value)) → IsReceived node.roster node.state.id node.state.own p said node.state.slots new → failed_test node p said ≡ None
received_tested node p (TheFrame.Subscribe e) new received = absurd received.slots
received_tested node p (TheFrame.Unsubscribe e) new received = absurd received.slots
received_tested node p (TheFrame.Sources e ks) new received = received.tested
received_tested node p (TheFrame.Changed e v pairs) new received = received.tested

-- the slots are those of the state that took it
pub received_state : (node : NodeView) (p : ℕ) (said : TheFrame Value) (new : List (AnySlot Value)) → IsReceived node.roster node.state.id node.state.own p said node.state.slots new → with_slots new node.state ≡ after_taking p said node.state
received_state node p (TheFrame.Subscribe e) new received = absurd received.slots
received_state node p (TheFrame.Unsubscribe e) new received = absurd received.slots
received_state node p (TheFrame.Sources e ks) new received = ap (λ (slots : List (AnySlot Value)). with_slots slots node.state) received.slots
received_state node p (TheFrame.Changed e v pairs) new received = ap (λ (slots : List (AnySlot Value)). with_slots slots node.state) received.slots

-- and it has no answer
pub received_quiet : (node : NodeView) (p : ℕ) (said : TheFrame Value) (new : List (AnySlot Value)) → IsReceived node.roster node.state.id node.state.own p said node.state.slots new → (last : Option (Emission Value)) → reply said last ≡ []
received_quiet node p (TheFrame.Subscribe e) new received last = absurd received.slots
received_quiet node p (TheFrame.Unsubscribe e) new received last = absurd received.slots
received_quiet node p (TheFrame.Sources e ks) new received last = refl
received_quiet node p (TheFrame.Changed e v pairs) new received last = refl

-- a test of the slot's is a test of the node's
untaken_tells : (node : NodeView) (p : ℕ) (said : TheFrame Value) (error : TakeRefusal) → TellsOf (failed_in node.roster node.state.id node.state.slots p said) error → TellsOf (failed_test node p said) error
untaken_tells node p (TheFrame.Subscribe e) error tells = subst (λ (why : TakeRefusal). TellsOf (failed_test node p (TheFrame.Subscribe e)) why) (sym (tells_none error tells)) tt
untaken_tells node p (TheFrame.Unsubscribe e) error tells = subst (λ (why : TakeRefusal). TellsOf (failed_test node p (TheFrame.Unsubscribe e)) why) (sym (tells_none error tells)) tt
untaken_tells node p (TheFrame.Sources e ks) error tells = tells
untaken_tells node p (TheFrame.Changed e v pairs) error tells = tells

-- bytes that are not heard are refused
pub not_received : (node : NodeView) (p : ℕ) (bytes : List ℕ) (error : TakeRefusal) → IsRefusedFrame node.roster node.state.id p bytes node.state.slots error → IsRefused node p bytes error
not_received node p bytes error (inl unread) = go error unread
  where
    go : (why : TakeRefusal) → IsUnread bytes why → IsRefused node p bytes why
    go (Frame place reason) none = none
    go Old none = absurd none
    go (Reader other) none = absurd none
    go NotBelow none = absurd none
    go NoSelf none = absurd none
    go (KeyRank key) none = absurd none
    go WrongType none = absurd none
    go (Slot other) none = absurd none
    go OutOfMemory none = tt
not_received node p bytes error (inr (inl old)) = subst (λ (why : TakeRefusal). IsRefused node p bytes why) (sym old.0) old.1
not_received node p bytes error (inr (inr untaken)) = refused_by node p bytes untaken.0 untaken.1 error (untaken_tells node p untaken.0 error untaken.2)
