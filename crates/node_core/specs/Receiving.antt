-- What a node hears of a sender: keys and values, which are put into the sender's slot.
use Rattle.std.specs.Prelude.{◌≡◌, ◌⊎◌, ℕ, ◌==◌, List, Option, position}
use Rattle.std.proofs.Common.{None}
use Rattle.propagation.specs.Logs.{Frame as TheFrame}
use Rattle.propagation.specs.Logs.Frame.{Sources as TheSources, Changed as TheChanged}
use Rattle.propagation.specs.Lists.{is_among}
use Rattle.service_machine.specs.Refusing.{Refusal, is_below, bad_key, refuse_put, refuse_sources, refuse_value}
use Rattle.service_machine.specs.States.{Slot, slot_at, with_slot, announced_to, put}
use Rattle.svc_graph.specs.declared.kind.Kind.{Kind}
use Rattle.svc_value.specs.declared.value.Value.{Value}
use Rattle.wire_frame.specs.declared.frame.Frame.TheVariants.{Subscribe as IsSubscribe, Unsubscribe as IsUnsubscribe}
use Rattle.wire_frame.specs.Frames.{FrameOf}
use Rattle.wire_frame.specs.Message.{IsMessage}
use Rattle.node_core.specs.declared.errors.TakeRefusal.{TakeRefusal}
use Rattle.node_core.specs.declared.errors.TakeRefusal.TheVariants.{Old}
use Rattle.node_core.specs.declared.received.Received.{Received}
use Rattle.node_core.specs.declared.received.Received.TheVariants.{Subscribe, Unsubscribe, Put}
use Rattle.node_core.specs.Ranks.{rank_in, typed_in}
use Rattle.node_core.specs.Taking.{IsOld, IsUnread, TellsOf}

-- the place of the first slot of the sender
abbrev pub place_in : {V : Type 0} → List (Slot V) → ℕ → Option ℕ
place_in slots p = position (λ slot. slot.sender == p) slots

-- the first test that fails of keys or of a value of the sender, if one does
abbrev pub failed_in : List Kind → ℕ → List (Slot Value) → ℕ → TheFrame Value → Option Refusal
failed_in roster id slots p (TheSources e ks) = refuse_sources (is_below (rank_in roster p) (rank_in roster id)) (is_among ks p) (bad_key (rank_in roster) p ks) (slot_at slots p).announced e
failed_in roster id slots p (TheChanged e v pairs) = refuse_value (is_below (rank_in roster p) (rank_in roster id)) (typed_in roster p v) (refuse_put (slot_at slots p).announced (slot_at slots p).carried e pairs)
failed_in roster id slots p said = None

-- these are the slots after the keys or the value of the sender
abbrev pub ArePut : ℕ → ℕ → TheFrame Value → List (Slot Value) → List (Slot Value) → Type 0
ArePut own p (TheSources e ks) old new = new ≡ with_slot (announced_to e ks (slot_at old p)) old
ArePut own p (TheChanged e v pairs) old new = new ≡ with_slot (put own e v pairs (slot_at old p)) old
ArePut own p said old new = ⊥

-- the keys or the value pass each test, and were put into the slot of the sender
pub record IsReceived (roster : List Kind) (id own p : ℕ) (said : TheFrame Value) (old new : List (Slot Value)) : Type 0 where
  pub tested : failed_in roster id old p said ≡ None
  pub slots : ArePut own p said old new

-- the bytes say this, and keys and values were put
abbrev pub Receives : List Kind → ℕ → ℕ → ℕ → List ℕ → List (Slot Value) → List (Slot Value) → Received → Type 0
Receives roster id own p bytes old new (Subscribe epoch) = FrameOf (IsSubscribe epoch) bytes × (new ≡ old)
Receives roster id own p bytes old new (Unsubscribe epoch) = FrameOf (IsUnsubscribe epoch) bytes × (new ≡ old)
Receives roster id own p bytes old new Put = (said : TheFrame Value) × IsMessage bytes said × IsReceived roster id own p said old new

-- the bytes are keys or a value of which that test failed, unless memory ran out
abbrev pub FailsTest : List Kind → ℕ → ℕ → List ℕ → List (Slot Value) → TakeRefusal → Type 0
FailsTest roster id p bytes slots error = (said : TheFrame Value) × IsMessage bytes said × TellsOf (failed_in roster id slots p said) error

-- why the bytes are not heard: they are not just one frame, or a value of version 1, or keys or a value that fails a test
abbrev pub IsRefusedFrame : List Kind → ℕ → ℕ → List ℕ → List (Slot Value) → TakeRefusal → Type 0
IsRefusedFrame roster id p bytes slots error = IsUnread bytes error ⊎ (((error ≡ Old) × IsOld bytes) ⊎ FailsTest roster id p bytes slots error)
