-- What a change makes of frames and slots.
use Rattle.std.specs.Prelude.{ℕ, ◌==◌, List, [], ◌∷◌, if◌then◌else◌}
use Rattle.std.proofs.Common.{None, unwrap_or}
use Rattle.propagation.specs.Lists.{without}
use Rattle.propagation.specs.Logs.{Entry as TheEntry, sends}
use Rattle.propagation.specs.Logs.Frame.{Subscribe, Unsubscribe}
use Rattle.service_machine.specs.Steps.{targets}
use Rattle.svc_value.specs.declared.value.Value.{Value}
use Rattle.service_machine.specs.States.{Slot, cut, epoch_in}

-- the slots without the first of a sender
abbrev pub left_without : {V : Type 0} → ℕ → List (Slot V) → List (Slot V)
left_without p [] = []
left_without p (slot ∷ rest) = if slot.sender == p then rest else slot ∷ left_without p rest

-- the slots, cut at the clock without an edge
abbrev pub cut_rest : {V : Type 0} → ℕ → List (Slot V) → List (Slot V)
cut_rest c [] = []
cut_rest c (slot ∷ rest) = cut None c slot ∷ cut_rest c rest

-- after a log, Unsubscribe to those that go and Subscribe to those that come
abbrev pub rewired_frames : List (ℕ × ℕ) → ℕ → List ℕ → List (TheEntry Value) → List (TheEntry Value)
rewired_frames edges c ps log = sends (λ p. Subscribe c) (without ps (targets edges)) (sends (λ p. Unsubscribe (unwrap_or (epoch_in edges p) 0)) (without (targets edges) ps) log)
