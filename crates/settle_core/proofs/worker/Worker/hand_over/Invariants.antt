use Rattle.std.proofs.Common.{◌≡◌, ℕ, take}
use Rattle.propagation.specs.Lists.{Has}
use Rattle.settle_core.specs.Inside.Handing.{IsHandedTo}
use Rattle.settle_core.specs.Workers.{node_of, GoesOn}
use Rattle.settle_core.proofs.worker.Worker.hand_over.Given as goal

abbrev pub invariant-loop-place : goal.invariant-loop-place
invariant-loop-place l =
    GoesOn l.fn.self l.self × ((node_of l.self).state ≡ (node_of l.fn.self).state) × (l.self.peers.items ≡ l.fn.self.peers.items) × ((q : ℕ) → Has (take l.place l.fn.self.peers.items) q → IsHandedTo q l.self)
