use Rattle.std.proofs.Common.{◌≡◌}
use Rattle.service_machine.specs.Draining.{turns_left}
use Rattle.settle_core.specs.Workers.{node_of, GoesOn}
use Rattle.node_threads.proofs.turning.turn_all.Given as goal

abbrev pub invariant-loop : goal.invariant-loop
invariant-loop g l = GoesOn l.fn.worker l.worker × ((node_of l.worker).state.left ≡ (node_of l.fn.worker).state.left)

abbrev pub decreases-loop : goal.decreases-loop
decreases-loop g l = turns_left (node_of l.worker).state
