-- What handing over to one service leaves.
use Rattle.std.specs.Prelude.{◌≡◌, ◌≢◌, ℕ, [], Some}
use Rattle.link_fifo.specs.Ends.{room}
use Rattle.link_fifo.specs.declared.piece_out.PieceOut.{PieceOut}
use Rattle.node_core.specs.Outbox.{waiting}
use Rattle.settle_core.specs.declared.worker.Worker.{Worker}
use Rattle.settle_core.specs.Workers.{node_of, end_to}

-- what is left for service q is left because no room is known at its ring end
abbrev pub IsHandedTo : ℕ → Worker → Type 0
IsHandedTo q worker = waiting q (node_of worker).outbox ≢ [] → (end : PieceOut) × (end_to q worker ≡ Some end) × (room end ≡ 0)

-- what there is for the other services is as it was, and so are their ring ends
pub record OthersKept (q : ℕ) (old new : Worker) : Type 0 where
  pub frames : (k : ℕ) → k ≢ q → waiting k (node_of new).outbox ≡ waiting k (node_of old).outbox
  pub ends : (k : ℕ) → k ≢ q → end_to k new ≡ end_to k old
