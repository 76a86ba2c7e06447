use denote.Param.Send.{IsSend, sendable}
use Rattle.settle_core.specs.contracts.worker.Worker as worker
use Rattle.node_threads.specs.contracts.leg.Done as done
use Rattle.node_threads.proofs.SendLemmas.{worker_send, done_send}
use Rattle.node_threads.proofs.leg.run_all.Goals as goal

pub map_vec-requires-send-J : goal.map_vec-requires-send-J
map_vec-requires-send-J g c κs within = let w : IsSend (worker.the_field).row = worker_send in search sendable depth 20

pub map_vec-requires-send-X : goal.map_vec-requires-send-X
map_vec-requires-send-X g c κs within = let d : IsSend (done.the_field).row = done_send in search sendable depth 20
