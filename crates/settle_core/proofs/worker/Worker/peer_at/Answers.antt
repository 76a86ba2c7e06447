use Rattle.settle_core.proofs.PeerLemmas.{peer_below}
use Rattle.settle_core.proofs.worker.Worker.peer_at.Goals as goal

pub returns-clause-few : goal.returns-clause-few
returns-clause-few c = peer_below c.args.self.now.wired.to.items c.args.self.now.peers.items c.args.place c.index.result.now c.args.self.now.wired.to_wide c.args.self.now.ringed c.requires c.index.ensures
