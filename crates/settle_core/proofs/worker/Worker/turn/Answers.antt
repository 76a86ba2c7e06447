use Rattle.std.proofs.Common.{refl}
use Rattle.settle_core.proofs.GoingLemmas.{goes_on_with, log_stays, turned_stays, turned_worker, turned_fewer}
use Rattle.settle_core.proofs.worker.Worker.turn.Goals as goal

pub invariant_of-self : goal.invariant_of-self
invariant_of-self c =
    let stays = turned_stays c.turned.result c.args.self.now.wired.node c.turned.new.node c.turned.ensures.state c.turned.ensures.log c.turned.ensures.err in (
      (c.args.self.now.wired.to_wide, (c.args.self.now.wired.from_wide, (c.args.self.now.wired.held_wide, tt))),
      (log_stays c.args.self.now.id c.args.self.now.wired.node c.turned.new.node stays c.args.self.now.log, (turned_worker c.args.self.now.wired _ c.args.self.now.kept (λ q. refl) (λ p. refl) (λ p. refl) c.turned.result c.turned.ensures.state c.turned.ensures.log c.turned.ensures.err, (c.args.self.now.ringed, tt))),
    )

pub returns-clause-goes_on : goal.returns-clause-goes_on
returns-clause-goes_on c =
    goes_on_with c.args.self.now _ refl (turned_stays c.turned.result c.args.self.now.wired.node c.turned.new.node c.turned.ensures.state c.turned.ensures.log c.turned.ensures.err) (λ q. refl) (λ p. refl)

pub returns-clause-fewer : goal.returns-clause-fewer
returns-clause-fewer c = turned_fewer c.turned.result c.args.self.now.id c.args.self.now.wired.node c.turned.new.node c.args.self.now.log c.turned.ensures.state
