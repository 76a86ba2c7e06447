use Rattle.std.proofs.Common.{refl}
use Rattle.settle_core.proofs.GoingLemmas.{goes_on_with, log_stays, did_stays, did_worker}
use Rattle.settle_core.proofs.worker.Worker.do_next.Goals as goal

pub invariant_of-self : goal.invariant_of-self
invariant_of-self c =
    let stays = did_stays c.do_next.result c.args.self.now.wired.node c.do_next.new.self c.do_next.ensures.state c.do_next.ensures.log c.do_next.ensures.err in (
      (c.args.self.now.wired.to_wide, (c.args.self.now.wired.from_wide, (c.args.self.now.wired.held_wide, tt))),
      (log_stays c.args.self.now.id c.args.self.now.wired.node c.do_next.new.self stays c.args.self.now.log, (did_worker c.args.self.now.wired _ c.args.self.now.kept (λ q. refl) (λ p. refl) (λ p. refl) c.do_next.result c.do_next.ensures.state c.do_next.ensures.log c.do_next.ensures.err, (c.args.self.now.ringed, tt))),
    )

pub returns-clause-goes_on : goal.returns-clause-goes_on
returns-clause-goes_on c =
    goes_on_with c.args.self.now _ refl (did_stays c.do_next.result c.args.self.now.wired.node c.do_next.new.self c.do_next.ensures.state c.do_next.ensures.log c.do_next.ensures.err) (λ q. refl) (λ p. refl)
