use Rattle.std.proofs.Common.{List, sym, subst}
use Rattle.settle_core.specs.declared.worker.Worker.{Worker}
use Rattle.settle_core.specs.Workers.{AllGoOn}
use Rattle.node_threads.proofs.LegLemmas.{all_go_on}
use Rattle.node_threads.proofs.leg.run_crew.Goals as goal

pub returns-clause-go_on : goal.returns-clause-go_on
returns-clause-go_on g c =
    let P : List Worker → Type 0 = λ workers. AllGoOn c.args.crew.workers.items workers in
    subst P (sym c.in_ok-workers.ensures) (all_go_on c.args.crew.workers.items c.in_ok-done.done.items c.in_ok-done.ensures.count c.in_ok-done.ensures.go_on)
