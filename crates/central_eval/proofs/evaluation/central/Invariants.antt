use Rattle.propagation.specs.History.{now}
use Rattle.central_eval.proofs.Evaluating.{Progress}
use Rattle.svc_graph.specs.History.{theory}
use Rattle.central_eval.proofs.evaluation.central.Given as goal

abbrev pub invariant-loop-id : goal.invariant-loop-id
invariant-loop-id l = Progress l.book (now (theory l.book)) l.id-items l.id-index l.values.items
