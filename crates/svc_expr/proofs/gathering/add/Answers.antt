use Rattle.std.proofs.Common.{arith}
use Rattle.svc_expr.proofs.NameLemmas.{filled}
use Rattle.svc_expr.proofs.gathering.add.Goals as goal

pub returns-then-count-eq-MAX_NAMES-clause-added : goal.returns-then-count-eq-MAX_NAMES-clause-added
returns-then-count-eq-MAX_NAMES-clause-added c = λ more. filled c.args.names.now c.args.name.now more (omega arith)
