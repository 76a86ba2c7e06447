use Rattle.std.proofs.Common.{◌<◌}
use Rattle.settle_core.proofs.MarkLemmas.{none_set, none_before}
use Rattle.settle_core.proofs.links.next_bit.Goals as goal

pub returns-then-rest-eq0-clause-skipped : goal.returns-then-rest-eq0-clause-skipped
returns-then-rest-eq0-clause-skipped c = λ i ge less. none_set c.args.word c.args.from c.if-rest-eq0.true i ge

pub returns-clause-skipped : goal.returns-clause-skipped
returns-clause-skipped c =
    let fits : c.args.word < 18446744073709551616 = c.ranges.word.fits in
    λ i ge less. none_before c.args.word c.args.from fits c.if-rest-eq0.false i ge less
