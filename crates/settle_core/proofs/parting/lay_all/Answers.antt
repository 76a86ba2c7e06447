use Rattle.std.proofs.Common.{List, ℕ, take, subst, arith}
use Rattle.settle_core.specs.Inside.Parting.{LaysAll}
use Rattle.settle_core.proofs.PartLemmas.{lays_more}
use Rattle.settle_core.proofs.TableLemmas.{has_item, take_next}
use Rattle.settle_core.proofs.parting.lay_all.Goals as goal

pub lay-requires-clause-other : goal.lay-requires-clause-other
lay-requires-clause-other c =
    omega (arith, c.requires.others c.other-item.result (has_item c.args.others.now c.loop-other.other-index c.other-item.result c.loop-other-test.true c.other-item.is), c.loop-other.invariant.wires.count)

pub loop-other-preserved : goal.loop-other-preserved
loop-other-preserved c =
    let P : List ℕ → Type 0 = λ ps. LaysAll c.args.id ps c.args.all.now.items c.lay.new.all.items in
    subst P (take_next c.args.others.now c.loop-other.other-index c.other-item.result c.loop-other-test.true c.other-item.is)
    (lays_more c.args.id c.other-item.result (take c.loop-other.other-index c.args.others.now) c.args.all.now.items c.loop-other.all.items c.lay.new.all.items c.loop-other.invariant c.in_ok-lay.ensures)
