use Rattle.std.proofs.Common.{◌<◌, length, arith}
use Rattle.svc_graph.proofs.Reached.{mark-more}
use Rattle.central_eval.proofs.reaching.mark_all.Goals as goal

pub loop-id-preserved : goal.loop-id-preserved
loop-id-preserved c =
    let small : c.id-item.result < length c.loop-id.marks = omega (arith, c.requires c.loop-id.id-index c.id-item.result c.loop-id-test.true, c.id-item.is, c.loop-id.auto.marks) in
    mark-more c.args.marks.now c.args.ids.now c.loop-id.id-index c.id-item.result c.place.result c.loop-id.marks c.loop-id-test.true c.id-item.is c.place.ensures small c.loop-id.invariant
