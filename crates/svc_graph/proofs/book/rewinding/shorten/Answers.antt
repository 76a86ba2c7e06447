use Rattle.svc_graph.proofs.Rewinding.{shorten_next, partly-all}
use Rattle.std.proofs.Common.{◌≡◌, ◌∙◌, length, arith}
use Rattle.svc_graph.proofs.book.rewinding.shorten.Goals as goal

pub loop-i-preserved : goal.loop-i-preserved
loop-i-preserved c =
    shorten_next c.args.histories.now c.loop-i.histories c.args.clocks.now c.loop-i.i c.index-clocks-i.result c.count-len.result c.index-histories-i.result c.truncate.new.self
    c.loop-i-test.true c.requires c.loop-i.invariant c.index-clocks-i.is c.count-len.ensures c.truncate.ensures

pub returns : goal.returns
returns c =
    let all : c.loop-i.i ≡ length c.args.histories.now = omega arith in
    c.loop-i.invariant ∙ partly-all c.args.histories.now c.args.clocks.now c.loop-i.i c.requires all
