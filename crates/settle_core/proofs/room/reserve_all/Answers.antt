use Rattle.std.proofs.Common.{◌≡◌, ◌<◌, ℕ, List, arith, take, length, subst}
use Rattle.service_machine.specs.Steps.{targets}
use Rattle.settle_core.specs.Net.{place_of}
use Rattle.settle_core.proofs.TableLemmas.{Reserved, reserved_next, targets_next, has_target}
use Rattle.settle_core.proofs.room.reserve_all.Goals as goal

pub reserve-requires : goal.reserve-requires
reserve-requires c =
    let less : place_of c.edge-item.result.0 c.args.sender < length c.args.links.now.items = c.requires c.edge-item.result.0 (has_target c.args.to.now c.loop-edge.edge-index c.edge-item.result c.loop-edge-test.true c.edge-item.is) in
    let same : length c.loop-edge.links.items ≡ length c.args.links.now.items = c.loop-edge.invariant.same.count in omega arith

pub loop-edge-preserved : goal.loop-edge-preserved
loop-edge-preserved c =
    let P : List ℕ → Type 0 = λ ts. Reserved ts c.args.sender c.args.links.now.items c.reserve.new.links.items in
    subst P (targets_next c.args.to.now c.loop-edge.edge-index c.edge-item.result c.loop-edge-test.true c.edge-item.is)
    (reserved_next (targets (take c.loop-edge.edge-index c.args.to.now)) c.edge-item.result.0 c.args.sender c.args.links.now.items c.loop-edge.links.items c.reserve.new.links.items c.loop-edge.invariant
    c.in_ok-reserve.ensures.room c.in_ok-reserve.ensures.same)
