use Rattle.std.proofs.Common.{◌≡◌, ◌<◌, ℕ, List, arith, take, length, subst}
use Rattle.settle_core.specs.Net.{place_of}
use Rattle.settle_core.proofs.TableLemmas.{Reserved, reserved_next, take_next, has_item}
use Rattle.settle_core.proofs.room.reserve_each.Goals as goal

pub reserve-requires : goal.reserve-requires
reserve-requires c =
    let less : place_of c.id-item.result c.args.sender < length c.args.links.now.items = c.requires c.id-item.result (has_item c.args.to.now c.loop-id.id-index c.id-item.result c.loop-id-test.true c.id-item.is) in
    let same : length c.loop-id.links.items ≡ length c.args.links.now.items = c.loop-id.invariant.same.count in omega arith

pub loop-id-preserved : goal.loop-id-preserved
loop-id-preserved c =
    let P : List ℕ → Type 0 = λ ts. Reserved ts c.args.sender c.args.links.now.items c.reserve.new.links.items in
    subst P (take_next c.args.to.now c.loop-id.id-index c.id-item.result c.loop-id-test.true c.id-item.is)
    (reserved_next (take c.loop-id.id-index c.args.to.now) c.id-item.result c.args.sender c.args.links.now.items c.loop-id.links.items c.reserve.new.links.items c.loop-id.invariant
    c.in_ok-reserve.ensures.room c.in_ok-reserve.ensures.same)
