use Rattle.std.proofs.Common.{◌≡◌, sym, ◌<◌, [], length, arith}
use Rattle.std.proofs.lemmas.Bool.{eqb-false}
use Rattle.thread_tests.proofs.LegLemmas.{next_leg}
use Rattle.thread_tests.proofs.by_hand.total_is_there.Goals as goal

pub opened-requires : goal.opened-requires
opened-requires c =
    let some : length c.args.legs.now ≡ 0 → ⊥ = eqb-false (length c.args.legs.now) 0 (sym c.if-is_empty.ensures) in
    let less : 0 < length c.args.legs.now = omega (arith, some) in
    next_leg [] c.args.legs.now 0 c.index-legs-0.result less c.index-legs-0.is c.requires
