use Rattle.std.proofs.Common.{◌≤◌, arith}
use Rattle.stamp_match.specs.Kept.{slot_in}
use Rattle.stamp_match.specs.Looks.{head_keys, keys_in}
use Rattle.stamp_match.proofs.TurnLemmas.{keys-within}
use Rattle.stamp_match.proofs.matcher.Matcher.renew.Goals as goal

pub returns-else-falls_at-clause-most : goal.returns-else-falls_at-clause-most
returns-else-falls_at-clause-most g c =
    let keys : keys_in (slot_in c.args.slots.now c.args.place).head ≤ head_keys c.args.slots.now = keys-within c.args.slots.now c.args.place in
    omega (arith, c.falls_at.ensures.looks, c.follow.ensures.looks)
