use Rattle.stamp_clock.proofs.JoinLemmas.{union-beside, union-raise, is-either, rising-is}
use Rattle.stamp_clock.proofs.stamps.Stamps.join_in.Goals as goal

pub greater_clocks-requires : goal.greater_clocks-requires
greater_clocks-requires c q =
    (is-either c.self.inside.keys c.self.inside.clocks.items c.other.inside.keys c.other.inside.clocks.items c.union-keys.result c.args.self.now c.args.other.now
    c.self.invariant c.other.invariant c.self.view_is c.other.view_is c.union-keys.ensures.either q).1

pub invariant_of-result : goal.invariant_of-result
invariant_of-result c =
    union-beside c.args.self.now c.args.other.now c.union-keys.result c.in_ok-clocks.clocks.items c.union-keys.ensures.keys
    (is-either c.self.inside.keys c.self.inside.clocks.items c.other.inside.keys c.other.inside.clocks.items c.union-keys.result c.args.self.now c.args.other.now
    c.self.invariant c.other.invariant c.self.view_is c.other.view_is c.union-keys.ensures.either)
    c.in_ok-clocks.ensures

pub returns : goal.returns
returns c =
    union-raise c.args.self.now c.args.other.now c.union-keys.result c.in_ok-clocks.clocks.items c.union-keys.ensures.keys
    (rising-is c.self.inside.keys c.self.inside.clocks.items c.args.self.now c.self.invariant c.self.view_is)
    (rising-is c.other.inside.keys c.other.inside.clocks.items c.args.other.now c.other.invariant c.other.view_is)
    (is-either c.self.inside.keys c.self.inside.clocks.items c.other.inside.keys c.other.inside.clocks.items c.union-keys.result c.args.self.now c.args.other.now
    c.self.invariant c.other.invariant c.self.view_is c.other.view_is c.union-keys.ensures.either)
    c.in_ok-clocks.ensures
