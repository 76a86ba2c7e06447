use Rattle.std.proofs.Common.{◌<◌, length, sym, ◌∙◌, arith}
use Rattle.stamp_match.specs.Kept.{head_stamps}
use Rattle.stamp_match.proofs.TurnLemmas.{leads-here, leads-on, greatest_clocks-same, length-heads}
use Rattle.stamp_match.proofs.matcher.Matcher.first_lagging.Goals as goal

pub returns-then-self-place-clause-greatest_clocks : goal.returns-then-self-place-clause-greatest_clocks
returns-then-self-place-clause-greatest_clocks c = greatest_clocks-same c.args.slots.now c.args.floor.now c.args.self.now c.requires

pub returns-then-self-place-clause-some : goal.returns-then-self-place-clause-some
returns-then-self-place-clause-some c =
    let lt : c.loop-place.place < length (head_stamps c.args.slots.now) = omega (arith, length-heads c.args.slots.now) in
    leads-here c.args.self.now.greatest_clocks c.args.slots.now c.loop-place.place c.loop-place-test.true (sym (c.requires.lagging c.loop-place.place lt) ∙ c.if-self-place.true) c.loop-place.invariant

pub loop-place-preserved : goal.loop-place-preserved
loop-place-preserved c =
    let lt : c.loop-place.place < length (head_stamps c.args.slots.now) = omega (arith, length-heads c.args.slots.now) in
    c.loop-place.invariant ∙ leads-on c.args.self.now.greatest_clocks c.args.slots.now c.loop-place.place c.loop-place-test.true (sym (c.requires.lagging c.loop-place.place lt) ∙ c.if-self-place.false)

pub returns-clause-greatest_clocks : goal.returns-clause-greatest_clocks
returns-clause-greatest_clocks c = greatest_clocks-same c.args.slots.now c.args.floor.now c.args.self.now c.requires
