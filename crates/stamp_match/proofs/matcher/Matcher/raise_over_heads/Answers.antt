use Rattle.std.proofs.Common.{◌≡◌, length, refl, ◌∙◌, arith}
use Rattle.stamp_match.specs.declared.matcher.Matcher.{Matcher}
use Rattle.stamp_match.specs.Kept.{head_stamps}
use Rattle.stamp_match.proofs.TurnLemmas.{length-heads}
use Rattle.stamp_match.proofs.KeptLemmas.{kept-topped, topped-union}
use Rattle.stamp_match.proofs.matcher.Matcher.raise_over_heads.Goals as goal

pub returns-clause-matcher : goal.returns-clause-matcher
returns-clause-matcher g c =
    let heads = head_stamps c.args.slots.now in
    let new : Matcher = record { greatest_clocks = c.raise_key.new.greatest_clocks; lagging = c.raise_key.new.lagging } in
    let same : length heads ≡ length c.args.slots.now = length-heads c.args.slots.now in
    kept-topped heads c.args.floor.now c.raise_key.new.greatest_clocks c.args.id c.args.clock c.args.self.now new c.requires.positive c.requires.matcher (c.raise_key.auto.lagging ∙ c.requires.matcher.places)
    c.raise_key.ensures.raised refl (λ i lt. c.raise_key.ensures.followed i (omega arith))

pub returns-clause-floor : goal.returns-clause-floor
returns-clause-floor g c = c.raise_key.ensures.raised ∙ topped-union c.args.slots.now c.args.floor.now c.args.id c.args.clock c.args.self.now c.requires.positive c.requires.matcher
