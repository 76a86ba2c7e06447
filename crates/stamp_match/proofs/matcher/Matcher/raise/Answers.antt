use Rattle.std.proofs.Common.{◌≡◌, length, sym, subst, ◌∙◌, arith}
use Rattle.propagation.specs.Stamps.{Stamps}
use Rattle.stamp_match.specs.declared.matcher.Matcher.{Matcher}
use Rattle.stamp_match.specs.Kept.{head_stamps, IsKept}
use Rattle.stamp_match.proofs.TurnLemmas.{length-heads}
use Rattle.stamp_match.proofs.KeptLemmas.{kept-raised}
use Rattle.stamp_match.proofs.matcher.Matcher.raise.Goals as goal

pub returns-clause-matcher : goal.returns-clause-matcher
returns-clause-matcher g c =
    let heads = head_stamps c.args.slots.now in
    let new : Matcher = record { greatest_clocks = c.raise_keys.new.greatest_clocks; lagging = c.raise_keys.new.lagging } in
    let same : length heads ≡ length c.args.slots.now = length-heads c.args.slots.now in
    subst (λ (F : Stamps). IsKept heads F new) (sym c.raise.ensures.raised)
    (kept-raised heads c.args.floor.now c.args.stamps.now c.args.self.now new c.requires c.raise_keys.ensures.stamps.rising (c.raise_keys.auto.lagging ∙ c.requires.places) c.raise_keys.ensures.raised
    (λ i lt. c.raise_keys.ensures.followed i (omega arith)))
