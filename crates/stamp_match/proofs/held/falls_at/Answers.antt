use Rattle.std.proofs.Common.{Option, sym, subst}
use Rattle.std.specs.Prelude.{◌↔◌, IsFalse}
use Rattle.propagation.specs.Stamps.{Stamps}
use Rattle.stamp_match.specs.Falling.{AreReached}
use Rattle.stamp_match.proofs.TurnLemmas.{head-at}
use Rattle.stamp_match.proofs.held.falls_at.Goals as goal

pub returns-clause-falls : goal.returns-clause-falls
returns-clause-falls g c =
    subst (λ (o : Option Stamps). IsFalse c.falls_by.result ↔ AreReached c.args.greatest_clocks.now c.args.held o)
    (sym (head-at c.args.slots.now c.args.place c.index-slots-place.result c.requires c.index-slots-place.is)) c.falls_by.ensures.falls
