use Rattle.std.proofs.Common.{◌≡◌, max, None, Some, Option, length, slice_index_or, sym, ap, ◌∙◌, arith}
use Rattle.propagation.specs.Stamps.{Stamps, clock_of}
use Rattle.propagation.specs.Logs.{Emission}
use Rattle.svc_value.specs.declared.value.Value.{Value}
use Rattle.service_machine.proofs.Raising.{raise-clock}
use Rattle.stamp_match.specs.Kept.{head_stamps, clock_in}
use Rattle.stamp_match.proofs.TurnLemmas.{head-at, stamps-some, length-heads}
use Rattle.stamp_match.proofs.matcher.Matcher.raise_head.Goals as goal

pub returns-clause-raised : goal.returns-clause-raised
returns-clause-raised g c =
    let heads = head_stamps c.args.slots.now in
    let same : length heads ≡ length c.args.slots.now = length-heads c.args.slots.now in
    let at : slice_index_or heads c.args.place None ≡ Some c.head-2.inside.stamps =
    head-at c.args.slots.now c.args.place c.index-slots-place.result c.requires.place c.index-slots-place.is
    ∙ stamps-some c.index-slots-place.result.head c.in-Some.head.now c.in-Some.ensures ∙ sym (ap (λ (m : Emission Value). Some m.stamps) c.head-2.view_is) in
    record {
      places = c.raise_keys.auto.lagging ∙ c.requires.places;
      rising = c.raise_keys.ensures.rising;
      raised = λ q.
          ap (λ (S : Stamps). clock_of S q) c.raise_keys.ensures.raised ∙ raise-clock c.args.self.now.greatest_clocks 0 c.head-2.inside.stamps q c.requires.rising c.raise_keys.ensures.stamps.rising
          ∙ ap (λ (o : Option Stamps). max (clock_of c.args.self.now.greatest_clocks q) (clock_in o q)) (sym at);
      followed = λ other lt. c.raise_keys.ensures.followed other (omega arith);
    }
