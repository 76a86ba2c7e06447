use Rattle.std.proofs.Common.{◌≡◌, ◌∙◌, ◌++◌, ◌∷◌, List, subst, ap}
use Rattle.settle_core.specs.Inside.Working.{IsOf, IsWorker}
use Rattle.settle_core.specs.declared.wired.WiredNode.{WiredNode}
use Rattle.settle_core.specs.Rings.{ringed}
use Rattle.settle_core.proofs.PartLemmas.{next_at, next_within}
use Rattle.settle_core.proofs.parting.workers_of.Goals as goal

pub invariant_of-push : goal.invariant_of-push
invariant_of-push c =
    let all = c.args.all.items in
    let was = c.loop-wired.invariant in
    let split : all ≡ c.loop-wired.yielded ++ c.in-Some.wired ∷ c.next.new.self.rest.items = was.2 ∙ ap (λ (xs : List WiredNode). c.loop-wired.yielded ++ xs) c.in-Some.ensures.steps.0 in
    let less = next_within all c.loop-wired.yielded c.next.new.self.rest.items c.in-Some.wired c.loop-wired.number split was.1 in
    let at = next_at all c.loop-wired.yielded c.next.new.self.rest.items c.in-Some.wired c.in-Some.wired c.loop-wired.number split was.1 in
    record {
      log = ∣ subst (λ (w : WiredNode). IsOf c.loop-wired.number w.node) at (c.requires.each.logs c.loop-wired.number c.in-Some.wired less) ∣₁;
      kept = subst (λ (w : WiredNode). IsWorker w) at (c.requires.each.each c.loop-wired.number c.in-Some.wired less);
      ringed = c.in_ok-peers.ensures ∙ ap (ringed 0) c.as_slice.ensures.value;
    }
