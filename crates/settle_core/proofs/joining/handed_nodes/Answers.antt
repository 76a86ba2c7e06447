use Rattle.std.proofs.Common.{◌≡◌, ◌≢◌, ◌<◌, ◌∙◌, ◌++◌, ◌∷◌, [], List, length, ◌+◌, subst, sym, ap, arith, append_assoc, length-append}
use Rattle.std.proofs.lemmas.List.{length-map}
use Rattle.node_core.specs.Outbox.{waiting}
use Rattle.node_core.specs.View.{NodeView}
use Rattle.settle_core.specs.Inside.Joining.{HandsRest}
use Rattle.settle_core.specs.Inside.Working.{wired_nodes}
use Rattle.settle_core.specs.Net.{place_of, service_at}
use Rattle.settle_core.specs.declared.wired.WiredNode.{WiredNode}
use Rattle.settle_core.proofs.JoinLemmas.{handed_next}
use Rattle.settle_core.proofs.PartLemmas.{next_at, next_within, wired_at}
use Rattle.settle_core.proofs.joining.handed_nodes.Goals as goal

pub hand_rest-requires-clause-there : goal.hand_rest-requires-clause-there
hand_rest-requires-clause-there c = λ q some.
    let all = c.args.all.items in
    let was = c.loop-wired.invariant in
    let split : all ≡ c.loop-wired.yielded ++ c.in-Some.wired ∷ c.next.new.self.rest.items = was.2 ∙ ap (λ (xs : List WiredNode). c.loop-wired.yielded ++ xs) c.in-Some.ensures.steps.0 in
    let less = next_within all c.loop-wired.yielded c.next.new.self.rest.items c.in-Some.wired c.loop-wired.number split was.1 in
    let at = next_at all c.loop-wired.yielded c.next.new.self.rest.items c.in-Some.wired c.in-Some.wired c.loop-wired.number split was.1 in
    let node : service_at (wired_nodes all) c.loop-wired.number ≡ c.in-Some.wired.node = wired_at all c.loop-wired.number c.in-Some.wired less (sym at) in
    let there : place_of q c.loop-wired.number < length c.args.links.now.items =
    c.requires.there c.loop-wired.number q (omega (arith, less, length-map all (λ (w : WiredNode). w.node))) (subst (λ (s : NodeView). waiting q s.outbox ≢ []) (sym node) some) in
    omega (arith, there, was.0.table)

pub loop-wired-preserved : goal.loop-wired-preserved
loop-wired-preserved c =
    let all = c.args.all.items in
    let was = c.loop-wired.invariant in
    let rest = c.next.new.self.rest.items in
    let split : all ≡ c.loop-wired.yielded ++ c.in-Some.wired ∷ rest = was.2 ∙ ap (λ (xs : List WiredNode). c.loop-wired.yielded ++ xs) c.in-Some.ensures.steps.0 in
    let less = next_within all c.loop-wired.yielded rest c.in-Some.wired c.loop-wired.number split was.1 in
    let at = next_at all c.loop-wired.yielded rest c.in-Some.wired c.in-Some.wired c.loop-wired.number split was.1 in
    let node : service_at (wired_nodes all) c.loop-wired.number ≡ c.in-Some.wired.node = wired_at all c.loop-wired.number c.in-Some.wired less (sym at) in
    let count : length (c.loop-wired.yielded ++ c.in-Some.wired ∷ []) ≡ length c.loop-wired.yielded + 1 = length-append c.loop-wired.yielded (c.in-Some.wired ∷ []) in (
      handed_next c.loop-wired.number (wired_nodes all) c.loop-wired.nodes.items c.push.new.self.items c.hand_rest.new.node c.args.links.now.items c.loop-wired.links.items c.hand_rest.new.links.items (omega (arith, less, c.requires.few)) was.0
          (subst (λ (s : NodeView). HandsRest c.loop-wired.number s c.hand_rest.new.node c.loop-wired.links.items c.hand_rest.new.links.items) (sym node) c.in_ok-hand_rest.ensures) c.in_ok-push.ensures.items,
      omega (arith, count, was.1),
      split ∙ sym (append_assoc c.loop-wired.yielded (c.in-Some.wired ∷ []) rest),
      tt,
      tt,
    )
