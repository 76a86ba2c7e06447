use Rattle.std.proofs.Common.{◌≡◌, ◌<◌, ◌++◌, length, refl, sym, ap, subst, arith, ◌∙◌, Option}
use Rattle.std.specs.Option.{IsSome}
use Rattle.link_fifo.specs.declared.piece_out.PieceOut.{PieceOut}
use Rattle.node_core.specs.Outbox.{waiting}
use Rattle.node_core.proofs.LegLemmas.{handing_stays}
use Rattle.settle_core.specs.Rings.{handed_to}
use Rattle.settle_core.proofs.GoingLemmas.{log_stays, goes_on_to}
use Rattle.settle_core.proofs.RingLemmas.{found_at, set_at, set_off, same_to_along, same_to_some, full_there}
use Rattle.settle_core.proofs.PeerLemmas.{ringed_set}
use Rattle.settle_core.proofs.TableLemmas.{length_set}
use Rattle.settle_core.proofs.WorkerLemmas.{worker_handed, left_there}
use Rattle.settle_core.proofs.worker.Worker.hand_over_to.Goals as goal

pub invariant_of-self : goal.invariant_of-self
invariant_of-self c =
    let w = c.args.self.now.wired in
    let p = c.args.to in
    let i = c.from.result in
    let end = c.hand_to.new.end in
    let at : i ≡ p = c.from.ensures ∙ c.to.view_is in
    let within : i < length w.to.items = omega (arith, at, c.requires, w.to_wide) in
    let before = found_at w.to.items i p at within c.index_mut-end.result.now c.index_mut-end.ensures.value in
    let after = set_at w.to.items i p at within end in
    let stays = handing_stays w.node c.hand_to.new.node c.hand_to.new.node.outbox c.hand_to.new.node.handed c.hand_to.ensures.node in (
      (length_set w.to.items i end ∙ w.to_wide, (w.from_wide, (w.held_wide, tt))),
      (
        log_stays c.args.self.now.id w.node c.hand_to.new.node stays c.args.self.now.log,
        (
          worker_handed p w _ c.args.self.now.kept c.hand_to.ensures.node (λ k. refl) (λ k. refl)
              (ap (λ (o : Option PieceOut). handed_to o ++ waiting p w.node.outbox) before ∙ c.hand_to.ensures.moved ∙ ap (λ (o : Option PieceOut). handed_to o ++ waiting p c.hand_to.new.node.outbox) (sym after))
              (λ q ne. set_off w.to.items i p at within end q ne) c.hand_to.ensures.others
              (λ some. subst (λ (o : Option PieceOut). IsSome o) (sym after) (same_to_some c.index_mut-end.result.now end c.hand_to.ensures.ring (subst (λ (o : Option PieceOut). IsSome o) before some))),
          (
            c.args.self.now.ringed ∙ sym (ringed_set 0 w.to.items i c.index_mut-end.result.now end c.index_mut-end.ensures.value c.hand_to.ensures.ring),
            tt,
          ),
        ),
      ),
    )

pub returns-clause-goes_on : goal.returns-clause-goes_on
returns-clause-goes_on c =
    let w = c.args.self.now.wired in
    let p = c.args.to in
    let i = c.from.result in
    let end = c.hand_to.new.end in
    let at : i ≡ p = c.from.ensures ∙ c.to.view_is in
    let within : i < length w.to.items = omega (arith, at, c.requires, w.to_wide) in
    let before = found_at w.to.items i p at within c.index_mut-end.result.now c.index_mut-end.ensures.value in
    let after = set_at w.to.items i p at within end in
    goes_on_to p c.args.self.now _ refl (handing_stays w.node c.hand_to.new.node c.hand_to.new.node.outbox c.hand_to.new.node.handed c.hand_to.ensures.node)
    (same_to_along _ c.index_mut-end.result.now end _ before c.hand_to.ensures.ring after)
    (λ q ne. set_off w.to.items i p at within end q ne) (λ k. refl)

pub returns-clause-handed : goal.returns-clause-handed
returns-clause-handed c =
    let w = c.args.self.now.wired in
    let p = c.args.to in
    let i = c.from.result in
    let end = c.hand_to.new.end in
    let at : i ≡ p = c.from.ensures ∙ c.to.view_is in
    let within : i < length w.to.items = omega (arith, at, c.requires, w.to_wide) in
    let before = found_at w.to.items i p at within c.index_mut-end.result.now c.index_mut-end.ensures.value in
    let after = set_at w.to.items i p at within end in
    λ left.
    let some = left_there p w end c.hand_to.new.node.outbox c.args.self.now.kept (ap (λ (o : Option PieceOut). handed_to o ++ waiting p w.node.outbox) before ∙ c.hand_to.ensures.moved) left in
    let there = full_there end (waiting p c.hand_to.new.node.outbox) c.hand_to.ensures.full left (same_to_some c.index_mut-end.result.now end c.hand_to.ensures.ring (subst (λ (o : Option PieceOut). IsSome o) before some)) in
    (there.0, after ∙ there.1, there.2)
