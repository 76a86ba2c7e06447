use Rattle.std.proofs.Common.{◌≡◌, ◌<◌, length, refl, sym, ap, subst, arith, ◌∙◌, ◌++◌, Option, option_to_list}
use Rattle.std.specs.Option.{IsSome}
use Rattle.link_fifo.specs.declared.piece_in.PieceIn.{PieceIn}
use Rattle.settle_core.specs.Rings.{received_from}
use Rattle.settle_core.proofs.RingLemmas.{absent, found_at, set_at, set_off, same_from_some}
use Rattle.settle_core.proofs.TableLemmas.{length_set}
use Rattle.settle_core.proofs.WorkerLemmas.{worker_received}
use Rattle.settle_core.proofs.worker.Worker.receive.Goals as goal

pub invariant_of-self-then-is_none : goal.invariant_of-self-then-is_none
invariant_of-self-then-is_none c =
    let w = c.args.self.now.wired in
    let i = c.from-place.result in
    let at : i ≡ c.args.sender = c.from-place.ensures ∙ c.sender.view_is in
    let in_from : i < length w.from.items = omega (arith, at, c.requires, w.from_wide) in
    let in_held : i < length w.held.items = omega (arith, at, c.requires, w.held_wide) in
    let before = found_at w.from.items i i refl in_from c.index_mut.result.now c.index_mut.ensures.value in
    let after = set_at w.from.items i i refl in_from c.next_item.new.end in (
      (w.to_wide, (length_set w.from.items i c.next_item.new.end ∙ w.from_wide, (length_set w.held.items i c.in_ok-self.field-0 ∙ w.held_wide, tt))),
      (
        c.args.self.now.log,
        (
          worker_received i w _ c.in_ok-self.field-0 c.args.self.now.kept refl (λ q. refl) (found_at w.held.items i i refl in_held c.index.result.now c.index.ensures ∙ absent c.index.result.now c.if-is_none.ensures)
              (set_at w.held.items i i refl in_held c.in_ok-self.field-0) (λ k ne. set_off w.held.items i i refl in_held c.in_ok-self.field-0 k ne)
              (ap received_from after ∙ c.in_ok-self.ensures.item ∙ ap (λ (o : Option PieceIn). received_from o ++ option_to_list c.in_ok-self.field-0) (sym before))
              (λ k ne. set_off w.from.items i i refl in_from c.next_item.new.end k ne)
              (λ some. subst (λ (o : Option PieceIn). IsSome o) (sym before) (same_from_some c.index_mut.result.now c.next_item.new.end c.in_ok-self.ensures.ring (subst (λ (o : Option PieceIn). IsSome o) after some))),
          (c.args.self.now.ringed, tt),
        ),
      ),
    )
