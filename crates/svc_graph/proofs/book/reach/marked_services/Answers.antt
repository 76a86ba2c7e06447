use Rattle.std.proofs.Common.{◌∙◌, ◌++◌, ◌∷◌, [], false, get_or, ap, sym}
use Rattle.svc_graph.proofs.Reached.{filter-kept, filter-left}
use Rattle.svc_graph.proofs.book.reach.marked_services.Goals as goal
use Rattle.svc_graph.proofs.book.reach.marked_services.Goals.{then-marks-number+in_ok-push, else-marks-number}

pub loop-number-preserved : goal.loop-number-preserved
loop-number-preserved c =
    elim c.if-marks-number.branch [
      | then-marks-number+in_ok-push w ↦
          ap (λ ids. ids.items) w.ids-is ∙ w.in_ok-push.ensures.items ∙ ap (λ ids. ids ++ c.loop-number.number ∷ []) c.loop-number.invariant ∙
          sym (filter-kept (λ p. get_or c.args.marks.now p false) c.loop-number.number w.if-marks-number.true)
      | else-marks-number w ↦
          ap (λ ids. ids.items) w.ids-is ∙ c.loop-number.invariant ∙ sym (filter-left (λ p. get_or c.args.marks.now p false) c.loop-number.number w.if-marks-number.false)
    ]
