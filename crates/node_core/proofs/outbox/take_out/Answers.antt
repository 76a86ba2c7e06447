use Rattle.std.proofs.Common.{sym, subst, List, ℕ, Some}
use Rattle.node_core.specs.Outbox.{TakesOut}
use Rattle.node_core.proofs.OutboxLemmas.{takes_out}
use Rattle.node_core.proofs.outbox.take_out.Goals as goal

pub returns-clause-taken : goal.returns-clause-taken
returns-clause-taken c =
    subst (λ (outgoing_frames : List (ℕ × List ℕ)). TakesOut c.args.to c.args.outbox.now.items outgoing_frames (Some c.in_ok-frame.frame)) (sym c.in_ok-frame.ensures.items)
    (takes_out c.args.to c.args.outbox.now.items c.in_ok-place.place (c.in_ok-frame.field-0-0, c.in_ok-frame.frame) (sym c.in_ok-place.ensures) c.in_ok-frame.ensures.value)
