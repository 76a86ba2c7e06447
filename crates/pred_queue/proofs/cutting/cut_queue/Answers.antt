use Rattle.std.proofs.Common.{ℕ, rules}
use Rattle.std.proofs.lemmas.Fn.{filter_same}
use Rattle.propagation.specs.Logs.{Emission}
use Rattle.service_machine.specs.States.{is_live}
use Rattle.svc_value.specs.declared.value.Value.{Value}
use Rattle.pred_queue.proofs.cutting.cut_queue.Goals as goal

pub returns : goal.returns
returns c = filter_same _ (λ (x : ℕ × Emission Value). is_live c.args.edge.now c.args.clock x.0) _ (λ x b q h. (search (rules, h), search (rules, h))) _ _ c.retain.ensures.filtered
