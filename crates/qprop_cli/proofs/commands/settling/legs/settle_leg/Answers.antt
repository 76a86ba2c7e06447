use Rattle.std.proofs.Common.{◌∙◌, ◌++◌, ap, subst, List, ℕ}
use Rattle.svc_graph.specs.History.{Row}
use Rattle.svc_value.specs.declared.value.Value.{Value}
use Rattle.trace_text.specs.Settled.{settled_block}
use Rattle.qprop_cli.specs.Inside.StepLines.{RunsLeg}
use Rattle.qprop_cli.proofs.RunLemmas.{if_answer}
use Rattle.qprop_cli.proofs.TraceLemmas.{traced_block}
use Rattle.qprop_cli.proofs.commands.settling.legs.settle_leg.Goals as goal

pub returns-clause-block : goal.returns-clause-block
returns-clause-block g c =
    let network = c.run_leg.new.network in
    let P : List ℕ → Type 0 = λ text. RunsLeg c.args.flags.trace c.args.network.now.rows c.args.leg.now network text c.run_leg.new.out.items in
    if_answer c.settled_text.result _ _ (λ block.
    traced_block network c.kept.ensures c.in_ok-run_leg.ensures.quiet c.args.flags c.args.k c.args.network.now.rows c.args.leg.now c.in_ok-values.values.items
    c.run_leg.new.out.items c.append_traces.new.out.items c.settled_text.new.out.items c.in_ok-run_leg.ensures.rows c.book.ensures.legal c.in_ok-values.ensures.central
    (subst P c.clear.ensures.items c.in_ok-run_leg.ensures.ran) c.in_ok-append_traces.ensures
    (block ∙ ap (λ (rs : List Row). c.append_traces.new.out.items ++ settled_block c.args.k rs c.deref.result.now) c.book.ensures.rows ∙ ap (λ (vs : List Value). c.append_traces.new.out.items ++ settled_block c.args.k network.rows vs) c.deref.ensures.value)) c.settled_text.ensures.ok
