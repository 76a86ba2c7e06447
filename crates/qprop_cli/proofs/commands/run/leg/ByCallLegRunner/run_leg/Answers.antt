use Rattle.std.proofs.Common.{◌∙◌, ap, subst, sym}
use Rattle.settle_core.specs.Net.{NetworkView}
use Rattle.settle_core.specs.Quiet.{is_quiet}
use Rattle.qprop_cli.specs.Inside.StepLines.{RunsLeg}
use Rattle.qprop_cli.proofs.CallLemmas.{call_ends, call_takes}
use Rattle.qprop_cli.proofs.SteppedLemmas.{leg_threaded}
use Rattle.qprop_cli.proofs.commands.run.leg.ByCallLegRunner.run_leg.Goals as goal

pub call-requires : goal.call-requires
call-requires g c =
    call_takes c.requires.can_run c.open_leg.new.self c.replace-opened.result c.replace-opened.ensures.value c.in_ok-open_leg.ensures.begun

pub returns-clause-rows : goal.returns-clause-rows
returns-clause-rows g c =
    let ends = call_ends c.requires.can_run c.open_leg.new.self c.replace-opened.result c.replace-opened.ensures.value c.in_ok-open_leg.ensures.begun c.in_ok-ended.ended c.call.result c.in_ok-ended.was c.call.ensures in
    ap (λ (n : NetworkView). n.rows) c.replace.ensures.after ∙ ends.0.rows ∙ c.in_ok-open_leg.ensures.ok.rows

pub returns-clause-quiet : goal.returns-clause-quiet
returns-clause-quiet g c =
    let ends = call_ends c.requires.can_run c.open_leg.new.self c.replace-opened.result c.replace-opened.ensures.value c.in_ok-open_leg.ensures.begun c.in_ok-ended.ended c.call.result c.in_ok-ended.was c.call.ensures in
    ap (λ (n : NetworkView). is_quiet n) c.replace.ensures.after ∙ ends.1

pub returns-clause-ran : goal.returns-clause-ran
returns-clause-ran g c =
    let ends = call_ends c.requires.can_run c.open_leg.new.self c.replace-opened.result c.replace-opened.ensures.value c.in_ok-open_leg.ensures.begun c.in_ok-ended.ended c.call.result c.in_ok-ended.was c.call.ensures in
    let P : NetworkView → Type 0 = λ n. RunsLeg c.args.arg4 c.args.network.now.rows c.args.leg.now n c.args.arg5.now.items c.args.arg5.now.items in
    subst P (sym c.replace.ensures.after)
    (leg_threaded c.args.arg4 c.args.network.now c.open_leg.new.self c.in_ok-ended.ended c.args.leg.now c.args.arg5.now.items c.requires.mode c.requires.leg c.in_ok-open_leg.ensures.ok c.in_ok-open_leg.ensures.noted ends.0 c.kept.ensures ends.1)
