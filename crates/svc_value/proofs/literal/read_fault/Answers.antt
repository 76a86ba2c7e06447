use Rattle.std.proofs.Common.{sym}
use Rattle.std.proofs.lemmas.Result.{IfErr-weaker}
use Rattle.svc_value.proofs.LiteralReads.{name_refused, mark_refused}
use Rattle.svc_value.proofs.literal.read_fault.Goals as goal

pub returns-in-Some-clause-bad : goal.returns-in-Some-clause-bad
returns-in-Some-clause-bad c =
    IfErr-weaker c.read_name.result _ _ (λ why h. name_refused c.args.bytes.now c.in-Some.fault why c.requires.mark (sym c.in-Some.ensures) h) c.read_name.ensures.bad

pub returns-in-None-clause-bad : goal.returns-in-None-clause-bad
returns-in-None-clause-bad c = mark_refused c.args.bytes.now c.requires.mark (sym c.in-None.ensures)
