use Rattle.std.proofs.Common.{◌∙◌, ap, Ok}
use Rattle.qprop_cli.proofs.StreamLemmas.{no_item}
use Rattle.qprop_cli.proofs.commands.frames.stream.push_line.Goals as goal

pub returns-in_default-2-clause-none : goal.returns-in_default-2-clause-none
returns-in_default-2-clause-none c _ =
    no_item c.args.bytes.now c.in-Some.item.now c.in-Some.rest.now c.in-Some.ensures.item (c.whole_frame.ensures.none (c.in_ok-frame.was ∙ ap Ok c.in_default-2.is))
