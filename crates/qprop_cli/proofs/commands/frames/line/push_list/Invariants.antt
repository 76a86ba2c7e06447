use Rattle.std.proofs.Common.{◌≡◌, ◌++◌, take}
use Rattle.trace_text.specs.Lines.{after_commas}
use Rattle.qprop_cli.proofs.commands.frames.line.push_list.Given as goal

abbrev pub invariant-loop-item : goal.invariant-loop-item
invariant-loop-item g l = l.out.items ≡ l.initial.out.items ++ after_commas g.T.Listed.text (take l.item-index l.others)
