use Rattle.std.proofs.Common.{subst, sym}
use Rattle.svc_plan.specs.Rows.{EachBorn}
use Rattle.svc_plan.proofs.BornLemmas.{are_born, leg_born}
use Rattle.qprop_cli.proofs.RunLemmas.{on_answer}
use Rattle.qprop_cli.proofs.commands.central.legs.evaluate_leg.Goals as goal

pub central-requires : goal.central-requires
central-requires c = are_born c.extend.new.book (subst EachBorn (sym c.in_ok-extend.ensures.ok) (leg_born c.args.book.now c.args.leg.now c.requires.born c.requires.leg))

pub returns-clause-born : goal.returns-clause-born
returns-clause-born c =
    on_answer c.settled_text.result _ (subst EachBorn (sym c.in_ok-extend.ensures.ok) (leg_born c.args.book.now c.args.leg.now c.requires.born c.requires.leg))
