use Rattle.qprop_cli.proofs.ModeLemmas.{legs_are_one, settled_outputs_agree, settled_texts_are_one}
use Rattle.qprop_cli.proofs.laws.settled_outputs_agree.Goals as goal

pub returns-clause-legs : goal.returns-clause-legs
returns-clause-legs c = legs_are_one

pub returns-clause-texts : goal.returns-clause-texts
returns-clause-texts c = settled_texts_are_one

pub returns-clause-outputs : goal.returns-clause-outputs
returns-clause-outputs c = settled_outputs_agree
