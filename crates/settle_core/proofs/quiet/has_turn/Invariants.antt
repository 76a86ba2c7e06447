use Rattle.settle_core.proofs.quiet.has_turn.Given as goal

abbrev pub ghosts-has_turn_by : goal.ghosts-has_turn_by
ghosts-has_turn_by a = record { name = a.looks.name; parts = a.looks.parts }
