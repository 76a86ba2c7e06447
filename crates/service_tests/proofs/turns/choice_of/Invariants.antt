use Rattle.service_tests.proofs.turns.choice_of.Given as goal

abbrev pub ghosts-choose_with : goal.ghosts-choose_with
ghosts-choose_with a = record { name = a.blank.name; parts = a.blank.parts }
