use Rattle.service_tests.proofs.turns.kept_choice_of.Given as goal

abbrev pub ghosts-kept_choice_with : goal.ghosts-kept_choice_with
ghosts-kept_choice_with a = record { name = a.blank.name; parts = a.blank.parts }
