use Rattle.service_tests.proofs.slots.advance.Given as goal

abbrev pub ghosts-advance_with : goal.ghosts-advance_with
ghosts-advance_with a = record { name = a.blank.name; parts = a.blank.parts }
