use Rattle.service_tests.proofs.sequences.advance.Given as goal

abbrev pub ghosts-advance_with-M-Ledger : goal.ghosts-advance_with-M-Ledger
ghosts-advance_with-M-Ledger a = record { name = a.moved.name; parts = a.moved.parts }

abbrev pub ghosts-advance_with-L-Ledger : goal.ghosts-advance_with-L-Ledger
ghosts-advance_with-L-Ledger a = record { name = a.looked.name; parts = a.looked.parts }
