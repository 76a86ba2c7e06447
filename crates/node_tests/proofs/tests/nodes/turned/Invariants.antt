use Rattle.node_tests.proofs.tests.nodes.turned.Given as goal

abbrev pub ghosts-turn_with-M-Ledger : goal.ghosts-turn_with-M-Ledger
ghosts-turn_with-M-Ledger a = record { name = a.moves.name; parts = a.moves.parts }

abbrev pub ghosts-turn_with-L-Ledger : goal.ghosts-turn_with-L-Ledger
ghosts-turn_with-L-Ledger a = record { name = a.looks.name; parts = a.looks.parts }
