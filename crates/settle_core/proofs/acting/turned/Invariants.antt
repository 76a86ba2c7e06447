use Rattle.settle_core.proofs.acting.turned.Given as goal

abbrev pub ghosts-turned_by-M-Ledger : goal.ghosts-turned_by-M-Ledger
ghosts-turned_by-M-Ledger a = record { name = a.moves.name; parts = a.moves.parts }

abbrev pub ghosts-turned_by-L-Ledger : goal.ghosts-turned_by-L-Ledger
ghosts-turned_by-L-Ledger a = record { name = a.looks.name; parts = a.looks.parts }
