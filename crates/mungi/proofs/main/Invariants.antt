use Rattle.mungi.proofs.main.Given as goal

-- the ledger that the count of steps is kept in
abbrev pub ghosts-on_streams : goal.ghosts-on_streams
ghosts-on_streams a = record { name = a.blank.name; parts = a.blank.parts }
