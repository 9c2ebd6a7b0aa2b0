use Rattle.test_window.proofs.runs.is_alone_in.Given as goal

abbrev pub ghosts-plain : goal.ghosts-plain
ghosts-plain a = record { name = a.blank.name; parts = a.blank.parts }
