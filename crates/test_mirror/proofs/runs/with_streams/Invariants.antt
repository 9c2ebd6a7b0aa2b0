use Rattle.test_mirror.proofs.runs.with_streams.Given as goal

abbrev pub ghosts-with_steps : goal.ghosts-with_steps
ghosts-with_steps a = record { name = a.blank.name; parts = a.blank.parts }
