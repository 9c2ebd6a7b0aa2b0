use Rattle.test_window.proofs.runs.with_windows.Given as goal

abbrev pub ghosts-with_steps : goal.ghosts-with_steps
ghosts-with_steps g a = record { name = a.blank.name; parts = a.blank.parts }
