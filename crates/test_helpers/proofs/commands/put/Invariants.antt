use Rattle.test_helpers.proofs.commands.put.Given as goal

abbrev pub ghosts-with_steps : goal.ghosts-with_steps
ghosts-with_steps g a = record { name = a.blank.name; parts = a.blank.parts }
