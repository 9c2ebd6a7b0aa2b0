use Rattle.test_commands.proofs.limit_tests.a_limit_of_16_bytes.Given as goal

abbrev pub ghosts-served : goal.ghosts-served
ghosts-served g a = record { name = a.blank.name; parts = a.blank.parts }
