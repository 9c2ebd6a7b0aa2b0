use Rattle.test_kernel.proofs.failing.a_line_whose_read_fails_is_stepped_again.Given as goal

abbrev pub ghosts-count_both : goal.ghosts-count_both
ghosts-count_both g a = record { name = a.blank.name; parts = a.blank.parts }
