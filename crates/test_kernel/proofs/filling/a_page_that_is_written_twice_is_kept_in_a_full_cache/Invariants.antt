use Rattle.test_kernel.proofs.filling.a_page_that_is_written_twice_is_kept_in_a_full_cache.Given as goal

abbrev pub ghosts-tried : goal.ghosts-tried
ghosts-tried g a = record { name = a.blank.name; parts = a.blank.parts }
