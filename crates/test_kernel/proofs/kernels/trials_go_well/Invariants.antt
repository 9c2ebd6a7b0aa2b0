use Rattle.test_kernel.proofs.kernels.trials_go_well.Given as goal

abbrev pub ghosts-tried : goal.ghosts-tried
ghosts-tried g a = record { name = a.blank.name; parts = a.blank.parts }
