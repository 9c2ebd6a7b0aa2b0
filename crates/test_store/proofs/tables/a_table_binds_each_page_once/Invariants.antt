use Rattle.test_store.proofs.tables.a_table_binds_each_page_once.Given as goal

abbrev pub ghosts-pages_bound : goal.ghosts-pages_bound
ghosts-pages_bound g a = record { name = a.blank.name; parts = a.blank.parts }
