use Rattle.std.specs.Prelude.{ℕ}

-- the blocks of a disk in a file
abbrev pub file_blocks : ℕ
file_blocks = 70000
