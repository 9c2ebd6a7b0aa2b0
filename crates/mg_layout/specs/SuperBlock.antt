-- What reading a superblock answers.
use Rattle.std.specs.Prelude.{◌≡◌}
use Rattle.{mg_layout.specs.declared.superblock.Super.Super, mg_model.specs.Spelling.{BadSuper, NotSuper, OldSuper}}
use Rattle.mg_model.specs.Spelling.{Spells, SuperRead}
use Rattle.mg_layout.specs.declared.superblock.Super.TheVariants as super_variant

-- the answer is what the bytes spell
abbrev pub IsSuper : Super → SuperRead → Type 0
IsSuper super_variant.Not read = read ≡ NotSuper
IsSuper super_variant.Old read = read ≡ OldSuper
IsSuper super_variant.Damaged read = read ≡ BadSuper
IsSuper (super_variant.Is settings) read = read ≡ Spells settings
