-- What reading a superblock answers to who looks for version 1.
use Rattle.std.specs.Prelude.{◌≡◌}
use Rattle.mg_migrate.specs.Spelling1.{BadSuper1, NewSuper1, NotSuper1, OldSuper1, Spells1, Super1Read}
use Rattle.mg_migrate.specs.declared.superblock.Super1.{Super1}
use Rattle.mg_migrate.specs.declared.superblock.Super1.TheVariants as super_variant

-- the answer is what the bytes spell
abbrev pub IsSuper1 : Super1 → Super1Read → Type 0
IsSuper1 super_variant.Not read = read ≡ NotSuper1
IsSuper1 super_variant.Old read = read ≡ OldSuper1
IsSuper1 super_variant.New read = read ≡ NewSuper1
IsSuper1 super_variant.Damaged read = read ≡ BadSuper1
IsSuper1 (super_variant.Is settings) read = read ≡ Spells1 settings
