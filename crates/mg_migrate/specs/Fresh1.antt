-- The blocks of a fresh volume of version 1, which only tests write.
use Rattle.std.specs.Prelude.{ℕ, ◌+◌, ◌==◌, nat_lt, List, flat_map, if◌then◌else◌}
use Rattle.{mg_layout.specs.FreshImage.fresh_bytes, mg_migrate.specs.{Layout1.table1_block, Lifted.table_shift}}
use Rattle.{mg_migrate.specs.Spelling1.{object1_bytes, super1_bytes}, mg_model.specs.{Bytes.padded_to, Fresh.fresh}}
use Rattle.mg_model.specs.{Layout.{first_object_block, super_block}, Settings.Settings, State.Object}

-- the objects of a fresh state, from row 0 on
abbrev pub objects1_bytes : Settings → List ℕ
objects1_bytes settings = padded_to 4096 (flat_map (λ (object : Object). object1_bytes object.row) (fresh settings).objects)

-- Block i: the superblock and the objects are spelled as version 1 does, and the frame table and the frames lie lower. All else
-- is as on a fresh volume of today.
unfoldable pub fresh1_bytes : Settings → ℕ → List ℕ
fresh1_bytes settings i =
    if i == super_block then super1_bytes settings
    else if i == first_object_block then objects1_bytes settings
    else if nat_lt i table1_block then fresh_bytes settings i
    else fresh_bytes settings (i + table_shift)
