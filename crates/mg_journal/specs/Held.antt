-- What a store holds in memory.
use Rattle.std.specs.Prelude.{◌≤◌, ◌*◌, ℕ, Bool, List, length}
use Rattle.mg_model.specs.Layout.{body_limit, segment_count}

-- how many blocks the volume has, whether it may still commit, how many segments are open, and where the newest body of each
-- block lies that these have: pairs of the block that a body belongs to and the block that holds it
pub record Store : Type 0 where
  pub total : ℕ
  pub live : Bool
  pub opened : ℕ
  pub table : List (ℕ × ℕ)

-- what every value keeps, on every disk
pub record IsKept (store : Store) : Type 0 where
  pub few : store.opened ≤ segment_count
  pub room : length store.table ≤ body_limit * store.opened
