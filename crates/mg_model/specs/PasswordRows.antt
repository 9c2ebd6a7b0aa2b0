-- A password row of an object, and what it keeps.
use Rattle.std.specs.Prelude.{ℕ, ◌^◌, ◌<◌, ◌≤◌}
use Rattle.mg_model.specs.{Rights.IsRights, declared.limits.TheConstants.NEVER as never}

pub record PasswordRow : Type 0 where
  pub password : ℕ
  pub rights : ℕ
  pub until : ℕ

pub record IsPassword (row : PasswordRow) : Type 0 where
  pub password : row.password < 2 ^ 64
  pub rights : IsRights row.rights
  pub begins : 1 ≤ row.until
  pub ends : row.until ≤ never
