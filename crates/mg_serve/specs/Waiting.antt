-- The replies that wait to be sent.
use Rattle.std.specs.Prelude.{ℕ, List, []}

-- their text, and how many they are
pub record Waiting : Type 0 where
  pub text : List ℕ
  pub count : ℕ

abbrev pub no_replies : Waiting
no_replies = record { text = []; count = 0 }
