-- What a session of a kernel keeps.
use Rattle.std.specs.Prelude.{ℕ, OnOk, Result}
use Rattle.{mg_commands.specs.Headline.{IsCounted, IsWithinCost}, mg_model.specs.{Lines.lines, Print.replies_text}}
use Rattle.{mg_model.specs.{State.State, Step.after}, mg_serve.specs.Sessions.{Answers, DiskUse, Holds, HoldsExactly}}
use Rattle.mg_serve.specs.Sessions.{OfInput, SinkUse, SourceUse, SpellsNow, left_at, left_now, status_of}
use Rattle.mg_serve.specs.declared.ended.Ended.{Ended}

-- A session from the state `s` on: what the sink took, what the disk holds and a stop leaves of it, and what the lines cost.
pub record ServesFrom {D S K T : Type 0} (s : State) (result : Result T Ended)
    (d : DiskUse D) (i : SourceUse S) (o : SinkUse K) (steps steps' : ℕ) : Type 0 where
  pub answers : Answers (replies_text s) (status_of result) i o
  -- At the end reads give the state after all lines.
  pub kept : OnOk result (OfInput i (λ input. SpellsNow d (after s (lines input))))
  pub holds : Holds (after s) d i o
  pub holds_exactly : HoldsExactly (after s) (status_of result) d i o
  -- Whatever ends it, the counter rises by no more than the lines that were read may cost, and one that was cut is not among them.
  pub cost : IsWithinCost s (status_of result) (left_at i) (left_now i) steps steps'
  -- Unless the disk failed it rises by what each of the lines counts that were stepped.
  pub counts : IsCounted s (status_of result) (left_at i) (o.facts.taken o.old) (o.facts.taken o.new) steps steps'
