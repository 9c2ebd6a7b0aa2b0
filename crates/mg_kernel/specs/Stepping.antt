-- What a kernel says of lines that it stepped, beside what it says and keeps.
use Rattle.std.specs.Prelude.{ℕ, ◌≤◌, ◌+◌, List, []}
use Rattle.{mg_disk.specs.Disk.Image, mg_kernel.specs.{Meaning.{keeps_key, now_of}, declared.kernel.Kernel.Kernel}}
use Rattle.mg_model.specs.{Events.events, Kept.KeepsWarm, Warmth.cost, declared.calls.Line.Line}
use Rattle.mg_serve.specs.Counting.{CountsEach}

-- each key is kept that would be warm, the counter rose by no more than the lines cost, and each line counted
pub record IsStepped (old : Kernel) (first : Image) (ls : List Line) (steps steps' : ℕ) (new : Kernel) : Type 0 where
  pub warm : KeepsWarm (events [] (now_of old first) ls) (λ key. keeps_key new key)
  pub spent : steps' ≤ steps + cost (now_of old first) ls
  pub counts : CountsEach [] (now_of old first) ls steps steps'

-- the counter rose by no more than the lines cost
abbrev pub IsSpent : Kernel → Image → List Line → ℕ → ℕ → Kernel → Type 0
IsSpent old first ls steps steps' new = steps' ≤ steps + cost (now_of old first) ls
