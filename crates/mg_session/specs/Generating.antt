-- A generated run: which lines were stepped on a fresh machine, and what was counted of the replies.
use Rattle.std.specs.Prelude.{ℕ, ◌≡◌, ◌≤◌, ◌<◌, ◌+◌, ◌-◌, ◌^◌, List, [], ◌∷◌, ◌++◌, length, Some, IsTrue}
use Rattle.{mg_commands.specs.Headline.replies_from, mg_disk.specs.{Disk.Image, declared.disk.Disk.Ghosts}}
use Rattle.{mg_gen.specs.Tallies.tally_of, mg_kernel.specs.Meaning.{StandsOn, is_live, keeps_key, now_of, staged_of}}
use Rattle.{mg_kernel.specs.declared.kernel.Kernel.Kernel, mg_model.specs.{Events.events, Fresh.fresh, Kept.KeepsWarm}}
use Rattle.mg_model.specs.{Settings.Settings, State.State, Step.after, Warmth.cost, declared.calls.Line.Line}

-- a kernel on a disk whose reads are told, in the fresh state of these settings
pub record IsFresh {D : Type 0} (facts : Ghosts D) (settings : Settings) (disk : D) (k : Kernel) : Type 0 where
  pub image : Image
  pub is : facts.seen disk ≡ Some image
  pub now : now_of k image ≡ fresh settings
  pub stands : StandsOn facts k disk
  pub staged : staged_of k ≡ 0
  pub live : IsTrue (is_live k)

-- where a run is
pub record At (D : Type 0) : Type 0 where
  pub kernel : Kernel
  pub disk : D
  pub counts : List ℕ
  pub steps : ℕ

-- from the state `s` on, with the counter at `first`, these lines were stepped and their replies counted
pub record Counted {D : Type 0} (facts : Ghosts D) (first : ℕ) (s : State) (ls : List Line) (p : At D) : Type 0 where
  pub image : Image
  pub is : facts.seen p.disk ≡ Some image
  pub now : now_of p.kernel image ≡ after s ls
  pub counts : p.counts ≡ tally_of (replies_from s ls)
  -- each key is kept that would be warm, and the counter rose by no more than the lines cost
  pub warm : KeepsWarm (events [] s ls) (λ key. keeps_key p.kernel key)
  pub spent : p.steps ≤ first + cost s ls

-- whatever was counted before, of fewer than `2^64 - 1` lines, this line was stepped and its reply counted
abbrev pub Counts : {D : Type 0} → Ghosts D → At D → Line → At D → Type 0
Counts facts old line new =
    (first : ℕ) (s : State) (sofar : List Line) → length sofar < 2 ^ 64 - 1 → Counted facts first s sofar old → Counted facts first s (sofar ++ line ∷ []) new
