-- Only the first of some blocks were written or read. Also a run of writes that failed, when the run has all the blocks.
use Rattle.mg_disk.specs.{Disk.{Image, InRange, SameBut, SeenBut, TornAt}, Runs.time_wider, Stops.TimeGoes, declared.disk.Disk.Ghosts}
use Rattle.std.proofs.{Common.{ap, arith, ◌∙◌}, Math.Nat.{le-min, min-eq_left, min-le_right}, lemmas.List.{drop_at, length-take, length-take-le}}
use Rattle.std.{proofs.lemmas.List.take_at, specs.Prelude.{◌≡◌, ℕ, ◌<◌, ◌≤◌, ◌++◌, drop, length, min, take, Option, Some, None}}

-- how many of some calls pass
pub all_pass : (left calls passing : ℕ) → passing ≡ min left calls → calls ≤ left → calls ≤ passing
all_pass left calls passing is enough = grind (arith, le-min)

pub few_pass : (left calls passing : ℕ) → passing ≡ min left calls → left < calls → passing ≡ left
few_pass left calls passing is few = is ∙ min-eq_left (omega arith)

-- the first n of some blocks were read, and the others stay
module _ (n : ℕ) (before part out : Image) (few : n ≤ length before) (long : length part ≡ length (take n before)) (is : out ≡ part ++ drop n before) where
  pub as_many : length part ≡ n
  as_many = long ∙ length-take-le n before few

  pub part_read : take n out ≡ part
  part_read = ap (take n) is ∙ take_at part (drop n before) n as_many

  pub others_stay : drop n out ≡ drop n before
  others_stay = ap (drop n) is ∙ drop_at part (drop n before) n as_many

module _ (first n : ℕ) (blocks : Image) where
  among : (k : ℕ) → InRange first (length (take n blocks)) k → InRange first (length blocks) k
  among k at = grind (arith, length-take, min-le_right)

  wider : (a b : Image) → SameBut (InRange first (length (take n blocks))) a b → SameBut (InRange first (length blocks)) a b
  wider a b same = record { count = same.count; others = λ k out. same.others k (λ at. out (among k at)) }

  pub fewer_seen : (old new : Option Image) → SeenBut (InRange first (length (take n blocks))) old new → SeenBut (InRange first (length blocks)) old new
  fewer_seen (Some a) (Some b) same = wider a b same
  fewer_seen None None same = tt
  fewer_seen (Some a) None same = absurd same
  fewer_seen None (Some b) same = absurd same

  pub fewer_torn : {D : Type 0} (facts : Ghosts D) (old new : D) (now : Image → Type 0) → TimeGoes facts old new (TornAt (InRange first (length (take n blocks))) now) → TimeGoes facts old new (TornAt (InRange first (length blocks)) now)
  fewer_torn facts old new now goes = time_wider facts old new (TornAt (InRange first (length (take n blocks))) now) (TornAt (InRange first (length blocks)) now) goes (λ c torn. (torn.0, torn.1, wider torn.0 c torn.2))
