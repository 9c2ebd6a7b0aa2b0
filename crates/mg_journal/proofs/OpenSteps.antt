-- An opening: the journal is looked through, and then recovered.
use Rattle.mg_disk.specs.{BecomesLemmas.{becomes-after, becomes-same}, Disk.{Image, no_image}, Reads.Becomes, Runs.{leaves_then, left_still}}
use Rattle.mg_disk.specs.{Runs.left_still_then, Stops.{Leaves, LeftOr, TimeGoes}, declared.disk.Disk.Ghosts}
use Rattle.{mg_journal.{proofs.CommitRuns.same_itself, specs.Contents.SameContents}, std.{proofs.Common.{inr, subst}, specs.Prelude.{◌≡◌, ℕ, Option}}}
use Rattle.std.specs.Prelude.{Result, Err}

-- an error stays the same if it is handed on with another type of value
pub same_error : {T U E : Type 0} (x y : E) → ◌≡◌ {A = Result T E} (Err x) (Err y) → ◌≡◌ {A = Result U E} (Err x) (Err y)
same_error x y is = cc

-- what reads gave before has its contents in what they give after the recovery
pub contents_kept : (n total : ℕ) → n ≡ total → (told mid now : Option Image) → mid ≡ told → Becomes (SameContents n) mid now → Becomes (SameContents total) told now
contents_kept n total same told mid now still stays = becomes-after (SameContents total) told mid now still (subst (λ m. Becomes (SameContents m) mid now) same stays)

-- when reads give what they gave
pub contents_still : (total : ℕ) (told now : Option Image) → now ≡ told → Becomes (SameContents total) told now
contents_still total told now still = becomes-same (SameContents total) told now still (λ a is. same_itself total a)

-- homes and gates are written after a sync, whatever was pending before it
pub settled_then : {D : Type 0} (facts : Ghosts D) (total : ℕ) (old mid new : D) (a : Image) → (facts.time old).has_been (facts.time old).moment → TimeGoes facts old mid no_image
    → Leaves facts mid new (SameContents total a) → Leaves facts old new (LeftOr facts old (SameContents total a))
settled_then facts total old mid new a been sync run =
    leaves_then facts old mid new (SameContents total a) (LeftOr facts old (SameContents total a)) (left_still facts old mid (SameContents total a) been sync) run (λ c same. inr same)

-- a recovery after a look
pub looked_then : {D : Type 0} (facts : Ghosts D) (total n : ℕ) (old mid new : D) (a : Image) → (facts.time old).has_been (facts.time old).moment → TimeGoes facts old mid no_image → n ≡ total
    → Leaves facts mid new (LeftOr facts mid (SameContents n a)) → Leaves facts old new (LeftOr facts old (SameContents total a))
looked_then facts total n old mid new a been look same run =
    left_still_then facts old mid new (SameContents total a) been look (subst (λ m. Leaves facts mid new (LeftOr facts mid (SameContents m a))) same run)
