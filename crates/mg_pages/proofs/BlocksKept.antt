-- What reads and writes of blocks leave of the journal and of what is kept.
use Rattle.{mg_disk.specs.{Disk.{Image, block_at}, Reads.OnlyReads, Runs.nothing_none, declared.disk.Disk.Ghosts}, mg_faults.specs.Faults.count_none}
use Rattle.{mg_journal.specs.{Held.Store, Staged.staged, Standing.{IsFitting, Stands, total_of}}, mg_model.specs.Replay.replay}
use Rattle.mg_pages.{proofs.{Awaited.fits-replayed, Staging.{staged-here, staged-there}}, specs.{Held.with_writes, Kept.AreKept, Meaning.replayed}}
use Rattle.{mg_pages.specs.{Parts.{KeepsMore, LooksAt}, declared.blocks.Blocks.Blocks}, std.proofs.Common.{refl, sym, ap, subst, ◌∙◌, ⊎_elim}}
use Rattle.std.{proofs.lemmas.Bool.{cases_Bool, eq-eqb, false≢true}, specs.{Option.ForSome, Prelude.{◌≡◌, ℕ, true, false, is_some, List, [], ◌∷◌}}}
use Rattle.std.specs.Prelude.{Ok, Option, Some, None, IfSome, MatchOption, ◌==◌}

module _ (told : Option Image) (first : ℕ) where
  pub keeps-none : (b : Blocks) → KeepsMore told first b b
  keeps-none b = record { store = refl; kept = λ image seen are. are }

  pub keeps-then : (a b c : Blocks) → KeepsMore told first a b → KeepsMore told first b c → KeepsMore told first a c
  keeps-then a b c ab bc = record {
    store = bc.store ∙ ab.store;
    kept = λ image seen are.
        subst (λ (s : Store). AreKept first (replayed s.total image) c.kept) ab.store
        (bc.kept image seen (subst (λ (s : Store). AreKept first (replayed s.total image) b.kept) (sym ab.store) (ab.kept image seen are)));
  }

-- what a read gives
pub read-block : (store : Store) (image : Image) (block : ℕ) (bytes : List ℕ) → IsFitting store image → ForSome (replay image (total_of store)) (λ r. bytes ≡ block_at r block) → bytes ≡ block_at (replayed (total_of store) image) block
read-block store image block bytes fits read = read (replayed (total_of store) image) (fits-replayed store image fits)

-- the branch of a match on an option, by a test of it
pub there : {X : Type 0} (o : Option X) (none : Type 0) (some : X → Type 0) → true ≡ is_some o → MatchOption o none some → (x : X) × (o ≡ Some x) × some x
there None none some is match = absurd (false≢true (sym is))
there (Some x) none some is match = (x, refl, match)

pub found-or : {X : Type 0} (o : Option X) (none : Type 0) (some : X → Type 0) → none → IfSome o some → MatchOption o none some
found-or None none some nothing is = nothing
found-or (Some x) none some nothing is = is

pub missing : {X : Type 0} (o : Option X) (none : Type 0) (some : X → Type 0) → false ≡ is_some o → MatchOption o none some → (o ≡ None) × none
missing None none some is match = (refl, match)
missing (Some x) none some is match = absurd (false≢true is)

pub matched : {X : Type 0} (o : Option X) (x : X) (none : Type 0) (some : X → Type 0) → o ≡ Some x → MatchOption o none some → some x
matched o x none some is match = subst (λ p. MatchOption p none some) is match

-- a block that is staged twice
pub staged-twice : (ws : List (ℕ × List ℕ)) (b : ℕ) (x y : List ℕ) → staged (staged ws b x) b y ≡ staged ws b y
staged-twice [] b x y = staged-here b b x y [] (eq-eqb b b refl)
staged-twice ((i, z) ∷ ws) b x y = ⊎_elim here (other (staged-twice ws b x y)) (cases_Bool (i == b))
  where
    here : (i == b) ≡ true → staged (staged ((i, z) ∷ ws) b x) b y ≡ staged ((i, z) ∷ ws) b y
    here is = ap (λ w. staged w b y) (staged-here i b z x ws is) ∙ staged-here b b x y ws (eq-eqb b b refl) ∙ sym (staged-here i b z y ws is)

    other : staged (staged ws b x) b y ≡ staged ws b y → (i == b) ≡ false → staged (staged ((i, z) ∷ ws) b x) b y ≡ staged ((i, z) ∷ ws) b y
    other rest is = ap (λ w. staged w b y) (staged-there i b z x ws is) ∙ staged-there i b z y (staged ws b x) is ∙ ap (λ w. (i, z) ∷ w) rest ∙ sym (staged-there i b z y ws is)

-- what stages alone leaves the journal and what is kept
pub keeps-writes : (told : Option Image) (first : ℕ) (old new : Blocks) → new ≡ with_writes old new.writes → KeepsMore told first old new
keeps-writes told first old new is = let k = keeps-none told first old in subst (KeepsMore told first old) (sym is) record { store = k.store; kept = k.kept }

-- no block was read
pub reads-none : {D T E : Type 0} (facts : Ghosts D) (disk : D) (x : T) → (facts.time disk).has_been (facts.time disk).moment → OnlyReads {E = E} facts disk disk (Ok x)
reads-none facts disk x been = record {
  writes = nothing_none facts disk been;
  calls = record { count = count_none (facts.faults disk) (facts.is_spent disk); blocks = refl; cause = tt };
}

pub looks-none : {D T E : Type 0} (facts : Ghosts D) (b c : Blocks) (disk : D) (x : T) → (facts.time disk).has_been (facts.time disk).moment → Stands facts c.store disk → ((first : ℕ) → KeepsMore (facts.seen disk) first b c) → LooksAt {E = E} facts b c disk disk (Ok x)
looks-none facts b c disk x been stands keeps = record { keeps = keeps; stands = stands; reads = reads-none facts disk x been }
