-- How the copying of contents proceeds, from the gate closed to the gate open.
use Rattle.mg_disk.specs.{Disk.{HasBlocks, Image, InRange, SameBut, SeenBut, no_image, only_place}, Runs.{from_then, from_wider, leaves_quiet}}
use Rattle.{mg_disk.specs.{Stops.{FromLeft, Leaves, NothingPending, TimeGoes}, declared.disk.Disk.Ghosts}, mg_layout.specs.GateLemmas.gate_alone}
use Rattle.{mg_migrate.specs.Copied.{AreCopied, AreSame, IsClosed, IsCopy, MayCopy, ReadsNow, StandsClosed}, mg_model.specs.Layout.gate_block}
use Rattle.mg_model.specs.{Layout.gate_open, Replay.block_of, Volume.{NotVolume, gate_byte, volume}, VolumeLemmas.volume-closed, Words.and_then}
use Rattle.std.{proofs.{Common.{refl, inl, inr, sym, ap, subst, ◌∙◌, ⊎_elim, arith}, lemmas.Bool.{cases_eq, cases_lt}}, specs.Option.ForSome}
use Rattle.std.specs.Prelude.{◌≡◌, ℕ, ◌+◌, ◌-◌, ◌<◌, ◌≤◌, IsTrue, List, length, slice_index, Option, Some, None, IsSomeAnd}

-- the blocks before this one, of n, are those of the contents
abbrev pub AreBefore : ℕ → ℕ → Image → Image → Type 0
AreBefore n next contents c = (i : ℕ) → 1 ≤ i → i < n → i < next → block_of c i ≡ block_of contents i

-- blocks that both have
pub same_blocks : (first count : ℕ) (blocks r c : Image) → length blocks ≡ count → HasBlocks first blocks r → HasBlocks first blocks c → AreSame first count r c
same_blocks first count blocks r c is read put i at =
    let from = at.from in
    let before = at.before in
    let place : first + (i - first) ≡ i = omega arith in
    let inside : i - first < length blocks = omega arith in
    let P : ℕ → Type 0 = λ j. block_of c j ≡ block_of r j in
    subst P place (put (i - first) inside ∙ sym (read (i - first) inside))

-- the blocks before a place, and those that were copied from there on
pub copied_more : (n first next count : ℕ) (r : Image) (mid new : Option Image) → ((i : ℕ) → i < n → i < next → i < first + count) → SeenBut (InRange first count) mid new
    → ForSome mid (AreBefore n first r) → ForSome new (AreSame first count r) → ForSome new (AreBefore n next r)
copied_more n first next count r None new within same before now d is i low inside below = absurd (let P : Option Image → Type 0 = λ o. SeenBut (InRange first count) None o in subst P is same)
copied_more n first next count r (Some s) new within same before now d is i low inside below =
    let P : Option Image → Type 0 = λ o. SeenBut (InRange first count) (Some s) o in
    let same_d : SameBut (InRange first count) s d = subst P is same in
    ⊎_elim (λ under. same_d.others i (λ at. let from = at.from in omega (arith, under, from)) ∙ before s refl i low inside under) (λ from. now d is i (record { from = from; before = within i inside below }))
    (cases_lt i first)

-- what is said of the contents that reads give
pub of_contents : (of : Image → Option Image) (seen : Option Image) (P : Image → Type 0) → ForSome seen (λ image. ForSome (of image) P) → ForSome (and_then seen of) P
of_contents of None P told r is = absurd cc
of_contents of (Some s) P told r is = told s refl r is

-- a sync of a disk whose writes were followed
pub synced : {D : Type 0} (facts : Ghosts D) (P : Image → Type 0) (first at mid new : D) → mid ≡ at → Leaves facts first at P → TimeGoes facts mid new no_image → Leaves facts first new P
synced facts P first at mid new is run call = leaves_quiet facts first mid new P (subst (λ d. Leaves facts first d P) (sym is) run) call

-- The gate is closed: a stop leaves no volume, or what is after the gate.
pub close_may : (n : ℕ) (image r c : Image) → SameBut (only_place gate_block) image c → MayCopy n image r c
close_may n image r c same = ⊎_elim (λ none. inl none) (λ before. inr (inl before)) (gate_alone image c same)

-- The blocks after it are copied: it is no volume while the gate stays closed.
zero_closed : (c : Image) → gate_byte c ≡ 0 → IsClosed c
zero_closed c zero = grind (arith, volume-closed)

still_closed : (s c : Image) → gate_byte s ≡ 0 → SameBut (λ k. 1 ≤ k) s c → IsClosed c
still_closed s c zero same = zero_closed c (ap (λ (block : List ℕ). slice_index block 0) (same.others gate_block (λ low. omega arith)) ∙ zero)

pub behind_closed : (s c : Image) → gate_byte s ≡ 0 → SameBut (λ k. 1 ≤ k) s c → volume c ≡ NotVolume
behind_closed s c zero same = (still_closed s c zero same).none

seen_closed : (mid new : Option Image) → SeenBut (λ k. 1 ≤ k) mid new → ForSome mid (λ s. gate_byte s ≡ 0) → ForSome new IsClosed
seen_closed None new same closed c is = absurd (let P : Option Image → Type 0 = λ o. SeenBut (λ k. 1 ≤ k) None o in subst P is same)
seen_closed (Some s) new same closed c is = still_closed s c (closed s refl) (let P : Option Image → Type 0 = λ o. SeenBut (λ k. 1 ≤ k) (Some s) o in subst P is same)

-- While the blocks after it are copied a stop leaves the gate closed too.
pub stands_closed : {D : Type 0} (facts : Ghosts D) (mid new : D) → SeenBut (λ k. 1 ≤ k) (facts.seen mid) (facts.seen new) → ForSome (facts.seen mid) (λ s. gate_byte s ≡ 0) → NothingPending facts mid
    → Leaves facts mid new (FromLeft facts mid (SameBut (λ k. 1 ≤ k))) → StandsClosed facts new
stands_closed facts mid new same closed settled run = record {
  reads = seen_closed (facts.seen mid) (facts.seen new) same closed;
  left = λ c may. ⊎_elim (λ before. zero_closed c (closed c (settled c before))) (λ torn. still_closed torn.0 c (closed torn.0 (settled torn.0 torn.1)) torn.2) (run.time.now c may);
}

-- With the gate open it is a copy.
pub is_copy : (n : ℕ) (r s c : Image) → n ≤ length s → AreCopied n r s → SameBut (only_place gate_block) s c → gate_byte c ≡ gate_open → IsCopy n r c
is_copy n r s c long copied same gate = grind arith

pub open_may : (n : ℕ) (image r s c : Image) → n ≤ length s → AreCopied n r s → SameBut (only_place gate_block) s c → MayCopy n image r c
open_may n image r s c long copied same = grind (arith, is_copy, volume-closed, cases_eq)

-- what reads give at the end, from what they gave at first
pub all_made : (n : ℕ) (r : Image) (first closed behind last : Option Image) → SeenBut (only_place gate_block) first closed → SeenBut (λ k. 1 ≤ k) closed behind → SeenBut (only_place gate_block) behind last
    → ForSome behind (λ s. n ≤ length s) → ForSome behind (AreCopied n r) → ForSome last (λ c. gate_byte c ≡ gate_open) → ReadsNow (IsCopy n r) first last
all_made n r None None None None a b c long copied gate = refl
all_made n r (Some image) (Some s) (Some t) (Some u) a b c long copied gate = is_copy n r t u (long t refl) (copied t refl) c (gate u refl)
all_made n r None (Some s) behind last a b c long copied gate = absurd a
all_made n r (Some image) None behind last a b c long copied gate = absurd a
all_made n r None None (Some t) last a b c long copied gate = absurd b
all_made n r (Some image) (Some s) None last a b c long copied gate = absurd b
all_made n r None None None (Some u) a b c long copied gate = absurd c
all_made n r (Some image) (Some s) (Some t) None a b c long copied gate = absurd c

-- The three phases. After the first and the second one the disk is settled.
module _ {D : Type 0} (facts : Ghosts D) (n : ℕ) (r : Image) (old : D) where
  abbrev pub May : Image → Image → Type 0
  May image = MayCopy n image r

  pub first_phase : (new : D) → Leaves facts old new (FromLeft facts old (SameBut (only_place gate_block))) → Leaves facts old new (FromLeft facts old May)
  first_phase new run = from_wider facts old new (SameBut (only_place gate_block)) May run (λ a c same. close_may n a r c same)

  pub second_phase : (mid new : D) → NothingPending facts mid → ForSome (facts.seen mid) (λ s. gate_byte s ≡ 0)
      → Leaves facts old mid (FromLeft facts old May) → Leaves facts mid new (FromLeft facts mid (SameBut (λ k. 1 ≤ k))) → Leaves facts old new (FromLeft facts old May)
  second_phase mid new settled closed so_far run =
      from_then facts old mid new (SameBut (λ k. 1 ≤ k)) May so_far run (λ d left a c same. inl (behind_closed d c (closed d (settled d left)) same))

  pub third_phase : (mid new : D) → NothingPending facts mid → ForSome (facts.seen mid) (λ s. n ≤ length s) → ForSome (facts.seen mid) (AreCopied n r)
      → Leaves facts old mid (FromLeft facts old May) → Leaves facts mid new (FromLeft facts mid (SameBut (only_place gate_block))) → Leaves facts old new (FromLeft facts old May)
  third_phase mid new settled long copied so_far run =
      from_then facts old mid new (SameBut (only_place gate_block)) May so_far run
      (λ d left a c same. let told = settled d left in open_may n a r d c (long d told) (copied d told) same)
