-- What a copy of a lifted volume spells, and what is said of the old one.
use Rattle.{mg_check.specs.{Reads.contents, Summaries.{TellsOf, summary_of}, declared.examining.Summary.Summary}, mg_disk.specs.Disk.Image}
use Rattle.mg_disk.specs.{Disk.only_place, PlaceLemmas.same_as, Runs.from_yet, Stops.{FromLeft, Leaves}, declared.disk.Disk.Ghosts}
use Rattle.{mg_layout.specs.{GateLemmas.gate_alone, MayFormat.{IsNoState, opened}}, mg_migrate.proofs.LiftedBlocks.block-of-lifted}
use Rattle.mg_migrate.{proofs.{LiftedState.replayed-lifted, LiftedVolume.volume-lifted, Volume1Reads.replayed1-is}, specs.Copied.{IsCopy, MayCopy}}
use Rattle.mg_migrate.specs.{Copied.ReadsNow, Layout1.total1_blocks, Lifted.{IsLifted, lifted}, LiftedView.LiftedView, Migrated.{HasLifted, IsLiftOf}}
use Rattle.mg_migrate.specs.{Migrated.{IsMigrated, IsState1, MayMigrate, needed}, MigratedLemmas.reads-wider, OldRead.IsOldRead, Version1.Volume1Read}
use Rattle.{mg_migrate.specs.Version1.{as_volume1, lift, lift_volume, replayed1_volume, volume1}, mg_model.specs.Layout.{gate_block, total_blocks}}
use Rattle.mg_model.specs.{Replay.replay, State.State, Volume.{Damaged, Is, NotVolume, OldVolume, VolumeRead, volume}}
use Rattle.{mg_rules.specs.{RowsRead.state_in, declared.volume_rows.VolumeRows.VolumeRows}, std.proofs.Common.{refl, sym, ap, subst, ◌∙◌, inl, inr}}
use Rattle.std.{proofs.Common.{⊎_elim, arith}, specs.Prelude.{◌≡◌, ◌⊎◌, ℕ, ◌<◌, ◌≤◌, option_map, Option, Some, None}}

-- a volume whose lifted one is a state is a state, and what holds of each such state holds of it
of_state : (v : VolumeRead) (x : State) (P : State → Type 0) → lift_volume v ≡ Is x → ((s : State) → v ≡ Is s → lift s ≡ x → P s) → IsState1 (as_volume1 v) P
of_state NotVolume x P is then = absurd (cc)
of_state OldVolume x P is then = absurd (cc)
of_state Damaged x P is then = absurd (cc)
of_state (Is s) x P is then = then s refl (cc)

no_state : (c : Image) → volume c ≡ NotVolume → IsNoState (volume c)
no_state c is = subst (λ (v : VolumeRead). IsNoState v) (sym is) (tt {0})

module _ (seen : LiftedView) (rows : VolumeRows) (image : Image) (read : IsOldRead seen rows image) where
  abbrev old_lifted : Image
  old_lifted = lifted seen.settings read.replayed

  -- what is shown of every state that the rows spell once they are lifted
  pub tells : (P : State → Type 0) → ((s : State) → lift s ≡ state_in rows old_lifted → P s) → IsState1 (volume1 image) P
  tells P then =
      subst (λ (v : Volume1Read). IsState1 v P) (sym (replayed1-is seen.settings image read.replayed read.is))
      (of_state (replayed1_volume seen.settings read.replayed) (state_in rows old_lifted) P (sym (replayed-lifted seen.settings read.replayed) ∙ read.told) (λ s v is. then s is))

  -- how many blocks the state needs
  needs : (s : State) → lift s ≡ state_in rows old_lifted → needed s ≡ total_blocks rows.params.frames
  needs s is = ap (λ (state : State). needed state) is

  pub tells-done : (summary : Summary) (have : ℕ) → TellsOf summary rows → total_blocks rows.params.frames ≤ have → IsState1 (volume1 image) (λ state. (summary ≡ summary_of (lift state)) × (needed state ≤ have))
  tells-done summary have told enough = grind (arith, tells, needs)

  pub tells-small : (need have h : ℕ) → need ≡ total_blocks rows.params.frames → h ≡ have → have < need → IsState1 (volume1 image) (λ state. (need ≡ needed state) × (h ≡ have) × (have < need))
  tells-small need have h is same few = tells (λ state. (need ≡ needed state) × (h ≡ have) × (have < need)) (λ s e. (is ∙ sym (needs s e), same, few))

  pub tells-enough : (have : ℕ) → total_blocks rows.params.frames ≤ have → IsState1 (volume1 image) (λ state. needed state ≤ have)
  tells-enough have enough = tells (λ state. needed state ≤ have) (λ s is. let n = needs s is in omega arith)

  -- a copy of the lifted image
  copy-lifted : (c : Image) → IsCopy (total_blocks seen.settings.frames) old_lifted c → IsLifted seen.settings read.replayed c
  copy-lifted c copy = record { long = copy.long; opened = copy.opened; blocks = λ i low high. copy.blocks i low high ∙ block-of-lifted seen.settings read.replayed i high }

  pub copy-places : (c : Image) → IsCopy (total_blocks seen.settings.frames) old_lifted c → HasLifted image c
  copy-places c copy = record { settings = seen.settings; replayed = read.replayed; is = read.is; lifted = copy-lifted c copy }

  copy-spells : (c : Image) → IsCopy (total_blocks seen.settings.frames) old_lifted c → volume c ≡ lift_volume (replayed1_volume seen.settings read.replayed)
  copy-spells c copy = volume-lifted seen.settings image read.replayed c read.is.super (copy-lifted c copy)

  pub copy-lifts : (c : Image) → IsCopy (total_blocks seen.settings.frames) old_lifted c → IsLiftOf (volume1 image) c
  copy-lifts c copy =
      subst (λ (v : Volume1Read). IsLiftOf v c) (sym (replayed1-is seen.settings image read.replayed read.is))
      (of_state (replayed1_volume seen.settings read.replayed) (state_in rows old_lifted) (λ s. volume c ≡ Is (lift s)) (sym (replayed-lifted seen.settings read.replayed) ∙ read.told)
      (λ s v is. copy-spells c copy ∙ ap lift_volume v))

  pub copy-may : (new c : Image) → MayCopy (total_blocks seen.settings.frames) new old_lifted c → MayMigrate new (volume1 image) c
  copy-may new c may = ⊎_elim (λ none. inl (no_state c none)) (λ rest. ⊎_elim (λ before. inr (inl before)) (λ copy. inr (inr (copy-lifts c copy))) rest) may

  pub reads-migrated : (old new : Option Image) → ReadsNow (IsCopy (total_blocks seen.settings.frames) old_lifted) old new → ReadsNow (IsMigrated image) old new
  reads-migrated old new is = reads-wider _ (IsMigrated image) (λ c copy. record { state = copy-lifts c copy; blocks = copy-places c copy }) old new is

  -- the contents that reads of the old disk give
  pub contents-are : {E : Type 0} (facts : Ghosts E) (old : E) → seen.placed.total ≡ total1_blocks seen.settings.frames → facts.seen old ≡ Some image
      → contents facts (λ before. option_map (lifted seen.settings) (replay before seen.placed.total)) old ≡ Some old_lifted
  contents-are facts old total told = grind arith

-- what a settled disk may leave is what reads give
pub left-lifts : (P : Image → Type 0) (old new : Option Image) (c : Image) → ReadsNow P old new → new ≡ Some c → P c
left-lifts P None new c is told = absurd (cc)
left-lifts P (Some before) None c is told = absurd is
left-lifts P (Some before) (Some image) c is told = subst P (cc) is

-- an image that differs in the gate alone
gate-may : (v : Volume1Read) (image c : Image) → (volume c ≡ NotVolume) ⊎ (volume c ≡ volume (opened image)) → MayMigrate image v c
gate-may v image c may = ⊎_elim (λ none. inl (no_state c none)) (λ before. inr (inl before)) may

-- when no call was made, nothing but what might have been left may be left
pub untouched_may : {D : Type 0} (facts : Ghosts D) (v : Volume1Read) (disk : D) → (facts.time disk).has_been (facts.time disk).moment → Leaves facts disk disk (FromLeft facts disk (λ image. MayMigrate image v))
untouched_may facts v disk been = from_yet facts disk (λ image. MayMigrate image v) been (λ c. gate-may v c c (gate_alone c c (same_as (only_place gate_block) c c refl)))
