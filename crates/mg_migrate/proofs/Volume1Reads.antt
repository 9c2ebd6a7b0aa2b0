-- What an image spells as a volume of version 1, case by case.
use Rattle.mg_migrate.specs.{Layout1.total1_blocks, Lifted.IsReplayed1, Spelling1.super1_read, Version1.{NotVolume1, as_volume1, replayed1_volume}}
use Rattle.{mg_migrate.specs.Version1.{settled1_volume, volume1, volume1_behind}, mg_model.specs.{Layout.{gate_open, super_block}, Replay.block_of}}
use Rattle.{mg_model.specs.{Replay.replay, Settings.Settings, Volume.{Damaged, VolumeRead, gate_byte, IsOpened}}, std.proofs.Common.{arith, ap}}
use Rattle.std.{proofs.lemmas.Bool.{and_left, and_right, eq-eqb, le-leb, lt-leb, ne_eqb}, specs.{Option.option_map_or, Prelude.{◌≡◌, ◌≢◌, ℕ, ◌<◌}}}
use Rattle.std.specs.Prelude.{◌≤◌, Bool, List, length, if◌then◌else◌, Option, Some, None}

pub volume1-closed : (image : List (List ℕ)) → gate_byte image ≢ gate_open → volume1 image ≡ NotVolume1
unfolding volume1
volume1-closed image closed = grind (arith, and_right, ne_eqb)

pub volume1-short : (image : List (List ℕ)) → length image < 2 → volume1 image ≡ NotVolume1
unfolding volume1
volume1-short image short = grind (arith, and_left, lt-leb)

pub volume1-opened : (image : List (List ℕ)) → IsOpened image → volume1 image ≡ volume1_behind image (super1_read (block_of image super_block))
unfolding volume1
volume1-opened image is = grind (arith, le-leb, eq-eqb)

-- of an image with a superblock of version 1: too short, with a journal that gives none, or with one that gives an image
abbrev gives : Settings → Bool → Option (List (List ℕ)) → VolumeRead
gives settings enough replayed = if enough then option_map_or (λ replayed. replayed1_volume settings replayed) replayed Damaged else Damaged

pub settled1-short : (settings : Settings) (image : List (List ℕ)) → length image < total1_blocks settings.frames → settled1_volume image settings ≡ Damaged
settled1-short settings image short = ap (λ t. gives settings t (replay image (total1_blocks settings.frames))) (lt-leb (total1_blocks settings.frames) (length image) short)

pub settled1-none : (settings : Settings) (image : List (List ℕ)) → total1_blocks settings.frames ≤ length image → replay image (total1_blocks settings.frames) ≡ None → settled1_volume image settings ≡ Damaged
settled1-none settings image long none = grind (arith, le-leb)

pub settled1-some : (settings : Settings) (image replayed : List (List ℕ)) → total1_blocks settings.frames ≤ length image → replay image (total1_blocks settings.frames) ≡ Some replayed
    → settled1_volume image settings ≡ replayed1_volume settings replayed
settled1-some settings image replayed long is = grind (arith, le-leb)

pub replayed1-is : (settings : Settings) (image replayed : List (List ℕ)) → IsReplayed1 settings image replayed → volume1 image ≡ as_volume1 (replayed1_volume settings replayed)
replayed1-is settings image replayed is = grind (arith, volume1-opened, settled1-some)
