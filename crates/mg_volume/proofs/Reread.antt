-- The rows that were read of a volume are those that its disk has once the journal is open.
use Rattle.{mg_disk.specs.Disk.{Image, SeenBut}, mg_journal.specs.Contents.{InJournal, SameContents}, mg_model.specs.Abbreviations.account_row_bytes}
use Rattle.mg_model.specs.{Abbreviations.{object_row_bytes, thread_row_bytes, whole_table}, Bytes.are_zeros, Layout.{first_frame, globals_block}}
use Rattle.mg_model.specs.{Layout.total_blocks, Limits.{account_limit, thread_limit, object_limit}, Replay.{block_of, replay}, Spelling.account_read}
use Rattle.mg_model.specs.{Spelling.{globals_read, object_read, thread_read}, State.{Counters, ObjectRow, ThreadRow}, Volume.{Damaged, Is, Rows}}
use Rattle.mg_model.specs.{Volume.{live_rows, replayed_volume, rows_of, volume, volume_behind}, VolumeLemmas.{rows_from, rows_with, volume-opened}}
use Rattle.{mg_model.specs.declared.accounts.AccRow.AccRow, mg_rules.specs.RowsRead.{IsReadAs, rows_in, state_in}}
use Rattle.{mg_rules.specs.declared.volume_rows.VolumeRows.VolumeRows, mg_volume.specs.Contents.{IsSet, contents_set, opened, replay_set}}
use Rattle.{mg_volume.specs.Contents.{rows_behind, same_behind, volume_contents}, std.proofs.Common.{arith, refl, sym, ap, subst, ◌∙◌, ⊎_elim}}
use Rattle.std.{proofs.lemmas.Bool.{cases_Bool, leb-true}, specs.{Option.option_map_or, Prelude.{◌≡◌, ℕ, nat_le, Bool, true, false, List, drop}}}
use Rattle.std.specs.Prelude.{if◌then◌else◌, length, take, Option, Some, None}

-- the rows, part by part
pub record Parts (frames : ℕ) (counters : Option Counters) (accounts : Option (List (ℕ × AccRow))) (threads : Option (List (ℕ × ThreadRow))) (objects : Option (List (ℕ × ObjectRow))) (whole : List ℕ) (rows : Rows) : Type 0 where
  pub counters_are : counters ≡ Some rows.counters
  pub accounts_are : accounts ≡ Some rows.accounts
  pub threads_are : threads ≡ Some rows.threads
  pub objects_are : objects ≡ Some rows.objects
  pub rest : are_zeros (drop frames whole) ≡ true
  pub table : rows.table ≡ take frames whole

split : (frames : ℕ) (counters : Option Counters) (accounts : Option (List (ℕ × AccRow))) (threads : Option (List (ℕ × ThreadRow))) (objects : Option (List (ℕ × ObjectRow))) (whole : List ℕ) (t : Bool) (rows : Rows)
    → t ≡ are_zeros (drop frames whole) → rows_from frames counters accounts threads objects whole ≡ Some rows → Parts frames counters accounts threads objects whole rows
split frames None accounts threads objects whole t rows tested read = absurd (cc)
split frames (Some c) None threads objects whole t rows tested read = absurd (cc)
split frames (Some c) (Some a) None objects whole t rows tested read = absurd (cc)
split frames (Some c) (Some a) (Some h) None whole t rows tested read = absurd (cc)
split frames (Some c) (Some a) (Some h) (Some o) whole false rows tested read = grind (arith, rows_with)
split frames (Some c) (Some a) (Some h) (Some o) whole true rows tested read = grind (arith, rows_with)

abbrev pub RowParts : Image → ℕ → Rows → Type 0
RowParts r frames rows =
    Parts frames (globals_read (block_of r globals_block)) (live_rows (λ i. account_read (account_row_bytes r i)) 0 account_limit) (live_rows (λ i. thread_read (thread_row_bytes r i)) 0 thread_limit)
    (live_rows (λ i. object_read (object_row_bytes r i)) 0 object_limit) (whole_table r frames) rows

pub row_parts : (r : Image) (frames : ℕ) (rows : Rows) → rows_of r frames ≡ Some rows → RowParts r frames rows
row_parts r frames rows read =
    split frames (globals_read (block_of r globals_block)) (live_rows (λ i. account_read (account_row_bytes r i)) 0 account_limit) (live_rows (λ i. thread_read (thread_row_bytes r i)) 0 thread_limit)
    (live_rows (λ i. object_read (object_row_bytes r i)) 0 object_limit) (whole_table r frames) (are_zeros (drop frames (whole_table r frames))) rows refl read

-- the image that was read has as many blocks as its settings need
pub read_set : (rows : VolumeRows) (image : Image) → IsReadAs rows image → IsSet rows.params image
read_set rows image read = record { gated = read.gated; super = read.super; long = ⊎_elim (λ t. leb-true (total_blocks rows.params.frames) (length image) t) (λ f. absurd (short f)) (cases_Bool (nat_le (total_blocks rows.params.frames) (length image))) }
  where
    short : nat_le (total_blocks rows.params.frames) (length image) ≡ false → ⊥
    short f =
        let e : Damaged ≡ Is (state_in rows read.replayed) =
        sym
        (volume-opened image (opened image read.gated)
        ∙ ap (volume_behind image) read.super
        ∙ ap (λ t. if t then option_map_or (λ replayed. replayed_volume rows.params replayed) (replay image (total_blocks rows.params.frames)) Damaged else Damaged) f)
        ∙ read.is in
        cc

-- an image with the same contents has the same rows, and is the same volume
pub record IsThere (rows : VolumeRows) (image now : Image) : Type 0 where
  pub replayed : Image
  pub replay_is : replay now (total_blocks rows.params.frames) ≡ Some replayed
  pub whole : IsSet rows.params now
  pub rows_are : rows_of replayed rows.params.frames ≡ Some (rows_in rows)
  pub same : volume now ≡ volume image

pub there : (rows : VolumeRows) (image now : Image) → IsReadAs rows image → SameContents (total_blocks rows.params.frames) image now → IsThere rows image now
there rows image now read same = at (replay now total) refl (subst (λ o. SeenBut InJournal o (replay now total)) read.replay_is same)
  where
    total : ℕ
    total = total_blocks rows.params.frames

    at : (o : Option Image) → replay now total ≡ o → SeenBut InJournal (Some read.replayed) o → IsThere rows image now
    at None told but = absurd but
    at (Some s) told but =
        let r = read.replayed in
        let set = read_set rows image read in
        let P : Option Image → Type 0 = λ o. SeenBut InJournal (Some r) o in
        record {
          replayed = s;
          replay_is = told;
          whole = contents_set rows.params r now (replay_set rows.params image r set read.replay_is) (subst P (sym told) but);
          rows_are = sym (rows_behind rows.params.frames r s (same_behind (first_frame rows.params.frames) r s but)) ∙ read.rows_are;
          same = volume_contents rows.params image r now set read.replay_is same;
        }
