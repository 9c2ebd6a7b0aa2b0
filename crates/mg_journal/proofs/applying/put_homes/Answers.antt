use Rattle.{mg_disk.specs.{Disk.{Image, InRange, SameBut}, Runs.torn_at}, mg_journal.proofs.ApplyRuns.{named_row, row_applied, row_fits, torn_more}}
use Rattle.{mg_journal.specs.{Applied.{filled, nth_home}, Contents.names}, mg_model.specs.Replay.written, std.proofs.Common.{rules, ◌≡◌, ◌∙◌, ℕ}}
use Rattle.std.proofs.{Common.{List, ap, arith, option_map, true}, lemmas.List.take_all}
use Rattle.mg_journal.proofs.applying.put_homes.Goals as goal

pub returns-in_err-write_blocks-clause-tracks : goal.returns-in_err-write_blocks-clause-tracks
returns-in_err-write_blocks-clause-tracks g c pending image told =
    let places = c.args.places.now in
    let row = c.count_row-count.ensures in
    let first = c.loop-first.first in
    let P : ℕ → Type 0 = λ i. names (filled image places) i ≡ true in
    torn_at g.D.Disk P image c.args.disk.now c.loop-first.disk c.write_blocks.new.self (InRange (nth_home places first) _) (SameBut P image) (c.loop-first.invariant.tracks pending image told)
    c.write_blocks.ensures.stops (named_row image places first c.count_row-count.result c.row_among-row.result.now row.there row.row c.row_among-row.ensures.long) (λ x same. same)

pub returns-in_err-write_blocks-clause-torn : goal.returns-in_err-write_blocks-clause-torn
returns-in_err-write_blocks-clause-torn g c =
    let places = c.args.places.now in
    let row = c.count_row-count.ensures in
    let first = c.loop-first.first in
    torn_more (λ image i. names (filled image places) i ≡ true) (InRange (nth_home places first) _) (g.D.Disk.seen c.args.disk.now) (g.D.Disk.seen c.loop-first.disk) (g.D.Disk.seen c.write_blocks.new.self)
    (λ image. named_row image places first c.count_row-count.result c.row_among-row.result.now row.there row.row c.row_among-row.ensures.long) c.loop-first.invariant.torn c.write_blocks.ensures.unknown

pub loop-first-preserved : goal.loop-first-preserved
loop-first-preserved g c =
    let places = c.args.places.now in
    let counted = c.count_row-count.ensures in
    let first = c.loop-first.first in
    let n = c.count_row-count.result in
    let row = c.row_among-row.result.now in
    let made = c.row_among-row.ensures in
    let inv = c.loop-first.invariant in
    record {
      within = counted.there;
      room = c.gather.ensures.room ∙ inv.room;
      blocks = c.write_blocks.ensures.blocks ∙ inv.blocks;
      count = search rules;
      written = row_applied (g.D.Disk.block_count c.args.disk.now) places first n c.args.journal.now row (g.D.Disk.seen c.args.disk.now) (g.D.Disk.seen c.loop-first.disk) (g.D.Disk.seen c.write_blocks.new.self)
          c.requires.all_on_disk counted.there counted.row made.row made.long c.requires.read inv.written c.write_blocks.ensures.unknown c.in_ok-write_blocks.ensures.written;
      torn = torn_more (λ image i. names (filled image places) i ≡ true) (InRange (nth_home places first) _) (g.D.Disk.seen c.args.disk.now) (g.D.Disk.seen c.loop-first.disk) (g.D.Disk.seen c.write_blocks.new.self)
          (λ image. named_row image places first n row counted.there counted.row made.long) inv.torn c.write_blocks.ensures.unknown;
      tracks = λ pending image told.
          let P : ℕ → Type 0 = λ i. names (filled image places) i ≡ true in
          torn_at g.D.Disk P image c.args.disk.now c.loop-first.disk c.write_blocks.new.self (InRange (nth_home places first) _) (SameBut P image) (inv.tracks pending image told)
          c.write_blocks.ensures.stops (named_row image places first n row counted.there counted.row made.long) (λ x same. same);
    }

pub write_blocks-requires : goal.write_blocks-requires
write_blocks-requires g c =
    let counted = c.count_row-count.ensures in
    let made = c.row_among-row.ensures in
    let fits = row_fits (g.D.Disk.block_count c.args.disk.now) c.args.places.now c.loop-first.first c.count_row-count.result c.row_among-row.result.now c.requires.all_on_disk counted.some counted.there counted.row made.long in
    record { in_range = omega (arith, fits, c.loop-first.invariant.blocks) }

pub returns-clause-tracks : goal.returns-clause-tracks
returns-clause-tracks g c = c.loop-first.invariant.tracks

pub returns-clause-torn : goal.returns-clause-torn
returns-clause-torn g c = c.loop-first.invariant.torn

pub returns-clause-written : goal.returns-clause-written
returns-clause-written g c =
    let told = g.D.Disk.seen c.args.disk.now in
    let all = take_all c.loop-first.first c.args.places.now c.loop-first-test.false in
    c.loop-first.invariant.written ∙ ap (λ (p : List (ℕ × ℕ)). option_map (λ image. written image (filled image p)) told) all
