use Rattle.{mg_model.specs.{Bytes.padded_to, Layout.block_size}, mg_pages.proofs.{OneBlock.stages-block, Sound.{room-staged, sound-staged}}}
use Rattle.{mg_pages.specs.Meaning.{is_staged, staged_of}, std.proofs.Common.{arith, refl}}
use Rattle.mg_pages.proofs.pages.Pages.stage_start.Goals as goal

pub stage_start-requires : goal.stage_start-requires
unfolding is_staged staged_of
stage_start-requires c = record { there_or_fewer_than_160 = room-staged c.args.self.now.blocks.writes c.args.block c.requires.staged_or_fewer_than_160; within = c.requires.within }

pub invariant_of-self : goal.invariant_of-self
unfolding is_staged staged_of
invariant_of-self c =
    let p = c.args.self.now in
    let size = p.sound.size in
    let high = c.requires.place.high in
    record { sound = rw c.stage_start.ensures (sound-staged p.blocks.store.total p.frames p.blocks.writes c.args.block (padded_to block_size c.args.start.now) c.requires.place.low (omega arith) c.requires.staged_or_fewer_than_160 p.sound) }

pub returns : goal.returns
returns c = stages-block c.args.self.now _ c.args.block (padded_to block_size c.args.start.now) c.stage_start.ensures refl c.requires.place refl
