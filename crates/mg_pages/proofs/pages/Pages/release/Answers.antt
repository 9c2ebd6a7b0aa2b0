use Rattle.{mg_frames.specs.Words.unless_within, mg_model.specs.Layout.table_blocks, mg_pages.proofs.Released.{releases, sound-released}}
use Rattle.{mg_pages.{proofs.Released.{spelled-released, unbinds-released}, specs.{Meaning.staged_of, Parts.StagesTable}}, std.proofs.Common.arith}
use Rattle.std.proofs.Common.{length, map}
use Rattle.mg_pages.proofs.pages.Pages.release.Goals as goal

stages : (c : goal.After-release_pages) → StagesTable c.args.self.now.frames (map (unless_within c.args.first c.args.pages) c.args.self.now.frames) (table_blocks (length c.args.self.now.frames)) c.args.self.now.blocks.writes c.release_pages.new.blocks.writes
stages c = rw c.release_pages.ensures.frames at c.release_pages.ensures.staged

pub invariant_of-self : goal.invariant_of-self
unfolding staged_of
invariant_of-self c =
    let p = c.args.self.now in
    let few = c.requires in
    record { sound = rw (c.release_pages.ensures.frames, c.release_pages.ensures.keeps) (sound-released p.blocks.store.total p.frames p.blocks.writes c.release_pages.new.blocks.writes c.args.first c.args.pages (stages c) (omega arith) p.sound) }

pub returns-clause-released : goal.returns-clause-released
returns-clause-released c = releases c.args.self.now _ c.args.first c.args.pages c.release_pages.ensures.keeps c.release_pages.ensures.frames (stages c.before)

pub returns-clause-spelled : goal.returns-clause-spelled
returns-clause-spelled c = spelled-released c.args.self.now _ c.args.first c.args.pages c.release_pages.ensures.keeps c.release_pages.ensures.frames (stages c.before)

pub returns-clause-unbinds : goal.returns-clause-unbinds
returns-clause-unbinds c = unbinds-released c.args.self.now _ c.args.first c.args.pages c.release_pages.ensures.keeps c.release_pages.ensures.frames (stages c.before)
