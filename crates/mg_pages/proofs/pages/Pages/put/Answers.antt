use Rattle.{mg_journal.specs.Staged.waiting, mg_model.specs.Abbreviations.word_bytes, mg_pages.proofs.Restaged.{put-pages, put-sound, was-there}}
use Rattle.{mg_pages.specs.Meaning.waiting_in, std.{proofs.Common.{◌+◌, refl, List, ℕ}, specs.List.splice}}
use Rattle.mg_pages.proofs.pages.Pages.put.Goals as goal

abbrev with_word : (c : goal.After-put) → List ℕ → List ℕ
with_word c bytes = splice bytes c.args.at (c.args.at + 8) (word_bytes c.args.word)

pub invariant_of-self : goal.invariant_of-self
invariant_of-self c = record { sound = put-sound c.args.self.now c.put.new.self c.args.block (with_word c) c.requires.place.low c.requires.place.high (waiting c.args.self.now.blocks.writes c.args.block) refl c.put.ensures.put }

pub returns-clause-was : goal.returns-clause-was
unfolding waiting_in
returns-clause-was c = was-there c.args.self.now c.args.block c.requires.place.high (waiting c.args.self.now.blocks.writes c.args.block) refl

pub returns-clause-put : goal.returns-clause-put
unfolding waiting_in
returns-clause-put c = put-pages c.args.self.now _ c.args.block (with_word c.before) c.requires.place.low c.requires.place.high refl refl refl (waiting c.args.self.now.blocks.writes c.args.block) refl c.put.ensures.put
