use Rattle.{mg_journal.specs.Staged.staged, mg_model.specs.{Layout.{first_frame, table_block}, RowLemmas.block_words-zeros}}
use Rattle.{mg_pages.{proofs.Numbers.block-set, specs.{Entries.HoldsEntries, declared.blocks.Blocks.Blocks}}, std.proofs.Common.{refl, ◌+◌, ◌/◌, ◌∙◌}}
use Rattle.std.proofs.{Common.{ap, length, replicate, slice_set, subst}, lemmas.List.length-set}
use Rattle.mg_pages.proofs.storing.begin.Goals as goal

pub returns-clause-begins : goal.returns-clause-begins
returns-clause-begins c =
    let frame = c.bind-frame.result in
    record {
      frame = frame;
      lowest = c.bind-frame.ensures.lowest;
      bound = c.bind-frame.ensures.bound;
      block = c.put_word.new.block;
      are =
          block-set (replicate 4096 0) c.put_word.new.block c.args.index c.args.value c.requires.index c.put_word.ensures.word c.put_word.ensures.others
          ∙ ap (λ words. slice_set words c.args.index c.args.value) block_words-zeros;
      entries = c.entries_block.result;
      hold = subst (λ frames. HoldsEntries frames (frame / 512) c.entries_block.result) c.as_slice.ensures c.entries_block.ensures;
      more =
          ap (λ (b : Blocks). b.writes) c.stage-2.ensures
          ∙ ap (λ writes. staged writes (table_block + frame / 512) c.entries_block.result)
          (ap (λ (b : Blocks). b.writes) c.stage.ensures
          ∙ ap (λ block. staged c.args.blocks.now.writes block c.put_word.new.block)
          (c.frame_block.ensures ∙ ap (λ n. first_frame n + frame) (c.len.ensures.count ∙ ap length c.bind-frame.ensures.bound ∙ length-set c.args.frames.now frame c.args.page)));
    }

pub returns-clause-keeps : goal.returns-clause-keeps
returns-clause-keeps c = rw (c.stage-2.ensures, c.stage.ensures) refl
