use Rattle.{mg_disk.specs.Disk.block_at, mg_journal.specs.{Staged.{staged, waiting}, Standing.total_of}, mg_model.specs.Bytes.block_words}
use Rattle.mg_pages.proofs.{Awaited.{coming-none, coming-waiting}, BlocksKept.{matched, missing, staged-twice, there}, Staging.waiting-staged}
use Rattle.{mg_pages.specs.SpelledLemmas.replayed_is, std.proofs.Common.{◌<◌, ◌∙◌, ap, arith, length, slice_set, sym}}
use Rattle.mg_pages.proofs.blocks.Blocks.set_word.Goals as goal

pub returns-then-put_staged-clause-staged : goal.returns-then-put_staged-clause-staged
returns-then-put_staged-clause-staged g c =
    let now = c.args.self.now in
    let here = there (waiting now.writes c.args.block) _ _ c.if-put_staged.ensures.waits c.put_staged.ensures.put in
    record {
      bytes = here.2.bytes;
      more = here.2.more;
      are = λ image told first low are.
          let stands = c.requires.stands in
          let counted = g.met.D.Disk.seen_count c.args.disk.now image told in
          let high = stands.room in
          let place = c.requires.place in
          let below : c.args.block < length image = omega arith in
          here.2.are
          ∙ ap (λ bytes. slice_set (block_words bytes) c.args.index c.args.value) (sym (coming-waiting now.store now.writes image c.args.block here.0 (stands.fits image told) c.requires.once below here.1));
    }

pub returns-in-Ok-clause-staged : goal.returns-in-Ok-clause-staged
returns-in-Ok-clause-staged g c =
    let now = c.args.self.now in
    let block = c.args.block in
    let none = missing (waiting now.writes block) _ _ c.if-put_staged.ensures.waits c.put_staged.ensures.put in
    let whole = c.in-Ok.ensures.staged in
    let put = matched (waiting c.stage_whole.new.self.writes block) whole.bytes _ _ (ap (λ ws. waiting ws block) whole.more ∙ waiting-staged c.put_staged.new.writes block whole.bytes) c.put_staged-there.ensures.put in
    record {
      bytes = put.bytes;
      more = put.more ∙ ap (λ ws. staged ws block put.bytes) whole.more ∙ staged-twice c.put_staged.new.writes block whole.bytes put.bytes ∙ ap (λ ws. staged ws block put.bytes) none.1;
      are = λ image told first low are.
          put.are
          ∙ ap (λ bytes. slice_set (block_words bytes) c.args.index c.args.value)
          (coming-none now.store now.writes image block whole.bytes (c.requires.stands.fits image told) none.0
          (λ r is. whole.are image told first low are ∙ ap (λ i. block_at i block) (replayed_is (total_of now.store) image r is)));
    }

pub returns-in-Ok-clause-looks : goal.returns-in-Ok-clause-looks
returns-in-Ok-clause-looks g c =
    let looks = c.stage_whole.ensures.looks in
    record {
      keeps = λ first. let k = looks.keeps first in record { store = k.store; kept = k.kept };
      stands = looks.stands;
      reads = c.in-Ok.ensures.looks.reads;
    }
