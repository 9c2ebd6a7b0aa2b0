use Rattle.{mg_disk.specs.Disk.Image, mg_show.proofs.WordTexts.{pages_text-more, pages_text-none, words_text-zeros}}
use Rattle.mg_show.{proofs.state.put_pages.Goals.{else-read_page, then-read_page}, specs.{StateText.words_text, WordText.{words_read, block_text}}}
use Rattle.{mg_show.specs.{WordText.{page_text, pages_text}, WritingLemmas.{of_behind, of_put, of_same, of_then, puts_none}}, std.proofs.Common.◌≡◌}
use Rattle.std.proofs.Common.{◌+◌, ◌*◌, ◌∙◌, ap, arith, length, sym}
use Rattle.mg_show.proofs.state.put_pages.Goals as goal

pub loop-i-init : goal.loop-i-init
loop-i-init g c =
    let table = c.args.shown.now.frames in
    of_same g.D.Disk g.K.Sink (λ r. sym (pages_text-none r (length table) table c.args.first))
    (of_put g.D.Disk g.K.Sink (g.met.D.Disk.now_has_been c.args.disk.now) (puts_none g.K.Sink c.args.sink.now c.args.out.now))

pub loop-i-preserved : goal.loop-i-preserved
unfolding block_text page_text
loop-i-preserved g c =
    let table = c.args.shown.now.frames in
    let address = 4096 * (c.args.first + c.loop-i.i) in
    let more = λ (r : Image). sym (pages_text-more r (length table) table c.args.first c.loop-i.i) in
    elim c.if-read_page.branch [
      | then-read_page w ↦ rw (w.out-is, w.sink-is) (of_same g.D.Disk g.K.Sink more (of_then g.D.Disk g.K.Sink c.loop-i.invariant
          (of_behind g.D.Disk g.K.Sink c.read_page.ensures.reads w.put_block.ensures
          (λ none r told. sym (ap (λ v. words_text address (words_read v c.read_page.new.block)) w.if-read_page.true) ∙ ap (words_text address) (c.read_page.ensures.page none r told)))))
      | else-read_page w ↦ rw (w.out-is, w.sink-is) (of_same g.D.Disk g.K.Sink more (of_then g.D.Disk g.K.Sink c.loop-i.invariant
          (of_behind g.D.Disk g.K.Sink c.read_page.ensures.reads (puts_none g.K.Sink c.loop-i.sink c.read_page.new.out)
          (λ none r told. sym (ap (λ v. words_text address (words_read v c.read_page.new.block)) w.if-read_page.false ∙ words_text-zeros address 512)
          ∙ ap (words_text address) (c.read_page.ensures.page none r told)))))
    ]

pub returns : goal.returns
returns g c =
    let table = c.args.shown.now.frames in
    let end : c.loop-i.i ≡ c.args.count = let past = c.loop-i-test.false in let most = c.loop-i.auto.i-end in omega arith in
    of_same g.D.Disk g.K.Sink (λ r. ap (pages_text r (length table) table c.args.first) end) c.loop-i.invariant
