use Rattle.{mg_disk.specs.Disk.block_at, mg_journal.specs.Standing.total_of, mg_model.specs.{Bytes.{block_words, number_at}, Layout.first_frame}}
use Rattle.{mg_model.specs.Volume.page_words, mg_pages.{proofs.{Numbers.block-word, PageWords.{page-in, page-none}}, specs.Kept.AreKept}}
use Rattle.{mg_pages.specs.{Meaning.replayed, Parts.coming_of}, std.proofs.Common.{◌≡◌, ◌+◌, ◌≤◌, ◌*◌, ◌∙◌, ℕ, ap, arith, length, slice_index, sym}}
use Rattle.std.{proofs.lemmas.{List.get_or-replicate, Result.IfOk-weaker}, specs.Option.ForSome}
use Rattle.mg_pages.proofs.coming.page_word.Goals as goal

pub returns-in-Some-clause-word : goal.returns-in-Some-clause-word
returns-in-Some-clause-word g c =
    let store = c.args.blocks.now.store in
    let writes = c.args.blocks.now.writes in
    let kept = c.args.blocks.now.kept in
    let frames = c.args.frames.now in
    let index = c.args.index in
    let block = c.frame_block.result in
    let at : block ≡ first_frame (length frames) + c.in-Some.frame = c.frame_block.ensures ∙ ap (λ n. first_frame n + c.in-Some.frame) c.len.ensures.count in
    IfOk-weaker c.word.result
    (λ word. ForSome (g.D.Disk.seen c.args.disk.now) (λ image. (first : ℕ) → first ≤ block → AreKept first (replayed (total_of store) image) kept → word ≡ number_at (block_at (coming_of store writes image) block) (8 * index)))
    (λ word. ForSome (g.D.Disk.seen c.args.disk.now) (λ image. AreKept (first_frame (length frames)) (replayed (total_of store) image) kept → word ≡ slice_index (page_words (coming_of store writes image) (length frames) frames c.args.page) index))
    (λ word is image told are.
    is image told (first_frame (length frames)) (omega (arith, at)) are
    ∙ block-word (block_at (coming_of store writes image) block) index c.requires.index
    ∙ ap (λ b. slice_index (block_words (block_at (coming_of store writes image) b)) index) at
    ∙ ap (λ words. slice_index words index) (sym (page-in (coming_of store writes image) (length frames) frames c.args.page c.in-Some.frame (sym c.frame_of.ensures ∙ c.in-Some.is))))
    c.word.ensures.word

pub returns-in-None-clause-word : goal.returns-in-None-clause-word
returns-in-None-clause-word g c image told are =
    let frames = c.args.frames.now in
    let i = coming_of c.args.blocks.now.store c.args.blocks.now.writes image in
    sym (ap (λ words. slice_index words c.args.index) (page-none i (length frames) frames c.args.page (sym c.frame_of.ensures ∙ c.in-None.is)) ∙ get_or-replicate {A = ℕ} 512 c.args.index 0 0 c.requires.index)
