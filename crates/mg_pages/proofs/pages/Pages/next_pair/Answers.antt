use Rattle.{mg_disk.specs.Disk.block_at, mg_model.specs.{Bytes.block_words, Layout.first_frame}, mg_pages.proofs.Counted.{keeps-alike, stands-alike}}
use Rattle.mg_pages.{proofs.InMemory.{held-coming, page-held, page-zeros}, specs.{Meaning.{coming, page_now}, Pairs.IsNextPair}}
use Rattle.std.proofs.{Common.{◌≡◌, ◌+◌, ◌≤◌, ◌∙◌, ap, arith, length, refl, rules, slice_index, subst, sym}, lemmas.Result.IfOk-weaker}
use Rattle.std.specs.Option.{ForSome}
use Rattle.mg_pages.proofs.pages.Pages.next_pair.Goals as goal

pub read_pair-requires-clause-stands : goal.read_pair-requires-clause-stands
read_pair-requires-clause-stands g c =
    let d = c.args.disk.now in
    stands-alike c.args.self.now _ refl refl refl g.D.Disk d d refl refl c.requires.stands.settled (record { store = refl; kept = λ image told are. are }) c.requires.stands

pub returns-in-None-clause-found : goal.returns-in-None-clause-found
returns-in-None-clause-found g c image told =
    subst (λ words. IsNextPair (λ index. slice_index words index) c.args.from c.args.count c.args.first c.next_pair.result)
    (page-zeros c.args.self.now image c.args.page c.zeros-zeros.result.now (sym c.frame_of.ensures ∙ c.in-None.is) c.zeros-zeros.ensures) c.next_pair.ensures.found

pub returns-in-None-clause-looks : goal.returns-in-None-clause-looks
returns-in-None-clause-looks g c =
    let d = c.args.disk.now in
    record {
      keeps = keeps-alike c.args.self.now _ refl refl refl;
      stands = stands-alike c.args.self.now _ refl refl refl g.D.Disk d d refl refl c.requires.stands.settled (record { store = refl; kept = λ image told are. are }) c.requires.stands;
      reads = search rules;
    }

pub returns-in-Some-held-clause-found : goal.returns-in-Some-held-clause-found
returns-in-Some-held-clause-found g c image told =
    let p = c.args.self.now in
    let block = c.frame_block-block.result in
    let at : block ≡ first_frame (length p.frames) + c.in-Some.frame = c.frame_block-block.ensures ∙ ap (λ n. first_frame n + c.in-Some.frame) c.len.ensures.count in
    let low : first_frame (length p.frames) ≤ block = omega arith in
    subst (λ words. IsNextPair (λ index. slice_index words index) c.args.from c.args.count c.args.first c.next_pair-in-Some-held.result)
    (page-held p image c.args.page c.in-Some.frame block c.in-Some-held.bytes.now (sym c.frame_of.ensures ∙ c.in-Some.is) at
    (held-coming p image (c.requires.stands.fits image told) block c.in-Some-held.bytes.now low c.in-Some-held.ensures))
    c.next_pair-in-Some-held.ensures.found

pub returns-in-Some-held-clause-looks : goal.returns-in-Some-held-clause-looks
returns-in-Some-held-clause-looks g c =
    let d = c.args.disk.now in
    record {
      keeps = keeps-alike c.args.self.now _ refl refl refl;
      stands = stands-alike c.args.self.now _ refl refl refl g.D.Disk d d refl refl c.requires.stands.settled (record { store = refl; kept = λ image told are. are }) c.requires.stands;
      reads = search rules;
    }

pub returns-in-None-held-clause-found : goal.returns-in-None-held-clause-found
unfolding coming
returns-in-None-held-clause-found g c =
    let p = c.args.self.now in
    let block = c.frame_block-block.result in
    let at : block ≡ first_frame (length p.frames) + c.in-Some.frame = c.frame_block-block.ensures ∙ ap (λ n. first_frame n + c.in-Some.frame) c.len.ensures.count in
    IfOk-weaker c.read_pair.result
    (λ found. ForSome (g.D.Disk.seen c.args.disk.now) (λ image. IsNextPair (λ index. slice_index (block_words (block_at (coming p image) block)) index) c.args.from c.args.count c.args.first found))
    (λ found. ForSome (g.D.Disk.seen c.args.disk.now) (λ image. IsNextPair (λ index. slice_index (page_now p image c.args.page) index) c.args.from c.args.count c.args.first found))
    (λ found is image told.
    subst (λ words. IsNextPair (λ index. slice_index words index) c.args.from c.args.count c.args.first found)
    (page-held p image c.args.page c.in-Some.frame block (block_at (coming p image) block) (sym c.frame_of.ensures ∙ c.in-Some.is) at refl) (is image told))
    c.read_pair.ensures.found
