use Rattle.{mg_disk.specs.Disk.block_at, mg_journal.specs.{ResultLemmas.some_of, Staged.waiting, Standing.total_of}, mg_model.specs.Bytes.number_at}
use Rattle.mg_pages.proofs.{Awaited.{coming-none, coming-waiting}, BlocksKept.{keeps-none, keeps-then, looks-none}, KeptWrites.kept-same}
use Rattle.mg_pages.{proofs.Staging.written-none, specs.{Kept.{AreKept, kept_at}, Meaning.replayed, Parts.coming_of, SpelledLemmas.replayed_is}}
use Rattle.std.{proofs.{Common.{◌≡◌, ◌≤◌, ◌<◌, ◌*◌, ◌∙◌, ap, arith, length, refl, sym}, lemmas.Result.IfOk-weaker}, specs.Option.ForSome}
use Rattle.mg_pages.proofs.blocks.Blocks.word.Goals as goal

pub returns-in-Some-clause-word : goal.returns-in-Some-clause-word
returns-in-Some-clause-word g c image told first low are =
    let now = c.args.self.now in
    let stands = c.requires.stands in
    let counted = g.met.D.Disk.seen_count c.args.disk.now image told in
    let high = stands.room in
    let place = c.requires.place in
    let below : c.args.block < length image = omega arith in
    let staged = some_of (λ bytes. c.in-Some.word ≡ number_at bytes (8 * c.args.index)) (waiting now.writes c.args.block) c.in-Some.ensures in
    staged.2 ∙ ap (λ bytes. number_at bytes (8 * c.args.index)) (sym (coming-waiting now.store now.writes image c.args.block staged.0 (stands.fits image told) c.requires.once below staged.1))

pub returns-in-Some-clause-looks : goal.returns-in-Some-clause-looks
returns-in-Some-clause-looks g c =
    let disk = c.args.disk.now in
    looks-none g.D.Disk c.args.self.now c.args.self.now disk c.in-Some.word (g.met.D.Disk.now_has_been disk) c.requires.stands (λ first. keeps-none (g.D.Disk.seen disk) first c.args.self.now)

pub returns-in-Some-word-clause-word : goal.returns-in-Some-word-clause-word
returns-in-Some-word-clause-word g c image told first low are =
    let now = c.args.self.now in
    let kept = some_of (λ bytes. c.in-Some-word.word ≡ number_at bytes (8 * c.args.index)) (kept_at now.kept c.args.block) c.in-Some-word.ensures.word in
    kept.2
    ∙ ap (λ bytes. number_at bytes (8 * c.args.index))
    (coming-none now.store now.writes image c.args.block kept.0 (c.requires.stands.fits image told) c.in-None.ensures
    (λ r is. are c.args.block kept.0 kept.1 low ∙ ap (λ i. block_at i c.args.block) (replayed_is (total_of now.store) image r is)))

pub returns-in-Some-word-clause-looks : goal.returns-in-Some-word-clause-looks
returns-in-Some-word-clause-looks g c =
    let now = c.args.self.now in
    let disk = c.args.disk.now in
    looks-none g.D.Disk now (record now { kept = c.word.new.self }) disk c.in-Some-word.word (g.met.D.Disk.now_has_been disk) c.requires.stands
    (λ first. record { store = refl; kept = λ image seen are. kept-same first (replayed now.store.total image) now.kept c.word.new.self c.word.ensures.same are })

pub returns-in-None-word-clause-word : goal.returns-in-None-word-clause-word
returns-in-None-word-clause-word g c =
    let now = c.args.self.now in
    let block = c.args.block in
    IfOk-weaker c.read_word.result (λ word. ForSome (g.D.Disk.seen c.args.disk.now) (λ image. word ≡ number_at (block_at (replayed (total_of now.store) image) block) (8 * c.args.index)))
    (λ word. ForSome (g.D.Disk.seen c.args.disk.now) (λ image. (first : _) → first ≤ block → AreKept first (replayed (total_of now.store) image) now.kept → word ≡ number_at (block_at (coming_of now.store now.writes image) block) (8 * c.args.index)))
    (λ word is image told first low are. is image told ∙ ap (λ bytes. number_at bytes (8 * c.args.index)) (sym (written-none now.writes (replayed (total_of now.store) image) block c.in-None.ensures)))
    c.read_word.ensures.word

pub returns-in-None-word-clause-looks : goal.returns-in-None-word-clause-looks
returns-in-None-word-clause-looks g c =
    let now = c.args.self.now in
    let mid = c.word.new.self in
    let looks = c.read_word.ensures.looks in
    record {
      keeps = λ first.
          keeps-then (g.D.Disk.seen c.args.disk.now) first now (record now { kept = mid }) c.read_word.new.self
          (record { store = refl; kept = λ image seen are. kept-same first (replayed now.store.total image) now.kept mid c.word.ensures.same are }) (looks.keeps first);
      stands = looks.stands;
      reads = looks.reads;
    }
