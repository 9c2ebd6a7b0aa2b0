use Rattle.{mg_access.specs.FoundLemmas.{found-any, found-passes, page-in}, mg_calls_dom.proofs.Fetched.{fetched-keeps, fetched-limit, fetched-word}}
use Rattle.{mg_calls_dom.proofs.{Fetched.{unfetched-keeps, unfetched-limit, unfetched-word}, Words.word-address}, mg_model.specs.Access.covers}
use Rattle.{mg_model.specs.Objects.word_at, mg_vcache.specs.Seats.{AllBacked, is_kept}, mg_volume.specs.Meaning.{has_page, is_page_in, now_of}}
use Rattle.{mg_volume.specs.{Meaning.objects_in, RunLemmas.{reads_then, told_since}}, std.proofs.Common.{◌≡◌, ◌+◌, ◌*◌, ◌/◌, true, arith, sym, ap}}
use Rattle.std.proofs.Common.{subst, ◌∙◌}
use Rattle.mg_calls_dom.proofs.access.fetch.Goals as goal

pub word-requires-clause-page : goal.word-requires-clause-page
word-requires-clause-page g c =
    let held = rw c.in-Some.is at c.in_ok-validate.ensures.at in
    let inside = found-passes (λ row. covers row c.args.address) (objects_in c.validate.new.volume) held.row held.found in
    subst (λ page. has_page c.validate.new.volume page ≡ true) (sym c.page_of.ensures)
    (found-any (λ row. covers row c.args.address) (λ row. is_page_in (c.args.address / 4096) row) (objects_in c.validate.new.volume) held.row held.found (page-in held.row c.args.address inside held.rules.place))

pub returns-in_ok-word-in-Some-clause-word : goal.returns-in_ok-word-in-Some-clause-word
returns-in_ok-word-in-Some-clause-word g c image told =
    let state = now_of c.args.volume.now image in
    let address = word-address c.args.address c.page_of.result c.index_of.result c.page_of.ensures c.index_of.ensures c.requires.aligned in
    let word = told_since g.D.Disk c.args.volume.now c.validate.new.volume c.args.disk.now c.validate.new.disk c.args.steps.now c.validate.new.steps c.in_ok-word-in-Some.field-0
    (λ s. word_at s.objects (4096 * c.page_of.result + 8 * c.index_of.result)) c.validate.ensures.finds.reads c.in_ok-word-in-Some.ensures.word image told in
    let reached = rw c.in-Some.is at (c.in_ok-validate.ensures.row image told) in
    fetched-word state c.args.thread c.args.address reached.row c.in_ok-word-in-Some.field-0 reached.found (word ∙ ap (λ a. word_at state.objects a) address)

pub returns-in-None-clause-word : goal.returns-in-None-clause-word
returns-in-None-clause-word g c image told = unfetched-word (now_of c.args.volume.now image) c.args.thread c.args.address (rw c.in-None.is at (c.in_ok-validate.ensures.row image told))

pub returns-in_ok-word-in-Some-clause-reads : goal.returns-in_ok-word-in-Some-clause-reads
returns-in_ok-word-in-Some-clause-reads g c =
    reads_then g.D.Disk c.args.volume.now c.validate.new.volume c.word.new.self c.args.disk.now c.validate.new.disk c.word.new.disk c.args.steps.now c.validate.new.steps c.word.new.steps c.validate.ensures.finds.reads c.word.ensures.reads

pub returns-in_err-word-in-Some-clause-reads : goal.returns-in_err-word-in-Some-clause-reads
returns-in_err-word-in-Some-clause-reads g c =
    reads_then g.D.Disk c.args.volume.now c.validate.new.volume c.word.new.self c.args.disk.now c.validate.new.disk c.word.new.disk c.args.steps.now c.validate.new.steps c.word.new.steps c.validate.ensures.finds.reads c.word.ensures.reads

pub returns-in_ok-word-in-Some-clause-backed : goal.returns-in_ok-word-in-Some-clause-backed
returns-in_ok-word-in-Some-clause-backed g c image told = subst (λ s. AllBacked s c.validate.new.cache) (sym (c.word.ensures.reads.keeps.now image)) (c.validate.ensures.finds.backed image told)

pub returns-in_err-word-in-Some-clause-backed : goal.returns-in_err-word-in-Some-clause-backed
returns-in_err-word-in-Some-clause-backed g c image told = subst (λ s. AllBacked s c.validate.new.cache) (sym (c.word.ensures.reads.keeps.now image)) (c.validate.ensures.finds.backed image told)

pub returns-in_ok-word-in-Some-clause-keeps : goal.returns-in_ok-word-in-Some-clause-keeps
returns-in_ok-word-in-Some-clause-keeps g c image told =
    let (n, rose, words) = c.validate.ensures.finds.reads.counted in
    let reached = rw c.in-Some.is at (c.in_ok-validate.ensures.row image told) in
    fetched-keeps (now_of c.args.volume.now image) c.args.thread c.args.address (λ key. is_kept c.args.cache.now key) c.args.steps.now c.validate.new.steps (λ key. is_kept c.validate.new.cache key) c.word.new.steps reached.row
    reached.found (c.in_ok-validate.ensures.finds.keeps image told) (omega arith) c.in_ok-word-in-Some.ensures.counts

pub returns-in-None-clause-keeps : goal.returns-in-None-clause-keeps
returns-in-None-clause-keeps g c image told =
    let (n, rose, words) = c.validate.ensures.finds.reads.counted in
    unfetched-keeps (now_of c.args.volume.now image) c.args.thread c.args.address (λ key. is_kept c.args.cache.now key) c.args.steps.now c.validate.new.steps (λ key. is_kept c.validate.new.cache key)
    (rw c.in-None.is at (c.in_ok-validate.ensures.row image told)) (c.in_ok-validate.ensures.finds.keeps image told) (omega arith)

pub returns-in_ok-word-in-Some-clause-limit : goal.returns-in_ok-word-in-Some-clause-limit
returns-in_ok-word-in-Some-clause-limit g c image told =
    let reached = rw c.in-Some.is at (c.in_ok-validate.ensures.row image told) in
    fetched-limit (now_of c.args.volume.now image) c.args.thread c.args.address (λ key. is_kept c.args.cache.now key) c.args.steps.now c.validate.new.steps c.word.new.steps reached.row reached.found (c.validate.ensures.finds.limit image told)
    c.in_ok-word-in-Some.ensures.counts

pub returns-in_err-word-in-Some-clause-limit : goal.returns-in_err-word-in-Some-clause-limit
returns-in_err-word-in-Some-clause-limit g c image told =
    let same = c.in_err-word-in-Some.ensures.counts in
    let few = c.validate.ensures.finds.limit image told in
    unfetched-limit (now_of c.args.volume.now image) c.args.thread c.args.address (λ key. is_kept c.args.cache.now key) c.args.steps.now c.word.new.steps (omega arith)

pub returns-in-None-clause-limit : goal.returns-in-None-clause-limit
returns-in-None-clause-limit g c image told = unfetched-limit (now_of c.args.volume.now image) c.args.thread c.args.address (λ key. is_kept c.args.cache.now key) c.args.steps.now c.validate.new.steps (c.validate.ensures.finds.limit image told)

pub returns-in_err-validate-clause-limit : goal.returns-in_err-validate-clause-limit
returns-in_err-validate-clause-limit g c image told = unfetched-limit (now_of c.args.volume.now image) c.args.thread c.args.address (λ key. is_kept c.args.cache.now key) c.args.steps.now c.validate.new.steps (c.validate.ensures.finds.limit image told)
