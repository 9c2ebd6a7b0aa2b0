use Rattle.{mg_journal.specs.{ResultLemmas.some_of, Staged.waiting}, mg_model.specs.Bytes.number_at, mg_pages.proofs.KeptWrites.kept-before}
use Rattle.{mg_pages.{proofs.KeptWrites.{kept-behind, same-behind}, specs.Kept.{KeepsSame, kept_at}}, std.proofs.Common.{◌≡◌, ◌*◌, ◌++◌, ◌∙◌, IfSome}}
use Rattle.std.proofs.Common.{IsSomeAnd, ap, subst, sym}
use Rattle.mg_pages.proofs.kept.CachedBlocks.word.Goals as goal

pub returns-in-Some-clause-word : goal.returns-in-Some-clause-word
returns-in-Some-clause-word c =
    let i = c.self.inside in
    let block = c.args.block in
    let found = some_of (λ bytes. c.in-Some.word ≡ number_at bytes (8 * c.args.index)) (waiting i.last block) c.in-Some.ensures in
    subst (λ o. IsSomeAnd o (λ bytes. c.in-Some.word ≡ number_at bytes (8 * c.args.index)))
    (sym (ap (λ es. kept_at es block) (sym c.self.view_is) ∙ kept-before i.last i.cache block found.0 found.1)) found.2

pub returns-in-None-clause-word : goal.returns-in-None-clause-word
returns-in-None-clause-word c =
    let i = c.self.inside in
    let block = c.args.block in
    subst (λ o. IfSome c.word.result (λ word. IsSomeAnd o (λ bytes. word ≡ number_at bytes (8 * c.args.index))))
    (sym (ap (λ es. kept_at es block) (sym c.self.view_is) ∙ kept-behind i.last i.cache block c.in-None.ensures)) c.word.ensures.word

pub returns-in-None-clause-same : goal.returns-in-None-clause-same
returns-in-None-clause-same c =
    let i = c.self.inside in
    subst (λ es. KeepsSame es (i.last ++ c.word.new.self)) c.self.view_is (same-behind i.last i.cache c.word.new.self c.word.ensures.same)
