use Rattle.mg_calls_thr.{proofs.Owned.{lives-held, none-there, one-there}, specs.Owning.{birth_among, is_own_among, thread_among}}
use Rattle.{mg_model.specs.declared.replies.Refusal.TheVariants.NotYours, mg_volume.specs.Meaning.threads_in, std.proofs.Common.{sym, ap, ◌∙◌}}
use Rattle.std.specs.Prelude.{◌==◌, None, Some, not, if◌then◌else◌}
use Rattle.mg_calls_thr.proofs.owning.not_own.Goals as goal

pub returns-in_default-clause-word : goal.returns-in_default-clause-word
returns-in_default-clause-word c = let threads = threads_in c.args.volume.now in sym (none-there (thread_among threads c.args.number) (is_own_among threads c.args.thread c.args.number) c.in_default.ensures.found)

pub returns-then-not-is_own-clause-word : goal.returns-then-not-is_own-clause-word
returns-then-not-is_own-clause-word c =
    let threads = threads_in c.args.volume.now in
    sym (one-there (thread_among threads c.args.number) c.in-Some.row (c.args.number == c.args.thread) (birth_among threads c.args.thread) c.in-Some.ensures.found
    ∙ ap (λ v. if not v then Some NotYours else None) (sym c.is_own.ensures ∙ c.if-not-is_own.true))

pub returns-clause-word : goal.returns-clause-word
returns-clause-word c =
    let threads = threads_in c.args.volume.now in
    sym (one-there (thread_among threads c.args.number) c.in-Some.row (c.args.number == c.args.thread) (birth_among threads c.args.thread) c.in-Some.ensures.found
    ∙ ap (λ v. if not v then Some NotYours else None) (sym c.is_own.ensures ∙ c.if-not-is_own.false))

pub returns-clause-may : goal.returns-clause-may
returns-clause-may c =
    let (some, few) = c.in-Some.ensures.within_1_and_256 in
    (some, few, lives-held c.args.number (threads_in c.args.volume.now) c.in-Some.row c.in-Some.ensures.found)
