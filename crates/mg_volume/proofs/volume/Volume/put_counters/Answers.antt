use Rattle.{mg_model.specs.Layout.globals_block, mg_pages.specs.declared.pages.Pages.Pages, mg_volume.proofs.Handed.{no, nor}}
use Rattle.mg_volume.proofs.{PagesChange.held_same, Rewritten.counters_read, Staged.{counters_changes, with_counters}, Stages.restaged}
use Rattle.mg_volume.{proofs.{StandingPages.with_pages, StillWaiting.counters_here}, specs.{Meaning.IsVolume, contracts.volume.Volume.the_view}}
use Rattle.std.proofs.Common.{◌≡◌, ◌∙◌, ap, refl, subst, sym}
use Rattle.mg_volume.proofs.volume.Volume.put_counters.Goals as goal

pub returns : goal.returns
returns c =
    let v = the_view c.self.inside in
    let p = c.respell_counters.new.pages in
    let told = c.if-not-respell_counters.ensures.staged refl in
    let all = counters_changes v p c.args.counters.now told.bytes (restaged globals_block told.bytes c.self.inside.pages p told.restages) (counters_read v p c.args.counters.now told c.rows_are_spelled_in_one_way.ensures.counters c.if-not-respell_counters.ensures.kept) in
    rw (← c.self.view_is)
    (record { not_staged = nor; now = λ _. all.now; rows = λ _. all.rows; stages = λ _. all.stages; objects = λ _. all.objects; here = λ _. counters_here (with_counters v p c.args.counters.now) told.restages.here })

same-pages : (c : goal.Then-not-respell_counters) → c.respell_counters.new.pages ≡ c.self.inside.pages
same-pages c = c.if-not-respell_counters.ensures.not_staged refl

pub invariant_of-self : goal.invariant_of-self
invariant_of-self c = subst (λ (p : Pages). IsVolume (with_pages (the_view c.self.inside) p) c.self.inside.bank.pages) (sym (same-pages c)) c.self.invariant

pub returns-then-not-respell_counters : goal.returns-then-not-respell_counters
returns-then-not-respell_counters c =
    record { not_staged = λ _. ap (with_pages (the_view c.self.inside)) (same-pages c) ∙ c.self.view_is; now = no; rows = no; stages = no; objects = no; here = no }

pub invariant_of-self-2 : goal.invariant_of-self-2
invariant_of-self-2 c =
    let v = the_view c.self.inside in
    let told = (c.if-not-respell_counters.ensures.staged refl).restages in
    record { kept = held_same v c.args.counters.now v.threads c.respell_counters.new.pages c.self.invariant.kept c.self.invariant.kept.few_threads told.shape.frames told.table; paid = c.self.invariant.paid }
