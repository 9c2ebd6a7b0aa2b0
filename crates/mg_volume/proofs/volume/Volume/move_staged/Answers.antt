use Rattle.{mg_model.specs.State.Thread, mg_pages.specs.declared.pages.Pages.Pages, mg_volume.proofs.{Found.thread_found, Handed.{no, nor}}}
use Rattle.mg_volume.proofs.{PagesChange.held_same, Stages.restaged, StandingPages.with_pages, StillWaiting.thread_here, ThreadChanged.thread_changed}
use Rattle.mg_volume.{proofs.{ThreadMoved.{changes_found, moved_read}, ThreadStaged.{thread_changes, with_threads}}, specs.Meaning.IsVolume}
use Rattle.{mg_volume.specs.{Meaning.threads_in, Standing.stands_at, contracts.volume.Volume.the_view}, std.proofs.Common.{◌≡◌, ◌∙◌, ◌==◌, Some, ap}}
use Rattle.std.proofs.Common.{find, refl, subst, sym}
use Rattle.mg_volume.proofs.volume.Volume.move_staged.Goals as goal

pub returns : goal.returns
returns c =
    let v = the_view c.self.inside in
    let p = c.respell.new.pages in
    let row = c.in-Some.row.now in
    let stands = stands_at c.args.pc c.args.state c.args.regs.now in
    let low = c.keep_number.ensures.at_least_1 in
    let high = c.keep_number.ensures.at_most_256 in
    let found = c.in-Some.ensures.found in
    let told = c.if-not-respell.ensures.staged refl in
    let read = moved_read v p c.args.number row (stands row) low high found told c.rows_are_spelled_in_one_way.ensures.threads (c.move_to.ensures.kept row (sym found)) in
    let all = thread_changes v p c.args.number (Some (stands row)) c.move_to.new.self told.bytes low high (c.move_to.ensures.stands row (sym found)) (restaged _ told.bytes c.self.inside.pages p told.restages) read in
    let same = rw (← c.self.view_is) at c.numbers_differ.ensures in
    let lives = rw (← c.self.view_is) at c.requires.lives in
    rw (← c.self.view_is)
    (record {
      not_staged = nor;
      now = λ _ change gives image.
          all.now image ∙ thread_changed v image c.args.number (stands row) change same lives (changes_found change stands (find (λ (thread : Thread). thread.number == c.args.number) (threads_in v)) row (thread_found v c.args.number (Some row) found) gives);
      rows = λ _. all.rows;
      stages = λ _. all.stages;
      objects = λ _. all.objects;
      here = λ _. thread_here (with_threads v c.move_to.new.self p) c.args.number told.restages.here;
    })

pub returns-in_default : goal.returns-in_default
returns-in_default c = record { not_staged = λ _. refl; now = no; rows = no; stages = no; objects = no; here = no }

same-pages : (c : goal.Then-not-respell) → c.respell.new.pages ≡ c.self.inside.pages
same-pages c = c.if-not-respell.ensures.not_staged refl

pub invariant_of-self : goal.invariant_of-self
invariant_of-self c = subst (λ (p : Pages). IsVolume (with_pages (the_view c.self.inside) p) c.self.inside.bank.pages) (sym (same-pages c)) c.self.invariant

pub returns-then-not-respell : goal.returns-then-not-respell
returns-then-not-respell c =
    record { not_staged = λ _. ap (with_pages (the_view c.self.inside)) (same-pages c) ∙ c.self.view_is; now = no; rows = no; stages = no; objects = no; here = no }

pub invariant_of-self-2 : goal.invariant_of-self-2
invariant_of-self-2 c =
    let v = the_view c.self.inside in
    let told = (c.if-not-respell.ensures.staged refl).restages in
    record { kept = held_same v v.counters c.move_to.new.self c.respell.new.pages c.self.invariant.kept c.move_to.ensures.few told.shape.frames told.table; paid = c.self.invariant.paid }
