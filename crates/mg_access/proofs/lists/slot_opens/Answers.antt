use Rattle.mg_access.{proofs.{Apart.{first-page-in, found-based}, Reached.{slot-none, slot-some}}, specs.{FoundLemmas.found-any, Searching.opens}}
use Rattle.{mg_access.specs.Searching.words_based, mg_model.specs.{Access.pairs_of, Ranges.IsPlace, State.ObjectRow}}
use Rattle.{mg_volume.specs.{Meaning.{is_page_in, now_of, objects_in}, RunLemmas.told_rows}, std.proofs.Common.{◌==◌, ◌/◌, ℕ, Some, None, []}}
use Rattle.std.{proofs.{Common.{if◌then◌else◌, find, sym, subst, ap, ◌∙◌}, lemmas.Result.IfOk-weaker}, specs.{List.list_any, Prelude.IsSome}}
use Rattle.std.specs.Prelude.{is_some}
use Rattle.mg_access.proofs.lists.slot_opens.Goals as goal

pub returns-in_default-clause-opens : goal.returns-in_default-clause-opens
returns-in_default-clause-opens g c image told =
    sym (slot-none (now_of c.args.volume.now image) c.args.sought.now c.args.slot.now (told_rows c.args.volume.now image (λ row. row.base == c.args.slot.now.base) None (sym c.in_default.ensures)))

pub returns-then-not-holds-clause-opens : goal.returns-then-not-holds-clause-opens
returns-then-not-holds-clause-opens g c image told =
    sym (slot-some (now_of c.args.volume.now image) c.args.sought.now c.args.slot.now c.in-Some.clist.now (told_rows c.args.volume.now image (λ row. row.base == c.args.slot.now.base) (Some c.in-Some.clist.now) (sym c.in-Some.ensures))
    ∙ ap (λ v. list_any (λ entry. opens c.args.sought.now entry) (if v then pairs_of (words_based (now_of c.args.volume.now image).objects c.args.slot.now.base) else [])) (sym c.holds.ensures ∙ c.if-not-holds.true))

pub list_opens-requires-clause-held : goal.list_opens-requires-clause-held
list_opens-requires-clause-held g c =
    let rows = objects_in c.args.volume.now in
    let is = ap (λ (row : ObjectRow). row.base) c.clist.view_is ∙ found-based rows c.args.slot.now.base c.in-Some.clist.now (sym c.in-Some.ensures) in
    subst (λ (base : ℕ). IsSome (find (λ row. row.base == base) rows)) (sym is) (ap is_some (sym c.in-Some.ensures))

pub list_opens-requires-clause-page : goal.list_opens-requires-clause-page
list_opens-requires-clause-page g c =
    let rows = objects_in c.args.volume.now in
    let row = c.in-Some.clist.now in
    let base = c.clist.inside.base in
    let same = ap (λ (row : ObjectRow). row.base) c.clist.view_is in
    let place = subst (λ (row : ObjectRow). IsPlace row.base row.pages) c.clist.view_is c.clist.invariant.place in
    found-any (λ row. row.base == c.args.slot.now.base) (λ row. is_page_in (base / 4096) row) rows row (sym c.in-Some.ensures) (first-page-in row base same place)

pub returns-clause-opens : goal.returns-clause-opens
returns-clause-opens g c =
    let rows = objects_in c.args.volume.now in
    let is = ap (λ (row : ObjectRow). row.base) c.clist.view_is ∙ found-based rows c.args.slot.now.base c.in-Some.clist.now (sym c.in-Some.ensures) in
    IfOk-weaker c.list_opens.result _ _
    (λ found opened image told. opened image told
    ∙ ap (λ base. list_any (λ entry. opens c.args.sought.now entry) (pairs_of (words_based (now_of c.args.volume.now image).objects base))) is
    ∙ sym (slot-some (now_of c.args.volume.now image) c.args.sought.now c.args.slot.now c.in-Some.clist.now (told_rows c.args.volume.now image (λ row. row.base == c.args.slot.now.base) (Some c.in-Some.clist.now) (sym c.in-Some.ensures))
    ∙ ap (λ v. list_any (λ entry. opens c.args.sought.now entry) (if v then pairs_of (words_based (now_of c.args.volume.now image).objects c.args.slot.now.base) else [])) (sym c.holds.ensures ∙ c.if-not-holds.false)))
    c.list_opens.ensures.opens
