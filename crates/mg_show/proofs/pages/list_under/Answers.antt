use Rattle.{mg_model.specs.{Access.holds, declared.rights.Right.TheVariants.R}, mg_show.proofs.{Learning.learns_none, Listing.opened}}
use Rattle.{mg_show.specs.{Marking.named_by, Reached.listed}, std.proofs.Common.{[], None, Some, ap, if◌then◌else◌, refl, sym, ◌∙◌}}
use Rattle.mg_show.proofs.pages.list_under.Goals as goal

pub returns-then-holds : goal.returns-then-holds
returns-then-holds g c =
    let shown = c.args.shown.now in
    let slot = c.args.slot in
    let row = c.in-Some.row.now in
    let opens = ap (λ period. holds period row slot.password R) (sym c.period.ensures) ∙ sym c.holds.ensures ∙ c.if-holds.true in
    record {
      is = λ none r told.
          c.list_of.ensures.is none r told ∙ sym (ap (λ v. if v then listed shown r row else []) opens)
          ∙ opened shown r slot.base slot (Some row) refl c.in-Some.ensures;
      reads = c.list_of.ensures.reads;
    }

pub returns-else-holds : goal.returns-else-holds
returns-else-holds g c =
    let shown = c.args.shown.now in
    let slot = c.args.slot in
    let row = c.in-Some.row.now in
    let shut = ap (λ period. holds period row slot.password R) (sym c.period.ensures) ∙ sym c.holds.ensures ∙ c.if-holds.false in
    learns_none g.D.Disk c.args.disk.now c.args.out.now (g.met.D.Disk.now_has_been c.args.disk.now)
    (λ r. ap named_by c.new.ensures ∙ sym (ap (λ v. if v then listed shown r row else []) shut)
    ∙ opened shown r slot.base slot (Some row) refl c.in-Some.ensures)

pub returns-in-None : goal.returns-in-None
returns-in-None g c =
    let slot = c.args.slot in
    learns_none g.D.Disk c.args.disk.now c.args.out.now (g.met.D.Disk.now_has_been c.args.disk.now)
    (λ r. ap named_by c.new-in-None.ensures ∙ opened c.args.shown.now r slot.base slot None refl c.in-None.ensures)
