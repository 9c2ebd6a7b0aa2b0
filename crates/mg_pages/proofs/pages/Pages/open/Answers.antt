use Rattle.{mg_journal.specs.Held.Store, mg_model.specs.{Tests.all_distinct, Volume.bound_pages}, mg_pages.proofs.Made.{made-frames, made-pages}}
use Rattle.{mg_pages.proofs.Made.{made-sound, made-spelled}, std.proofs.Common.{◌≡◌, ap, length, refl, subst, sym, true}}
use Rattle.mg_pages.proofs.pages.Pages.open.Goals as goal

pub invariant_of-result : goal.invariant_of-result
invariant_of-result c =
    let e = c.in_ok-blocks.ensures in
    let entries = c.args.entries.items in
    let same = made-frames entries c.in-Some.frames c.in_ok-frames.field-0 c.in_ok-frames.ensures c.in-Some.is c.requires.distinct in
    record {
      sound = made-sound c.in_ok-blocks.blocks.store c.args.store.total (length entries) c.in-Some.frames c.in_ok-blocks.blocks.writes c.requires.frames (ap (λ (s : Store). s.total) e.store)
          (ap length same) (subst (λ fs. all_distinct (bound_pages fs) ≡ true) (sym same) c.requires.distinct) e.none;
    }

pub returns-clause-made : goal.returns-clause-made
returns-clause-made c =
    let e = c.in_ok-blocks.ensures in
    made-pages _ c.args.store (length c.args.entries.items) e.store e.none e.bare refl
    (ap length (made-frames c.args.entries.items c.in-Some.frames c.in_ok-frames.field-0 c.in_ok-frames.ensures c.in-Some.is c.requires.distinct))

pub returns-clause-spelled : goal.returns-clause-spelled
returns-clause-spelled c =
    let e = c.in_ok-blocks.ensures in
    made-spelled _ c.args.store c.args.entries.items e.store (made-frames c.args.entries.items c.in-Some.frames c.in_ok-frames.field-0 c.in_ok-frames.ensures c.in-Some.is c.requires.distinct) e.none e.bare
