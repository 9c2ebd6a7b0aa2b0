use Rattle.{mg_ranges.proofs.{Fits.fits, Lowest.{beside-all, fit-is, fit-lowest_free, some-fits}}, std.proofs.Common.{◌≡◌, ◌∙◌, ap, sym, None, Some}}
use Rattle.std.specs.{List.find, Option.option_copied}
use Rattle.mg_ranges.proofs.ranges.Ranges.first.Goals as goal

pub unreachable-requires : goal.unreachable-requires
unreachable-requires c =
    let none : find (fits c.args.pages) c.args.self.now ≡ None = ap (find (fits c.args.pages)) (sym c.self.view_is ∙ sym c.deref.ensures.value) ∙ sym c.first_fit.ensures ∙ ap option_copied c.in-None.is in
    some-fits c.args.pages c.args.self.now c.requires.at_most_1024_pages c.requires.has_room none

pub returns-clause-lowest : goal.returns-clause-lowest
returns-clause-lowest c =
    λ objects leave.
    let is : find (fits c.args.pages) c.args.self.now ≡ Some c.in-Some.gap.now = ap (find (fits c.args.pages)) (sym c.self.view_is ∙ sym c.deref.ensures.value) ∙ sym c.first_fit.ensures ∙ ap option_copied c.in-Some.is in
    fit-lowest_free c.args.pages objects c.args.self.now c.in-Some.gap.now c.requires.at_least_1_page leave is

pub returns-clause-free : goal.returns-clause-free
returns-clause-free c =
    λ taken leave.
    let is : find (fits c.args.pages) c.args.self.now ≡ Some c.in-Some.gap.now = ap (find (fits c.args.pages)) (sym c.self.view_is ∙ sym c.deref.ensures.value) ∙ sym c.first_fit.ensures ∙ ap option_copied c.in-Some.is in
    beside-all c.args.pages c.in-Some.gap.now.0 taken (fit-is c.args.pages taken c.args.self.now c.in-Some.gap.now c.requires.at_least_1_page leave is).free

pub returns-clause-low : goal.returns-clause-low
returns-clause-low c =
    let is : find (fits c.args.pages) c.args.self.now ≡ Some c.in-Some.gap.now = ap (find (fits c.args.pages)) (sym c.self.view_is ∙ sym c.deref.ensures.value) ∙ sym c.first_fit.ensures ∙ ap option_copied c.in-Some.is in
    (fit-is c.args.pages c.requires.has_room.taken c.args.self.now c.in-Some.gap.now c.requires.at_least_1_page c.requires.has_room.leave is).low

pub returns-clause-high : goal.returns-clause-high
returns-clause-high c =
    let is : find (fits c.args.pages) c.args.self.now ≡ Some c.in-Some.gap.now = ap (find (fits c.args.pages)) (sym c.self.view_is ∙ sym c.deref.ensures.value) ∙ sym c.first_fit.ensures ∙ ap option_copied c.in-Some.is in
    (fit-is c.args.pages c.requires.has_room.taken c.args.self.now c.in-Some.gap.now c.requires.at_least_1_page c.requires.has_room.leave is).high
