use Rattle.{mg_disk.specs.{BecomesLemmas.becomes-wider, Disk.SameBut, Runs.{leaves_then, leaves_wider}}, mg_journal.proofs.NewestSteps.table_settles}
use Rattle.mg_journal.proofs.RecoverSteps.{contents_stay, homed, of_changed, open_behind, own, recovered_from, while_applied, while_closed}
use Rattle.{mg_journal.specs.{Applied.filled, Contents.{SameContents, names}}, mg_model.specs.Replay.written, std.proofs.Common.{◌≡◌, ◌∙◌, ap}}
use Rattle.std.proofs.{Common.{option_map, true}, lemmas.Result.on_ok_weaker}
use Rattle.mg_journal.proofs.recovering.recover.Goals as goal

pub returns-in_err-write_homes-clause-any_moment : goal.returns-in_err-write_homes-clause-any_moment
returns-in_err-write_homes-clause-any_moment g c pending image told =
    let settles = table_settles c.args.view.now image (c.requires.looks.fits image told) c.write_homes.ensures.ascends in
    leaves_wider g.D.Disk _ _ _ _ (c.write_homes.ensures.any_moment pending image told) (while_applied _ _ image settles)

pub close_gates-requires-clause-gates : goal.close_gates-requires-clause-gates
close_gates-requires-clause-gates g c =
    of_changed (λ i. written i (filled i c.args.view.now.table)) _ _ _ c.in_ok-write_homes.ensures.written
    (λ image told.
    open_behind _ _ image (table_settles c.args.view.now image (c.requires.looks.fits image told) c.write_homes.ensures.ascends) c.args.opened c.requires.at_most_8_open (c.requires.gates image told))

pub returns-clause-any_moment : goal.returns-clause-any_moment
returns-clause-any_moment g c pending image told =
    let settles = table_settles c.args.view.now image (c.requires.looks.fits image told) c.write_homes.ensures.ascends in
    let is = c.in_ok-write_homes.ensures.written ∙ ap (option_map (λ i. written i (filled i c.args.view.now.table))) told in
    leaves_then g.D.Disk _ _ _ _ _ (leaves_wider g.D.Disk _ _ _ _ (c.write_homes.ensures.any_moment pending image told) (while_applied _ _ image settles))
    (c.close_gates.ensures.any_moment (c.in_ok-write_homes.ensures.settled pending) (homed c.args.view.now.total c.args.view.now.table image settles) is c.args.view.now.total (own _ _ image settles)) (while_closed _ _ image settles)

pub returns-clause-recovered : goal.returns-clause-recovered
returns-clause-recovered g c =
    let view = c.args.view.now in
    on_ok_weaker c.close_gates.result
    (recovered_from view.total view.table _ _ _ (λ image told. table_settles view image (c.requires.looks.fits image told) c.write_homes.ensures.ascends) c.in_ok-write_homes.ensures.written)
    c.close_gates.ensures.closed

pub returns-in_err-write_homes-clause-contents : goal.returns-in_err-write_homes-clause-contents
returns-in_err-write_homes-clause-contents g c =
    let view = c.args.view.now in
    becomes-wider (λ image. SameBut (λ k. names (filled image view.table) k ≡ true) image) (SameContents view.total) _ _
    (λ a b told now. while_applied view.total view.table a (table_settles view a (c.requires.looks.fits a told) c.write_homes.ensures.ascends) b) c.write_homes.ensures.torn

pub returns-clause-contents : goal.returns-clause-contents
returns-clause-contents g c =
    let view = c.args.view.now in
    contents_stay view.total view.table _ _ _ (λ image told. table_settles view image (c.requires.looks.fits image told) c.write_homes.ensures.ascends) c.in_ok-write_homes.ensures.written c.close_gates.ensures.still
