use Rattle.{mg_window.{proofs.Seen.window_seen, specs.{Attached.Listed, Devices.{Held, reading}}}, std.proofs.Common.{◌∙◌, ◌≡◌, ap, subst, sym}}
use Rattle.std.specs.Prelude.{ℕ, slice_index_or}
use Rattle.mg_window.proofs.windows.Windows.load.Goals as goal

pub returns : goal.returns
returns g c =
    let window = c.index.result.now in
    let P : Listed _ → Type 0 = λ ws. slice_index_or ws c.args.i window ≡ window in
    c.load.ensures
    ∙ ap (λ (w : ℕ × Held). reading w.1.kind w.1.tape c.args.off) (sym (window_seen g.D.Device.held c.args.self.now c.args.i window c.requires (subst P c.self.view_is (sym c.index.ensures))))
