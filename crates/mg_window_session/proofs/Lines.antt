-- How the machine with devices runs over lines.
use Rattle.{mg_model.specs.declared.calls.Line.Line, mg_window_session.specs.Machine.{Equipped, device_after, device_step}, std.proofs.Common.refl}
use Rattle.std.specs.Prelude.{◌≡◌, List, [], ◌∷◌, ◌++◌}

-- the machine after some lines and then others
pub after-append : (m : Equipped) (ls more : List Line) → device_after m (ls ++ more) ≡ device_after (device_after m ls) more
after-append m [] more = refl
after-append m (line ∷ ls) more = after-append (device_step m line).0 ls more
