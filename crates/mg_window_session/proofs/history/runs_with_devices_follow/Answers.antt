use Rattle.std.proofs.Common.{refl}
use Rattle.mg_window_session.proofs.history.runs_with_devices_follow.Goals as goal

pub returns : goal.returns
returns g c s runs windows windows' batch result disk disk' source source' sink sink' steps steps' keeps reads no_others told =
    (keeps.ran, keeps.replied, record { reads = reads; no_others = no_others; told = told; keeps = keeps.keeps.lines; still = λ u. refl })
