use Rattle.{mg_disk.specs.Disk.AreBytes, mg_model.specs.{Ranges.{IsThreadRow, IsWord}, State.ThreadRow, WellFormed.IsWellFormed}}
use Rattle.{mg_model.specs.declared.accounts.AccRow.AccRow, mg_volume.{proofs.OpenedFormed.opened_formed, specs.Held.VolumeHeld}}
use Rattle.{mg_volume.specs.{Meaning.{IsSpelledBy, is_sound, now_of, staged_of}, contracts.volume.Volume.the_view}, std.proofs.Common.{◌≡◌, ℕ, All}}
use Rattle.std.proofs.Common.{List, subst, true}
use Rattle.mg_volume.proofs.volume.Volume.is_formed.Goals as goal

pub returns : goal.returns
returns c =
    let v = the_view c.self.inside in
    let words : All (λ (row : AccRow). IsWord row.password) v.accounts = subst (All (λ (row : AccRow). IsWord row.password)) c.rows.ensures c.accounts_keep_rules.ensures in
    let threads : All (λ (t : ℕ × ThreadRow). IsThreadRow t.1) v.threads = c.keep_rules-2.ensures.rows in
    let P : VolumeHeld → Type 0 = λ w. (image : List (List ℕ)) → AreBytes image → IsSpelledBy w image → staged_of w ≡ 0 → is_sound (now_of w image) ≡ true → IsWellFormed (now_of w image) in
    let held : P v = λ image. opened_formed v image c.self.invariant.kept c.keep_rules.ensures.rules c.draws-draws.ensures.kept words threads in
    subst P c.self.view_is held
