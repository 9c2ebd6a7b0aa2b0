-- The images of a recovery: homes are written, and then gates are closed.
use Rattle.mg_disk.specs.{BecomesLemmas.{becomes-changed, becomes-then}, Disk.{Image, SameBut}, PlaceLemmas.same_as, Reads.Becomes}
use Rattle.mg_journal.{proofs.Homes.{homes_torn, homes_written, since-behind}, specs.{Applied.filled, Contents.{InJournal, SameContents, names}}}
use Rattle.mg_journal.specs.{JournalLemmas.{open_writes, replay-some, same_gate, same_wider, seen_both}, Recovery.{AreOpen, ClosesUpTo, IsClosedUpTo}}
use Rattle.mg_journal.specs.{Recovery.{IsRecovered, IsStill, Settles, StaysStill}, WrittenLemmas.written_elsewhere}
use Rattle.{mg_model.specs.{Layout.{segment_count, segment_gate}, Replay.{replay, written}}, std.proofs.Common.{refl, sym, ap, subst, ◌∙◌, arith}}
use Rattle.std.specs.{Option.ForSome, Prelude.{◌≡◌, ◌≤◌, ℕ, true, List, Option, Some, None, option_map}}

-- what holds of a changed image, if it is told
pub of_changed : (change : Image → Image) (told now : Option Image) (P : Image → Type 0) → now ≡ option_map change told → ((a : Image) → told ≡ Some a → P (change a)) → ForSome now P
of_changed change None now P is each b told = absurd (let e : ◌≡◌ {A = Option Image} None (Some b) = sym is ∙ told in cc)
of_changed change (Some a) now P is each b told = subst P (let e : ◌≡◌ {A = Option Image} (Some (change a)) (Some b) = sym is ∙ told in cc) (each a refl)

module _ (total : ℕ) (places : List (ℕ × ℕ)) (a : Image) (settles : Settles total places a) where
  abbrev pub homed : Image
  homed = written a (filled a places)

  replayed : replay a total ≡ Some homed
  replayed = replay-some total a settles.fit ∙ ap (λ r. Some r) (sym settles.whole)

  -- once the homes are written
  pub own : replay homed total ≡ Some homed
  own = homes_written total a homed replayed

  -- open gates are open then
  pub open_behind : (n : ℕ) → n ≤ segment_count → AreOpen 0 n a → AreOpen 0 n homed
  open_behind n few are t low high =
      same_gate a homed t ((written_elsewhere (filled a places) a).others (segment_gate t) (λ named.
      let home = since-behind total a 0 segment_count (segment_gate t) settles.fit (settles.named (segment_gate t) named) in
      omega arith)) ∙ are t low high

  -- while they are written
  pub while_applied : (c : Image) → SameBut (λ k. names (filled a places) k ≡ true) a c → SameContents total a c
  while_applied c same =
      seen_both InJournal (replay a total) (replay c total) homed homed replayed
      (homes_torn total a c homed replayed (same_wider (λ k. names (filled a places) k ≡ true) (λ k. names (open_writes a) k ≡ true) a c settles.named same))
      (same_as InJournal homed homed refl)

  -- while the gates are closed
  pub while_closed : (c : Image) → IsStill total homed c → SameContents total a c
  while_closed c still = seen_both InJournal (replay a total) (replay c total) homed c replayed still.own still.same

  -- once they are
  pub recovered_to : (c : Image) → IsClosedUpTo segment_count total homed c → IsRecovered total a c
  recovered_to c up_to = record { contents = while_closed c up_to.still; closed = up_to.shut }

-- the homes are written, and then the gates are closed
module _ (total : ℕ) (places : List (ℕ × ℕ)) (told mid now : Option Image) (settles : (a : Image) → told ≡ Some a → Settles total places a) (is : mid ≡ option_map (λ a. written a (filled a places)) told) where
  abbrev IsHome : Image → Image → Type 0
  IsHome a b = b ≡ written a (filled a places)

  homes : Becomes IsHome told mid
  homes = becomes-changed IsHome (λ a. written a (filled a places)) told mid is (λ a at. refl)

  pub contents_stay : Becomes StaysStill mid now → Becomes (SameContents total) told now
  contents_stay =
      becomes-then IsHome StaysStill (SameContents total) told mid now
      (λ a b c at home still. while_closed total places a (settles a at) c (subst (λ i. StaysStill i c) home still total (own total places a (settles a at)))) homes

  pub recovered_from : Becomes (ClosesUpTo segment_count) mid now → Becomes (IsRecovered total) told now
  recovered_from =
      becomes-then IsHome (ClosesUpTo segment_count) (IsRecovered total) told mid now
      (λ a b c at home closed. recovered_to total places a (settles a at) c (subst (λ i. ClosesUpTo segment_count i c) home closed total (own total places a (settles a at)))) homes
