-- Lemmas on the closing of gates.
use Rattle.mg_disk.specs.{BecomesLemmas.{becomes-of, becomes-same, becomes-then, becomes-to, becomes-wider}, Disk.{Image, only_place}}
use Rattle.mg_disk.specs.{PlaceLemmas.same_as, Reads.Becomes, Runs.{leaves_then, leaves_yet, only_image}, Stops.{Leaves, NothingPending}}
use Rattle.{mg_disk.specs.declared.disk.Disk.Ghosts, mg_journal.{proofs.{CommitSteps.same_then, Homes.first_gate_torn}, specs.Contents.InJournal}}
use Rattle.mg_journal.specs.{JournalLemmas.{same_gate, same_wider}, Recovery.{AreOpen, ClosedOne, ClosesUpTo, IsClosedUpTo, IsStill, MayCloseOne}}
use Rattle.{mg_journal.specs.Recovery.StaysStill, mg_model.specs.{Layout.{segment_count, segment_gate}, Replay.{is_open, replay}}}
use Rattle.std.{proofs.{Common.{refl, sym, ap, subst, ◌∙◌, ⊎_elim, arith}, lemmas.Bool.{cases_eq, ltb-true, Decides.nat_tests}}, specs.Option.ForSome}
use Rattle.std.specs.Prelude.{◌≡◌, ◌+◌, ◌<◌, nat_lt, ℕ, true, false, Option, Some}

-- while one more gate is closed
pub closing_still : (s total : ℕ) (a b c : Image) → s < segment_count → IsClosedUpTo s total a b → MayCloseOne s b c → IsStill total a c
closing_still s total a b c few up_to may =
    ⊎_elim (λ is. subst (IsStill total a) (sym is) up_to.still)
    (λ gate.
    record {
      own = first_gate_torn total b c s few up_to.shut gate.0 up_to.still.own gate.1;
      same = same_then InJournal a b c up_to.still.same (same_wider (only_place (segment_gate s)) InJournal b c (λ k is. (omega arith, omega arith)) gate.1);
    }) may

-- once it is
pub closed_more : (s total : ℕ) (a b c : Image) → s < segment_count → IsClosedUpTo s total a b → ClosedOne s b c → IsClosedUpTo (s + 1) total a c
closed_more s total a b c few up_to one = record {
  still = closing_still s total a b c few up_to one.may;
  shut = λ t low. ⊎_elim (λ is. ap (is_open c) is ∙ one.shut) (λ other. before t (omega arith)) (cases_eq t s);
}
  where
    before : (t : ℕ) → t < s → is_open c t ≡ false
    before t low = grind (arith, nat_tests, same_gate)

-- the gates after it are as they were
behind_open : (s n : ℕ) (b c : Image) → AreOpen s n b → MayCloseOne s b c → AreOpen (s + 1) n c
behind_open s n b c are may t low high = grind (arith, nat_tests, same_gate)

module _ (s n : ℕ) where
  -- gate s is open if those from it on are
  pub open_now : (old now : Option Image) → Becomes (λ a. AreOpen s n) old now → nat_lt s n ≡ true → ForSome now (λ image. is_open image s ≡ true)
  open_now old now are low image told = (becomes-of (λ a. AreOpen s n) old now image are told).2 s (omega arith) (ltb-true s n low)

  pub open_yet : (old mid now : Option Image) → Becomes (λ a. AreOpen s n) old mid → Becomes (MayCloseOne s) mid now → Becomes (λ a. AreOpen (s + 1) n) old now
  open_yet old mid now = becomes-then (λ a. AreOpen s n) (MayCloseOne s) (λ a. AreOpen (s + 1) n) old mid now (λ a b c told are may. behind_open s n b c are may)

module _ (s : ℕ) (few : s < segment_count) (old mid now : Option Image) (shows : Becomes (ClosesUpTo s) old mid) where
  -- one gate more, whatever the answer
  pub close_seen : Becomes (MayCloseOne s) mid now → Becomes StaysStill old now
  close_seen = becomes-then (ClosesUpTo s) (MayCloseOne s) StaysStill old mid now (λ a b c told up may total own. closing_still s total a b c few (up total own) may) shows

  pub close_more : Becomes (ClosedOne s) mid now → Becomes (ClosesUpTo (s + 1)) old now
  close_more = becomes-then (ClosesUpTo s) (ClosedOne s) (ClosesUpTo (s + 1)) old mid now (λ a b c told up one total own. closed_more s total a b c few (up total own) one) shows

pub still_now : (s : ℕ) (old now : Option Image) → Becomes (ClosesUpTo s) old now → Becomes StaysStill old now
still_now s old now = becomes-wider (ClosesUpTo s) StaysStill old now (λ a b told is up total own. (up total own).still)

here_still : (total : ℕ) (a : Image) → replay a total ≡ Some a → IsStill total a a
here_still total a own = record { own = own; same = same_as InJournal a a refl }

pub none_closed : (old now : Option Image) → now ≡ old → Becomes (ClosesUpTo 0) old now
none_closed old now same = becomes-same (ClosesUpTo 0) old now same (λ a told total own. record { still = here_still total a own; shut = λ t low. absurd (omega arith) })

module _ {D : Type 0} (facts : Ghosts D) (total : ℕ) (a : Image) (old : D) (told : facts.seen old ≡ Some a) (own : replay a total ≡ Some a) where
  -- what a stop left, before the first gate is closed and after one more
  pub begin_run : (facts.time old).has_been (facts.time old).moment → NothingPending facts old → Leaves facts old old (IsStill total a)
  begin_run been pending = leaves_yet facts old (IsStill total a) been (λ c left. subst (IsStill total a) (sym (only_image facts old a c (record { told = told; settled = pending }) left)) (here_still total a own))

  pub close_run : (s : ℕ) (mid new : D) → s < segment_count → Becomes (ClosesUpTo s) (facts.seen old) (facts.seen mid) → Leaves facts old mid (IsStill total a) → ForSome (facts.seen mid) (λ b. Leaves facts mid new (MayCloseOne s b))
      → Leaves facts old new (IsStill total a)
  close_run s mid new few shows run one =
      let b = becomes-to (ClosesUpTo s) (facts.seen old) (facts.seen mid) a shows told in
      leaves_then facts old mid new (MayCloseOne s b.0) (IsStill total a) run (one b.0 b.1) (λ c may. closing_still s total a b.0 c few (b.2 total own) may)
