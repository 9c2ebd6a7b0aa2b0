-- The images of a commit, phase by phase.
use Rattle.{mg_disk.specs.{Disk.{Image, SameBut, SeenBut, block_at, only_place}, PlaceLemmas.same_set}, mg_journal.specs.Contents.InClosed}
use Rattle.mg_journal.specs.{Contents.{InJournal, NewContents, SameContents, bodies_fit, bodies_of, names}, JournalLemmas.{any_gate, closed_segments}}
use Rattle.mg_journal.specs.{JournalLemmas.{gate_opened, same_gate, same_wider}, Phases.{HoldsWrites, IsBehind, IsIn, IsNext}}
use Rattle.mg_journal.specs.{SegmentLemmas.{same-bodies_of, same-count}, Standing.OldOrNew, WrittenLemmas.written_same}
use Rattle.mg_model.specs.{Layout.{body_limit, gate_open, globals_block, segment_count, segment_gate}, Replay.{body_count, homes_fit, is_open}}
use Rattle.{mg_model.specs.Replay.{replay, written}, std.proofs.{Common.{ap, subst, ◌∙◌, inl, inr, ⊎_elim, arith}, lemmas.Bool.{and_from, eq-eqb}}}
use Rattle.std.{proofs.lemmas.{Bool.le-leb, List.get_or-set_same}, specs.Prelude.{◌≡◌, ◌+◌, ◌≤◌, ◌<◌, nat_le, ℕ, true, false, List, length}}
use Rattle.std.specs.Prelude.{option_map, slice_index, slice_set, Option, Some, None}

pub same_then : (P : ℕ → Type 0) (a b c : Image) → SameBut P a b → SameBut P b c → SameBut P a c
same_then P a b c first second = record { count = second.count ∙ first.count; others = λ k out. second.others k out ∙ first.others k out }

seen_then : (P : ℕ → Type 0) (x y z : Option Image) → SeenBut P x y → SeenBut P y z → SeenBut P x z
seen_then P None None z first second = second
seen_then P None (Some b) z first second = absurd first
seen_then P (Some a) None z first second = absurd first
seen_then P (Some a) (Some b) None first second = absurd second
seen_then P (Some a) (Some b) (Some c) first second = same_then P a b c first second

seen_written : (writes : List (ℕ × List ℕ)) (x y : Option Image) → SeenBut InJournal x y → SeenBut InJournal (option_map (λ i. written i writes) x) (option_map (λ i. written i writes) y)
seen_written writes None None same = same
seen_written writes None (Some b) same = absurd same
seen_written writes (Some a) None same = absurd same
seen_written writes (Some a) (Some b) same =
    same_wider (λ k. InJournal k × (names writes k ≡ false)) InJournal (written a writes) (written b writes) (λ k p. p.0) (written_same writes InJournal a b same)

-- an image with the same contents between
pub contents_then : (total : ℕ) (a b c : Image) → SameContents total a b → SameContents total b c → SameContents total a c
contents_then total a b c first second = seen_then InJournal (replay a total) (replay b total) (replay c total) first second

pub new_then : (total : ℕ) (writes : List (ℕ × List ℕ)) (a b c : Image) → SameContents total a b → NewContents total b writes c → NewContents total a writes c
new_then total writes a b c first second =
    seen_then InJournal (option_map (λ i. written i writes) (replay a total)) (option_map (λ i. written i writes) (replay b total)) (replay c total) (seen_written writes (replay a total) (replay b total) first) second

pub either_then : (total : ℕ) (writes : List (ℕ × List ℕ)) (a b c : Image) → SameContents total a b → OldOrNew total writes b c → OldOrNew total writes a c
either_then total writes a b c first second = ⊎_elim (λ old. inl (contents_then total a b c first old)) (λ new. inr (new_then total writes a b c first new)) second

-- a commit into segment n, if no segment from there on is open
module _ (total n : ℕ) (writes : List (ℕ × List ℕ)) (a : Image) (place : n < segment_count) (shut : (s : ℕ) → n ≤ s → s < segment_count → is_open a s ≡ false) where
  bodies_same : (c : Image) → SameBut (IsBehind n) a c → SameContents total a c
  bodies_same c same =
      closed_segments total a c (same_wider (IsBehind n) (InClosed a) a c (λ k at. record { segment = n; few = place; shut = shut n (omega arith) place; above = at.0; below = at.1 }) same)

  -- while the index and the bodies are written
  pub bodies_may : (c : Image) → SameBut (IsBehind n) a c → OldOrNew total writes a c
  bodies_may c same = inl (bodies_same c same)

  module _ (fit : homes_fit total writes ≡ true) (few : length writes ≤ body_limit) (b : Image) (holds : HoldsWrites n writes a b) where
    shut_still : (s : ℕ) → n ≤ s → s < segment_count → is_open b s ≡ false
    shut_still s low high = same_gate a b s (holds.same.others (segment_gate s) (λ at. let from = at.0 in let to = at.1 in omega arith)) ∙ shut s low high

    is_few : nat_le (body_count b n) body_limit ≡ true
    is_few = le-leb (body_count b n) body_limit (let c = holds.count in omega arith)

    is_fit : bodies_fit total b n ≡ true
    is_fit = and_from (nat_le (body_count b n) body_limit) (homes_fit total (bodies_of b n)) is_few (ap (homes_fit total) holds.bodies ∙ fit)

    -- while the gate is opened
    pub gate_may : (c : Image) → SameBut (only_place (segment_gate n)) b c → OldOrNew total writes a c
    gate_may c same =
        either_then total writes a b c (bodies_same b holds.same)
        (⊎_elim (λ old. inl old) (λ new. inr (subst (λ w. NewContents total b w c) holds.bodies new))
        (any_gate total b c n place (shut_still n (omega arith) place) (λ t low high. shut_still t (omega arith) high) is_fit same))

    -- once it is
    module _ (gate : List ℕ) (opens : slice_index gate 0 ≡ gate_open) (room : globals_block ≤ length a) where
      abbrev opened : Image
      opened = slice_set b (segment_gate n) gate

      gate_alone : SameBut (only_place (segment_gate n)) b opened
      gate_alone = same_set b (segment_gate n) gate

      is_opened : is_open opened n ≡ true
      is_opened = grind (arith, eq-eqb, get_or-set_same)

      behind : (k : ℕ) → segment_gate n < k → k < segment_gate (n + 1) → block_at opened k ≡ block_at b k
      behind k low high = gate_alone.others k (λ is. omega arith)

      pub next : IsNext total n writes a opened
      next = record {
        contents = new_then total writes a b opened (bodies_same b holds.same)
            (subst (λ w. NewContents total b w opened) holds.bodies
            (gate_opened total b opened n place (shut_still n (omega arith) place) (λ t low high. shut_still t (omega arith) high) is_fit gate_alone is_opened));
        same = same_then (IsIn n) a b opened (same_wider (IsBehind n) (IsIn n) a b (λ k at. let low = at.0 in let high = at.1 in (omega arith, omega arith)) holds.same)
            (same_wider (only_place (segment_gate n)) (IsIn n) b opened (λ k is. (omega arith, omega arith)) gate_alone);
        opened = is_opened;
        count = same-count total b opened n behind ∙ holds.count;
        bodies = same-bodies_of total b opened n behind is_few ∙ holds.bodies;
      }
