-- Lemmas on the phases of a commit: what is in a segment once its index and its bodies are written.
use Rattle.mg_disk.specs.{BecomesLemmas.{becomes-kept, becomes-seen, becomes-wider}, Disk.{HasBlocks, Image, InRange, SameBut, SeenBut, block_at}}
use Rattle.{mg_disk.specs.Reads.Becomes, mg_journal.specs.{JournalLemmas.same_wider, Phases.{HoldsWrites, IsBehind}, Staged.{IsRunOf, bytes_of}}}
use Rattle.{mg_journal.specs.Staged.home_at, mg_model.specs.{Abbreviations.writes_from, Bytes.number_at, Layout.{body_limit, segment_body}}}
use Rattle.{mg_model.specs.{Layout.{segment_count, segment_index}, Replay.{body_count, home_of}}, std.proofs.Common.{refl, ap, ◌∙◌, arith}}
use Rattle.std.specs.{Option.ForSome, Prelude.{◌≡◌, ◌+◌, ◌*◌, ◌≤◌, ◌<◌, ℕ, zero, suc, List, [], ◌∷◌, length, Option}}

writes_read : (image : Image) (s j n : ℕ) (writes : List (ℕ × List ℕ)) → n ≡ length writes → ((i : ℕ) → i < length writes → home_of image s (j + i) ≡ home_at writes i)
    → ((i : ℕ) → i < length writes → block_at image (segment_body s j + i) ≡ bytes_of writes i) → writes_from image s j n ≡ writes
writes_read image s j zero [] count homes bodies = refl
writes_read image s j zero (w ∷ writes) count homes bodies = absurd (omega arith)
writes_read image s j (suc n) [] count homes bodies = absurd (omega arith)
writes_read image s j (suc n) ((home, x) ∷ writes) count homes bodies =
    let place : j ≡ j + 0 = omega arith in
    let block : segment_body s j ≡ segment_body s j + 0 = omega arith in
    let first : home_of image s j ≡ home = ap (home_of image s) place ∙ homes 0 (omega arith) in
    let body : block_at image (segment_body s j) ≡ x = ap (block_at image) block ∙ bodies 0 (omega arith) in
    let rest : writes_from image s (j + 1) n ≡ writes =
    writes_read image s (j + 1) n writes (omega arith)
    (λ i below. let at : j + 1 + i ≡ j + suc i = omega arith in ap (home_of image s) at ∙ homes (suc i) (omega arith))
    (λ i below. let at : segment_body s (j + 1) + i ≡ segment_body s j + suc i = omega arith in ap (block_at image) at ∙ bodies (suc i) (omega arith)) in
    ap (λ h. (h, block_at image (segment_body s j)) ∷ writes_from image s (j + 1) n) first ∙ ap (λ b. (home, b) ∷ writes_from image s (j + 1) n) body ∙ ap (λ w. (home, x) ∷ w) rest

-- once the index and all bodies are written
module _ (s : ℕ) (writes : List (ℕ × List ℕ)) (run a b : Image) (place : s < segment_count) (few : length writes ≤ body_limit) (is : IsRunOf writes run)
    (same : SameBut (InRange (segment_index s) (length run)) a b) (has : HasBlocks (segment_index s) run b) where
  pub behind : (k : ℕ) → InRange (segment_index s) (length run) k → IsBehind s k
  behind k at = let low = at.from in let high = at.before in let long = is.long in (omega arith, omega arith)

  index_there : block_at b (segment_index s) ≡ block_at run 0
  index_there = let at : segment_index s ≡ segment_index s + 0 = omega arith in ap (block_at b) at ∙ has 0 (let long = is.long in omega arith)

  body_there : (i : ℕ) → i < length writes → block_at b (segment_body s 0 + i) ≡ bytes_of writes i
  body_there i below = grind (arith)

  count_there : body_count b s ≡ length writes
  count_there = ap (λ block. number_at block 0) index_there ∙ is.count

  pub holds_all : HoldsWrites s writes a b
  holds_all = record {
    same = same_wider (InRange (segment_index s) (length run)) (IsBehind s) a b behind same;
    count = count_there;
    bodies = writes_read b s 0 (body_count b s) writes count_there
        (λ i below. let at : 0 + i ≡ i = omega arith in ap (home_of b s) at ∙ ap (λ block. number_at block (8 + 8 * i)) index_there ∙ is.homes i below)
        body_there;
  }

-- the same of what reads give, before and after
pub wrote_all : (s : ℕ) (writes : List (ℕ × List ℕ)) (run : Image) (old mid new : Option Image) → s < segment_count → length writes ≤ body_limit → IsRunOf writes run
    → SeenBut (InRange (segment_index s) (length run)) old mid → ForSome mid (HasBlocks (segment_index s) run) → new ≡ mid → Becomes (HoldsWrites s writes) old new
wrote_all s writes run old mid new place few is same has kept =
    becomes-kept (HoldsWrites s writes) old mid new kept
    (becomes-wider (SameBut (InRange (segment_index s) (length run))) (HoldsWrites s writes) old mid (λ a b told now but. holds_all s writes run a b place few is but (has b now))
    (becomes-seen (InRange (segment_index s) (length run)) old mid same))
