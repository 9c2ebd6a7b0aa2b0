-- Each block of a lifted image by its number, and the rows in it.
use Rattle.mg_migrate.{proofs.LiftedRows.length-lifted_row, specs.{Laws.KeepsPlaces, Layout1.table1_block, Lifted.{lifted, lifted_block}}}
use Rattle.mg_migrate.specs.{Lifted.{lifted_objects, lifted_row, object1_bytes_in}, Version1.object1_row_bytes}
use Rattle.mg_model.specs.{Abbreviations.object_row_bytes, Bytes.{bytes_at, padded_to}, BytesLemmas.{bytes_at-behind, padded_to-full}}
use Rattle.mg_model.specs.{Layout.{first_object_block, globals_block, segment_count, super_block, table_block, total_blocks}, Limits.object_limit}
use Rattle.mg_model.specs.{Replay.{block_of, is_open, replay}, Settings.Settings, Spelling.super_bytes, VolumeLemmas.replay-closed}
use Rattle.std.proofs.{Common.{refl, sym, ap, ◌∙◌, arith, add-zero, append_assoc}, lemmas.{Bool.{le-ltb, lt-ltb, ne_eqb}, List.{append-nil, take_at}}}
use Rattle.std.{proofs.lemmas.List.FromFn.{get_or-map-range_with_len, length-map-range_with_len}, specs.Prelude.{◌≡◌, ◌≢◌, ℕ, zero, suc, ◌+◌, ◌-◌}}
use Rattle.std.specs.Prelude.{◌*◌, ◌/◌, ◌%◌, ◌<◌, ◌≤◌, false, List, [], ◌∷◌, ◌++◌, get_or, length, replicate, Some}

module _ (settings : Settings) (r : List (List ℕ)) where
  -- its blocks
  pub length-lifted : length (lifted settings r) ≡ total_blocks settings.frames
  unfolding lifted
  length-lifted = length-map-range_with_len (lifted_block settings r) 0 (total_blocks settings.frames)

  pub block-of-lifted : (i : ℕ) → i < total_blocks settings.frames → block_of (lifted settings r) i ≡ lifted_block settings r i
  unfolding lifted
  block-of-lifted i below = get_or-map-range_with_len (lifted_block settings r) 0 (total_blocks settings.frames) i i [] below (omega arith)

  -- each by its number
  pub at_super : lifted_block settings r super_block ≡ super_bytes settings
  unfolding lifted_block
  at_super = refl

  pub at_closed : (i : ℕ) → i ≢ super_block → i < globals_block → lifted_block settings r i ≡ replicate 4096 0
  unfolding lifted_block
  at_closed i other low = let a = ne_eqb i super_block other in let b = lt-ltb i globals_block low in rw (a, b)

  pub at_row : (i : ℕ) → globals_block ≤ i → i < first_object_block → lifted_block settings r i ≡ block_of r i
  unfolding lifted_block
  at_row i low high = grind (arith, ne_eqb, le-ltb, lt-ltb)

  pub at_object : (i : ℕ) → first_object_block ≤ i → i < table_block
      → lifted_block settings r i ≡ lifted_objects (block_of r (first_object_block + (i - first_object_block) / 2)) ((i - first_object_block) % 2)
  unfolding lifted_block
  at_object i low high = grind (arith, ne_eqb, le-ltb, lt-ltb)

  pub at_behind : (i k : ℕ) → table1_block ≤ k → i ≡ k + 512 → lifted_block settings r i ≡ block_of r k
  unfolding lifted_block
  at_behind i k low is = grind (arith, ne_eqb, le-ltb)

  -- the journal
  pub closed : (s : ℕ) → s < segment_count → is_open (lifted settings r) s ≡ false
  closed s few = grind (arith, block-of-lifted, at_closed)

  pub replay-lifted : (total : ℕ) → replay (lifted settings r) total ≡ Some (lifted settings r)
  replay-lifted total = replay-closed (lifted settings r) total closed

-- a block of four rows of 1,024 bytes
first-part : (a rest : List ℕ) → length a ≡ 1024 → bytes_at (a ++ rest) 0 1024 ≡ a
first-part a rest long = take_at a rest 1024 long

part : (a b c d : List ℕ) → length a ≡ 1024 → length b ≡ 1024 → length c ≡ 1024 → length d ≡ 1024 → (k : ℕ) → k < 4 → bytes_at (a ++ (b ++ (c ++ d))) (1024 * k) 1024 ≡ get_or (a ∷ b ∷ c ∷ d ∷ []) k []
part a b c d la lb lc ld zero few = first-part a (b ++ (c ++ d)) la
part a b c d la lb lc ld (suc zero) few = bytes_at-behind a (b ++ (c ++ d)) 1024 0 1024 la ∙ first-part b (c ++ d) lb
part a b c d la lb lc ld (suc (suc zero)) few = bytes_at-behind a (b ++ (c ++ d)) 1024 1024 1024 la ∙ bytes_at-behind b (c ++ d) 1024 0 1024 lb ∙ first-part c d lc
part a b c d la lb lc ld (suc (suc (suc zero))) few =
    bytes_at-behind a (b ++ (c ++ d)) 1024 2048 1024 la
    ∙ bytes_at-behind b (c ++ d) 1024 1024 1024 lb
    ∙ bytes_at-behind c d 1024 0 1024 lc
    ∙ ap (λ v. bytes_at v 0 1024) (sym (append-nil d))
    ∙ first-part d [] ld
part a b c d la lb lc ld (suc (suc (suc (suc k)))) few = absurd (omega arith)

row-of : (block : List ℕ) (half k : ℕ) → k < 4
    → get_or (lifted_row (object1_bytes_in block (4 * half)) ∷ lifted_row (object1_bytes_in block (4 * half + 1)) ∷ lifted_row (object1_bytes_in block (4 * half + 2)) ∷ lifted_row (object1_bytes_in block (4 * half + 3)) ∷ []) k []
    ≡ lifted_row (object1_bytes_in block (4 * half + k))
row-of block half zero few = ap (λ i. lifted_row (object1_bytes_in block i)) (sym (add-zero (4 * half)))
row-of block half (suc zero) few = refl
row-of block half (suc (suc zero)) few = refl
row-of block half (suc (suc (suc zero))) few = refl
row-of block half (suc (suc (suc (suc k)))) few = absurd (omega arith)

pub row-in-lifted : (block : List ℕ) (half k : ℕ) → k < 4 → bytes_at (lifted_objects block half) (1024 * k) 1024 ≡ lifted_row (object1_bytes_in block (4 * half + k))
unfolding lifted_objects
row-in-lifted block half k few = grind (arith, part, length-lifted_row, row-of)

-- row i becomes row i
pub object-row-lifted : (settings : Settings) (r : List (List ℕ)) (i : ℕ) → i < object_limit → object_row_bytes (lifted settings r) i ≡ lifted_row (object1_row_bytes r i)
object-row-lifted settings r i few = grind (arith, block-of-lifted, at_object, row-in-lifted)

-- and so each row and each frame keeps its number
pub keeps-places : (settings : Settings) (r : List (List ℕ)) → KeepsPlaces settings r
keeps-places settings r = grind (arith, object-row-lifted, block-of-lifted, at_row, at_behind)

-- four rows that are added one by one
pub four-rows : (block : List ℕ) (half first : ℕ) (whole s1 s2 s3 s4 : List ℕ) → first ≡ 4 * half → s1 ≡ lifted_row (object1_bytes_in block first) → s2 ≡ s1 ++ lifted_row (object1_bytes_in block (first + 1))
    → s3 ≡ s2 ++ lifted_row (object1_bytes_in block (first + 2)) → s4 ≡ s3 ++ lifted_row (object1_bytes_in block (first + 3)) → length s4 ≡ 4096 → whole ≡ padded_to 4096 s4 → whole ≡ lifted_objects block half
unfolding lifted_objects
four-rows block half first whole s1 s2 s3 s4 at e1 e2 e3 e4 long is = grind (arith, padded_to-full, append_assoc)
