-- Writes whose homes and bytes are in two lists.
use Rattle.{mg_disk.specs.Disk.{Image, block_at}, mg_journal.{proofs.Once.{once_more, once_set}, specs.Staged.{AreHeld, are_once, bytes_of, goes_to}}}
use Rattle.{mg_journal.specs.Staged.{home_at, paired, waiting}, mg_model.specs.{Bytes.number_at, Layout.body_limit}, std.proofs.Common.{refl, sym}}
use Rattle.std.proofs.{Common.{ap, cond, ◌∙◌, ⊎_elim, arith, length-append}, lemmas.{Bool.cases_eq, List.{get_or-append_right, get_or_default}}}
use Rattle.std.{proofs.lemmas.List.{get_or-set_other, get_or-set_same, get_or_append_left, length-set}, specs.{List.position_or_len, Prelude.◌≡◌}}
use Rattle.std.specs.Prelude.{◌+◌, ◌≤◌, ◌<◌, ◌==◌, ◌*◌, ℕ, zero, suc, true, not, List, [], ◌∷◌, ◌++◌, length, position, slice_index_or, slice_set}
use Rattle.std.specs.Prelude.{None}

pub pairs_count : (homes : List ℕ) (blocks : Image) (j : ℕ) → length (paired homes blocks j) ≡ length homes
pairs_count [] blocks j = refl
pairs_count (home ∷ homes) blocks j = ap suc (pairs_count homes blocks (j + 1))

pub pairs_home : (homes : List ℕ) (blocks : Image) (j k : ℕ) → home_at (paired homes blocks j) k ≡ slice_index_or homes k 0
pairs_home [] blocks j k = refl
pairs_home (home ∷ homes) blocks j zero = refl
pairs_home (home ∷ homes) blocks j (suc k) = pairs_home homes blocks (j + 1) k

pub pairs_bytes : (homes : List ℕ) (blocks : Image) (j k : ℕ) → k < length homes → bytes_of (paired homes blocks j) k ≡ block_at blocks (j + k)
pairs_bytes [] blocks j k below = absurd (omega arith)
pairs_bytes (home ∷ homes) blocks j zero below = let at : j ≡ j + zero = omega arith in ap (block_at blocks) at
pairs_bytes (home ∷ homes) blocks j (suc k) below = let at : j + 1 + k ≡ j + suc k = omega arith in pairs_bytes homes blocks (j + 1) k (omega arith) ∙ ap (block_at blocks) at

first_home : (homes : List ℕ) (blocks : Image) (j block : ℕ) → position_or_len (goes_to block) (paired homes blocks j) ≡ position_or_len (λ home. home == block) homes
first_home [] blocks j block = refl
first_home (home ∷ homes) blocks j block = ap (λ n. cond (not (home == block)) (1 + n) 0) (first_home homes blocks (j + 1) block)

pub pairs_position : (homes : List ℕ) (blocks : Image) (j block : ℕ) → position (goes_to block) (paired homes blocks j) ≡ position (λ home. home == block) homes
pairs_position homes blocks j block = grind (arith, first_home, pairs_count)

-- other blocks elsewhere
pub pairs_same : (homes : List ℕ) (a b : Image) (j : ℕ) → ((k : ℕ) → j ≤ k → k < j + length homes → block_at b k ≡ block_at a k) → paired homes b j ≡ paired homes a j
pairs_same [] a b j same = refl
pairs_same (home ∷ homes) a b j same = grind (arith, pairs_same homes a b (j + 1) (λ k low high. same k (omega arith) (omega arith)))

-- other bytes at one place
pub pairs_set : (homes : List ℕ) (blocks : Image) (j k : ℕ) (x : List ℕ) → k < length homes → j + k < length blocks → paired homes (slice_set blocks (j + k) x) j ≡ slice_set (paired homes blocks j) k (home_at (paired homes blocks j) k, x)
pairs_set [] blocks j k x below room = absurd (omega arith)
pairs_set (home ∷ homes) blocks j zero x below room = grind (arith, get_or-set_same, pairs_same, get_or-set_other)
pairs_set (home ∷ homes) blocks j (suc k) x below room =
    grind (arith, get_or-set_other, pairs_set homes blocks (j + 1) k x (omega arith) (omega arith))

-- a block more at the end, and a home for it
pub pairs_more : (homes : List ℕ) (blocks : Image) (j home : ℕ) (x : List ℕ) → length blocks ≡ j + length homes → paired (homes ++ home ∷ []) (blocks ++ x ∷ []) j ≡ paired homes blocks j ++ (home, x) ∷ []
pairs_more [] blocks j home x long = grind (arith, get_or-append_right)
pairs_more (first ∷ homes) blocks j home x long = grind (arith, get_or_append_left, pairs_more homes blocks (j + 1) home x (omega arith))

-- an index and what lies after it, from what is in the index
pub held_from : (homes : List ℕ) (blocks : Image) → length homes ≤ body_limit → are_once (paired homes blocks 1) ≡ true → length blocks ≡ length homes + 1
    → number_at (block_at blocks 0) 0 ≡ length homes → ((j : ℕ) → j < length homes → number_at (block_at blocks 0) (8 + 8 * j) ≡ slice_index_or homes j 0) → AreHeld homes blocks
held_from homes blocks few once long count each = grind (arith, pairs_count, pairs_home, pairs_bytes)

module _ (homes : List ℕ) (blocks : Image) (held : AreHeld homes blocks) where
  pub long_held : length blocks ≡ length homes + 1
  long_held = let n = pairs_count homes blocks 1 in let m = held.run.long in omega arith

  pub index_held : (d : List ℕ) → slice_index_or blocks 0 d ≡ block_at blocks 0
  index_held d = let m = long_held in get_or_default blocks 0 d [] (omega arith)

  -- these are the writes, and one of them
  module _ (ws : List (ℕ × List ℕ)) (is : paired homes blocks 1 ≡ ws) (k : ℕ) (below : k < length ws) where
    within : k < length homes
    within = omega (arith, pairs_count homes blocks 1, ap length is)

    -- its home and its bytes, where they are
    pub home_held : (d : ℕ) → slice_index_or homes k d ≡ home_at ws k
    home_held d = get_or_default homes k d 0 within ∙ sym (pairs_home homes blocks 1 k) ∙ ap (λ v. home_at v k) is

    pub bytes_held : (d : List ℕ) → slice_index_or blocks (k + 1) d ≡ bytes_of ws k
    bytes_held d =
        let at : k + 1 ≡ 1 + k = omega arith in
        get_or_default blocks (k + 1) d [] (omega (arith, long_held, within)) ∙ ap (block_at blocks) at ∙ sym (pairs_bytes homes blocks 1 k within) ∙ ap (λ v. bytes_of v k) is

    -- other bytes for it
    pub pairs_put : (x : List ℕ) → paired homes (slice_set blocks (k + 1) x) 1 ≡ slice_set ws k (home_at ws k, x)
    pairs_put x =
        let at : k + 1 ≡ 1 + k = omega arith in
        ap (λ i. paired homes (slice_set blocks i x) 1) at ∙ pairs_set homes blocks 1 k x within (omega (arith, long_held, within)) ∙ ap (λ v. slice_set v k (home_at v k, x)) is

    pub held_put : (x : List ℕ) → AreHeld homes (slice_set blocks (k + 1) x)
    held_put x = grind (arith, pairs_count, get_or-set_other, held_from, pairs_put, once_set, length-set, long_held, pairs_home)

  -- one more
  module _ (home : ℕ) (index x : List ℕ) where
    pub pairs_added : paired (homes ++ home ∷ []) (slice_set blocks 0 index ++ x ∷ []) 1 ≡ paired homes blocks 1 ++ (home, x) ∷ []
    pairs_added = grind (arith, long_held, length-set, pairs_more, pairs_same, get_or-set_other)

    pub held_added : length homes < body_limit → waiting (paired homes blocks 1) home ≡ None → number_at index 0 ≡ length homes + 1 → number_at index (8 + 8 * length homes) ≡ home
        → ((j : ℕ) → j < length homes → number_at index (8 + 8 * j) ≡ number_at (block_at blocks 0) (8 + 8 * j)) → AreHeld (homes ++ home ∷ []) (slice_set blocks 0 index ++ x ∷ [])
    held_added few new count named others =
        let n = pairs_count homes blocks 1 in
        let m = long_held in
        let l = length-set blocks 0 index in
        let longer = length-append homes (home ∷ []) in
        let more = length-append (slice_set blocks 0 index) (x ∷ []) in
        let first : block_at (slice_set blocks 0 index ++ x ∷ []) 0 ≡ index =
        get_or_append_left (slice_set blocks 0 index) (x ∷ []) [] 0 (omega arith) ∙ get_or-set_same blocks 0 index [] (omega arith) in
        held_from (homes ++ home ∷ []) (slice_set blocks 0 index ++ x ∷ []) (omega arith)
        (ap are_once pairs_added ∙ once_more (paired homes blocks 1) home x new held.once)
        (omega arith)
        (ap (λ b. number_at b 0) first ∙ count ∙ omega arith)
        (λ j below. ap (λ b. number_at b (8 + 8 * j)) first ∙ ⊎_elim (last j) (λ other. earlier j (omega arith)) (cases_eq j (length homes)))
      where
        last : (j : ℕ) → j ≡ length homes → number_at index (8 + 8 * j) ≡ slice_index_or (homes ++ home ∷ []) j 0
        last j is = grind (arith, get_or-append_right)

        earlier : (j : ℕ) → j < length homes → number_at index (8 + 8 * j) ≡ slice_index_or (homes ++ home ∷ []) j 0
        earlier j below = grind (arith, pairs_count, pairs_home, get_or_append_left)
