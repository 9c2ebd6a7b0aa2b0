-- A volume with nothing staged is well formed, if it is sound and its disk gives bytes.
use Rattle.{mg_disk.specs.Disk.{AreBytes, Image}, mg_model.specs.{Abbreviations.{pages_words, thread_row_bytes}, Bank.used, KeptListLemmas.All-both}}
use Rattle.mg_model.specs.{KeptListLemmas.{All-change, All-unmap, AllPairs-change, AllPairs-head, AllPairs-nil, AllPairs-tail}, Limits.thread_limit}
use Rattle.mg_model.specs.{Objects.page_of, Ranges.{IsCounters, IsObjectRow, IsThreadRow, IsWord}, RowTestLemmas.{distinct-tells, list_all-tells}}
use Rattle.mg_model.specs.{Spelling.thread_read, State.{Object, ObjectRow, Thread, ThreadRow}, Tests.all_distinct, Volume.{accounts_fit, are_apart}}
use Rattle.mg_model.specs.{Volume.{begins_with_first, object_spelled, objects_fit, threads_fit}, WellFormed.{AreAccounts, AreObjects, AreThreads}}
use Rattle.mg_model.specs.{WellFormed.{IsAccount, IsBefore, IsFirst, IsObject, IsSettings, IsThread, IsWellFormed}, declared.accounts.AccRow.AccRow}
use Rattle.mg_volume.proofs.{Found.as_thread, ImageBytes.{pages-words, replay-bytes}, ObjectRemoved.{LiesBefore, apart_pairs}}
use Rattle.mg_volume.specs.{Held.VolumeHeld, Meaning.{IsKept, IsSpelledBy, Spelled, is_sound, now_of, staged_of, threads_in, objects_in, rows_apart}}
use Rattle.{mg_volume.specs.{Numbered.numbered, RowLists.{ArePlaced, told}, Sound.all_spelled}, std.proofs.Common.{refl, subst, arith}}
use Rattle.std.proofs.lemmas.{Bool.{and_parts, both_ways, eqb-true, leb-true}, List.{length-map, Elements.{All-nil, All-weaker}, Kept.AllPairs-cons}}
use Rattle.std.specs.{List.list_all, Option.option_map_or, Prelude.{◌≡◌, ◌≢◌, ◌+◌, ◌*◌, ◌^◌, ◌≤◌, ◌<◌, ◌==◌, ◌&&◌, nat_le, ℕ, zero, suc, true, false}}
use Rattle.std.specs.Prelude.{All, AllPairs, List, [], ◌∷◌, find, length, map, sum_by, Some, None}
use Rattle.mg_pages.specs.SpelledLemmas as laws
use Rattle.mg_pages.specs.Meaning as pages

length-pages : (r : Image) (frames : ℕ) (table : List ℕ) (page n : ℕ) → length (pages_words r frames table page n) ≡ 512 * n
length-pages r frames table page zero = refl
length-pages r frames table page (suc n) = grind (arith, (length-pages r frames table (page + 1) n))

objects-formed : (r : Image) (frames : ℕ) (table : List ℕ) (accounts : ℕ) (os : List (ℕ × ObjectRow)) → AreBytes r → All (λ (o : ℕ × ObjectRow). IsObjectRow o.1) os → rows_apart (map (λ (o : ℕ × ObjectRow). o.1) os) ≡ true → length os ≤ 4096
    → objects_fit frames accounts (all_spelled r frames table os) ≡ true → AreObjects frames accounts (all_spelled r frames table os)
objects-formed r frames table accounts os bytes rows apart few fit =
    let objects = all_spelled r frames table os in
    let parts = and_parts (are_apart objects && list_all (λ (object : Object). nat_le object.row.account accounts) objects) (nat_le (used objects) frames) fit in
    let rules = and_parts (are_apart objects) (list_all (λ (object : Object). nat_le object.row.account accounts) objects) parts.0 in
    record {
      few = let long = length-map os (λ (o : ℕ × ObjectRow). object_spelled r frames table o.1) in omega arith;
      each = All-change (λ (o : ℕ × ObjectRow). IsObjectRow o.1) IsObject (λ (o : ℕ × ObjectRow). object_spelled r frames table o.1)
          (λ o is. record { row = is; long = length-pages r frames table (page_of o.1) o.1.pages; words = pages-words r frames table (page_of o.1) o.1.pages bytes }) os rows;
      apart = AllPairs-change LiesBefore IsBefore (λ (o : ℕ × ObjectRow). object_spelled r frames table o.1) (λ x y before. before) os (apart_pairs os apart);
      paid = list_all-tells (λ (object : Object). nat_le object.row.account accounts) (λ (object : Object). object.row.account ≤ accounts) (λ object is. leb-true object.row.account accounts is) objects rules.1;
      fit = leb-true (used objects) frames parts.1;
    }

accounts-formed : (credits period : ℕ) (accounts : List AccRow) → All (λ (row : AccRow). IsWord row.password) accounts → length accounts ≤ 1024 → accounts_fit credits period accounts ≡ true → AreAccounts credits period accounts
accounts-formed credits period accounts words few fit =
    let parts = and_parts (nat_le 1 (length accounts) && sum_by (λ (row : AccRow). row.balance) accounts == credits) (list_all (λ (row : AccRow). nat_le row.owed (period * 2 ^ 36)) accounts) fit in
    let rules = and_parts (nat_le 1 (length accounts)) (sum_by (λ (row : AccRow). row.balance) accounts == credits) parts.0 in
    record {
      some = leb-true 1 (length accounts) rules.0;
      few = few;
      each = All-both (λ (row : AccRow). IsWord row.password) (λ (row : AccRow). row.owed ≤ period * 2 ^ 36) (IsAccount period) (λ row password owed. record { password = password; owed = owed }) accounts words
          (list_all-tells (λ (row : AccRow). nat_le row.owed (period * 2 ^ 36)) (λ (row : AccRow). row.owed ≤ period * 2 ^ 36) (λ row is. leb-true row.owed (period * 2 ^ 36) is) accounts parts.1);
      sum = eqb-true (sum_by (λ (row : AccRow). row.balance) accounts) credits rules.1;
    }

-- the numbers of threads, one above the places of their rows
shifted : (low high : ℕ) (rows : List (ℕ × ThreadRow)) → ArePlaced low high rows → ArePlaced (low + 1) (high + 1) (numbered rows)
shifted low high [] placed = tt
shifted low high ((i, r) ∷ rows) placed = grind (arith, (shifted (i + 1) high rows placed.2))

abbrev IsWithin : ℕ → ℕ → ℕ × ThreadRow → Type 0
IsWithin low high t = (low ≤ t.0) × (t.0 < high)

placed-within : (low high : ℕ) (rows : List (ℕ × ThreadRow)) → ArePlaced low high rows → All (IsWithin low high) rows
placed-within low high [] placed = All-nil (IsWithin low high)
placed-within low high ((i, r) ∷ rows) placed = grind (arith, (placed-within (i + 1) high rows placed.2))

abbrev ComesBefore : ℕ × ThreadRow → ℕ × ThreadRow → Type 0
ComesBefore t later = t.0 < later.0

placed-rise : (low high : ℕ) (rows : List (ℕ × ThreadRow)) → ArePlaced low high rows → AllPairs ComesBefore rows
placed-rise low high [] placed = AllPairs-nil ComesBefore
placed-rise low high ((i, r) ∷ rows) placed = grind (arith, (placed-rise (i + 1) high rows placed.2), AllPairs-cons, All-weaker, placed-within)

AllPairs-unmap : {X Y : Type 0} (R : Y → Y → Type 0) (f : X → Y) (xs : List X) → AllPairs R (map f xs) → AllPairs (λ x y. R (f x) (f y)) xs
AllPairs-unmap R f [] pairs = AllPairs-nil (λ x y. R (f x) (f y))
AllPairs-unmap R f (x ∷ xs) pairs =
    AllPairs-cons (λ x y. R (f x) (f y)) x xs (All-unmap (R (f x)) f xs (AllPairs-head R (f x) (map f xs) pairs)) (AllPairs-unmap R f xs (AllPairs-tail R (f x) (map f xs) pairs))

threads-formed : (births : ℕ) (rows : List (ℕ × ThreadRow)) → ArePlaced 1 257 rows → All (λ (t : ℕ × ThreadRow). IsThreadRow t.1) rows → threads_fit births (map as_thread rows) ≡ true → AreThreads births (map as_thread rows)
threads-formed births rows placed kept fit =
    let threads = map as_thread rows in
    let parts = and_parts (begins_with_first threads && all_distinct (map (λ (thread : Thread). thread.row.birth) threads)) (list_all (λ (thread : Thread). nat_le thread.row.birth births) threads) fit in
    let rules = and_parts (begins_with_first threads) (all_distinct (map (λ (thread : Thread). thread.row.birth) threads)) parts.0 in
    let born = list_all-tells (λ (thread : Thread). nat_le thread.row.birth births) (λ (thread : Thread). thread.row.birth ≤ births) (λ thread is. leb-true thread.row.birth births is) threads parts.1 in
    record {
      each = All-change (λ (t : ℕ × ThreadRow). IsThread births (as_thread t)) (IsThread births) as_thread (λ t is. is) rows
          (All-both (IsWithin 1 257) (λ (t : ℕ × ThreadRow). IsThreadRow t.1 × (t.1.birth ≤ births)) (λ (t : ℕ × ThreadRow). IsThread births (as_thread t))
          (λ t within is. let below = within.1 in record { some = within.0; few = omega arith; row = is.0; born = is.1 }) rows (placed-within 1 257 rows placed)
          (All-both (λ (t : ℕ × ThreadRow). IsThreadRow t.1) (λ (t : ℕ × ThreadRow). t.1.birth ≤ births) (λ (t : ℕ × ThreadRow). IsThreadRow t.1 × (t.1.birth ≤ births)) (λ t is by. (is, by)) rows kept
          (All-unmap (λ (thread : Thread). thread.row.birth ≤ births) as_thread rows born)));
      ordered = AllPairs-change ComesBefore (λ (x y : Thread). x.number < y.number) as_thread (λ x y is. is) rows (placed-rise 1 257 rows placed);
      distinct = AllPairs-unmap (λ x y. x ≢ y) (λ (thread : Thread). thread.row.birth) threads (distinct-tells (map (λ (thread : Thread). thread.row.birth) threads) rules.1);
    }

-- the first thread is found by its number
first-found : (threads : List Thread) → begins_with_first threads ≡ true
    → (row : ThreadRow) × (option_map_or (λ (thread : Thread). Some thread.row) (find (λ (thread : Thread). thread.number == 1) threads) None ≡ Some row) × IsFirst row
first-found [] begins = absurd (both_ways false refl begins)
first-found (thread ∷ threads) begins = grind (arith, and_parts, eqb-true)

spelled : (v : VolumeHeld) (image : Image) → IsSpelledBy v image → Spelled v image
unfolding IsSpelledBy
spelled v image is = is

placed : (v : VolumeHeld) (image : Image) → Spelled v image → ArePlaced 1 257 v.threads
placed v image s =
    subst (ArePlaced 1 257) s.numbered (shifted 0 256 s.threads (told (λ i. thread_read (thread_row_bytes (pages.coming v.pages image) i)) 0 thread_limit s.threads s.threads_are).placed)

pub opened_formed : (v : VolumeHeld) (image : Image) → IsKept v → IsSettings v.settings → IsCounters v.counters → All (λ (row : AccRow). IsWord row.password) v.accounts → All (λ (t : ℕ × ThreadRow). IsThreadRow t.1) v.threads
    → AreBytes image → IsSpelledBy v image → staged_of v ≡ 0 → is_sound (now_of v image) ≡ true → IsWellFormed (now_of v image)
unfolding now_of threads_in staged_of objects_in
opened_formed v image kept settings counters words threads bytes is none sound =
    let s = spelled v image is in
    let r = pages.coming v.pages image in
    let frames = v.settings.frames in
    let objects = all_spelled r frames (pages.table_in v.pages) v.objects in
    let a = accounts_fit v.settings.credits v.counters.period v.accounts in
    let o = objects_fit frames (length v.accounts) objects in
    let t = threads_fit v.counters.births (threads_in v) in
    let parts = and_parts (a && o) t sound in
    let rules = and_parts a o parts.0 in
    let first = and_parts (begins_with_first (threads_in v)) (all_distinct (map (λ (thread : Thread). thread.row.birth) (threads_in v)))
    (and_parts (begins_with_first (threads_in v) && all_distinct (map (λ (thread : Thread). thread.row.birth) (threads_in v))) (list_all (λ (thread : Thread). nat_le thread.row.birth v.counters.births) (threads_in v)) parts.1).0 in
    record {
      settings = settings;
      counters = counters;
      objects = objects-formed r frames (pages.table_in v.pages) (length v.accounts) v.objects (replay-bytes image r (pages.total_of v.pages) bytes (laws.coming_still v.pages image s.fitting none)) kept.rows kept.apart kept.few_objects rules.1;
      accounts = accounts-formed v.settings.credits v.counters.period v.accounts words kept.few_accounts rules.0;
      threads = threads-formed v.counters.births v.threads (placed v image s) threads parts.1;
      first = first-found (threads_in v) first.0;
    }
