-- Blocks of accounts are staged, and the state has their rows.
use Rattle.{mg_disk.specs.Disk.Image, mg_model.specs.{Abbreviations.account_row_bytes, Layout.{first_account_block, first_thread_block}}}
use Rattle.mg_model.specs.{Limits.account_limit, Replay.block_of, Spelling.{Read, account_read}, Volume.live_rows, declared.accounts.AccRow.AccRow}
use Rattle.{mg_pages.specs.{Meaning.StagesBlock, declared.pages.Pages.Pages}, mg_rows.specs.Blocks.account_in, mg_rules.specs.RowsRead.placed_from}
use Rattle.mg_volume.proofs.{AccountLists.{account_here, accounts_rise}, Staged.{counters_stay, objects_behind, objects_stay, threads_stay}}
use Rattle.mg_volume.{proofs.{Staged.{block_there, but_one}, Stages.{same_changes, shape_then, stages_then}}, specs.Changes.Changes}
use Rattle.mg_volume.specs.{Held.VolumeHeld, Meaning.{IsSpelledBy, Spelled, now_of, threads_in}, RowLists.{tell, told}, Sound.all_spelled}
use Rattle.{mg_volume.specs.StagesAccounts.{DifferWithin, HasAccounts, StagesAccounts}, std.proofs.Common.{refl, sym, ap, ◌∙◌, ⊎_elim, inl, inr}}
use Rattle.std.proofs.{Common.arith, lemmas.Bool.{both_ways, cases_Bool, eqb-false, eqb-true, le-ltb, or_cases, or_parts, Decides.nat_tests}}
use Rattle.std.specs.Prelude.{◌≡◌, ◌+◌, ◌*◌, ◌/◌, ◌%◌, ◌≤◌, ◌<◌, ◌==◌, ◌||◌, nat_lt, ℕ, Bool, true, false, List, length, slice_get, Some}
use Rattle.mg_pages.specs.Meaning as pages

-- Rows in blocks are the accounts of a list if each block that a test names has the rows of the list, and the other blocks had
-- them before.
pub accounts_told : (f g : ℕ → Read AccRow) (named : ℕ → Bool) (old new : List AccRow) → live_rows f 0 account_limit ≡ Some (placed_from 0 old) → length new ≤ account_limit → DifferWithin named old new
    → ((i : ℕ) → i < account_limit → named (i / 64) ≡ true → g i ≡ Some (slice_get new i)) → ((i : ℕ) → i < account_limit → named (i / 64) ≡ false → g i ≡ f i)
    → live_rows g 0 account_limit ≡ Some (placed_from 0 new)
accounts_told f g named old new are few within here rest =
    let all = told f 0 account_limit (placed_from 0 old) are in
    tell g 0 account_limit (placed_from 0 new)
    (record {
      placed = accounts_rise 0 account_limit new (omega arith);
      each = λ i low high.
          ⊎_elim
          (λ is. here i high is ∙ ap (λ o. Some o) (sym (account_here i new)))
          (λ not. rest i high not ∙ all.each i low high ∙ ap (λ o. Some o) (account_here i old ∙ sym (within.each i high not) ∙ sym (account_here i new)))
          (cases_Bool (named (i / 64)));
    })

abbrev pub with_accounts : VolumeHeld → List AccRow → Pages → VolumeHeld
with_accounts v rows p = record v { accounts = rows; pages = p }

module _ (v : VolumeHeld) (p : Pages) (most : ℕ) (named : ℕ → Bool) (rows : List AccRow) (staged : StagesAccounts most named rows v.pages p) (within : DifferWithin named v.accounts rows) (few : length rows ≤ account_limit) where
  spelled : (image : Image) → IsSpelledBy v image → IsSpelledBy (with_accounts v rows p) image
  unfolding IsSpelledBy
  spelled image is =
      let s : Spelled v image = is in
      let same = staged.beside image in
      record {
        fitting = staged.spelled image s.fitting;
        frames = staged.shape.frames ∙ s.frames;
        gated = s.gated;
        super = s.super;
        counters_are = counters_stay v p image s first_account_block first_thread_block same (inl (omega arith));
        accounts_are =
            accounts_told (λ i. account_read (account_row_bytes (pages.coming v.pages image) i)) (λ i. account_read (account_row_bytes (pages.coming p image) i)) named v.accounts rows s.accounts_are few within
            (λ i below named_it. let whole : 64 * (i / 64) + i % 64 ≡ i = omega arith in staged.here image (i / 64) s.fitting (omega arith) named_it (i % 64) (omega arith) ∙ ap (λ k. Some (slice_get rows k)) whole)
            (λ i below not_named. ap (λ (b : List ℕ). account_in b (i % 64)) (staged.rest image (i / 64) (omega arith) not_named));
        threads = s.threads;
        threads_are = threads_stay v p image s first_account_block first_thread_block same (inr (omega arith));
        numbered = s.numbered;
        objects = s.objects;
        objects_are = objects_stay v p image s first_account_block first_thread_block same (inr (omega arith));
        ordered = s.ordered;
        kept = s.kept;
        is = s.is;
      }

  now : (image : Image) → now_of (with_accounts v rows p) image ≡ record (now_of v image) { accounts = rows }
  unfolding now_of threads_in
  now image =
      ap (λ table. record (now_of v image) { accounts = rows; objects = all_spelled (pages.coming p image) v.settings.frames table v.objects }) staged.table
      ∙ ap (λ objects. record (now_of v image) { accounts = rows; objects = objects }) (objects_behind (pages.coming p image) (pages.coming v.pages image) v.settings.frames (pages.table_in v.pages) v.objects (λ k above. staged.beside image k (inr (omega arith))))

  pub accounts_changes : Changes most (λ state. record state { accounts = rows }) (λ rows. rows) v (with_accounts v rows p)
  accounts_changes = same_changes v (with_accounts v rows p) most (λ state. record state { accounts = rows }) refl refl staged.shape staged.words staged.staged spelled now

-- one block is staged
pub one_staged : (p q : Pages) (rows : List AccRow) (k : ℕ) (bytes : List ℕ) → k < 16 → HasAccounts rows k bytes → StagesBlock (first_account_block + k) bytes p q → StagesAccounts 1 (λ i. i == k) rows p q
one_staged p q rows k bytes few has staged = record {
  table = staged.table;
  shape = staged.shape;
  words = staged.words;
  staged = staged.staged;
  spelled = staged.spelled;
  here = λ image i fitting low is j below.
      let same : i ≡ k = eqb-true i k is in
      ap (λ m. account_in (block_of (pages.coming q image) (first_account_block + m)) j) same
      ∙ ap (λ (b : List ℕ). account_in b j) (block_there p q image (first_account_block + k) bytes staged fitting (omega arith))
      ∙ has j below
      ∙ ap (λ m. Some (slice_get rows (64 * m + j))) (sym same);
  rest = λ image i low other. let differ = eqb-false i k other in but_one p q image (first_account_block + k) bytes staged (first_account_block + i) (λ is. differ (omega arith));
  beside = λ image block outside.
      but_one p q image (first_account_block + k) bytes staged block (λ is. ⊎_elim (λ (below : block < first_account_block). omega arith) (λ (above : first_thread_block ≤ block). omega arith) outside);
}

-- and then others
pub staged_then : (p q r : Pages) (m n : ℕ) (f g h : ℕ → Bool) (rows : List AccRow) → StagesAccounts m f rows p q → StagesAccounts n g rows q r → ((k : ℕ) → h k ≡ (f k || g k)) → StagesAccounts (m + n) h rows p r
staged_then p q r m n f g h rows first second joins = record {
  table = second.table ∙ first.table;
  shape = shape_then p q r first.shape second.shape;
  words = second.words ∙ first.words;
  staged = stages_then m n p q r first.staged second.staged;
  spelled = λ image is. second.spelled image (first.spelled image is);
  here = λ image k fitting low is j below.
      ⊎_elim
      (λ late. second.here image k (first.spelled image fitting) low late j below)
      (λ early.
      ap (λ (b : List ℕ). account_in b j) (second.rest image k low early)
      ∙ first.here image k fitting low (⊎_elim (λ t. t) (λ t. absurd (both_ways (g k) early t)) (or_cases (f k) (g k) (sym (joins k) ∙ is))) j below)
      (cases_Bool (g k));
  rest = λ image k low other.
      let parts = or_parts (f k) (g k) (sym (joins k) ∙ other) in
      second.rest image k low parts.1 ∙ first.rest image k low parts.0;
  beside = λ image block outside. second.beside image block outside ∙ first.beside image block outside;
}

-- none
pub none_staged : (p : Pages) (rows : List AccRow) → StagesAccounts 0 (λ k. nat_lt k 0) rows p p
none_staged p rows = grind (arith, both_ways, le-ltb)

pub staged_wider : (p q : Pages) (m n : ℕ) (f : ℕ → Bool) (rows : List AccRow) → m ≤ n → StagesAccounts m f rows p q → StagesAccounts n f rows p q
staged_wider p q m n f rows wide stages = grind arith

-- one more than the first ones
next_named : (k i : ℕ) → nat_lt i (k + 1) ≡ (nat_lt i k || i == k)
next_named k i = grind (arith, nat_tests)

pub next_staged : (p q r : Pages) (k : ℕ) (rows : List AccRow) → StagesAccounts k (λ i. nat_lt i k) rows p q → StagesAccounts 1 (λ i. i == k) rows q r → StagesAccounts (k + 1) (λ i. nat_lt i (k + 1)) rows p r
next_staged p q r k rows first second = staged_then p q r k 1 (λ i. nat_lt i k) (λ i. i == k) (λ i. nat_lt i (k + 1)) rows first second (next_named k)
