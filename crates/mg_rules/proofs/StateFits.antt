-- The tests of the rows decide whether these keep the rules between each other.
use Rattle.{mg_disk.specs.Disk.Image, mg_model.specs.{Abbreviations.{is_page_of, threads_spelled}, State.{Object, ObjectRow, Thread, ThreadRow}}}
use Rattle.mg_model.specs.{Tests.all_distinct, Volume.{accounts_fit, begins_with_first, bound_pages, has_no_gap, objects_fit, objects_spelled}}
use Rattle.{mg_model.specs.{Volume.{state_fits, table_fits, threads_fit}, declared.accounts.AccRow.AccRow}, mg_rules.proofs.ObjectOrder.spelled-apart}
use Rattle.mg_rules.{proofs.ObjectOrder.{spelled-covered, spelled-paid}, specs.LiveTableLemmas.{live-pages, live-paid}}
use Rattle.mg_rules.specs.{ObjectOrderLemmas.spelled-used, RowsRead.{live_from, objects_of, placed_from, rows_in, state_in}, Rules.AreSpans}
use Rattle.mg_rules.specs.{Rules.{Decides, births_of}, Spans.{apart_from, is_in}, Tables.{is_paid, pages_in}, ToldLemmas.accounts-placed}
use Rattle.{mg_rules.specs.declared.volume_rows.VolumeRows.VolumeRows, std.proofs.{Common.{arith, refl, sym, ap, ◌∙◌}, lemmas.Bool.and_from}}
use Rattle.std.{proofs.lemmas.{Bool.eq-eqb, List.Folds.list_all-map, Simd.map-map}, specs.{List.{list_all, list_any}, Prelude.{◌≡◌, ℕ, ◌+◌, ◌==◌}}}
use Rattle.std.specs.Prelude.{◌&&◌, nat_le, Bool, true, false, List, [], ◌∷◌, Option, length, sum_by}

all_same : {X : Type 0} (p q : X → Bool) → ((x : X) → p x ≡ q x) → (xs : List X) → list_all p xs ≡ list_all q xs
all_same p q same [] = refl
all_same p q same (x ∷ xs) = ap (λ t. t && list_all p xs) (same x) ∙ ap (λ t. q x && t) (all_same p q same xs)

-- accounts in their places
no-gap : (i : ℕ) (accounts : List AccRow) → has_no_gap i (placed_from i accounts) ≡ true
no-gap i [] = refl
no-gap i (row ∷ rows) = and_from (i == i) (has_no_gap (i + 1) (placed_from (i + 1) rows)) (eq-eqb i i refl) (no-gap (i + 1) rows)

-- objects
module _ (image : Image) (frames : ℕ) (table : List ℕ) (spans : List (ℕ × ℕ)) (rows : List (ℕ × ObjectRow)) (are : AreSpans spans rows) where
  pub objects-fit : (accounts : ℕ) → objects_fit frames accounts (objects_spelled image frames table rows)
      ≡ (apart_from 0 spans && list_all (λ (row : ℕ × ObjectRow). nat_le row.1.account accounts) rows && nat_le (sum_by (λ (row : ℕ × ObjectRow). row.1.pages) rows) frames)
  objects-fit accounts = grind (arith, spelled-apart, spelled-paid, spelled-used)

  pub table-fits : table_fits (objects_spelled image frames table rows) table ≡ (list_all (λ page. list_any (is_in page) spans) (bound_pages table) && all_distinct (bound_pages table))
  table-fits =
      ap (λ t. t && all_distinct (bound_pages table))
      (all_same (λ page. list_any (λ object. is_page_of page object) (objects_spelled image frames table rows)) (λ page. list_any (is_in page) spans) (λ page. spelled-covered image frames table rows spans are.are page) (bound_pages table))

pub objects-fit-table :
    (image : Image) (frames : ℕ) (table : List ℕ) (spans : List (ℕ × ℕ)) (rows : List (Option ObjectRow)) → AreSpans spans (live_from 0 rows) → (accounts : ℕ)
    → objects_fit frames accounts (objects_spelled image frames table (live_from 0 rows)) ≡ (apart_from 0 spans && list_all (is_paid accounts) rows && nat_le (sum_by pages_in rows) frames)
objects-fit-table image frames table spans rows are accounts =
    objects-fit image frames table spans (live_from 0 rows) are accounts
    ∙ ap (λ t. apart_from 0 spans && t && nat_le (sum_by (λ (row : ℕ × ObjectRow). row.1.pages) (live_from 0 rows)) frames) (sym (live-paid accounts 0 rows))
    ∙ ap (λ n. apart_from 0 spans && list_all (is_paid accounts) rows && nat_le n frames) (sym (live-pages 0 rows))

-- threads
abbrev thread_of : ℕ × ThreadRow → Thread
thread_of row = record { number = row.0 + 1; row = row.1 }

pub threads-fit : (births : ℕ) (rows : List (ℕ × ThreadRow))
    → threads_fit births (threads_spelled rows) ≡ (begins_with_first (threads_spelled rows) && all_distinct (births_of rows) && list_all (λ (t : ℕ × ThreadRow). nat_le t.1.birth births) rows)
threads-fit births rows = grind (arith, map-map, list_all-map)

-- all rows
module _ (rows : VolumeRows) where
  abbrev objects_at : Image → List Object
  objects_at image = objects_spelled image rows.params.frames rows.table.items (objects_of rows)

  abbrev all_fit : Image → Bool
  all_fit image =
      accounts_fit rows.params.credits rows.globals.period rows.accounts.items
      && objects_fit rows.params.frames (length rows.accounts.items) (objects_at image)
      && threads_fit rows.globals.births (threads_spelled rows.threads.items)
      && table_fits (objects_at image) rows.table.items

  fit_is : (image : Image) → state_fits (rows_in rows) (state_in rows image) ≡ all_fit image
  fit_is image = grind (arith, no-gap, accounts-placed)

  -- what the tests of them say, when the parts are taken out
  pub accounts-test : (test : Bool) (credits : ℕ) (accounts : List AccRow) → test ≡ accounts_fit credits rows.globals.period accounts → credits ≡ rows.params.credits → accounts ≡ rows.accounts.items
      → accounts_fit rows.params.credits rows.globals.period rows.accounts.items ≡ test
  accounts-test test credits accounts is same here = sym (is ∙ ap (λ n. accounts_fit n rows.globals.period accounts) same ∙ ap (accounts_fit rows.params.credits rows.globals.period) here)

  pub objects-test : (test : Bool) (frames n : ℕ) (objects : List (ℕ × ObjectRow)) → ((image : Image) (table : List ℕ) → objects_fit frames n (objects_spelled image frames table objects) ≡ test) → frames ≡ rows.params.frames → n ≡ length rows.accounts.items
      → objects ≡ (objects_of rows) → (image : Image) → objects_fit rows.params.frames (length rows.accounts.items) (objects_at image) ≡ test
  objects-test test frames n objects is same count here image = grind (arith)

  pub threads-test : (test : Bool) (births : ℕ) (threads : List (ℕ × ThreadRow)) → test ≡ threads_fit births (threads_spelled threads) → births ≡ rows.globals.births → threads ≡ rows.threads.items
      → threads_fit rows.globals.births (threads_spelled rows.threads.items) ≡ test
  threads-test test births threads is same here = sym (is ∙ ap (λ n. threads_fit n (threads_spelled threads)) same ∙ ap (λ ts. threads_fit rows.globals.births (threads_spelled ts)) here)

  -- each exit
  pub bad-accounts : accounts_fit rows.params.credits rows.globals.period rows.accounts.items ≡ false → Decides false rows
  bad-accounts bad = record {
    is = λ image.
        fit_is image
        ∙ ap (λ t. t && objects_fit rows.params.frames (length rows.accounts.items) (objects_at image) && threads_fit rows.globals.births (threads_spelled rows.threads.items) && table_fits (objects_at image) rows.table.items) bad;
  }

  pub bad-objects : accounts_fit rows.params.credits rows.globals.period rows.accounts.items ≡ true → ((image : Image) → objects_fit rows.params.frames (length rows.accounts.items) (objects_at image) ≡ false) → Decides false rows
  bad-objects accounts bad = record {
    is = λ image.
        fit_is image
        ∙ ap (λ t. t && objects_fit rows.params.frames (length rows.accounts.items) (objects_at image) && threads_fit rows.globals.births (threads_spelled rows.threads.items) && table_fits (objects_at image) rows.table.items) accounts
        ∙ ap (λ t. t && threads_fit rows.globals.births (threads_spelled rows.threads.items) && table_fits (objects_at image) rows.table.items) (bad image);
  }

  module _ (accounts : accounts_fit rows.params.credits rows.globals.period rows.accounts.items ≡ true) (objects : (image : Image) → objects_fit rows.params.frames (length rows.accounts.items) (objects_at image) ≡ true) where
    good_objects : (image : Image) → state_fits (rows_in rows) (state_in rows image) ≡ (threads_fit rows.globals.births (threads_spelled rows.threads.items) && table_fits (objects_at image) rows.table.items)
    good_objects image = grind (arith, fit_is)

    pub decided : threads_fit rows.globals.births (threads_spelled rows.threads.items) ≡ true → (spans : List (ℕ × ℕ)) → AreSpans spans (objects_of rows) → (fit : Bool)
        → fit ≡ (list_all (λ page. list_any (is_in page) spans) (bound_pages rows.table.items) && all_distinct (bound_pages rows.table.items)) → Decides fit rows
    decided threads spans are fit is = record {
      is = λ image.
          good_objects image
          ∙ ap (λ t. t && table_fits (objects_at image) rows.table.items) threads
          ∙ table-fits image rows.params.frames rows.table.items spans (objects_of rows) are
          ∙ sym is;
    }
