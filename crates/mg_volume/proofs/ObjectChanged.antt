-- Another row of an object that is there.
use Rattle.{mg_disk.specs.Disk.Image, mg_model.specs.{Abbreviations.pages_words, Layout.first_object_block, Limits.object_limit, Objects.page_of}}
use Rattle.{mg_model.specs.{Ranges.IsObjectRow, State.ObjectRow, Volume.{bound_pages, object_spelled}}, mg_objects.specs.Held.with_row}
use Rattle.{mg_pages.specs.declared.pages.Pages.Pages, mg_volume.proofs.{BareRows.any_bare, Found.found_keeps, ObjectLists.by_base_row}}
use Rattle.mg_volume.proofs.{ObjectLists.{change-none, changed_order, placed_distinct, put_at}, ObjectStaged.{bases_distinct, distinct_of}}
use Rattle.mg_volume.proofs.{ObjectStaged.{objects_staged, placed_of, with_objects}, PagesChange.held_same, Staged.staged_objects, Stages.changes_is}
use Rattle.mg_volume.{proofs.StillStaged.{base_found, objects_still, place_found, with_base}, specs.{Changes.Changes, Held.VolumeHeld}}
use Rattle.mg_volume.specs.Meaning.{IsKept, IsSpelledBy, Spelled, bare_rows, has_page, is_page_in, now_of, objects_in, rows_apart, threads_in}
use Rattle.mg_volume.specs.{RowLists.{DistinctBy, row_at, row_set, set_other, set_placed}, Sound.{all-same, all_spelled}, StagesRows.StagesRows}
use Rattle.{mg_volume.specs.Staging.{MayChange, free_place, has_base, is_object_staged, place_for, with_other_row}, std.proofs.Common.{refl, sym, ap}}
use Rattle.std.proofs.{Common.{subst, ◌∙◌, ⊎_elim, inl, inr, arith}, lemmas.Bool.{both_ways, cases_eq, cond_both, eq-eqb, eqb-true}}
use Rattle.std.proofs.lemmas.{Bool.Decides.nat_tests, List.{length-map, Elements.{All-cons, All-head, All-map, All-nil, All-tail, All-weaker}}}
use Rattle.std.{proofs.lemmas.List.Sums.sum_by-cons, specs.{List.list_any, Option.option_map_or, Prelude.{◌≡◌, ◌≢◌, ◌+◌, ◌/◌, ◌<◌, ◌==◌, ◌⊎◌, ◌&&◌}}}
use Rattle.std.specs.Prelude.{◌||◌, nat_lt, nat_le, ℕ, Bool, true, false, All, List, [], ◌∷◌, find, if◌then◌else◌, map, option_map, sum_by, IsSomeAnd}
use Rattle.std.specs.Prelude.{Option, Some, None}
use Rattle.mg_model.specs.Objects as model
use Rattle.mg_pages.specs.Meaning as pages

pub distinct_bare : (os : List (ℕ × ObjectRow)) → DistinctBy (λ (y : ℕ × ObjectRow). y.1.base) os → DistinctBy (λ (y : ObjectRow). y.base) (bare_rows os)
distinct_bare [] distinct = tt
distinct_bare (o ∷ os) distinct = (All-map (λ (y : ObjectRow). y.base ≢ o.1.base) (λ (o : ℕ × ObjectRow). o.1) os distinct.0, distinct_bare os distinct.1)

-- what an update needs
pub there_is : (v : VolumeHeld) (base : ℕ) → has_base base (objects_in v) ≡ true → list_any (λ (o : ℕ × ObjectRow). o.1.base == base) v.objects ≡ true
unfolding objects_in
there_is v base has = any_bare (λ (r : ObjectRow). r.base == base) v.objects ∙ has

-- the one with its base has as many pages
abbrev HasPages : ObjectRow → ℕ × ObjectRow → Type 0
HasPages row o = o.1.base ≡ row.base → o.1.pages ≡ row.pages

same-pages : (row : ObjectRow) (os : List (ℕ × ObjectRow)) → DistinctBy (λ (y : ℕ × ObjectRow). y.1.base) os → IsSomeAnd (find (λ (r : ObjectRow). r.base == row.base) (bare_rows os)) (λ old. old.pages ≡ row.pages) → All (HasPages row) os
same-pages row [] distinct change = All-nil (HasPages row)
same-pages row (o ∷ os) distinct change = by_test (o.1.base == row.base) refl change (same-pages row os distinct.1)
  where
    by_test : (t : Bool) → (o.1.base == row.base) ≡ t → IsSomeAnd (if t then Some o.1 else find (λ (r : ObjectRow). r.base == row.base) (bare_rows os)) (λ old. old.pages ≡ row.pages)
        → (IsSomeAnd (find (λ (r : ObjectRow). r.base == row.base) (bare_rows os)) (λ old. old.pages ≡ row.pages) → All (HasPages row) os) → All (HasPages row) (o ∷ os)
    by_test true here change later = grind (arith, All-cons, All-weaker, eqb-true)
    by_test false elsewhere change later = All-cons (HasPages row) o os (λ is. absurd (both_ways (o.1.base == row.base) elsewhere (eq-eqb o.1.base row.base is))) (later change)

pub pages_same : (v : VolumeHeld) (row : ObjectRow) → IsKept v → MayChange (objects_in v) row → All (λ (o : ℕ × ObjectRow). o.1.base ≡ row.base → o.1.pages ≡ row.pages) v.objects
unfolding objects_in
pages_same v row kept change = same-pages row v.objects (bases_distinct v kept) change

-- the objects with the row: their places, their rows, and what is held of them
module _ (row : ObjectRow) where
  places-kept : (base : ℕ) (os : List (ℕ × ObjectRow)) → option_map (λ (o : ℕ × ObjectRow). o.0) (with_base base (with_row row os)) ≡ option_map (λ (o : ℕ × ObjectRow). o.0) (with_base base os)
  places-kept base [] = refl
  places-kept base (o ∷ os) = grind (arith, nat_tests, places-kept base os)

  place-of : (r : Option (ℕ × ObjectRow)) (place other : ℕ) → option_map (λ (o : ℕ × ObjectRow). o.0) r ≡ Some place → option_map_or (λ (o : ℕ × ObjectRow). o.0) r other ≡ place
  place-of None place other is = cc
  place-of (Some o) place other is = cc

  place-kept : (base : ℕ) (os : List (ℕ × ObjectRow)) → has_base base (bare_rows os) ≡ true → place_for base (with_row row os) ≡ place_for base os
  place-kept base os has =
      let there = base_found base os has in
      place-of (with_base base (with_row row os)) there.0.0 (free_place (with_row row os)) (places-kept base os ∙ ap (option_map (λ (o : ℕ × ObjectRow). o.0)) there.1) ∙ sym (place_found base os there.0 there.1)

  rows-kept : (os : List (ℕ × ObjectRow)) → bare_rows (with_row row os) ≡ with_other_row row (bare_rows os)
  rows-kept [] = refl
  rows-kept (o ∷ os) = grind (arith, rows-kept os)

  each-kept : (P : ℕ × ObjectRow → Type 0) (os : List (ℕ × ObjectRow)) → ((o : ℕ × ObjectRow) → P o → P (o.0, row)) → All P os → All P (with_row row os)
  each-kept P os new all =
      let change = λ (o : ℕ × ObjectRow). if o.1.base == row.base then (o.0, row) else o in
      All-map P change os (All-weaker P (λ o. P (change o)) (λ o is. cond_both (o.1.base == row.base) (o.0, row) o P (λ t. new o is) (λ t. is)) os all)

  page-kept : (page : ℕ) (o : ℕ × ObjectRow) → o.1.base ≡ row.base → o.1.pages ≡ row.pages → is_page_in page row ≡ is_page_in page o.1
  page-kept page o base same = sym (ap (λ b. nat_le (b / 4096) page && nat_lt page (b / 4096 + o.1.pages)) base ∙ ap (λ n. nat_le (page_of row) page && nat_lt page (page_of row + n)) same)

  any-kept : (page : ℕ) (os : List (ℕ × ObjectRow)) → All (HasPages row) os → list_any (λ r. is_page_in page r) (bare_rows (with_row row os)) ≡ list_any (λ r. is_page_in page r) (bare_rows os)
  any-kept page [] same = refl
  any-kept page (o ∷ os) same = ap (λ b. b || list_any (λ r. is_page_in page r) (bare_rows (with_row row os))) (first (o.1.base == row.base) (λ t. eqb-true o.1.base row.base t)) ∙ ap (λ b. is_page_in page o.1 || b) (any-kept page os (All-tail (HasPages row) o os same))
    where
      first : (t : Bool) → (t ≡ true → o.1.base ≡ row.base) → is_page_in page (if t then (o.0, row) else o).1 ≡ is_page_in page o.1
      first true is = page-kept page o (is refl) (All-head (HasPages row) o os same (is refl))
      first false is = refl

  sum-kept : (os : List (ℕ × ObjectRow)) → All (HasPages row) os → sum_by (λ (o : ℕ × ObjectRow). o.1.pages) (with_row row os) ≡ sum_by (λ (o : ℕ × ObjectRow). o.1.pages) os
  sum-kept [] same = refl
  sum-kept (o ∷ os) same =
      let here = All-head (HasPages row) o os same in
      let rest = sum-kept os (All-tail (HasPages row) o os same) in
      let b = sum_by-cons (λ (o : ℕ × ObjectRow). o.1.pages) o os in
      cond_both (o.1.base == row.base) (o.0, row) o (λ x. sum_by (λ (o : ℕ × ObjectRow). o.1.pages) (x ∷ with_row row os) ≡ sum_by (λ (o : ℕ × ObjectRow). o.1.pages) (o ∷ os))
      (λ t. let a = sum_by-cons (λ (o : ℕ × ObjectRow). o.1.pages) (o.0, row) (with_row row os) in let is = here (eqb-true o.1.base row.base t) in omega arith)
      (λ f. let a = sum_by-cons (λ (o : ℕ × ObjectRow). o.1.pages) o (with_row row os) in omega arith)

  apart-kept : (os : List (ℕ × ObjectRow)) → All (HasPages row) os → rows_apart (bare_rows (with_row row os)) ≡ rows_apart (bare_rows os)
  apart-kept [] same = refl
  apart-kept (o ∷ []) same = refl
  apart-kept (o ∷ x ∷ os) same = grind (arith, (apart-kept (x ∷ os) (All-tail (HasPages row) o (x ∷ os) same)), All-head, All-tail, nat_tests)

  -- the words stay
  objects-kept : (r : Image) (frames : ℕ) (table : List ℕ) (os : List (ℕ × ObjectRow)) → All (HasPages row) os → all_spelled r frames table (with_row row os) ≡ model.with_row row.base (λ old. row) (all_spelled r frames table os)
  objects-kept r frames table [] same = refl
  objects-kept r frames table (o ∷ os) same =
      ap (λ object. object ∷ all_spelled r frames table (with_row row os)) (first (o.1.base == row.base) (λ t. eqb-true o.1.base row.base t))
      ∙ ap (λ rest. (if o.1.base == row.base then record (object_spelled r frames table o.1) { row = row } else object_spelled r frames table o.1) ∷ rest) (objects-kept r frames table os (All-tail (HasPages row) o os same))
    where
      words : o.1.base ≡ row.base → pages_words r frames table (page_of row) row.pages ≡ pages_words r frames table (page_of o.1) o.1.pages
      words is = sym (ap (λ b. pages_words r frames table (b / 4096) o.1.pages) is ∙ ap (pages_words r frames table (page_of row)) (All-head (HasPages row) o os same is))

      first : (t : Bool) → (t ≡ true → o.1.base ≡ row.base) → object_spelled r frames table (if t then (o.0, row) else o).1 ≡ (if t then record (object_spelled r frames table o.1) { row = row } else object_spelled r frames table o.1)
      first true is = ap (λ w. record { row = row; words = w }) (words (is refl))
      first false is = refl

  -- where it is in the order of the places
  row-differs : (p base : ℕ) (old : ObjectRow) (os : List (ℕ × ObjectRow)) → All (λ (y : ℕ × ObjectRow). y.1.base ≢ base) os → row_at p os ≡ Some old → old.base ≢ base
  row-differs p base old [] all there = cc
  row-differs p base old (o ∷ os) all there =
      let rest = row-differs p base old os (All-tail (λ (y : ℕ × ObjectRow). y.1.base ≢ base) o os all) in
      grind (arith, nat_tests, there, All-head (λ (y : ℕ × ObjectRow). y.1.base ≢ base) o os all)

  by-place : (p : ℕ) (old : ObjectRow) (os : List (ℕ × ObjectRow)) → DistinctBy (λ (y : ℕ × ObjectRow). y.0) os → DistinctBy (λ (y : ℕ × ObjectRow). y.1.base) os → row_at p os ≡ Some old → old.base ≡ row.base → map (put_at p row) os ≡ with_row row os
  by-place p old [] places bases there same = cc
  by-place p old (o ∷ os) places bases there same =
      ⊎_elim
      (λ (here : o.0 ≡ p).
      let is : o.1.base ≡ row.base = grind (arith, nat_tests, there, same) in
      let first = change-none (λ (y : ℕ × ObjectRow). y.0) (λ y. (p, row)) p os (All-weaker (λ (y : ℕ × ObjectRow). y.0 ≢ o.0) (λ (y : ℕ × ObjectRow). y.0 ≢ p) (λ y other e. other (e ∙ sym here)) os places.0) in
      let second = change-none (λ (y : ℕ × ObjectRow). y.1.base) (λ y. (y.0, row)) row.base os (All-weaker (λ (y : ℕ × ObjectRow). y.1.base ≢ o.1.base) (λ (y : ℕ × ObjectRow). y.1.base ≢ row.base) (λ y other e. other (e ∙ sym is)) os bases.0) in
      grind (arith, nat_tests))
      (λ other.
      let later : row_at p os ≡ Some old = grind (arith, nat_tests, there) in
      let differs = row-differs p o.1.base old os bases.0 later in
      let rest = by-place p old os places.1 bases.1 later same in
      grind (arith, nat_tests))
      (cases_eq o.0 p)

  row-of : (os : List (ℕ × ObjectRow)) (x : ℕ × ObjectRow) → DistinctBy (λ (y : ℕ × ObjectRow). y.0) os → with_base row.base os ≡ Some x → (row_at x.0 os ≡ Some x.1) × (x.1.base ≡ row.base)
  row-of [] x distinct found = cc
  row-of (o ∷ os) x distinct found =
      let differs : with_base row.base os ≡ Some x → x.0 ≢ o.0 = found_keeps (λ (y : ℕ × ObjectRow). y.0 ≢ o.0) (λ (y : ℕ × ObjectRow). y.1.base == row.base) os x distinct.0 in
      by_test (o.1.base == row.base) refl found (row-of os x distinct.1) differs
    where
      by_test : (t : Bool) → (o.1.base == row.base) ≡ t → (if t then Some o else with_base row.base os) ≡ Some x → (with_base row.base os ≡ Some x → (row_at x.0 os ≡ Some x.1) × (x.1.base ≡ row.base)) → (with_base row.base os ≡ Some x → x.0 ≢ o.0)
          → (row_at x.0 (o ∷ os) ≡ Some x.1) × (x.1.base ≡ row.base)
      by_test true is found later differs = let same : o ≡ x = cc in subst (λ (x : ℕ × ObjectRow). (row_at x.0 (o ∷ os) ≡ Some x.1) × (x.1.base ≡ row.base)) same (ap (λ b. if b then Some o.1 else row_at o.0 os) (eq-eqb o.0 o.0 refl), eqb-true o.1.base row.base is)
      by_test false is found later differs = let rest = later found in let other = differs found in (grind (arith, nat_tests), rest.1)

found-place : (o : Option (ℕ × ObjectRow)) (place : ℕ) → Some place ≡ option_map (λ (o : ℕ × ObjectRow). o.0) o → (x : ℕ × ObjectRow) × (o ≡ Some x) × (x.0 ≡ place)
found-place None place is = cc
found-place (Some x) place is = (x, refl, (let e : Some place ≡ Some x.0 = is in cc))

-- the volume with it, if its row has this place
module _ (v : VolumeHeld) (row : ObjectRow) (place : ℕ) (kept : IsKept v) (change : MayChange (objects_in v) row) (is : Some place ≡ option_map (λ (o : ℕ × ObjectRow). o.0) (with_base row.base v.objects)) where
  found : (x : ℕ × ObjectRow) × (with_base row.base v.objects ≡ Some x) × (x.0 ≡ place)
  found = found-place (with_base row.base v.objects) place is

  same : All (HasPages row) v.objects
  same = pages_same v row kept change

  pub put_low : place < object_limit
  put_low = subst (λ n. n < object_limit) found.2 (found_keeps (λ (o : ℕ × ObjectRow). o.0 < object_limit) (λ (o : ℕ × ObjectRow). o.1.base == row.base) v.objects found.0 kept.places found.1)

  place-is : place_for row.base v.objects ≡ place
  place-is = place_found row.base v.objects found.0 found.1 ∙ found.2

  pub put_room : (is_object_staged v row.base ≡ true) ⊎ (pages.staged_of v.pages < 160) → (pages.is_staged v.pages (first_object_block + place / 4) ≡ true) ⊎ (pages.staged_of v.pages < 160)
  unfolding is_object_staged
  put_room room = ⊎_elim (λ staged. inl (ap (λ n. pages.is_staged v.pages (first_object_block + n / 4)) (sym place-is) ∙ staged)) (λ few. inr few) room

  pub put_held : (p : Pages) → IsObjectRow row → pages.frame_count p ≡ pages.frame_count v.pages → pages.table_in p ≡ pages.table_in v.pages → IsKept (with_objects v (with_row row v.objects) p)
  unfolding objects_in
  put_held p good frames table =
      held_same (record v { objects = with_row row v.objects }) v.counters v.threads p
      (record {
        frames = kept.frames;
        rows = each-kept row (λ (o : ℕ × ObjectRow). IsObjectRow o.1) v.objects (λ o was. good) kept.rows;
        places = each-kept row (λ (o : ℕ × ObjectRow). o.0 < object_limit) v.objects (λ o was. was) kept.places;
        apart = apart-kept row v.objects same ∙ kept.apart;
        used = (let sum = sum-kept row v.objects same in let used = kept.used in omega arith);
        few_objects = (let long = length-map v.objects (λ (o : ℕ × ObjectRow). if o.1.base == row.base then (o.0, row) else o) in let most = kept.few_objects in omega arith);
        some_accounts = kept.some_accounts;
        few_accounts = kept.few_accounts;
        few_threads = kept.few_threads;
        inside = all-same (λ page. has_page (record v { objects = with_row row v.objects }) page) (λ page. has_page v page) (λ page. any-kept row page v.objects same) (bound_pages (pages.table_in v.pages)) ∙ kept.inside;
      })
      kept.few_threads frames table

  module _ (p : Pages) (staged : StagesRows (with_row row v.objects) place v.pages p) where
    pub put_here : has_base row.base (objects_in v) ≡ true → is_object_staged (with_objects v (with_row row v.objects) p) row.base ≡ true
    unfolding objects_in is_object_staged
    put_here has = ap (λ n. pages.is_staged p (first_object_block + n / 4)) (place-kept row row.base v.objects has ∙ place-is) ∙ staged.block.here

    spelled : (image : Image) → IsSpelledBy v image → IsSpelledBy (with_objects v (with_row row v.objects) p) image
    unfolding IsSpelledBy
    spelled image was =
        let s : Spelled v image = was in
        let placed = placed_of v image s in
        let distinct = distinct_of v image s in
        let at = row-of row v.objects found.0 distinct found.1 in
        let held : row_at place v.objects ≡ Some found.0.1 = ap (λ n. row_at n v.objects) (sym found.2) ∙ at.0 in
        let there : row_at place s.objects ≡ Some found.0.1 = sym (by_base_row place s.objects (placed_distinct 0 object_limit s.objects placed)) ∙ ap (row_at place) s.ordered ∙ held in
        objects_staged v p image place (row_set place (Some row) s.objects) (with_row row v.objects) s staged put_low (set_placed 0 object_limit place (Some row) s.objects placed (omega arith) put_low)
        (changed_order object_limit place row found.0.1 s.objects placed there (sym at.1) ∙ ap (map (put_at place row)) s.ordered ∙ by-place row place found.0.1 v.objects distinct (bases_distinct v kept) held at.1)
        (λ j other. set_other j place (Some row) s.objects (λ e. other (ap (λ k. k / 4) e)))

    now : (image : Image) → now_of (with_objects v (with_row row v.objects) p) image ≡ record (now_of v image) { objects = model.with_row row.base (λ old. row) (now_of v image).objects }
    unfolding now_of threads_in
    now image =
        let low = put_low in
        ap (λ objects. record (now_of v image) { objects = objects })
        (staged_objects (with_objects v (with_row row v.objects) v.pages) p image (first_object_block + place / 4) staged.bytes (omega arith) staged.block.table (staged.block.coming image)
        ∙ objects-kept row (pages.coming v.pages image) v.settings.frames (pages.table_in v.pages) v.objects same)

    pub put_changes : Changes 1 (λ state. record state { objects = model.with_row row.base (λ old. row) state.objects }) (with_other_row row) v (with_objects v (with_row row v.objects) p)
    unfolding objects_in
    put_changes =
        let w = with_objects v (with_row row v.objects) p in
        changes_is v w 1 (λ state. record state { objects = model.with_row row.base (λ old. row) state.objects }) (with_other_row row) refl staged.block.shape staged.block.words staged.block.staged spelled now (rows-kept row v.objects)
        (objects_still v w staged.block.staged.still (λ base was is. place-kept row base v.objects was))
