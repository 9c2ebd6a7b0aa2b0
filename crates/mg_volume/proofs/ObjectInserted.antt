-- A new object, in the first row that is free.
use Rattle.{mg_disk.specs.Disk.Image, mg_model.specs.{Abbreviations.pages_words, Layout.first_object_block, Limits.object_limit, Objects.page_behind}}
use Rattle.mg_model.specs.{Objects.{page_of, with_object}, Ranges.IsObjectRow, State.ObjectRow, Volume.page_words}
use Rattle.{mg_objects.specs.Held.{IsLowestFree, MeetsNone, into_place}, mg_pages.specs.declared.pages.Pages.Pages}
use Rattle.mg_volume.proofs.{BareRows.sum_bare, FreePlace.{is_taken, lowest_is}, ObjectLists.{by_base_row, into-all, placed_distinct}}
use Rattle.mg_volume.proofs.ObjectOrder.{from_by_base, into_any, into_found, into_length, into_others, into_rows, into_sum, none_at, set_order}
use Rattle.mg_volume.proofs.{ObjectStaged.{objects_staged, placed_of, with_objects}, PagesChange.{all-bound, each-bound, held_same}}
use Rattle.mg_volume.proofs.{RowsApart.{apart_with, base_apart, kept_rows, no_base, page_apart}, Staged.staged_objects, Stages.changes_is}
use Rattle.mg_volume.{proofs.StillStaged.{objects_still, place_found, place_new, place_same}, specs.{Changes.Changes, Held.VolumeHeld}}
use Rattle.mg_volume.specs.Meaning.{IsKept, IsSpelledBy, Spelled, bare_rows, has_page, is_page_in, now_of, objects_in, rows_apart, settings_in}
use Rattle.mg_volume.specs.{Meaning.threads_in, RowLists.{row_at, row_set, set_other, set_placed}, Sound.{all_spelled, object-placed}}
use Rattle.mg_volume.specs.{StagesRows.StagesRows, Staging.{MayJoin, ObjectsStillStaged, blank, free_place, has_base, is_apart_from}}
use Rattle.{mg_volume.specs.Staging.{is_object_staged, with_new_row}, std.proofs.Common.{refl, sym, ap, subst, ◌∙◌, ⊎_elim, inl, inr, arith}}
use Rattle.std.proofs.lemmas.Bool.{and_from, and_parts, both_ways, cases_Bool, le-leb, le-ltb, leb-true, lt-ltb, or_cases, or_parts}
use Rattle.std.{proofs.lemmas.List.{length-map, replicate-append-replicate, Elements.{All-cons, All-head, All-nil, All-tail}}, specs.List.list_any}
use Rattle.std.specs.{List.position_or_len, Prelude.{◌≡◌, ◌≢◌, ◌+◌, ◌*◌, ◌/◌, ◌≤◌, ◌<◌, ◌==◌, ◌||◌, ◌⊎◌, nat_le, ℕ, zero, suc, true, false, not, All}}
use Rattle.std.specs.Prelude.{List, [], ◌∷◌, ◌++◌, if◌then◌else◌, length, replicate, Some, None}
use Rattle.mg_pages.specs.Meaning as pages

-- a page that no frame holds reads as zeros
none-behind : (page : ℕ) (table : List ℕ) → list_any (λ entry. entry == page) table ≡ false → position_or_len (λ entry. entry == page) table ≡ length table
none-behind page [] none = refl
none-behind page (entry ∷ table) none =
    let parts = or_parts (entry == page) (list_any (λ entry. entry == page) table) none in
    let rest = none-behind page table parts.1 in
    ap (λ b. if not b then 1 + position_or_len (λ entry. entry == page) table else 0) parts.0 ∙ omega arith

unbound-zeros : (r : Image) (frames : ℕ) (table : List ℕ) (page : ℕ) → list_any (λ entry. entry == page) table ≡ false → page_words r frames table page ≡ replicate 512 0
unbound-zeros r frames table page none = grind (arith, le-ltb, none-behind)

unbound-words : (r : Image) (frames : ℕ) (table : List ℕ) (page n : ℕ) → ((k : ℕ) → page ≤ k → k < page + n → list_any (λ entry. entry == k) table ≡ false) → pages_words r frames table page n ≡ replicate (512 * n) 0
unbound-words r frames table page zero none = refl
unbound-words r frames table page (suc n) none =
    ap (λ words. words ++ pages_words r frames table (page + 1) n) (unbound-zeros r frames table page (none page (omega arith) (omega arith)))
    ∙ ap (λ words. replicate 512 0 ++ words) (unbound-words r frames table (page + 1) n (λ k low high. none k (omega arith) (omega arith)))
    ∙ replicate-append-replicate 512 (512 * n) 0
    ∙ ap (λ n. replicate n 0) (omega arith)

unmap : (P : ObjectRow → Type 0) (os : List (ℕ × ObjectRow)) → All P (bare_rows os) → All (λ (o : ℕ × ObjectRow). P o.1) os
unmap P [] all = All-nil (λ (o : ℕ × ObjectRow). P o.1)
unmap P (o ∷ os) all = All-cons (λ (o : ℕ × ObjectRow). P o.1) o os (All-head P o.1 (bare_rows os) all) (unmap P os (All-tail P o.1 (bare_rows os) all))

-- there are fewer objects than rows, and the new one meets none of them
pub join_few : (v : VolumeHeld) (row : ObjectRow) → MayJoin (objects_in v) (settings_in v).frames row → length v.objects < object_limit
unfolding objects_in
join_few v row join = (let long = length-map v.objects (λ (o : ℕ × ObjectRow). o.1) in let f = join.few in omega arith)

meets-none : (row : ObjectRow) (os : List (ℕ × ObjectRow)) → is_apart_from (bare_rows os) row ≡ true → MeetsNone row os
meets-none row [] apart = All-nil (λ (o : ℕ × ObjectRow). (page_behind row ≤ page_of o.1) ⊎ (page_behind o.1 ≤ page_of row))
meets-none row (o ∷ os) apart =
    let parts = and_parts (nat_le (page_behind row) (page_of o.1) || nat_le (page_behind o.1) (page_of row)) (is_apart_from (bare_rows os) row) apart in
    All-cons (λ (o : ℕ × ObjectRow). (page_behind row ≤ page_of o.1) ⊎ (page_behind o.1 ≤ page_of row)) o os
    (⊎_elim (λ before. inl (leb-true (page_behind row) (page_of o.1) before)) (λ behind. inr (leb-true (page_behind o.1) (page_of row) behind)) (or_cases (nat_le (page_behind row) (page_of o.1)) (nat_le (page_behind o.1) (page_of row)) parts.0))
    (meets-none row os parts.1)

pub join_meets : (v : VolumeHeld) (row : ObjectRow) → MayJoin (objects_in v) (settings_in v).frames row → MeetsNone row v.objects
unfolding objects_in
join_meets v row join = meets-none row v.objects join.apart

module _ (v : VolumeHeld) (row : ObjectRow) (place : ℕ) (is : IsObjectRow row) (kept : IsKept v) (join : MayJoin (objects_in v) (settings_in v).frames row) (lowest : IsLowestFree place v.objects) where
  at : place ≡ free_place v.objects
  at = lowest_is v.objects place lowest

  -- there is a free row
  pub inserted_low : place < object_limit
  inserted_low = lowest.within

  free : is_taken v.objects place ≡ false
  free = lowest.free

  other-rows : All (λ other. other.base ≢ row.base) (objects_in v)
  other-rows = base_apart row is (objects_in v) (kept_rows v kept) join.apart

  others : All (λ (o : ℕ × ObjectRow). o.1.base ≢ row.base) v.objects
  unfolding objects_in
  others = unmap (λ other. other.base ≢ row.base) v.objects other-rows

  absent : has_base row.base (objects_in v) ≡ false
  absent = no_base row.base (objects_in v) other-rows

  -- it waits for a commit if the free row does
  pub inserted_room : (is_object_staged v row.base ≡ true) ⊎ (pages.staged_of v.pages < 160) → (pages.is_staged v.pages (first_object_block + place / 4) ≡ true) ⊎ (pages.staged_of v.pages < 160)
  unfolding is_object_staged objects_in
  inserted_room room = ⊎_elim (λ staged. inl (ap (λ place. pages.is_staged v.pages (first_object_block + place / 4)) (at ∙ sym (place_new row.base v.objects absent)) ∙ staged)) (λ few. inr few) room

  -- the volume with it is held
  pub inserted_held : (p : Pages) → pages.frame_count p ≡ pages.frame_count v.pages → pages.table_in p ≡ pages.table_in v.pages → IsKept (with_objects v (into_place (place, row) v.objects) p)
  unfolding objects_in settings_in
  inserted_held p frames table =
      held_same (record v { objects = into_place (place, row) v.objects }) v.counters v.threads p
      (record {
        frames = kept.frames;
        rows = into-all (λ (o : ℕ × ObjectRow). IsObjectRow o.1) (place, row) v.objects is kept.rows;
        places = into-all (λ (o : ℕ × ObjectRow). o.0 < object_limit) (place, row) v.objects inserted_low kept.places;
        apart = ap rows_apart (into_rows (place, row) v.objects) ∙ apart_with row is (objects_in v) (kept_rows v kept) join.apart kept.apart;
        used =
            (let s = into_sum (λ (o : ℕ × ObjectRow). o.1.pages) (place, row) v.objects in
            let b = sum_bare (λ (row : ObjectRow). row.pages) v.objects in
            let fit = join.fit in
            omega arith);
        few_objects = (let long = into_length (place, row) v.objects in let f = join_few v row join in omega arith);
        some_accounts = kept.some_accounts;
        few_accounts = kept.few_accounts;
        few_threads = kept.few_threads;
        inside =
            all-bound (λ page. list_any (λ row. is_page_in page row) (bare_rows (into_place (place, row) v.objects))) (pages.table_in v.pages)
            (λ page some bound. into_any (λ row. is_page_in page row) (place, row) v.objects (each-bound (λ page. has_page v page) page (pages.table_in v.pages) kept.inside some bound));
      })
      kept.few_threads frames table

  -- its pages are bound nowhere
  unbound : (page : ℕ) → page_of row ≤ page → page < page_of row + row.pages → list_any (λ entry. entry == page) (pages.table_in v.pages) ≡ false
  unbound page low high = grind (arith, and_from, le-leb, lt-ltb, both_ways, page_apart, each-bound, cases_Bool)

  module _ (p : Pages) (staged : StagesRows (into_place (place, row) v.objects) place v.pages p) where
    pub inserted_here : is_object_staged (with_objects v (into_place (place, row) v.objects) p) row.base ≡ true
    unfolding is_object_staged
    inserted_here = ap (λ place. pages.is_staged p (first_object_block + place / 4)) (place_found row.base (into_place (place, row) v.objects) (place, row) (into_found (place, row) v.objects others)) ∙ staged.block.here

    still : ObjectsStillStaged v (with_objects v (into_place (place, row) v.objects) p)
    unfolding objects_in
    still =
        objects_still v (with_objects v (into_place (place, row) v.objects) p) staged.block.staged.still
        (λ base was now.
        place_same base v.objects (into_place (place, row) v.objects) was
        (into_others base (place, row) v.objects (λ same. both_ways (has_base base (objects_in v)) (ap (λ b. has_base b (objects_in v)) (sym same) ∙ absent) was)))

    spelled : (image : Image) → IsSpelledBy v image → IsSpelledBy (with_objects v (into_place (place, row) v.objects) p) image
    unfolding IsSpelledBy
    spelled image was =
        let s : Spelled v image = was in
        let placed = placed_of v image s in
        let none : row_at place s.objects ≡ None = sym (by_base_row place s.objects (placed_distinct 0 object_limit s.objects placed)) ∙ ap (row_at place) s.ordered ∙ none_at place v.objects free in
        let differ : All (λ (o : ℕ × ObjectRow). o.1.base ≢ row.base) s.objects = from_by_base (λ (o : ℕ × ObjectRow). o.1.base ≢ row.base) s.objects (subst (All (λ (o : ℕ × ObjectRow). o.1.base ≢ row.base)) (sym s.ordered) others) in
        objects_staged v p image place (row_set place (Some row) s.objects) (into_place (place, row) v.objects) s staged inserted_low (set_placed 0 object_limit place (Some row) s.objects placed (omega arith) inserted_low)
        (set_order place row s.objects none differ ∙ ap (into_place (place, row)) s.ordered)
        (λ j other. set_other j place (Some row) s.objects (λ same. other (ap (λ k. k / 4) same)))

    -- the state has it, with words 0
    now : (image : Image) → now_of (with_objects v (into_place (place, row) v.objects) p) image ≡ record (now_of v image) { objects = with_object (blank row) (now_of v image).objects }
    unfolding now_of threads_in
    now image =
        let r = pages.coming v.pages image in
        let frames = v.settings.frames in
        let t = pages.table_in v.pages in
        let low = inserted_low in
        ap (λ objects. record (now_of v image) { objects = objects })
        (staged_objects (with_objects v (into_place (place, row) v.objects) v.pages) p image (first_object_block + place / 4) staged.bytes (omega arith) staged.block.table (staged.block.coming image)
        ∙ sym (object-placed r frames t (place, row) v.objects)
        ∙ ap (λ words. with_object (record { row = row; words = words }) (all_spelled r frames t v.objects)) (unbound-words r frames t (page_of row) row.pages unbound))

    pub inserted_changes : Changes 1 (λ state. record state { objects = with_object (blank row) state.objects }) (with_new_row row) v (with_objects v (into_place (place, row) v.objects) p)
    unfolding objects_in
    inserted_changes =
        let w = with_objects v (into_place (place, row) v.objects) p in
        changes_is v w 1 (λ state. record state { objects = with_object (blank row) state.objects }) (with_new_row row) refl staged.block.shape staged.block.words staged.block.staged spelled now (into_rows (place, row) v.objects) still
