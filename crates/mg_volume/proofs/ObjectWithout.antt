-- A volume without one of its objects, whose pages are unbound.
use Rattle.{mg_disk.specs.Disk.Image, mg_model.specs.{KeptListLemmas.{All-both, length-filter-le, sum_by-filter-le}, Layout.first_object_block}}
use Rattle.mg_model.specs.{Limits.object_limit, Objects.{page_behind, page_of, without_object}, Ranges.IsObjectRow, State.{Object, ObjectRow}}
use Rattle.{mg_model.specs.Volume.{object_spelled, page_words}, mg_objects.specs.Held.by_base, mg_pages.specs.declared.pages.Pages.Pages}
use Rattle.mg_volume.proofs.{Indexed.found_index, ObjectRemoved.{IsOrApart, LiesBefore, any_kept, apart_pairs, bases_differ, filter_mapped}}
use Rattle.mg_volume.proofs.{ObjectRemoved.{find_kept, others_apart, pairs_apart, remove_is}, ObjectStaged.{distinct_of, objects_staged, placed_of}}
use Rattle.mg_volume.proofs.{ObjectStaged.with_objects, PagesChange.{all-bound, each-bound}, RemovedOrder.{filter_order, row_set_none}}
use Rattle.mg_volume.proofs.{Staged.staged_objects, Stages.{changes_is, shape_then, stages_then}, StandingPages.spelled_same, StillStaged.base_found}
use Rattle.mg_volume.{proofs.StillStaged.{objects_still, place_found, with_base}, specs.{Changes.Changes, Held.VolumeHeld, Meaning.IsKept}}
use Rattle.mg_volume.specs.{Meaning.{IsSpelledBy, Spelled, has_page, is_page_in, now_of, objects_in, threads_in}, PageWordLemmas.pages-same}
use Rattle.mg_volume.specs.{RowLists.{row_set, set_other, set_placed}, Sound.all_spelled, StagesRows.StagesRows, Staging.{has_base, place_for}}
use Rattle.{mg_volume.specs.Staging.without_row, std.proofs.Common.{refl, sym, ap, subst, get_or, ◌∙◌, ⊎_elim, inl, inr, arith}}
use Rattle.std.proofs.lemmas.Bool.{and_parts, both_ways, cases_Bool, eqb-false, eqb-true, leb-true, ltb-true, ne_eqb, not-true, not_from_false}
use Rattle.std.proofs.lemmas.{Bool.Decides.nat_tests, List.Elements.{All-filter, All-get_or, All-head, All-tail, All-weaker, filter_passes}}
use Rattle.std.{proofs.lemmas.List.Kept.AllPairs-filter, specs.{List.list_any, Prelude.{◌≡◌, ◌≢◌, ◌⊎◌, ◌+◌, ◌/◌, ◌≤◌, ◌<◌, ◌==◌, nat_le, nat_lt, ℕ}}}
use Rattle.std.specs.Prelude.{Bool, true, false, not, All, List, [], ◌∷◌, filter, find, length, map, remove, Some, None}
use Rattle.mg_pages.specs.Meaning as pages

-- the objects but the one with a base
abbrev pub without : ℕ → List (ℕ × ObjectRow) → List (ℕ × ObjectRow)
without base os = filter (λ (o : ℕ × ObjectRow). not (o.1.base == base)) os

-- what is known of an object that goes, and of the objects that are left: the others lie apart from it
pub record Goes (v : VolumeHeld) (i : ℕ) (gone : ℕ × ObjectRow) (os : List (ℕ × ObjectRow)) : Type 0 where
  pub row : IsObjectRow gone.1
  pub within : i < length v.objects
  pub at : gone ≡ get_or v.objects i gone
  pub place : gone.0 < object_limit
  pub others : All (λ (y : ℕ × ObjectRow). IsOrApart gone.1 y.1) v.objects
  pub removed : os ≡ remove v.objects i
  pub rest : os ≡ without gone.1.base v.objects

pub goes : (v : VolumeHeld) (base : ℕ) (gone : ℕ × ObjectRow) (os : List (ℕ × ObjectRow)) → IsKept v → find (λ (o : ℕ × ObjectRow). o.1.base == base) v.objects ≡ Some gone → os ≡ without base v.objects → (gone.1.base ≡ base) × (i : ℕ) × Goes v i gone os
unfolding objects_in
goes v base gone os kept found rest =
    let pairs = apart_pairs v.objects kept.apart in
    let there = found_index (λ (o : ℕ × ObjectRow). o.1.base == base) v.objects gone found in
    let i = there.0 in
    let few = there.1 in
    let at = sym (there.2 gone) in
    let own : gone.1.base ≡ base = eqb-true gone.1.base base there.3 in
    let left : os ≡ without gone.1.base v.objects = rest ∙ ap (λ b. without b v.objects) (sym own) in (
      own,
      i,
      record {
        row = subst (λ (x : ℕ × ObjectRow). IsObjectRow x.1) (sym at) (All-get_or (λ (o : ℕ × ObjectRow). IsObjectRow o.1) v.objects i gone few kept.rows);
        within = few;
        at = at;
        place = subst (λ (x : ℕ × ObjectRow). x.0 < object_limit) (sym at) (All-get_or (λ (o : ℕ × ObjectRow). o.0 < object_limit) v.objects i gone few kept.places);
        others = subst (λ (x : ℕ × ObjectRow). All (λ (y : ℕ × ObjectRow). IsOrApart x.1 y.1) v.objects) (sym at) (others_apart v.objects i gone pairs few);
        removed = left ∙ sym (remove_is (λ (y : ℕ × ObjectRow). y.1.base) gone.1.base v.objects i gone (bases_differ v.objects kept.rows pairs) few (ap (λ (x : ℕ × ObjectRow). x.1.base) (sym at)));
        rest = left;
      },
    )

-- the object that has a page is another object, if the page is none of those that go
other-has : (gone : ObjectRow) (page : ℕ) (y : ℕ × ObjectRow) → 1 ≤ gone.pages → is_page_in page gone ≡ false → IsOrApart gone y.1 → is_page_in page y.1 ≡ true → not (y.1.base == gone.base) ≡ true
other-has gone page y some outside (inl same) inside = absurd (both_ways (is_page_in page gone) outside (ap (is_page_in page) (sym same) ∙ inside))
other-has gone page y some outside (inr apart) inside = grind (arith, not_from_false, ne_eqb, nat_tests)

-- another page of another base is that of an object that lies apart
apart-from : (gone row : ObjectRow) → row.base ≢ gone.base → IsOrApart gone row → (page_behind row ≤ page_of gone) ⊎ (page_behind gone ≤ page_of row)
apart-from gone row other (inl same) = absurd (other (ap (λ (r : ObjectRow). r.base) same))
apart-from gone row other (inr apart) = apart

-- objects that lie apart from pages keep their words if only those pages change
objects-kept : (r r' : Image) (frames : ℕ) (table table' : List ℕ) (gone : ObjectRow) (os : List (ℕ × ObjectRow)) → All (λ (y : ℕ × ObjectRow). IsObjectRow y.1) os
    → All (λ (y : ℕ × ObjectRow). (page_behind y.1 ≤ page_of gone) ⊎ (page_behind gone ≤ page_of y.1)) os
    → ((page : ℕ) → page ≢ 0 → (page < page_of gone) ⊎ (page_behind gone ≤ page) → page_words r' frames table' page ≡ page_words r frames table page)
    → all_spelled r' frames table' os ≡ all_spelled r frames table os
objects-kept r r' frames table table' gone [] kept apart same = refl
objects-kept r r' frames table table' gone (y ∷ os) kept apart same =
    let row = All-head (λ (y : ℕ × ObjectRow). IsObjectRow y.1) y os kept in
    let low = row.place.low in
    let here = All-head (λ (y : ℕ × ObjectRow). (page_behind y.1 ≤ page_of gone) ⊎ (page_behind gone ≤ page_of y.1)) y os apart in
    ap (λ words. record { row = y.1; words = words } ∷ all_spelled r' frames table' os)
    (pages-same r r' frames frames table table' (page_of y.1) y.1.pages
    (λ k above below. same k (λ nil. omega arith) (⊎_elim (λ before. inl (omega arith)) (λ behind. inr (omega arith)) here)))
    ∙ ap (λ objects. object_spelled r frames table y.1 ∷ objects)
    (objects-kept r r' frames table table' gone os (All-tail (λ (y : ℕ × ObjectRow). IsObjectRow y.1) y os kept)
    (All-tail (λ (y : ℕ × ObjectRow). (page_behind y.1 ≤ page_of gone) ⊎ (page_behind gone ≤ page_of y.1)) y os apart) same)

-- no object with a base is left
none-left : (base : ℕ) (os : List (ℕ × ObjectRow)) → has_base base (map (λ (o : ℕ × ObjectRow). o.1) (without base os)) ≡ false
none-left base [] = refl
none-left base (o ∷ os) = grind (arith, none-left base os)

module _ (v : VolumeHeld) (i : ℕ) (gone : ℕ × ObjectRow) (os : List (ℕ × ObjectRow)) (g : Goes v i gone os) where
  stays : ℕ × ObjectRow → Bool
  stays o = not (o.1.base == gone.1.base)

  -- it is kept as before
  pub held_without : (middle p : Pages) → IsKept v → StagesRows os gone.0 v.pages middle → pages.frame_count p ≡ pages.frame_count middle → pages.Unbinds (page_of gone.1) gone.1.pages middle p → IsKept (with_objects v os p)
  unfolding objects_in stays
  held_without middle p kept staged frames unbinds =
      subst (λ (l : List (ℕ × ObjectRow)). IsKept (with_objects v l p)) (sym g.rest)
      (record {
        frames = frames ∙ staged.block.shape.frames ∙ kept.frames;
        rows = All-filter stays (λ (o : ℕ × ObjectRow). IsObjectRow o.1) v.objects kept.rows;
        places = All-filter stays (λ (o : ℕ × ObjectRow). o.0 < object_limit) v.objects kept.places;
        apart = pairs_apart (without gone.1.base v.objects) (AllPairs-filter LiesBefore stays v.objects (apart_pairs v.objects kept.apart));
        used = (let sum = sum_by-filter-le stays (λ (o : ℕ × ObjectRow). o.1.pages) v.objects in let used = kept.used in omega arith);
        few_objects = (let few = length-filter-le stays v.objects in let most = kept.few_objects in omega arith);
        some_accounts = kept.some_accounts;
        few_accounts = kept.few_accounts;
        few_threads = kept.few_threads;
        inside = all-bound (λ page. has_page (with_objects v (without gone.1.base v.objects) p) page) (pages.table_in p) has;
      })
    where
      has : (page : ℕ) → page ≢ 0 → list_any (λ entry. entry == page) (pages.table_in p) ≡ true → has_page (with_objects v (without gone.1.base v.objects) p) page ≡ true
      has page some bound =
          let was : pages.is_bound v.pages page ≡ true = ap (λ t. list_any (λ entry. entry == page) t) (sym staged.block.table) ∙ unbinds.outside page some bound in
          let had : has_page v page ≡ true = each-bound (λ page. has_page v page) page (pages.table_in v.pages) kept.inside some was in
          let outside : is_page_in page gone.1 ≡ false =
          ⊎_elim
          (λ inside.
          let parts = and_parts (nat_le (page_of gone.1) page) (nat_lt page (page_behind gone.1)) inside in
          absurd (both_ways (pages.is_bound p page) (unbinds.inside page some (leb-true (page_of gone.1) page parts.0) (ltb-true page (page_behind gone.1) parts.1)) bound))
          (λ n. n)
          (cases_Bool (is_page_in page gone.1)) in
          any_kept (λ (o : ℕ × ObjectRow). o.1) (is_page_in page) stays v.objects
          (All-weaker (λ (y : ℕ × ObjectRow). IsOrApart gone.1 y.1) (λ (y : ℕ × ObjectRow). is_page_in page y.1 ≡ true → stays y ≡ true) (λ y is. other-has gone.1 page y g.row.place.some outside is) v.objects g.others)
          had

  -- the rows
  rows_without : (p : Pages) → objects_in (with_objects v os p) ≡ without_row gone.1.base (objects_in v)
  unfolding objects_in
  rows_without p = ap (map (λ (o : ℕ × ObjectRow). o.1)) g.rest ∙ filter_mapped (λ (o : ℕ × ObjectRow). o.1) (λ (row : ObjectRow). not (row.base == gone.1.base)) v.objects

  -- the rows that are left, and no other, are spelled
  spelled-middle : (middle : Pages) (image : Image) → Spelled v image → StagesRows os gone.0 v.pages middle → Spelled (with_objects v os middle) image
  spelled-middle middle image s staged =
      let place = gone.0 in
      let placed = placed_of v image s in
      let order : by_base (row_set place None s.objects) ≡ os =
      ap by_base (row_set_none 0 object_limit place s.objects placed)
      ∙ filter_order (λ (y : ℕ × ObjectRow). not (y.0 == place)) s.objects
      ∙ ap (filter (λ (y : ℕ × ObjectRow). not (y.0 == place))) s.ordered
      ∙ sym (g.removed ∙ remove_is (λ (y : ℕ × ObjectRow). y.0) place v.objects i gone (distinct_of v image s) g.within (ap (λ (x : ℕ × ObjectRow). x.0) (sym g.at))) in
      objects_staged v middle image place (row_set place None s.objects) os s staged g.place (set_placed 0 object_limit place None s.objects placed (omega arith) g.place) order
      (λ j other. set_other j place None s.objects (λ is. other (ap (λ k. k / 4) is)))

  -- the state without the object
  now_without : (middle p : Pages) (image : Image) → IsKept v → StagesRows os gone.0 v.pages middle → pages.frame_count p ≡ pages.frame_count middle → pages.Releases middle p image (page_of gone.1) gone.1.pages
      → now_of (with_objects v os p) image ≡ record (now_of v image) { objects = without_object gone.1.base (now_of v image).objects }
  unfolding now_of threads_in stays
  now_without middle p image kept staged frames' released =
      let below = g.place in
      let r = pages.coming v.pages image in
      let t = pages.table_in v.pages in
      let n = v.settings.frames in
      ap (λ objects. record (now_of v image) { objects = objects })
      (objects-kept (pages.coming middle image) (pages.coming p image) n (pages.table_in middle) (pages.table_in p) gone.1 os rows_left apart_left words
      ∙ staged_objects (with_objects v os v.pages) middle image (first_object_block + gone.0 / 4) staged.bytes (omega arith) staged.block.table (staged.block.coming image)
      ∙ ap (all_spelled r n t) g.rest
      ∙ filter_mapped (λ (o : ℕ × ObjectRow). object_spelled r n t o.1) (λ (object : Object). not (object.row.base == gone.1.base)) v.objects)
    where
      rows_left : All (λ (y : ℕ × ObjectRow). IsObjectRow y.1) os
      rows_left = subst (All (λ (y : ℕ × ObjectRow). IsObjectRow y.1)) (sym g.rest) (All-filter stays (λ (y : ℕ × ObjectRow). IsObjectRow y.1) v.objects kept.rows)

      apart_left : All (λ (y : ℕ × ObjectRow). (page_behind y.1 ≤ page_of gone.1) ⊎ (page_behind gone.1 ≤ page_of y.1)) os
      apart_left =
          subst (All (λ (y : ℕ × ObjectRow). (page_behind y.1 ≤ page_of gone.1) ⊎ (page_behind gone.1 ≤ page_of y.1))) (sym g.rest)
          (All-both (λ (y : ℕ × ObjectRow). stays y ≡ true) (λ (y : ℕ × ObjectRow). IsOrApart gone.1 y.1) (λ (y : ℕ × ObjectRow). (page_behind y.1 ≤ page_of gone.1) ⊎ (page_behind gone.1 ≤ page_of y.1))
          (λ y other is. apart-from gone.1 y.1 (eqb-false y.1.base gone.1.base (not-true (y.1.base == gone.1.base) other)) is) (without gone.1.base v.objects) (filter_passes stays v.objects)
          (All-filter stays (λ (y : ℕ × ObjectRow). IsOrApart gone.1 y.1) v.objects g.others))

      words : (page : ℕ) → page ≢ 0 → (page < page_of gone.1) ⊎ (page_behind gone.1 ≤ page)
          → page_words (pages.coming p image) v.settings.frames (pages.table_in p) page ≡ page_words (pages.coming middle image) v.settings.frames (pages.table_in middle) page
      words page some outside = grind arith

  -- the other objects have the places that they had
  place-same : (base : ℕ) (p : Pages) → has_base base (objects_in v) ≡ true → has_base base (objects_in (with_objects v os p)) ≡ true → place_for base os ≡ place_for base v.objects
  unfolding objects_in
  place-same base p there here =
      let other : base ≢ gone.1.base = λ same.
      both_ways (has_base base (map (λ (o : ℕ × ObjectRow). o.1) os)) (ap (λ l. has_base base (map (λ (o : ℕ × ObjectRow). o.1) l)) g.rest ∙ ap (λ b. has_base base (map (λ (o : ℕ × ObjectRow). o.1) (without b v.objects))) (sym same) ∙ none-left base v.objects) here in
      let found = base_found base v.objects there in
      let still : with_base base os ≡ Some found.0 =
      ap (with_base base) g.rest
      ∙ find_kept (λ (o : ℕ × ObjectRow). o.1.base == base) (λ (o : ℕ × ObjectRow). not (o.1.base == gone.1.base))
      (λ x is. not_from_false (x.1.base == gone.1.base) (ne_eqb x.1.base gone.1.base (λ same. other (sym (eqb-true x.1.base base is) ∙ same)))) v.objects
      ∙ found.1 in
      place_found base os found.0 still ∙ sym (place_found base v.objects found.0 found.1)

  -- all of it
  pub without_changes : (middle p : Pages) → IsKept v → StagesRows os gone.0 v.pages middle → pages.SameShape middle p → pages.words_in p ≡ pages.words_in middle → pages.StagesMore 128 middle p
      → ((image : Image) → pages.IsSpelledBy middle image → pages.IsSpelledBy p image) → ((image : Image) → pages.Releases middle p image (page_of gone.1) gone.1.pages)
      → Changes 129 (λ state. record state { objects = without_object gone.1.base state.objects }) (without_row gone.1.base) v (with_objects v os p)
  unfolding IsSpelledBy
  without_changes middle p kept staged shape words more spelled released =
      let w = with_objects v os p in
      let all = stages_then 1 128 v.pages middle p staged.block.staged more in
      changes_is v w 129 (λ state. record state { objects = without_object gone.1.base state.objects }) (without_row gone.1.base) refl (shape_then v.pages middle p staged.block.shape shape) (words ∙ staged.block.words) all
      (λ image is. let s = spelled-middle middle image is staged in spelled_same (with_objects v os middle) p image s (spelled image s.fitting) shape.frames (released image).rows)
      (λ image. now_without middle p image kept staged shape.frames (released image)) (rows_without p)
      (objects_still v w all.still (λ base there here. place-same base p there here))
