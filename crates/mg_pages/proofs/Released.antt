-- What is left of a frame table once the pages of a range are released.
use Rattle.{mg_disk.specs.Disk.{Image, block_at}, mg_frames.specs.{Distinct.distinct-released, Places.nowhere, Words.{is_within, unless_within}}}
use Rattle.{mg_journal.specs.WrittenLemmas.written_elsewhere, mg_model.specs.Layout.{body_limit, first_frame, table_block, table_blocks}}
use Rattle.{mg_model.specs.{Layout.total_blocks, Volume.page_words}, mg_pages.proofs.{Changed.long-coming, Counted.{coming-as, page-as}}}
use Rattle.mg_pages.{proofs.{PageWords.{page-none, page-same}, Tables.spelled-new}, specs.{Held.{IsSound, with_writes}, Kept.AreKept}}
use Rattle.mg_pages.specs.{Meaning.{IsSpelledBy, Releases, Unbinds, coming, page_now, replayed, table_in}, Parts.{StagesTable, coming_of}}
use Rattle.{mg_pages.specs.declared.{blocks.Blocks.Blocks, pages.Pages.Pages}, std.proofs.Common.{refl, sym, ap, subst, ◌∙◌, ⊎_elim, inl, inr, arith}}
use Rattle.std.proofs.lemmas.Bool.{and_from, and_parts, both_ways, cases_Bool, eqb-true, le-leb, leb-true, lt-ltb, ltb-true, ne_eqb, or_cases}
use Rattle.std.{proofs.lemmas.{Bool.{or_left, or_right}, Grind.common_steps, List.length-map}, specs.{List.{list_any, position}, Prelude.{◌≡◌, ◌≢◌}}}
use Rattle.std.specs.Prelude.{◌⊎◌, ◌+◌, ◌≤◌, ◌<◌, ◌==◌, nat_le, nat_lt, if◌then◌else◌, ℕ, true, false, List, [], ◌∷◌, length, map}

within-parts : (first pages x : ℕ) → is_within first pages x ≡ true → (first ≤ x) × (x < first + pages)
within-parts first pages x is = let parts = and_parts (nat_le first x) (nat_lt x (first + pages)) is in (leb-true first x parts.0, ltb-true x (first + pages) parts.1)

within-from : (first pages x : ℕ) → first ≤ x → x < first + pages → is_within first pages x ≡ true
within-from first pages x low high = and_from (nat_le first x) (nat_lt x (first + pages)) (le-leb first x low) (lt-ltb x (first + pages) high)

-- an entry once the range is released
entry-in : (first pages entry page : ℕ) → page ≢ 0 → first ≤ page → page < first + pages → (unless_within first pages entry == page) ≡ false
entry-in first pages entry page some low high = ⊎_elim within out (cases_Bool (is_within first pages entry))
  where
    within : is_within first pages entry ≡ true → (unless_within first pages entry == page) ≡ false
    within is = ap (λ t. (if t then 0 else entry) == page) is ∙ ne_eqb 0 page (λ same. some (sym same))

    out : is_within first pages entry ≡ false → (unless_within first pages entry == page) ≡ false
    out is = grind (arith, ne_eqb, both_ways, within-from)

entry-out : (first pages entry page : ℕ) → page ≢ 0 → (page < first) ⊎ (first + pages ≤ page) → (unless_within first pages entry == page) ≡ (entry == page)
entry-out first pages entry page some out = ⊎_elim within beside (cases_Bool (is_within first pages entry))
  where
    within : is_within first pages entry ≡ true → (unless_within first pages entry == page) ≡ (entry == page)
    within is = grind (arith, within-parts, ne_eqb, out)

    beside : is_within first pages entry ≡ false → (unless_within first pages entry == page) ≡ (entry == page)
    beside is = ap (λ t. (if t then 0 else entry) == page) is

none-within : (first pages page : ℕ) (frames : List ℕ) → page ≢ 0 → first ≤ page → page < first + pages → list_any (λ entry. entry == page) (map (unless_within first pages) frames) ≡ false
none-within first pages page [] some low high = refl
none-within first pages page (x ∷ frames) some low high = grind (arith, (none-within first pages page frames some low high))

same-place : (first pages page : ℕ) (frames : List ℕ) → page ≢ 0 → (page < first) ⊎ (first + pages ≤ page) → position (λ entry. entry == page) (map (unless_within first pages) frames) ≡ position (λ entry. entry == page) frames
same-place first pages page [] some out = refl
same-place first pages page (x ∷ frames) some out = ⊎_elim here (there (same-place first pages page frames some out)) (cases_Bool (x == page))
  where
    here : (x == page) ≡ true → position (λ entry. entry == page) (map (unless_within first pages) (x ∷ frames)) ≡ position (λ entry. entry == page) (x ∷ frames)
    here is = grind (arith, entry-out, out)

    there : position (λ entry. entry == page) (map (unless_within first pages) frames) ≡ position (λ entry. entry == page) frames → (x == page) ≡ false
        → position (λ entry. entry == page) (map (unless_within first pages) (x ∷ frames)) ≡ position (λ entry. entry == page) (x ∷ frames)
    there rest is = grind (arith, common_steps, entry-out, out)

none-new : (first pages page : ℕ) (frames : List ℕ) → page ≢ 0 → list_any (λ entry. entry == page) (map (unless_within first pages) frames) ≡ true → list_any (λ entry. entry == page) frames ≡ true
none-new first pages page [] some is = is
none-new first pages page (x ∷ frames) some is =
    ⊎_elim (λ here. or_left (x == page) (list_any (λ entry. entry == page) frames) (first-one here)) (λ there. or_right (x == page) (list_any (λ entry. entry == page) frames) (none-new first pages page frames some there))
    (or_cases (unless_within first pages x == page) (list_any (λ entry. entry == page) (map (unless_within first pages) frames)) is)
  where
    first-one : (unless_within first pages x == page) ≡ true → (x == page) ≡ true
    first-one here = grind (arith, eqb-true, cases_Bool)

pub sound-released : (total : ℕ) (frames : List ℕ) (writes writes' : List (ℕ × List ℕ)) (first pages : ℕ) → StagesTable frames (map (unless_within first pages) frames) (table_blocks (length frames)) writes writes' → length writes + 128 ≤ body_limit
    → IsSound total frames writes → IsSound total (map (unless_within first pages) frames) writes'
sound-released total frames writes writes' first pages stages room sound =
    let same = length-map frames (unless_within first pages) in
    let some = sound.some in
    let few = sound.few in
    let size = sound.size in
    let more = stages.few in
    record {
      some = omega arith;
      few = omega arith;
      size = sound.size ∙ ap total_blocks (sym same);
      distinct = distinct-released first pages frames sound.distinct;
      waiting = omega arith;
      homes = stages.homes total (omega arith) sound.homes;
      once = stages.once;
    }

module _ (p q : Pages) (first pages : ℕ) (same_blocks : q.blocks ≡ with_writes p.blocks q.blocks.writes) (new_frames : q.frames ≡ map (unless_within first pages) p.frames)
    (stages : StagesTable p.frames (map (unless_within first pages) p.frames) (table_blocks (length p.frames)) p.blocks.writes q.blocks.writes) where
  abbrev released : List ℕ
  released = map (unless_within first pages) p.frames

  many : length q.frames ≡ length p.frames
  many = ap (λ (xs : List ℕ). length xs) new_frames ∙ length-map p.frames (unless_within first pages)

  same_store : q.blocks.store ≡ p.blocks.store
  same_store = ap (λ (b : Blocks). b.store) same_blocks

  long-replayed : (image : Image) → IsSpelledBy p image → table_block + table_blocks (length p.frames) ≤ length (replayed p.blocks.store.total image)
  long-replayed image is = grind (arith, long-coming, written_elsewhere)

  pub spelled-released : (image : Image) → IsSpelledBy p image → IsSpelledBy q image
  spelled-released image is =
      spelled-new p q image same_store many (λ holds k few. rw new_frames (stages.holds (replayed p.blocks.store.total image) k few (long-replayed image is) (holds k few)))
      (subst (λ (b : Blocks). AreKept (first_frame (length p.frames)) (replayed p.blocks.store.total image) p.blocks.kept → AreKept (first_frame (length p.frames)) (replayed p.blocks.store.total image) b.kept) (sym same_blocks) (λ kept. kept)) is

  pub unbinds-released : Unbinds first pages p q
  unfolding table_in
  unbinds-released = grind (arith, none-within, none-new)

  pub releases : (image : Image) → Releases p q image first pages
  unfolding coming
  releases image =
      let r = coming_of p.blocks.store p.blocks.writes image in
      let r' = coming_of p.blocks.store q.blocks.writes image in
      let n = length p.frames in
      let now : (page : ℕ) → page_now q image page ≡ page_words r' n released page = λ page. page-as q p.blocks.store released q.blocks.writes same_store new_frames refl image page ∙ ap (λ m. page_words r' m released page) (length-map p.frames (unless_within first pages)) in
      let was : (page : ℕ) → page_now p image page ≡ page_words r n p.frames page = page-as p p.blocks.store p.frames p.blocks.writes refl refl refl image in
      record {
        inside = λ page some low high. now page ∙ page-none r' n released page (nowhere (λ entry. entry == page) released (none-within first pages page p.frames some low high));
        outside = λ page some out.
            now page
            ∙ page-same r r' n p.frames released page (same-place first pages page p.frames some out) (λ k there. stages.apart (replayed p.blocks.store.total image) (first_frame n + k) (inr (omega arith)))
            ∙ sym (was page);
        rows = λ k few. ap (λ i. block_at i k) (coming-as q p.blocks.store released q.blocks.writes same_store new_frames refl image) ∙ stages.apart (replayed p.blocks.store.total image) k (inl few);
      }
