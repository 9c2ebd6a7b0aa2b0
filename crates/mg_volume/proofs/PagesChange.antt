-- What a call of the pages does to the volume.
use Rattle.{mg_disk.specs.{Disk.{Image, block_at}, declared.disk.Disk.Ghosts}, mg_model.specs.{Counts.CountsAlike, Layout.table_block}}
use Rattle.mg_model.specs.{Limits.thread_limit, Objects.{with_word, word_at}, Ranges.IsObjectRow, State.{ObjectRow, Counters, ThreadRow}}
use Rattle.{mg_model.specs.Volume.{bound_pages, page_words}, mg_pages.specs.declared.pages.Pages.Pages, mg_volume.proofs.FreeFrame.free_frame}
use Rattle.mg_volume.{proofs.StandingPages.with_pages, specs.{Held.VolumeHeld, Meaning.{IsKept, Keeps, has_page, is_live, is_page_in, is_sound}}}
use Rattle.mg_volume.specs.{Meaning.{now_of, objects_in, staged_in, staged_of, threads_in, total_of}, PageWordLemmas.{objects-set, word-spelled}}
use Rattle.{mg_volume.specs.Sound.{is_sound_held, sound_is}, std.proofs.{Common.{refl, sym, ap, ◌∙◌, inr, arith}, lemmas.Bool.{both_ways, or_right}}}
use Rattle.std.{proofs.lemmas.{Bool.Decides.nat_tests, List.Elements.{All-head, All-tail}}, specs.{List.{list_all, list_any}, Option.ForSome}}
use Rattle.std.specs.Prelude.{◌≡◌, ◌≢◌, ◌⊎◌, ◌+◌, ◌*◌, ◌%◌, ◌^◌, ◌<◌, ◌==◌, ℕ, Bool, true, false, All, List, [], ◌∷◌, map, slice_index, slice_set}
use Rattle.std.specs.Prelude.{MatchResult, OnErr, OnOk, Result, Ok, Err, length, ◌≤◌}
use Rattle.mg_pages.specs.Meaning as pages

-- what is not pages stays
pub same_objects : (v : VolumeHeld) (p : Pages) → objects_in (with_pages v p) ≡ objects_in v
unfolding objects_in
same_objects v p = refl

pub same_sound : (v : VolumeHeld) (p : Pages) (image image' : Image) → is_sound (now_of (with_pages v p) image') ≡ is_sound (now_of v image)
unfolding objects_in threads_in
same_sound v p image image' =
    let here : is_sound_held (with_pages v p) ≡ is_sound_held v = refl in
    sound_is (with_pages v p) image' ∙ here ∙ sym (sound_is v image)

-- a page of an object is no page 0
page-some : (page : ℕ) (os : List (ℕ × ObjectRow)) → All (λ (o : ℕ × ObjectRow). IsObjectRow o.1) os → list_any (λ row. is_page_in page row) (map (λ (o : ℕ × ObjectRow). o.1) os) ≡ true → page ≢ 0
page-some page [] kept has = absurd (both_ways false refl has)
page-some page (o ∷ os) kept has =
    let low = (All-head (λ (o : ℕ × ObjectRow). IsObjectRow o.1) o os kept).place.low in
    grind (arith, nat_tests, low, has, page-some page os (All-tail (λ (o : ℕ × ObjectRow). IsObjectRow o.1) o os kept))

pub some_page : (v : VolumeHeld) (page : ℕ) → IsKept v → has_page v page ≡ true → page ≢ 0
unfolding objects_in
some_page v page kept has = page-some page v.objects kept.rows has

-- bound pages, one by one
pub each-bound : (q : ℕ → Bool) (x : ℕ) (table : List ℕ) → list_all q (bound_pages table) ≡ true → x ≢ 0 → list_any (λ entry. entry == x) table ≡ true → q x ≡ true
each-bound q x [] all other is = absurd (both_ways false refl is)
each-bound q x (entry ∷ table) all other is =
    let rest : list_all q (bound_pages table) ≡ true → list_any (λ e. e == x) table ≡ true → q x ≡ true = λ more. each-bound q x table more other in
    grind (arith, nat_tests, all, other, is)

pub all-bound : (q : ℕ → Bool) (table : List ℕ) → ((x : ℕ) → x ≢ 0 → list_any (λ entry. entry == x) table ≡ true → q x ≡ true) → list_all q (bound_pages table) ≡ true
all-bound q [] each = refl
all-bound q (entry ∷ table) each =
    let rest : list_all q (bound_pages table) ≡ true = all-bound q table (λ x other is. each x other (or_right (entry == x) (list_any (λ e. e == x) table) is)) in
    grind (arith, nat_tests, rest, each entry)

-- the pages that are bound lie in objects still, whatever the counters and the threads are now
pub held_again : (v : VolumeHeld) (counters : Counters) (threads : List (ℕ × ThreadRow)) (p : Pages) → IsKept v → length threads ≤ thread_limit → pages.frame_count p ≡ pages.frame_count v.pages
    → ((x : ℕ) → x ≢ 0 → pages.is_bound p x ≡ true → (has_page v x ≡ true) ⊎ (pages.is_bound v.pages x ≡ true)) → IsKept (record v { counters = counters; threads = threads; pages = p })
unfolding objects_in
held_again v counters threads p kept few frames bound = grind (arith, all-bound, each-bound)

-- when the table stays
pub held_same : (v : VolumeHeld) (counters : Counters) (threads : List (ℕ × ThreadRow)) (p : Pages) → IsKept v → length threads ≤ thread_limit → pages.frame_count p ≡ pages.frame_count v.pages → pages.table_in p ≡ pages.table_in v.pages
    → IsKept (record v { counters = counters; threads = threads; pages = p })
held_same v counters threads p kept few frames table = held_again v counters threads p kept few frames (λ x other is. inr (ap (λ t. list_any (λ entry. entry == x) t) (sym table) ∙ is))

-- a frame is free for a page of an object
pub frame_free : (v : VolumeHeld) (page : ℕ) → IsKept v → pages.IsKept v.pages → has_page v page ≡ true → (pages.is_bound v.pages page ≡ true) ⊎ (pages.is_bound v.pages 0 ≡ true)
unfolding objects_in
frame_free v page kept held has =
    let used = kept.used in
    let frames = kept.frames in
    let long = held.long in
    free_frame v.objects (pages.table_in v.pages) page held.distinct kept.inside has (omega arith)

-- a count
counted-one : (old new steps steps' : ℕ) → new ≡ (old + 1) % 2 ^ 64 → steps' ≡ steps + 1 → CountsAlike old new steps steps'
counted-one old new steps steps' words ticks = (1, ticks, omega arith)

counted-none : (old new steps steps' : ℕ) → new ≡ old → steps' ≡ steps → CountsAlike old new steps steps'
counted-none old new steps steps' words ticks = (0, omega arith, omega arith)

pub counted : {T E : Type 0} (r : Result T E) (p p' : Pages) (steps steps' : ℕ) → MatchResult r (λ _. pages.CountsOne p p' steps steps') (λ _. pages.CountsNone p p' steps steps') → CountsAlike (pages.words_in p) (pages.words_in p') steps steps'
counted (Ok x) p p' steps steps' one = counted-one (pages.words_in p) (pages.words_in p') steps steps' one.words one.ticks
counted (Err e) p p' steps steps' none = counted-none (pages.words_in p) (pages.words_in p') steps steps' none.words none.ticks

pub ticked : {T E : Type 0} (r : Result T E) (p p' : Pages) (steps steps' : ℕ) → MatchResult r (λ _. pages.CountsOne p p' steps steps') (λ _. pages.CountsNone p p' steps steps') → MatchResult r (λ _. steps' ≡ steps + 1) (λ _. steps' ≡ steps)
ticked (Ok x) p p' steps steps' one = one.ticks
ticked (Err e) p p' steps steps' none = none.ticks

-- of the words that a search looks at
pub counted_some : {T E : Type 0} (n : T → ℕ) (r : Result T E) (p p' : Pages) (steps steps' : ℕ) → MatchResult r (λ x. pages.CountsSome (n x) p p' steps steps') (λ _. pages.CountsNone p p' steps steps') → CountsAlike (pages.words_in p) (pages.words_in p') steps steps'
counted_some n (Ok x) p p' steps steps' some = (n x, some.ticks, some.words)
counted_some n (Err e) p p' steps steps' none = counted-none (pages.words_in p) (pages.words_in p') steps steps' none.words none.ticks

pub ticked_some : {T E : Type 0} (n : T → ℕ) (r : Result T E) (p p' : Pages) (steps steps' : ℕ) → MatchResult r (λ x. pages.CountsSome (n x) p p' steps steps') (λ _. pages.CountsNone p p' steps steps') → MatchResult r (λ x. steps' ≡ steps + n x) (λ _. steps' ≡ steps)
ticked_some n (Ok x) p p' steps steps' some = some.ticks
ticked_some n (Err e) p p' steps steps' none = none.ticks

-- nothing changed but the count
pub keeps_now : (v : VolumeHeld) (p : Pages) → pages.Keeps v.pages p → Keeps v (with_pages v p)
unfolding now_of staged_in staged_of is_live total_of threads_in
keeps_now v p keeps = grind arith

-- the word of a page is that of the state
pub word_now : (v : VolumeHeld) (image : Image) (page index : ℕ) → IsKept v → has_page v page ≡ true → index < 512 → slice_index (pages.page_now v.pages image page) index ≡ word_at (now_of v image).objects (4096 * page + 8 * index)
unfolding now_of objects_in
word_now v image page index kept has within =
    ap (λ frames. slice_index (page_words (pages.coming v.pages image) frames (pages.table_in v.pages) page) index) kept.frames
    ∙ sym (word-spelled (pages.coming v.pages image) v.settings.frames (pages.table_in v.pages) page index v.objects kept.rows within has)

-- a word was written
pub word_set : (v : VolumeHeld) (p : Pages) (image : Image) (page index value : ℕ) → IsKept v → index < 512 → pages.frame_count p ≡ pages.frame_count v.pages → pages.SetsWord v.pages p image page index value
    → now_of (with_pages v p) image ≡ record (now_of v image) { objects = with_word (now_of v image).objects (4096 * page + 8 * index) value }
unfolding now_of threads_in
word_set v p image page index value kept within frames sets =
    ap (λ objects. record (now_of v image) { objects = objects })
    (objects-set (pages.coming v.pages image) (pages.coming p image) v.settings.frames (pages.table_in v.pages) (pages.table_in p) page index value v.objects kept.rows within
    (in_new page ∙ sets.this ∙ ap (λ words. slice_set words index value) (in_old page)) (λ other some not. in_new other ∙ sets.others other some not ∙ in_old other))
  where
    in_new : (other : ℕ) → page_words (pages.coming p image) v.settings.frames (pages.table_in p) other ≡ pages.page_now p image other
    in_new other = ap (λ n. page_words (pages.coming p image) n (pages.table_in p) other) (sym (frames ∙ kept.frames))

    in_old : (other : ℕ) → pages.page_now v.pages image other ≡ page_words (pages.coming v.pages image) v.settings.frames (pages.table_in v.pages) other
    in_old other = ap (λ n. page_words (pages.coming v.pages image) n (pages.table_in v.pages) other) kept.frames

-- the rows stay, whether it was written or not
pub rows_same : {T E D : Type 0} (r : Result T E) (facts : Ghosts D) (old : D) (v : VolumeHeld) (p : Pages) (page index value : ℕ)
    → OnOk r (ForSome (facts.seen old) (λ image. pages.SetsWord v.pages p image page index value)) → OnErr r (pages.Keeps v.pages p)
    → ForSome (facts.seen old) (λ image. (k : ℕ) → k < table_block → block_at (pages.coming p image) k ≡ block_at (pages.coming v.pages image) k)
rows_same (Ok x) facts old v p page index value sets keeps image told = (sets image told).rows
rows_same (Err e) facts old v p page index value sets keeps image told = λ k low. ap (λ i. block_at i k) (keeps.coming image)

-- the word is the state's, or nothing changed
pub set_or_same : {T E D : Type 0} (r : Result T E) (facts : Ghosts D) (old : D) (v : VolumeHeld) (p : Pages) (page index value : ℕ) → IsKept v → index < 512 → pages.frame_count p ≡ pages.frame_count v.pages
    → OnOk r (ForSome (facts.seen old) (λ image. pages.SetsWord v.pages p image page index value)) → OnErr r (pages.Keeps v.pages p)
    → MatchResult r (λ _. ForSome (facts.seen old) (λ image. now_of (with_pages v p) image ≡ record (now_of v image) { objects = with_word (now_of v image).objects (4096 * page + 8 * index) value })) (λ _. Keeps v (with_pages v p))
set_or_same (Ok x) facts old v p page index value kept within frames sets keeps = λ image told. word_set v p image page index value kept within frames (sets image told)
set_or_same (Err e) facts old v p page index value kept within frames sets keeps = keeps_now v p keeps
