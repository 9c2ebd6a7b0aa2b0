-- The pages as they are opened.
use Rattle.{mg_disk.specs.Disk.Image, mg_journal.specs.{Held.Store, Staged.are_once}, mg_model.specs.Layout.{body_limit, total_blocks}}
use Rattle.{mg_model.specs.{Replay.homes_fit, Tests.all_distinct, Volume.bound_pages}, mg_pages.specs.{Held.{HasFrames, IsSound}, Kept.kept_at}}
use Rattle.mg_pages.specs.Meaning.{AreMade, HasTable, IsSpelledBy, coming, frame_count, is_live, kept_in, replayed, staged_of, store_of, table_in}
use Rattle.{mg_pages.specs.{Meaning.{total_of, words_in}, Parts.coming_of, declared.pages.Pages.Pages}, std.proofs.Common.{◌∙◌, ap, arith, subst}}
use Rattle.std.{proofs.Common.sym, specs.Prelude.{◌≡◌, ◌≤◌, ℕ, true, List, [], if◌then◌else◌, length, Option, Some, None}}
use Rattle.mg_journal.specs.Standing as journal

-- the frames of entries in which no page occurs twice are these entries
pub made-frames : (entries frames : List ℕ) (made : Option (List ℕ)) → made ≡ (if all_distinct (bound_pages entries) then Some entries else None) → made ≡ Some frames → all_distinct (bound_pages entries) ≡ true → frames ≡ entries
made-frames entries frames made is some distinct = grind arith

none-some : (bytes : List ℕ) → None ≡ Some bytes → ⊥
none-some bytes found = cc

-- a table that is spelled if nothing is staged
spells : (store s : Store) (entries fs : List ℕ) (ws : List (ℕ × List ℕ)) (image : Image) → s ≡ store → fs ≡ entries → ws ≡ [] → HasTable entries (replayed store.total image) → HasTable fs (coming_of s ws image)
spells store s entries fs ws image same_store same_frames none has = rw (same_store, same_frames, none) has

-- with nothing staged, an image whose frame table they are spells them
pub made-spelled : (q : Pages) (store : Store) (entries : List ℕ) → q.blocks.store ≡ store → q.frames ≡ entries → q.blocks.writes ≡ [] → q.blocks.kept ≡ []
    → (image : Image) → journal.IsFitting store image → store.total ≤ length image → HasTable entries (replayed store.total image) → IsSpelledBy q image
unfolding IsSpelledBy total_of coming frame_count table_in kept_in
made-spelled q store entries same_store same_frames none bare image fits long has = record {
  fitting = subst (λ s. journal.IsFitting s image) (sym same_store) fits;
  long = subst (λ (s : Store). s.total ≤ length image) (sym same_store) long;
  table = (spells store q.blocks.store entries q.frames q.blocks.writes image same_store same_frames none has).table;
  past = (spells store q.blocks.store entries q.frames q.blocks.writes image same_store same_frames none has).past;
  kept = λ i bytes found. absurd (none-some bytes (sym (ap (λ ks. kept_at ks i) bare) ∙ found));
}

-- the pages that are made, of a journal's store and frames that are free or known
pub made-pages : (q : Pages) (store : Store) (frames : ℕ) → q.blocks.store ≡ store → q.blocks.writes ≡ [] → q.blocks.kept ≡ [] → q.count ≡ 0 → length q.frames ≡ frames → AreMade store frames q
unfolding store_of total_of frame_count is_live kept_in words_in staged_of coming
made-pages q store frames same none bare zero many = record {
  same = same;
  total = ap (λ (s : Store). s.total) same;
  count = many;
  live = ap (λ s. journal.is_live s) same;
  bare = record { staged = ap length none; kept = bare };
  words = zero;
  coming = λ image. ap (λ (s : Store). coming_of s q.blocks.writes image) same ∙ ap (λ ws. coming_of store ws image) none;
}

-- what they keep
pub made-sound : (s : Store) (total n : ℕ) (frames : List ℕ) (writes : List (ℕ × List ℕ)) → HasFrames total n → s.total ≡ total → length frames ≡ n → all_distinct (bound_pages frames) ≡ true → writes ≡ [] → IsSound s.total frames writes
made-sound s total n frames writes has same many distinct none = record {
  some = subst (λ m. 16 ≤ m) (sym many) has.some;
  few = subst (λ m. m ≤ 65536) (sym many) has.few;
  size = same ∙ has.size ∙ ap total_blocks (sym many);
  distinct = distinct;
  waiting = subst (λ (ws : List (ℕ × List ℕ)). length ws ≤ body_limit) (sym none) (omega arith);
  homes = ap (λ ws. homes_fit s.total ws) none;
  once = ap are_once none;
}
