-- The list in the first page of an object, and the object that has a base.
use Rattle.{mg_disk.specs.Disk.Image, mg_model.specs.{Abbreviations.{pairs_from, pages_words}, Access.{based_at, pairs_of, pairs_under, holds}}}
use Rattle.mg_model.specs.{Bytes.{block_words, number_at, numbers_at}, State.{Object, ObjectRow}, Volume.{object_spelled, page_words}}
use Rattle.{mg_model.specs.declared.{rights.Right.{Right, TheVariants.R}, slots.Slot.Slot}, mg_show.proofs.WordTexts.length-page_words}
use Rattle.{mg_show.specs.{DotText.holds_now, Reached.listed, Shown.{object_in, state_shown}, declared.held.Shown.Shown}, std.proofs.Common.{◌≡◌, ℕ}}
use Rattle.std.proofs.Common.{suc, ◌+◌, ◌*◌, ◌≤◌, List, [], ◌∷◌, ◌++◌, if◌then◌else◌, length, map, None, Some, slice_index, refl, sym, ap, ◌∙◌, arith}
use Rattle.std.{proofs.{Common.{◌<◌, get_or}, Math.ListN.get_or-append}, specs.{Option.{option_map, option_map_or}, Prelude.{zero, ◌==◌, false}}}
use Rattle.std.specs.Prelude.{find, Option}

-- Entries, one by one

number-of : (bytes : List ℕ) (from n i : ℕ) → i < n → get_or (numbers_at bytes from n) i 0 ≡ number_at bytes (from + 8 * i)
number-of bytes from zero i below = absurd (omega arith)
number-of bytes from (suc n) zero below = let e : from ≡ from + 8 * 0 = omega arith in ap (number_at bytes) e
number-of bytes from (suc n) (suc i) below = let e : from + 8 + 8 * i ≡ from + 8 * suc i = omega arith in number-of bytes (from + 8) n i (omega arith) ∙ ap (number_at bytes) e

pub word-of : (block : List ℕ) (i at : ℕ) → i < 512 → at ≡ 8 * i → slice_index (block_words block) i ≡ number_at block at
word-of block i at below is = let e : 0 + 8 * i ≡ at = omega arith in number-of block 0 512 i below ∙ ap (number_at block) e

-- one entry more
pub entries-more : (words : List ℕ) (j n : ℕ) → pairs_from words j (n + 1) ≡ pairs_from words j n ++ (slice_index words (2 + 2 * (j + n)), slice_index words (3 + 2 * (j + n))) ∷ []
entries-more words j zero = grind arith
entries-more words j (suc n) = grind (arith, entries-more words (j + 1) n)

entry-more : (words : List ℕ) (k base password : ℕ) → base ≡ slice_index words (2 + 2 * k) → password ≡ slice_index words (3 + 2 * k)
    → pairs_from words 0 k ++ (base, password) ∷ [] ≡ pairs_from words 0 (k + 1)
entry-more words k base password b p = grind (arith, entries-more words 0 k)

pub block-entries-more : (block : List ℕ) (k at base password : ℕ) → k < 255 → at ≡ 16 * k → base ≡ number_at block (at + 16) → password ≡ number_at block (at + 24)
    → pairs_from (block_words block) 0 k ++ (base, password) ∷ [] ≡ pairs_from (block_words block) 0 (k + 1)
block-entries-more block k at base password below at_is b p =
    entry-more (block_words block) k base password (b ∙ sym (word-of block (2 + 2 * k) (at + 16) (omega arith) (omega arith)))
    (p ∙ sym (word-of block (3 + 2 * k) (at + 24) (omega arith) (omega arith)))

-- The list in the first page

entries_before : (a b : List ℕ) (j n : ℕ) → length a ≡ 512 → j + n ≤ 255 → pairs_from (a ++ b) j n ≡ pairs_from a j n
entries_before a b j zero long few = refl
entries_before a b j (suc n) long few = λ i.
    (get_or-append a b 0 (2 + 2 * j) (omega arith) i, get_or-append a b 0 (3 + 2 * j) (omega arith) i)
    ∷ entries_before a b (j + 1) n long (omega arith) i

pub list_first : (image : Image) (frames : ℕ) (table : List ℕ) (page n : ℕ) → 1 ≤ n
    → pairs_of (page_words image frames table page) ≡ pairs_of (pages_words image frames table page n)
list_first image frames table page zero some = absurd (omega arith)
list_first image frames table page (suc n) some = grind (arith, length-page_words, get_or-append, entries_before)

or-map : {A B C : Type 0} (f : A → B) (g : B → C) (d : C) (found : Option A)
    → option_map_or (λ x. g (f x)) found d ≡ option_map_or g (option_map f found) d
or-map f g d None = refl
or-map f g d (Some x) = refl

module _ (shown : Shown) (r : Image) (base : ℕ) where
  abbrev made : ObjectRow → Object
  made row = object_spelled r (length shown.frames) shown.frames row

  -- the row of an object with its base
  abbrev row_at : List (ℕ × ObjectRow) → Option ObjectRow
  row_at objects = option_map (λ (o : ℕ × ObjectRow). o.1) (find (λ (o : ℕ × ObjectRow). o.1.base == base) objects)

  based : (objects : List (ℕ × ObjectRow)) → based_at (map (object_in shown r) objects) base ≡ option_map made (row_at objects)
  based [] = refl
  based (o ∷ objects) = grind (arith, (based objects))

  -- what a slot opens, and whether the object holds a password
  pub opened : (slot : Slot) (found : Option ObjectRow) → slot.base ≡ base → found ≡ row_at shown.objects
      → option_map_or (λ (row : ObjectRow). if holds shown.counters.period row slot.password R then listed shown r row else []) found []
      ≡ pairs_under (state_shown shown r).objects shown.counters.period slot
  opened slot found same is = grind (arith, or-map, based)

  pub held : (password : ℕ) (right : Right) (found : Option ObjectRow) → found ≡ row_at shown.objects
      → option_map_or (λ (row : ObjectRow). holds shown.counters.period row password right) found false
      ≡ holds_now (state_shown shown r) base password right
  held password right found is = grind (arith, or-map, based)

-- the rights on an object do not depend on the words
pub held-bare : (shown : Shown) (r : Image) → holds_now (state_shown shown r) ≡ holds_now (state_shown shown [])
held-bare shown r = λ i base password right.
    (sym (held shown r base password right (row_at shown [] base shown.objects) refl)
    ∙ held shown [] base password right (row_at shown [] base shown.objects) refl) i
