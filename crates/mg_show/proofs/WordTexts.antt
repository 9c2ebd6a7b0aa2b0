-- Words as text, some behind others.
use Rattle.mg_model.specs.{Abbreviations.pages_words, Bytes.{block_words, number_at, numbers_at}, Layout.first_frame, Objects.page_of, Print.spaced}
use Rattle.{mg_model.specs.{Replay.block_of, State.ObjectRow, Volume.page_words}, mg_show.specs.{StateText.words_text, WordText.word_text}}
use Rattle.{mg_show.specs.WordText.{block_text, page_text, pages_text, row_text}, std.proofs.Common.{◌<◌, get_or, map, take, ◌≡◌, ℕ, suc, ◌+◌, ◌*◌}}
use Rattle.std.proofs.Common.{List, [], ◌∷◌, ◌++◌, length, Some, refl, sym, ap, ◌∙◌, append_assoc, append-nil, length-append, arith}
use Rattle.std.{proofs.lemmas.List.{map_more, length-replicate}, specs.{Option.option_map_or, Prelude.{zero, ◌%◌, ◌==◌, position, replicate}}}

-- behind other words
words_text-append : (address : ℕ) (xs ys : List ℕ) → words_text address (xs ++ ys) ≡ words_text address xs ++ words_text (address + 8 * length xs) ys
words_text-append address [] ys = let e : address ≡ address + 8 * 0 = omega arith in ap (λ a. words_text a ys) e
words_text-append address (x ∷ xs) ys = grind (arith, (words_text-append (address + 8) xs ys), append_assoc)

-- words that are 0
pub words_text-zeros : (address n : ℕ) → words_text address (replicate n 0) ≡ []
words_text-zeros address zero = refl
words_text-zeros address (suc n) = words_text-zeros (address + 8) n

-- the words of a block
length-numbers_at : (bytes : List ℕ) (o n : ℕ) → length (numbers_at bytes o n) ≡ n
length-numbers_at bytes o zero = refl
length-numbers_at bytes o (suc n) = ap suc (length-numbers_at bytes (o + 8) n)

numbers-split : (bytes : List ℕ) (o n m : ℕ) → numbers_at bytes o (n + m) ≡ numbers_at bytes o n ++ numbers_at bytes (o + 8 * n) m
numbers-split bytes o zero m = grind arith
numbers-split bytes o (suc n) m =
    let e : suc n + m ≡ suc (n + m) = omega arith in ap (numbers_at bytes o) e ∙ grind (arith, numbers-split bytes (o + 8) n m)

-- one word more
pub numbers_text-more : (address : ℕ) (bytes : List ℕ) (n : ℕ)
    → words_text address (numbers_at bytes 0 (n + 1)) ≡ words_text address (numbers_at bytes 0 n) ++ word_text (address + 8 * n) (number_at bytes (8 * n))
numbers_text-more address bytes n = grind (arith, append-nil, numbers-split bytes 0 n 1, words_text-append, length-numbers_at)

-- all of them, and the first n of a block with what stands behind
pub block_text-all : (address : ℕ) (block : List ℕ) (n : ℕ) → n ≡ 512 → words_text address (numbers_at block 0 n) ≡ block_text address block
unfolding block_text
block_text-all address block n all = ap (λ k. words_text address (numbers_at block 0 k)) all

-- the words of a page that a frame holds
pub page-held : (image : List (List ℕ)) (frames : ℕ) (table : List ℕ) (page frame first : ℕ) → first ≡ first_frame frames → position (λ entry. entry == page) table ≡ Some frame
    → block_words (block_of image (first + frame)) ≡ page_words image frames table page
page-held image frames table page frame first at is =
    ap (λ n. block_words (block_of image (n + frame))) at ∙ sym (ap (λ found. option_map_or (λ frame. block_words (block_of image (first_frame frames + frame))) found (replicate 512 0)) is)

-- pages behind others
module _ (image : List (List ℕ)) (frames : ℕ) (table : List ℕ) where
  pub length-page_words : (page : ℕ) → length (page_words image frames table page) ≡ 512
  length-page_words page = grind (arith, length-replicate, length-numbers_at)

  length-pages_words : (page n : ℕ) → length (pages_words image frames table page n) ≡ 512 * n
  length-pages_words page zero = refl
  length-pages_words page (suc n) = grind (arith, (length-pages_words (page + 1) n), length-page_words, length-append)

  pages-split : (page n m : ℕ) → pages_words image frames table page (n + m) ≡ pages_words image frames table page n ++ pages_words image frames table (page + n) m
  pages-split page zero m = grind arith
  pages-split page (suc n) m =
      let e : suc n + m ≡ suc (n + m) = omega arith in ap (pages_words image frames table page) e ∙ grind (arith, append_assoc, pages-split (page + 1) n m)

  pub pages_text-none : (page : ℕ) → pages_text image frames table page 0 ≡ []
  unfolding pages_text
  pages_text-none page = refl

  -- one page more
  pub pages_text-more : (page n : ℕ) → pages_text image frames table page (n + 1) ≡ pages_text image frames table page n ++ page_text image frames table (page + n)
  unfolding pages_text page_text
  pages_text-more page n = grind (arith, append-nil, length-pages_words, pages-split page n 1, words_text-append)

  -- an object
  pub row_text-pages : (row : ObjectRow) (first count : ℕ) → first ≡ page_of row → count ≡ row.pages → row.base % 4096 ≡ 0
      → pages_text image frames table first count ≡ row_text image frames table row
  unfolding row_text pages_text
  row_text-pages row first count begins all aligned = grind arith

-- one text more
spaced_more : (texts : List (List ℕ)) (text : List ℕ) → spaced (texts ++ text ∷ []) ≡ spaced texts ++ spaced (text ∷ [])
spaced_more [] text = refl
spaced_more (t ∷ texts) text = ap (λ v. 32 ∷ t ++ v) (spaced_more texts text) ∙ ap (λ v. 32 ∷ v) (sym (append_assoc t (spaced texts) (spaced (text ∷ []))))

-- the text of one element more, behind a space
pub spaced-more : {A : Type 0} (f : A → List ℕ) (front : List ℕ) (xs : List A) (i : ℕ) (d : A) → i < length xs
    → (front ++ spaced (map f (take i xs))) ++ spaced (f (get_or xs i d) ∷ []) ≡ front ++ spaced (map f (take (i + 1) xs))
spaced-more f front xs i d h =
    append_assoc front (spaced (map f (take i xs))) (spaced (f (get_or xs i d) ∷ []))
    ∙ ap (λ v. front ++ v) (sym (ap spaced (map_more f xs i d h) ∙ spaced_more (map f (take i xs)) (f (get_or xs i d))))
