-- A word that is written in place of 8 bytes of a block.
use Rattle.{mg_bytes.specs.WordLemmas.beside, mg_model.specs.{Abbreviations.word_bytes, Bytes.{block_words, number_at}}}
use Rattle.{mg_pages.proofs.Numbers.block-set, std.proofs.{Common.{refl, inl, inr, sym, ap, ◌∙◌, ⊎_elim, arith}, lemmas.Bool.cases_lt}}
use Rattle.std.{proofs.lemmas.{Nat.from_le_bytes-to_le_bytes_8, Slice.between-put_mid}, specs.{Int.{from_le_bytes, w64}, List.splice, Prelude.◌≡◌}}
use Rattle.std.specs.Prelude.{◌≢◌, ◌+◌, ◌-◌, ◌*◌, ◌<◌, ◌^◌, ℕ, List, ◌++◌, drop, length, slice_set, take}
use borrow.Rule.Slice.PartMut.{Post-is, put_mid}

put-splice : (old bytes : List ℕ) (at : ℕ) → splice old at (at + 8) bytes ≡ put_mid at (at + 8 - at) old bytes
put-splice old bytes at = ap (λ rest. take at old ++ (bytes ++ rest)) (sym (Post-is at (at + 8) old (omega arith)))

module _ (old : List ℕ) (index value : ℕ) (whole : length old ≡ 4096) (below : index < 512) (low : value < 2 ^ 64) where
  long : length (word_bytes value) ≡ 8
  long = refl

  here : number_at (splice old (8 * index) (8 * index + 8) (word_bytes value)) (8 * index) ≡ value
  here =
      let eight : 8 * index + 8 - 8 * index ≡ 8 = omega arith in
      ap (λ b. number_at b (8 * index)) (put-splice old (word_bytes value) (8 * index))
      ∙ ap (λ n. from_le_bytes w64 (take n (drop (8 * index) (put_mid (8 * index) (8 * index + 8 - 8 * index) old (word_bytes value))))) (sym eight)
      ∙ ap (from_le_bytes w64) (between-put_mid (8 * index) (8 * index + 8 - 8 * index) old (word_bytes value) (8 * index + 8) (omega arith) (long ∙ sym eight))
      ∙ from_le_bytes-to_le_bytes_8 value low

  others : (j : ℕ) → j ≢ index → number_at (splice old (8 * index) (8 * index + 8) (word_bytes value)) (8 * j) ≡ number_at old (8 * j)
  others j apart =
      ap (λ b. number_at b (8 * j)) (put-splice old (word_bytes value) (8 * index))
      ∙ beside old (word_bytes value) (8 * index) (8 * index + 8 - 8 * index) (8 * j) (omega arith) long (omega arith)
      (⊎_elim (λ before. inl (omega arith)) (λ behind. inr (omega arith)) (cases_lt j index))

  pub words-spliced : block_words (splice old (8 * index) (8 * index + 8) (word_bytes value)) ≡ slice_set (block_words old) index value
  words-spliced = block-set old (splice old (8 * index) (8 * index + 8) (word_bytes value)) index value below here others
