-- Blocks in an order, and a table that says where each may be.
use Rattle.{mg_journal.specs.Hinted.{AreHinted, hint_of}, mg_model.specs.Layout.body_limit, std.proofs.Common.{sym, ap, subst, cond, ◌∙◌, ⊎_elim}}
use Rattle.std.proofs.{Common.{arith, length-append}, lemmas.Bool.{cases_lt, eq-eqb, le-ltb, lt-ltb, ne_eqb, Decides.nat_tests}}
use Rattle.std.proofs.lemmas.List.{get_or-replicate, get_or-set_other, get_or-set_same, get_or_append_left, get_or_default, get_or_past, get_or_push}
use Rattle.std.proofs.lemmas.{List.{length-replicate, length-set, Quantifiers.all_pairs_push, Sums.position_or_len_is}, Nat.mod_below}
use Rattle.std.{proofs.lemmas.Option.none-some, specs.{List.position_or_len, Prelude.{◌≡◌, ◌≢◌, ◌==◌, ◌+◌, ◌≤◌, ◌<◌, ◌%◌, nat_lt, ℕ, zero, List, []}}}
use Rattle.std.specs.Prelude.{◌∷◌, ◌++◌, length, position, replicate, slice_index_or, slice_set, Some, None}

-- a block is at a place, and no other place before has it
placed : (homes : List ℕ) (block k : ℕ) → k < length homes → position_or_len (λ home. home == block) homes ≡ k → position (λ home. home == block) homes ≡ Some k
placed homes block k below is = grind (arith, lt-ltb)

-- it is at no place
nowhere : (homes : List ℕ) (block : ℕ) → ((k : ℕ) → k < length homes → slice_index_or homes k 0 ≢ block) → position (λ home. home == block) homes ≡ None
nowhere homes block other =
    let first : position_or_len (λ home. home == block) homes ≡ length homes =
    position_or_len_is (λ home. home == block) homes (length homes) 0 (omega arith) (λ k below. ne_eqb (slice_index_or homes k 0) block (other k below)) (λ past. absurd (omega arith)) in
    ap (λ n. cond (nat_lt n (length homes)) (Some n) None) first ∙ ap (λ t. cond t (Some (length homes)) None) (le-ltb (length homes) (length homes) (omega arith))

module _ (homes hints : List ℕ) (held : AreHinted homes hints) (block : ℕ) where
  -- what is read there is a place and one more, or 0
  pub hint-within : (row hint : ℕ) → row < 256 → hint ≡ slice_index_or hints row hint → hint ≤ length homes
  hint-within row hint below is = grind (arith, get_or_default)

  -- a block with no hint is not among them
  pub unhinted : hint_of hints block ≡ 0 → position (λ home. home == block) homes ≡ None
  unhinted none = grind (arith, nowhere)

  -- a block that is found has no other place
  pub hinted-at : (k : ℕ) → k < length homes → slice_index_or homes k 0 ≡ block → position (λ home. home == block) homes ≡ Some k
  hinted-at k below is = grind (arith, placed, position_or_len_is, ne_eqb, eq-eqb)

  -- a block more after the others
  module _ (new : position (λ home. home == block) homes ≡ None) where
    other : (k d : ℕ) → k < length homes → slice_index_or homes k d ≢ block
    other k d below is = none-some k (sym new ∙ hinted-at k below (get_or_default homes k 0 d below ∙ is))

    one-behind : (k d : ℕ) → k ≡ length homes → slice_index_or (homes ++ block ∷ []) k d ≡ block
    one-behind k d is = get_or_push homes block d k (sym is)

    module _ (row n : ℕ) (row-is : row ≡ block % 256) (n-is : n ≡ length homes + 1) where
      row-within : row < length hints
      row-within = let few = mod_below block 256 (omega arith) in let wide = held.wide in omega arith

      within-more : (r : ℕ) → slice_index_or (slice_set hints row n) r 0 ≤ n
      within-more r = grind (arith, nat_tests, get_or-set_same, row-within, get_or-set_other)

      hinted-more : (k : ℕ) → k < length homes + 1 → 0 < hint_of (slice_set hints row n) (slice_index_or (homes ++ block ∷ []) k 0)
      hinted-more k below = grind (arith, nat_tests, get_or-set_same, row-within, nat_tests, get_or-set_other, one-behind, get_or_append_left)

      pub hinted_added : length homes < body_limit → AreHinted (homes ++ block ∷ []) (slice_set hints row n)
      hinted_added few =
          let longer = length-append homes (block ∷ []) in
          record {
            few = omega arith;
            once = all_pairs_push (λ a b. a ≢ b) homes block held.once other;
            wide = length-set hints row n ∙ held.wide;
            within = λ r. let w = within-more r in omega arith;
            hinted = λ k below. hinted-more k (omega arith);
          }

-- none
row-none : (n r : ℕ) → slice_index_or (replicate n zero) r zero ≡ zero
row-none n r = ⊎_elim (get_or-replicate n r zero zero) (λ past. get_or_past (replicate n zero) r zero (subst (λ long. long ≤ r) (sym (length-replicate n zero)) past)) (cases_lt r n)

pub hinted_none : (n : ℕ) → n ≡ 256 → AreHinted [] (replicate n zero)
hinted_none n is = record {
  few = omega arith;
  once = λ i j d less below _. absurd (omega arith);
  wide = length-replicate n zero ∙ is;
  within = λ r. let at = row-none n r in omega arith;
  hinted = λ k below. absurd (omega arith);
}
