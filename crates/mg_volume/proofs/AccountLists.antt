-- Accounts as a list, and their rows by place.
use Rattle.{mg_bank.specs.AccountLemmas.length-taken, mg_model.specs.{Abbreviations.with_account, Bank.{account_of, credited, debited}}}
use Rattle.{mg_model.specs.declared.accounts.AccRow.AccRow, mg_rules.specs.RowsRead.placed_from, mg_volume.specs.RowLists.{ArePlaced, row_at}}
use Rattle.{mg_volume.specs.StagesAccounts.DifferWithin, std.proofs.{Common.{refl, sym, ap, ◌∙◌, arith}, lemmas.Bool.{both_ways, cases_lt, eq-eqb}}}
use Rattle.std.{proofs.lemmas.{Bool.{lt-ltb, or_parts, Decides.nat_tests}, Option.slice_get_past}, specs.{Option.option_map_or, Prelude.{◌≡◌, ◌≢◌}}}
use Rattle.std.specs.Prelude.{◌+◌, ◌-◌, ◌*◌, ◌/◌, ◌≤◌, ◌==◌, ◌||◌, ◌∷◌, ◌++◌, nat_lt, ℕ, zero, suc, Bool, false, List, [], length, slice_get}
use Rattle.std.specs.Prelude.{slice_set, Option, Some, None}

-- accounts with their places are there
account_at : (i j : ℕ) (rows : List AccRow) → row_at (i + j) (placed_from i rows) ≡ slice_get rows j
account_at i j [] = refl
account_at i zero (r ∷ rows) = grind (arith, nat_tests)
account_at i (suc j) (r ∷ rows) = let next : i + suc j ≡ i + 1 + j = omega arith in grind (arith, nat_tests, account_at (i + 1) j rows)

pub account_here : (j : ℕ) (rows : List AccRow) → row_at j (placed_from 0 rows) ≡ slice_get rows j
account_here j rows = let same : j ≡ 0 + j = omega arith in ap (λ k. row_at k (placed_from 0 rows)) same ∙ account_at 0 j rows

-- one after another
pub accounts_rise : (i high : ℕ) (rows : List AccRow) → i + length rows ≤ high → ArePlaced i high (placed_from i rows)
accounts_rise i high [] few = tt
accounts_rise i high (r ∷ rows) few = (omega arith, omega arith, accounts_rise (i + 1) high rows (omega arith))

-- the rows beside a row that is written, and before one that joins
set_beside : (rows : List AccRow) (p i : ℕ) (row : AccRow) → i ≢ p → slice_get (slice_set rows p row) i ≡ slice_get rows i
set_beside [] p i row other = refl
set_beside (r ∷ rows) zero zero row other = absurd (other refl)
set_beside (r ∷ rows) zero (suc i) row other = refl
set_beside (r ∷ rows) (suc p) zero row other = refl
set_beside (r ∷ rows) (suc p) (suc i) row other = set_beside rows p i row (λ same. other (ap suc same))

joined_beside : (rows : List AccRow) (row : AccRow) (i : ℕ) → i ≢ length rows → slice_get (rows ++ row ∷ []) i ≡ slice_get rows i
joined_beside [] row zero other = absurd (other refl)
joined_beside [] row (suc i) other = refl
joined_beside (r ∷ rows) row zero other = refl
joined_beside (r ∷ rows) row (suc i) other = joined_beside rows row i (λ same. other (ap suc same))

-- a change of one account
abbrev changed : (AccRow → AccRow) → List AccRow → ℕ → List AccRow
changed change rows n = option_map_or (λ (row : AccRow). with_account rows n (change row)) (account_of rows n) rows

changed_beside : (change : AccRow → AccRow) (rows : List AccRow) (n i : ℕ) → i ≢ n - 1 → slice_get (changed change rows n) i ≡ slice_get rows i
changed_beside change rows n i other = by_row (account_of rows n)
  where
    by_row : (o : Option AccRow) → slice_get (option_map_or (λ (row : AccRow). with_account rows n (change row)) o rows) i ≡ slice_get rows i
    by_row None = refl
    by_row (Some row) = set_beside rows (n - 1) i (change row) other

taken_beside : (rows : List AccRow) (n amount i : ℕ) → i ≢ n - 1 → slice_get (debited rows n amount) i ≡ slice_get rows i
taken_beside rows n amount i other = changed_beside (λ row. record row { balance = row.balance - amount }) rows n i other

given_beside : (rows : List AccRow) (n amount i : ℕ) → i ≢ n - 1 → slice_get (credited rows n amount) i ≡ slice_get rows i
given_beside rows n amount i other = changed_beside (λ row. record row { balance = row.balance + amount }) rows n i other

-- another block, another place
apart : (i p k : ℕ) → k ≡ p / 64 → (i / 64 == k) ≡ false → i ≢ p
apart i p k block other is = both_ways (i / 64 == k) other (eq-eqb (i / 64) k (ap (λ n. n / 64) is ∙ sym block))

-- the blocks of two places
abbrev pub are_both : ℕ → ℕ → ℕ → Bool
are_both a b k = (k == a) || (k == b)

-- one account more differs in the blocks of the payer and of the last
pub opened_within : (rows rows' : List AccRow) (payer amount : ℕ) (row : AccRow) (j k : ℕ) → rows' ≡ debited rows payer amount ++ row ∷ [] → j ≡ (payer - 1) / 64 → k ≡ length rows / 64 → DifferWithin (are_both j k) rows rows'
opened_within rows rows' payer amount row j k is first last = grind (arith, or_parts, length-taken, joined_beside, apart, taken_beside)

-- a payment in those of both accounts
pub paid_within : (rows rows' : List AccRow) (from to amount j k : ℕ) → rows' ≡ credited (debited rows from amount) to amount → j ≡ (from - 1) / 64 → k ≡ (to - 1) / 64 → DifferWithin (are_both j k) rows rows'
paid_within rows rows' from to amount j k is first second = record {
  each = λ i _ other.
      let (here, there) = or_parts (i / 64 == j) (i / 64 == k) other in
      ap (λ rs. slice_get rs i) is
      ∙ given_beside (debited rows from amount) to amount i (apart i (to - 1) k second there)
      ∙ taken_beside rows from amount i (apart i (from - 1) j first here);
}

-- as many rows differ in the blocks that hold one alone
pub all_within : (blocks : ℕ) (old new : List AccRow) → length new ≡ length old → length old ≤ 64 * blocks → DifferWithin (λ k. nat_lt k blocks) old new
all_within blocks old new long room = grind (arith, both_ways, lt-ltb, cases_lt, slice_get_past)
