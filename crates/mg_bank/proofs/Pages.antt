-- For how many pages each account pays.
use Rattle.{mg_bank.specs.Bank.pages_at, std.proofs.{Common.{sym, ap, ◌∙◌, ⊎_elim, arith}, lemmas.Bool.{cases_eq, cases_lt, cond-false, cond-true}}}
use Rattle.std.proofs.lemmas.{Bool.{eq-eqb, ne_eqb}, List.{get_or-replicate, get_or-set_other, get_or-set_same, get_or_past, length-replicate}}
use Rattle.std.specs.Prelude.{◌≡◌, ◌≢◌, ◌<◌, ◌≤◌, ◌==◌, ℕ, List, if◌then◌else◌, length, replicate, slice_set}

-- none at first
pub no_pages : (pages : List ℕ) → pages ≡ replicate 1025 0 → (n : ℕ) → pages_at pages n ≡ 0
no_pages pages are n =
    ap (λ (those : List ℕ). pages_at those n) are
    ∙ ⊎_elim (λ (low : n < 1025). get_or-replicate 1025 n 0 0 low) (λ (high : 1025 ≤ n). get_or_past (replicate 1025 0) n 0 (let l = length-replicate {A = ℕ} 1025 0 in omega arith)) (cases_lt n 1025)

-- and if one account pays for others than before
pub pages_set : (pages : List ℕ) (n total : ℕ) → n < length pages → (k : ℕ) → pages_at (slice_set pages n total) k ≡ (if n == k then total else pages_at pages k)
pages_set pages n total within k = ⊎_elim here elsewhere (cases_eq n k)
  where
    here : n ≡ k → pages_at (slice_set pages n total) k ≡ (if n == k then total else pages_at pages k)
    here is = ap (λ j. pages_at (slice_set pages n total) j) (sym is) ∙ get_or-set_same pages n total 0 within ∙ sym (cond-true (n == k) total (pages_at pages k) (eq-eqb n k is))

    elsewhere : n ≢ k → pages_at (slice_set pages n total) k ≡ (if n == k then total else pages_at pages k)
    elsewhere other = get_or-set_other pages n k total 0 (λ is. other (sym is)) ∙ sym (cond-false (n == k) total (pages_at pages k) (ne_eqb n k other))
