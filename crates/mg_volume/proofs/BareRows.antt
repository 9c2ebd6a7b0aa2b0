-- Tests and sums over rows with their places are those over the rows.
use Rattle.{mg_model.specs.State.ObjectRow, mg_volume.{proofs.ObjectRemoved.filter_mapped, specs.Meaning.bare_rows}, std.proofs.Common.{refl, sym}}
use Rattle.std.{proofs.{Common.{ap, ◌∙◌}, lemmas.List.Sums.sum_by-cons}, specs.{List.list_any, Prelude.{◌≡◌, ◌+◌, ◌||◌, ◌==◌, ℕ, Bool, List, []}}}
use Rattle.std.specs.Prelude.{◌∷◌, filter, sum_by}

pub any_bare : (q : ObjectRow → Bool) (os : List (ℕ × ObjectRow)) → list_any (λ (o : ℕ × ObjectRow). q o.1) os ≡ list_any q (bare_rows os)
any_bare q [] = refl
any_bare q (o ∷ os) = ap (λ t. q o.1 || t) (any_bare q os)

bare_filter : (q : ObjectRow → Bool) (os : List (ℕ × ObjectRow)) → bare_rows (filter (λ (o : ℕ × ObjectRow). q o.1) os) ≡ filter q (bare_rows os)
bare_filter q os = filter_mapped (λ (o : ℕ × ObjectRow). o.1) q os

pub sum_bare : (f : ObjectRow → ℕ) (os : List (ℕ × ObjectRow)) → sum_by (λ (o : ℕ × ObjectRow). f o.1) os ≡ sum_by f (bare_rows os)
sum_bare f [] = refl
sum_bare f (o ∷ os) = sum_by-cons (λ (o : ℕ × ObjectRow). f o.1) o os ∙ ap (λ n. f o.1 + n) (sum_bare f os) ∙ sym (sum_by-cons f o.1 (bare_rows os))

-- for how many pages an account pays
pub paid_bare : (n : ℕ) (os : List (ℕ × ObjectRow))
    → sum_by (λ (o : ℕ × ObjectRow). o.1.pages) (filter (λ (o : ℕ × ObjectRow). o.1.account == n) os) ≡ sum_by (λ (row : ObjectRow). row.pages) (filter (λ (row : ObjectRow). row.account == n) (bare_rows os))
paid_bare n os = sum_bare (λ (row : ObjectRow). row.pages) (filter (λ (o : ℕ × ObjectRow). o.1.account == n) os) ∙ ap (sum_by (λ (row : ObjectRow). row.pages)) (bare_filter (λ (row : ObjectRow). row.account == n) os)
