-- A list that is taken over item by item.
use Rattle.std.proofs.Common.{ℕ, zero, suc, ◌+◌, ◌<◌, ◌≤◌, ◌≡◌, ◌∙◌, ◌++◌, List, [], ◌∷◌, ap, drop, get_or, length, refl, take, arith}
use Rattle.std.{proofs.lemmas.{Grind.common_steps, List.{append-nil, drop_all, take_all}}, specs.Prelude.slice_set}

-- one more of the new items, if the others are as they were
pub set-seam : (new old : List ℕ) (k d : ℕ) → k < length new → k < length old → slice_set (take k new ++ drop k old) k (get_or new k d) ≡ take (k + 1) new ++ drop (k + 1) old
set-seam [] old k d below within = absurd (omega arith)
set-seam (n ∷ ns) [] k d below within = absurd (omega arith)
set-seam (n ∷ ns) (o ∷ os) zero d below within = refl
set-seam (n ∷ ns) (o ∷ os) (suc k) d below within = grind (arith, (set-seam ns os k d (omega arith) (omega arith)))

-- as many, and the next of the old ones
pub seam-long : (new old : List ℕ) (k : ℕ) → length new ≡ length old → length (take k new ++ drop k old) ≡ length old
seam-long new old k same = grind (arith, common_steps)

pub seam-next : (new old : List ℕ) (k d : ℕ) → length new ≡ length old → get_or (take k new ++ drop k old) k d ≡ get_or old k d
seam-next new old k d same = grind (arith, common_steps)

-- all of the new ones
pub seam-end : (new old : List ℕ) (k : ℕ) → length new ≤ k → length old ≤ k → take k new ++ drop k old ≡ new
seam-end new old k all gone = ap (λ xs. xs ++ drop k old) (take_all k new all) ∙ ap (λ xs. new ++ xs) (drop_all k old gone) ∙ append-nil new
