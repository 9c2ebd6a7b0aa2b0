use Rattle.{mg_index.specs.Pairs.freed, std.proofs.Common.{◌≡◌, ◌≤◌, ℕ, All, take}}
use Rattle.mg_index.proofs.pairs.free_places.Given as goal

-- the places up to here are free
abbrev pub invariant-loop-pair : goal.invariant-loop-pair
invariant-loop-pair l =
    (l.numbers ≡ freed l.initial.numbers (take l.pair-index l.pairs)) × (l.lowest ≤ l.low) × All (λ (pair : ℕ × ℕ). l.lowest ≤ pair.1) (take l.pair-index l.pairs)
