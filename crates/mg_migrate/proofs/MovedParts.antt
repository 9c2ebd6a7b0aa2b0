-- The parts of a moved row, added one by one.
use Rattle.{mg_model.specs.Bytes.padded_to, std.{proofs.Common.{arith, ap, ◌∙◌, append_assoc}, specs.Prelude.{◌≡◌, ℕ, ◌-◌, List, ◌++◌, length}}}
use Rattle.std.specs.Prelude.{replicate}

pub parts : (s1 s2 s3 s4 s5 s6 s7 h p g e u z1 z2 z3 : List ℕ) → s1 ≡ h → s2 ≡ s1 ++ p → s3 ≡ s2 ++ z1 → s4 ≡ s3 ++ g → s5 ≡ s4 ++ z2 → s6 ≡ s5 ++ e → s7 ≡ s6 ++ u
    → s7 ++ z3 ≡ h ++ ((p ++ z1) ++ ((g ++ z2) ++ (e ++ (u ++ z3))))
parts s1 s2 s3 s4 s5 s6 s7 h p g e u z1 z2 z3 e1 e2 e3 e4 e5 e6 e7 = grind (arith, append_assoc)

-- and what fills them up
pub filled-up : (whole part : List ℕ) → whole ≡ padded_to 1024 part → length part ≡ 752 → whole ≡ part ++ replicate 272 0
filled-up whole part is long = is ∙ ap (λ k. part ++ replicate (1024 - k) 0) long
