-- A part of a block that is written is a splice.
use Rattle.std.{proofs.Common.{ap, ◌∙◌, arith}, specs.{List.splice, Prelude.{◌≡◌, ◌+◌, ◌-◌, ◌++◌, ℕ, List, take}}}
use borrow.Rule.Slice.PartMut.{Post-is, post_of, put_mid}

pub spliced : (old bytes new : List ℕ) (at : ℕ) → new ≡ bytes → put_mid at (at + 8 - at) old new ≡ splice old at (at + 8) bytes
spliced old bytes new at is =
    ap (λ part. take at old ++ (part ++ post_of at (at + 8 - at) old)) is
    ∙ ap (λ rest. take at old ++ (bytes ++ rest)) (Post-is at (at + 8) old (omega arith))
