-- A list that is filled up twice.
use Rattle.{mg_model.specs.{Bytes.padded_to, BytesLemmas.length-padded_to}, std.proofs.Common.{ap, ◌∙◌, arith, append_assoc}}
use Rattle.std.{proofs.lemmas.List.replicate-append-replicate, specs.Prelude.{◌≡◌, ◌≤◌, ◌+◌, ℕ, List, ◌++◌, length, replicate}}

zeros-joined : (bytes : List ℕ) (a b k : ℕ) → a + b ≡ k → bytes ++ (replicate a 0 ++ replicate b 0) ≡ bytes ++ replicate k 0
zeros-joined bytes a b k is = ap (λ v. bytes ++ v) (replicate-append-replicate a b 0) ∙ ap (λ n. bytes ++ replicate n 0) is

pub padded_twice : (n m : ℕ) (bytes : List ℕ) → length bytes ≤ n → n ≤ m → padded_to m (padded_to n bytes) ≡ padded_to m bytes
padded_twice n m bytes few below = grind (arith, length-padded_to, append_assoc, zeros-joined)
