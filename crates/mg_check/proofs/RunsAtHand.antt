-- A block of the contents among those that were read together.
use Rattle.{mg_check.specs.Reads.IsRun, mg_disk.specs.Disk.{Image, InRange, block_at}, std.proofs.Common.{ap, sym, ◌∙◌, arith}}
use Rattle.std.{proofs.lemmas.Result.err_from_is_err_and, specs.Prelude.{Result, Err, IsErrAnd, ◌≡◌, ◌+◌, ◌-◌, ℕ, List}}

pub here : (first count : ℕ) (blocks r : Image) (i : ℕ) (block : List ℕ) → IsRun first count blocks r → InRange first count i → block ≡ block_at blocks (i - first) → block ≡ block_at r i
here first count blocks r i block run among is =
    let low = among.from in
    let high = among.before in
    let at : first + (i - first) ≡ i = omega arith in
    is ∙ sym (run (i - first) (omega arith)) ∙ ap (block_at r) at

pub none_yet : (first count : ℕ) (blocks r : Image) → count ≡ 0 → IsRun first count blocks r
none_yet first count blocks r none k low = absurd (omega arith)

-- the error that is handed on came from here
pub handed-on : {S T E : Type 0} (here : Result S E) (result : Result T E) (e d : E) → here ≡ Err e → IsErrAnd result (λ f. f ≡ e) → result ≡ Err d → here ≡ Err d
handed-on here result e d was is same = let p = err_from_is_err_and result is in let first = p.1 in let second = p.2 in cc
