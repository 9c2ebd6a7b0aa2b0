-- Lemmas on results and options, which crates above cite too.
use Rattle.std.{proofs.Common.refl, specs.Prelude.{◌≡◌, Result, Ok, Err, Option, Some, None, IsSomeAnd, OnOk}}

pub on_ok_both : {T E : Type 0} (P Q : Type 0) (r : Result T E) → OnOk r P → OnOk r Q → OnOk r (P × Q)
on_ok_both P Q (Ok x) p q = (p, q)
on_ok_both P Q (Err e) p q = tt

-- the value that an option has
pub some_of : {T : Type 0} (P : T → Type 0) (told : Option T) → IsSomeAnd told P → (x : T) × (told ≡ Some x) × P x
some_of P None is = absurd is
some_of P (Some x) is = (x, refl, is)
