-- A result and its status.
use Rattle.{mg_serve.specs.{Sessions.status_of, declared.ended.Ended.Ended}, std.{proofs.Common.refl, specs.Prelude.{◌≡◌, Result, Ok, Err, OnOk}}}
use Rattle.mg_serve.specs.declared.status.Status.TheVariants as status

-- what holds at the status of a good end
pub on_ok_at : {T P : Type 0} (r : Result T Ended) → (status_of r ≡ status.Done → P) → OnOk r P
on_ok_at (Ok x) p = p refl
on_ok_at (Err e) p = tt
