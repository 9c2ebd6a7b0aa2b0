-- Facts of results.
use Rattle.std.specs.Prelude.{IfErr, Result, Ok, Err, OnOk}

pub on_ok_both : {T E P Q R : Type 0} (r : Result T E) → (P → Q → R) → OnOk r P → OnOk r Q → OnOk r R
on_ok_both (Ok x) f p q = f p q
on_ok_both (Err e) f p q = tt

pub if_err_both : {T E : Type 0} (r : Result T E) (P Q R : E → Type 0) → ((e : E) → P e → Q e → R e) → IfErr r P → IfErr r Q → IfErr r R
if_err_both (Ok x) P Q R f p q = tt
if_err_both (Err e) P Q R f p q = f e p q
