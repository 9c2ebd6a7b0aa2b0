-- What a call knows if it is not refused: each condition of its row fails.
use Rattle.{mg_model.specs.declared.replies.Refusal.Refusal, std.proofs.Common.{◌≡◌, Bool, true, false, cond, Option, Some, None, refl}}

-- if no refusal holds, the first does not, nor any later one
pub unrefused : (holds : Bool) (word : Refusal) (more : Option Refusal) → cond holds (Some word) more ≡ None → (holds ≡ false) × (more ≡ None)
unrefused true word more is = absurd (cc)
unrefused false word more is = (refl, is)
