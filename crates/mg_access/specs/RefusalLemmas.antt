-- Lemmas on the refusals of a call that begins with the access of a word: what follows of the tests after it.
use Rattle.std.{proofs.Common.refl, specs.Prelude.{◌≡◌, ◌∷◌, [], Bool, true, false, List, Some, None}}
use Rattle.mg_model.specs.{Refused.first_refusal, declared.replies.Refusal.{Refusal, TheVariants.{Align, Denied}}}

-- when neither of its tests holds, the later ones decide
pub access_passed : (v w : Bool) (more : List (Bool × Refusal)) → first_refusal ((v, Align) ∷ (w, Denied) ∷ []) ≡ None → first_refusal ((v, Align) ∷ (w, Denied) ∷ more) ≡ first_refusal more
access_passed true w more none = cc
access_passed false true more none = cc
access_passed false false more none = refl

-- and if one does, they do not count
pub access_stopped : (v w : Bool) (word : Refusal) (more : List (Bool × Refusal)) → first_refusal ((v, Align) ∷ (w, Denied) ∷ []) ≡ Some word → first_refusal ((v, Align) ∷ (w, Denied) ∷ more) ≡ Some word
access_stopped true w word more some = some
access_stopped false true word more some = some
access_stopped false false word more some = cc
