-- What `info` answers, by what was found.
use Rattle.{mg_access.specs.{ReachedLemmas.reached_at, Searching.allowed_row}, mg_model.specs.{Abbreviations.any_allowed, ObjectCalls.{about, info}}}
use Rattle.mg_model.specs.{ObjectCalls.row_at, Refused.checked, State.{ObjectRow, State}, declared.replies.Refusal.TheVariants.Denied}
use Rattle.{mg_model.specs.declared.{replies.Reply.TheVariants.No, rights.Right.Right}, std.proofs.Common.{ℕ, ◌≡◌, Bool, true, false, not, [], ◌∷◌}}
use Rattle.std.proofs.Common.{Some, ap, ◌∙◌}

module _ (state : State) (t a : ℕ) where
  by_any : (v : Bool) → any_allowed state t a ≡ v → info state t a ≡ checked state ((not v, Denied) ∷ []) (state, about (row_at state a))
  by_any v any = ap (λ b. checked state ((not b, Denied) ∷ []) (state, about (row_at state a))) any

  pub info-denied : any_allowed state t a ≡ false → info state t a ≡ (state, No Denied)
  info-denied none = by_any false none

  pub info-known : (right : Right) (object : ObjectRow) → any_allowed state t a ≡ true → Some object ≡ allowed_row state t a right → info state t a ≡ (state, about object)
  info-known right object any found = by_any true any ∙ ap (λ r. (state, about r)) (reached_at state t a right object found)
