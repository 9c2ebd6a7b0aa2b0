use Rattle.{mg_model.specs.{ObjectCalls.has_password, State.ObjectRow, declared.slots.Pw.Pw}, std.proofs.Common.{ap, refl, sym, ◌∙◌}}
use Rattle.std.{proofs.lemmas.Bool.or_parts, specs.{List.list_any, Prelude.{◌≡◌, ◌∷◌, Bool, false, List, [], cond, filter, not}}}
use Rattle.mg_passwords.proofs.list.remove.Goals as goal

-- when no element passes, all are kept
all_kept : {X : Type 0} (p : X → Bool) (xs : List X) → list_any p xs ≡ false → filter (λ x. not (p x)) xs ≡ xs
all_kept p [] none = refl
all_kept p (x ∷ xs) none =
    let parts = or_parts (p x) (list_any p xs) none in
    ap (λ t. cond (not t) (x ∷ filter (λ x. not (p x)) xs) (filter (λ x. not (p x)) xs)) parts.0 ∙ ap (λ rest. x ∷ rest) (all_kept p xs parts.1)

pub returns-then-not-has_password-clause-list : goal.returns-then-not-has_password-clause-list
returns-then-not-has_password-clause-list c =
    let row : ObjectRow = c.args.row.now in
    let none : list_any (λ pw. has_password c.args.password pw) row.passwords ≡ false = sym c.has_password.ensures ∙ c.if-not-has_password.true in
    ap (λ (passwords : List Pw). record row { passwords = passwords }) (sym (all_kept (λ (pw : Pw). has_password c.args.password pw) row.passwords none))
