use Rattle.{mg_model.{proofs.Rows.IsObjectRow-filter, specs.{ObjectCalls.has_password, declared.slots.Pw.Pw}}, std.proofs.Common.{Bool, not, ap, ◌∙◌}}
use Rattle.std.proofs.Common.{filter}
use Rattle.mg_model.proofs.objects.ObjRow.remove_passwords.Goals as goal

pub invariant_of-self : goal.invariant_of-self
invariant_of-self c =
    let stays : Pw → Bool = λ pw. not (has_password c.args.password pw) in
    IsObjectRow-filter _ stays _ c.self.invariant (c.without-self-inside.ensures ∙ ap (λ v. filter stays v) c.as_slice.ensures.value)
