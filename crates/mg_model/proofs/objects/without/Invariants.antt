use Rattle.{mg_model.specs.ObjectCalls.has_password, std.proofs.Common.{◌≡◌, ◌≤◌, length, not, filter, take}}
use Rattle.mg_model.proofs.objects.without.Given as goal

abbrev pub invariant-loop-pw : goal.invariant-loop-pw
invariant-loop-pw l = (l.left ≡ filter (λ pw. not (has_password l.password pw)) (take l.pw-index l.passwords)) × (length l.left ≤ l.pw-index)
