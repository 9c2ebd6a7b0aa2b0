use Rattle.{mg_model.specs.declared.accounts.AccRow.AccRow, mg_rules.specs.GapLemmas.{account-next, gap-there}, std.proofs.Common.{rules, ◌≡◌, ◌+◌}}
use Rattle.std.{proofs.Common.{ℕ, length, ◌∙◌, arith, length-append, ◌∷◌, [], ap}, specs.Prelude.slice_index_or}
use Rattle.mg_check.proofs.accounts.without_places.Goals as goal

pub returns-then-place-len-clause-damaged : goal.returns-then-place-len-clause-damaged
returns-then-place-len-clause-damaged c is = search (rules, gap-there)

pub loop-place-preserved : goal.loop-place-preserved
loop-place-preserved c =
    let rows = c.args.rows.now in
    let accounts = c.loop-place.accounts.items in
    let i = c.loop-place.place-index in
    let d : ℕ × AccRow = (0, record { password = 0; balance = 0; owed = 0 }) in
    let count : c.len.result ≡ length accounts = search rules in
    let more = c.in_ok-add.ensures.more in
    record {
      same = account-next rows accounts c.add.new.list.items i d c.loop-place-test.true c.loop-place.invariant.same (c.if-place-len.false ∙ count) more;
      long = ap length more ∙ length-append accounts ((slice_index_or rows i d).1 ∷ []) ∙ ap (λ n. n + 1) c.loop-place.invariant.long;
      room = let before = c.loop-place.invariant.room in let kept = c.add.ensures.keeps_capacity in omega arith;
    }
