use Rattle.{mg_model.specs.Limits.credit_limit, mg_show.proofs.RowsKept.{apart_kept, credits_kept, distinct_kept}, std.proofs.Common.{subst, sym}}
use Rattle.std.proofs.Common.{◌≤◌, rules}
use Rattle.mg_show.proofs.held.shown_of.Goals as goal

pub of-requires-2-clause-credits : goal.of-requires-2-clause-credits
of-requires-2-clause-credits c =
    let few = c.keep_rules.ensures.at_most_2_62_credits in
    subst (λ n. n ≤ credit_limit) (sym (credits_kept c.args.rows c.requires.kept)) few

pub unreachable-requires-in_default-2 : goal.unreachable-requires-in_default-2
unreachable-requires-in_default-2 c = let apart = apart_kept c.args.rows c.requires.kept in search rules

pub invariant_of-result : goal.invariant_of-result
invariant_of-result c = let distinct = distinct_kept c.args.rows c.requires.kept in search rules
