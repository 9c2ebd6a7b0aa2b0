use Rattle.{mg_model.specs.Replay.written, mg_pages.{proofs.KeptWrites.{kept-written, none-of}, specs.Kept.AreKept}, std.proofs.Common.{rules, ◌≡◌}}
use Rattle.std.proofs.Common.{◌++◌, subst, sym, arith}
use Rattle.mg_pages.proofs.kept.CachedBlocks.take.Goals as goal

pub returns-then-len-gt0-clause-kept : goal.returns-then-len-gt0-clause-kept
returns-then-len-gt0-clause-kept c total r fit long are =
    let i = c.self.inside in
    let writes = c.args.writes.now in
    let swapped : c.swap.new.x ≡ writes = search rules in
    subst (λ ws. AreKept c.args.first (written r writes) (ws ++ c.keep_others.new.cache)) (sym swapped)
    (kept-written c.args.first total r writes c.keep_others.new.cache c.len.ensures.once fit long
    (c.keep_others.ensures r (subst (λ es. AreKept c.args.first r es) (sym c.self.view_is) are)))

pub returns-else-len-gt0-clause-kept : goal.returns-else-len-gt0-clause-kept
returns-else-len-gt0-clause-kept c total r fit long are =
    let none = none-of c.args.writes.now (omega (arith, c.len.ensures.count)) in
    subst (λ ws. AreKept c.args.first (written r ws) c.args.self.now) (sym none) are
