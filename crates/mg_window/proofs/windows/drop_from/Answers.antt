use Rattle.std.proofs.{Common.{◌==◌, not, rules, ℕ}, lemmas.Fn.filter_same}
use Rattle.mg_window.proofs.windows.drop_from.Goals as goal

pub returns-clause-others : goal.returns-clause-others
returns-clause-others g c =
    filter_same _ (λ (window : ℕ × _). not (window.0 == c.args.base)) _ (λ x b f' k. search rules) c.args.list.now.items c.retain.new.self.items c.retain.ensures.filtered
