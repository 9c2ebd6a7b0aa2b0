use Rattle.{mg_journal.proofs.Waits.{staged-again, staged-last}, std.proofs.Common.{◌++◌, ◌∙◌, List, drop, length, sym, ℕ}}
use Rattle.mg_journal.proofs.writes.Writes.stage_over.Goals as goal

pub returns-in-Some : goal.returns-in-Some
returns-in-Some c =
    let first = c.args.first.now in
    c.put_first_into.ensures
    ∙ staged-again c.args.self.now c.args.block c.in-Some.place (sym c.place_of.ensures.place ∙ c.in-Some.is) c.args.rest.now (λ (rest : List ℕ). first ++ drop (length first) rest) c.replace.new.self c.replace.ensures

pub returns-in-None : goal.returns-in-None
returns-in-None c =
    let first = c.args.first.now in
    c.put_first_into-in-None.ensures
    ∙ staged-last c.args.self.now c.args.block c.args.rest.now (λ (rest : List ℕ). first ++ drop (length first) rest) c.add.new.self c.len-last.result (sym c.place_of.ensures.place ∙ c.in-None.is) c.add.ensures c.len-last.ensures.count
