use Rattle.{mg_journal.{proofs.Waits.{staged-there, waits-there}, specs.Staged.{bytes_of, staged}}, mg_model.specs.Abbreviations.word_bytes}
use Rattle.std.{proofs.Common.{◌≡◌, ◌+◌, ◌∙◌, MatchOption, subst, sym}, specs.List.splice}
use Rattle.mg_journal.proofs.writes.Writes.put.Goals as goal

pub returns-in-Some-clause-put : goal.returns-in-Some-clause-put
returns-in-Some-clause-put c =
    let old = c.args.self.now in
    let at = c.args.at in
    let is = sym c.place_of.ensures.place ∙ c.in-Some.is in
    subst (λ o. MatchOption o (c.put_into.new.self ≡ old) (λ bytes. c.put_into.new.self ≡ staged old c.args.block (splice bytes at (at + 8) (word_bytes c.args.word))))
    (sym (waits-there old c.args.block c.in-Some.place is))
    (c.put_into.ensures.put ∙ staged-there old c.args.block c.in-Some.place is (splice (bytes_of old c.in-Some.place) at (at + 8) (word_bytes c.args.word)))
