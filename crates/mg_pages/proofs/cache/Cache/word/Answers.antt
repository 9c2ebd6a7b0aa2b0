use Rattle.{mg_model.specs.Bytes.number_at, mg_pages.proofs.{Looked.look-promoted, Showing.{kept-found, promoted-shown}}}
use Rattle.{mg_pages.{proofs.cache.Cache.word.Goals.{in-Some, in-None}, specs.Kept.{kept_at, shown}}, std.proofs.Common.{◌≡◌, ◌*◌, ◌∙◌, IsSomeAnd}}
use Rattle.std.proofs.Common.{Some, ap, nat_eq, option_copied, subst, sym}
use Rattle.mg_pages.proofs.cache.Cache.word.Goals as goal

pub returns-clause-same : goal.returns-clause-same
returns-clause-same c i =
    let moved =
    ap (λ l. kept_at (shown (λ b. b.value) l.entries) i) c.get.follows.holds-at-none
    ∙ ap (λ es. kept_at es i) (sym (promoted-shown (λ b. b.value) (nat_eq c.args.block) c.self.inside.blocks.entries))
    ∙ look-promoted (shown (λ b. b.value) c.self.inside.blocks.entries) c.args.block i
    ∙ ap (λ es. kept_at es i) c.self.view_is in
    elim c.match-get.branch [
      | in-Some w ↦ rw w.self-inside-is moved
      | in-None w ↦ rw w.self-inside-is moved
    ]

pub returns-clause-word : goal.returns-clause-word
returns-clause-word c =
    elim c.match-get.branch [
      | in-Some w ↦
          let found = sym (ap option_copied w.in-Some.is) ∙ c.get.ensures.value in
          let kept =
          ap (λ es. kept_at es c.args.block) (sym c.self.view_is) ∙ kept-found (λ b. b.value) c.self.inside.blocks.entries c.args.block w.in-Some.bytes.now found
          ∙ ap (λ bytes. Some bytes) (sym w.deref.ensures) in
          rw w.result-is (subst (λ o. IsSomeAnd o (λ bytes. w.word_at.result ≡ number_at bytes (8 * c.args.index))) (sym kept) w.word_at.ensures)
      | in-None w ↦ rw w.result-is tt
    ]
