use Rattle.{lru.specs.LruCache.promoted, mg_pages.proofs.{Showing.{kept-none, written-shown}, cache.Cache.replace.Goals.{in-Some, in-None}}}
use Rattle.{mg_pages.specs.Kept.{KeepsThis, kept_at, shown}, std.proofs.Common.{◌∙◌, Box, Global, List, ℕ, ap, nat_eq, subst, sym}}
use Rattle.std.{proofs.lemmas.Bool.false≢true, specs.{Map.set_value, Option.option_copied_mut}}
use Rattle.mg_pages.proofs.cache.Cache.replace.Goals as goal

pub returns-clause-put : goal.returns-clause-put
returns-clause-put c is =
    let block = c.args.block in
    let bytes = c.args.bytes.now in
    let was = c.self.inside.blocks.entries in
    elim c.match-get_mut.branch [
      | in-Some w ↦
          let found = sym c.get_mut.ensures.value ∙ ap option_copied_mut w.in-Some.is in
          let box : Box (List ℕ) Global = record { ptr = w.in-Some.kept.now.ptr; alloc = w.in-Some.kept.now.alloc; value = bytes } in
          rw w.self-inside-is (subst (λ es. KeepsThis block bytes es (shown (λ b. b.value) (set_value (nat_eq block) (promoted (nat_eq block) was) box))) c.self.view_is
          (written-shown (λ b. b.value) was block w.in-Some.kept.now box (sym found)))
      | in-None w ↦ absurd (false≢true (sym w.result-is ∙ is))
    ]

pub returns-clause-same : goal.returns-clause-same
returns-clause-same c is =
    elim c.match-get_mut.branch [
      | in-Some w ↦ absurd (false≢true (sym is ∙ w.result-is))
      | in-None w ↦ rw w.self-inside-is c.self.view_is
    ]

pub returns-clause-none : goal.returns-clause-none
returns-clause-none c is =
    elim c.match-get_mut.branch [
      | in-Some w ↦ absurd (false≢true (sym is ∙ w.result-is))
      | in-None w ↦
          ap (λ es. kept_at es c.args.block) (sym c.self.view_is)
          ∙ kept-none (λ b. b.value) c.self.inside.blocks.entries c.args.block (sym (ap option_copied_mut w.in-None.is) ∙ c.get_mut.ensures.value)
    ]
