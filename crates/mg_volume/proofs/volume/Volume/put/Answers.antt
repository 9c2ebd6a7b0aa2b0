use Rattle.mg_volume.{proofs.ByBase.{always, put_now}, specs.{Meaning.{now_of, objects_in}, Staging.has_base, StateLemmas.now_rows}}
use Rattle.std.proofs.Common.{◌≡◌, ◌==◌, ◌∙◌, ap, false, find, refl, sym, true}
use Rattle.mg_volume.proofs.volume.Volume.put.Goals as goal

pub returns-then-has-clause-now : goal.returns-then-has-clause-now
returns-then-has-clause-now c image =
    let old = c.args.self.now in
    let row = c.args.row in
    let there : true ≡ has_base row.base (objects_in old) = sym c.if-has.true ∙ c.has.ensures ∙ ap (λ b. has_base b (objects_in old)) c.base.ensures.value in
    put_now (now_of old image) (now_of c.change.new.self image) (objects_in old) row true (now_rows old image) there
    (c.change.ensures.now (λ was. row) (always (find (λ was. was.base == row.base) (objects_in old)) (row ≡ row) refl) image)

pub returns-else-has-clause-now : goal.returns-else-has-clause-now
returns-else-has-clause-now c image =
    let old = c.args.self.now in
    let row = c.args.row in
    let new : false ≡ has_base row.base (objects_in old) = sym c.if-has.false ∙ c.has.ensures ∙ ap (λ b. has_base b (objects_in old)) c.base.ensures.value in
    put_now (now_of old image) (now_of c.insert.new.self image) (objects_in old) row false (now_rows old image) new (c.insert.ensures.now image)
