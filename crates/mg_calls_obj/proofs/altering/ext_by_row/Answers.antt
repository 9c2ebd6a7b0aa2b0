use Rattle.{mg_calls_obj.proofs.Rows.{change_gives, ext-is, staged-is}, mg_model.specs.{ObjectCalls.extension_of, State.ObjectRow}}
use Rattle.{mg_model.specs.declared.replies.Reply.TheVariants.Done, mg_volume.specs.{Meaning.{now_of, objects_in}, RunLemmas.call_made}}
use Rattle.std.{proofs.Common.{refl, sym, ap, ◌∙◌, rules}, specs.Prelude.◌≡◌}
use Rattle.mg_calls_obj.proofs.altering.ext_by_row.Goals as goal

pub returns : goal.returns
returns c =
    call_made _ _ _ _ _ (λ no. no) tt (λ image t a spelled formed named may.
    let state = now_of c.args.volume.now image in
    let object : ObjectRow = c.args.object in
    let new : ObjectRow = c.set_ext.new.self in
    let change : ObjectRow → ObjectRow = λ r. record r { extension = extension_of c.args.clist c.args.password } in
    let is : new ≡ change object = c.set_ext.ensures ∙ ap (λ e. record object { extension = e }) c.extension.ensures.slot in
    let base : new.base ≡ object.base = ap (λ (r : ObjectRow). r.base) is in
    let rows = objects_in c.args.volume.now in
    let now = c.change.ensures.now change (change_gives rows rows object new refl c.requires.held base change (sym is)) image in
    ext-is state t a object named may c.args.clist c.args.password ∙ staged-is state (now_of c.change.new.self image) object new change Done base now) (search rules)
