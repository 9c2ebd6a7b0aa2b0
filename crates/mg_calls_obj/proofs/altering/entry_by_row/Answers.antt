use Rattle.mg_calls_obj.{proofs.Rows.{change_gives, entry-is, entry_moves, may_change, staged-is}, specs.Altering.{is_crowded, is_outside}}
use Rattle.{mg_model.specs.{ObjectCalls.with_entry, State.ObjectRow, declared.replies.Reply.TheVariants.Value}, mg_volume.specs.Meaning.now_of}
use Rattle.{mg_volume.specs.{Meaning.objects_in, RunLemmas.{call_made, call_refused}}, std.{proofs.Common.{refl, sym, ◌∙◌, rules}, specs.Prelude.◌≡◌}}
use Rattle.std.specs.Prelude.{◌+◌, true, false}
use Rattle.mg_calls_obj.proofs.altering.entry_by_row.Goals as goal

pub change-requires-clause-change : goal.change-requires-clause-change
change-requires-clause-change c =
    let object : ObjectRow = c.args.object in
    let new : ObjectRow = c.with_entry-row.result in
    let moved = entry_moves object new c.address_at-address.result c.with_entry-row.ensures in
    may_change (objects_in c.args.volume.now) (objects_in c.args.volume.now) object new refl c.requires.held moved.0 moved.1

pub returns-then-is_outside : goal.returns-then-is_outside
returns-then-is_outside c =
    call_refused _ _ _ _ (λ image t a spelled formed named may.
    let object : ObjectRow = c.args.object in
    let address = object.base + c.args.off in
    entry-is (now_of c.args.volume.now image) t a object named may c.args.off address true (is_crowded object address) refl (sym c.is_outside.ensures ∙ c.if-is_outside.true) refl)

pub returns-then-is_crowded : goal.returns-then-is_crowded
returns-then-is_crowded c =
    call_refused _ _ _ _ (λ image t a spelled formed named may.
    let inside : is_outside c.args.object c.args.off ≡ false = sym c.is_outside.ensures ∙ c.if-is_outside.false in
    let crowded : is_crowded c.args.object c.address_at-address.result ≡ true = sym c.is_crowded.ensures ∙ c.if-is_crowded.true in
    entry-is (now_of c.args.volume.now image) t a c.args.object named may c.args.off c.address_at-address.result false true c.address_at-address.ensures.value inside crowded)

pub returns : goal.returns
returns c =
    call_made _ _ _ _ _ (λ no. no) tt (λ image t a spelled formed named may.
    let state = now_of c.args.volume.now image in
    let object : ObjectRow = c.args.object in
    let new : ObjectRow = c.with_entry-row.result in
    let address = c.address_at-address.result in
    let inside : is_outside object c.args.off ≡ false = sym c.is_outside.ensures ∙ c.if-is_outside.false in
    let room : is_crowded object address ≡ false = sym c.is_crowded.ensures ∙ c.if-is_crowded.false in
    let change : ObjectRow → ObjectRow = λ r. with_entry r address in
    let base : new.base ≡ object.base = (entry_moves object new address c.with_entry-row.ensures).0 in
    let rows = objects_in c.args.volume.now in
    let now = c.change.ensures.now change (change_gives rows rows object new refl c.requires.held base change (sym c.with_entry-row.ensures)) image in
    entry-is state t a object named may c.args.off address false false c.address_at-address.ensures.value inside room ∙ staged-is state (now_of c.change.new.self image) object new change (Value address) base now) (search rules)
