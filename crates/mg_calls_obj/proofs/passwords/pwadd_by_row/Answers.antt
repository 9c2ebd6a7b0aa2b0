use Rattle.{mg_calls_obj.proofs.Rows.{change_gives, changed, pwadd-is, staged-is, with_password}, mg_model.specs.Limits.{draw_limit, never}}
use Rattle.mg_model.specs.{Limits.password_limit, ObjectCalls.{all_drawn, drawn, is_past}, State.{Counters, ObjectRow}}
use Rattle.{mg_model.specs.declared.replies.Reply.TheVariants.Value, mg_volume.specs.{Meaning.{now_of, objects_in}, RunLemmas.call_made}}
use Rattle.{mg_volume.specs.{RunLemmas.call_refused, StateLemmas.now_counters}, std.{proofs.Common.{refl, sym, ap, ◌∙◌, rules}, specs.Prelude.◌≡◌}}
use Rattle.std.specs.Prelude.{◌||◌, nat_le, true, false, length, unwrap_or}
use Rattle.mg_calls_obj.proofs.passwords.pwadd_by_row.Goals as goal

pub returns-then-is_past : goal.returns-then-is_past
returns-then-is_past c =
    call_refused _ _ _ _ (λ image t a spelled formed named may.
    let state = now_of c.args.volume.now image in
    let object : ObjectRow = c.args.object in
    let until = c.args.until in
    let counters = now_counters c.args.volume.now image ∙ sym c.globals-globals.ensures in
    let past : is_past state.counters.period until ≡ true = ap (λ (k : Counters). is_past k.period until) counters ∙ ap (λ p. is_past p until) (sym c.period.ensures) ∙ sym c.is_past.ensures ∙ c.if-is_past.true in
    pwadd-is state t a object named may c.args.rights until true (nat_le password_limit (length object.passwords) || all_drawn state) past refl)

pub returns-then-is_full : goal.returns-then-is_full
returns-then-is_full c =
    call_refused _ _ _ _ (λ image t a spelled formed named may.
    let state = now_of c.args.volume.now image in
    let object : ObjectRow = c.args.object in
    let until = c.args.until in
    let counters = now_counters c.args.volume.now image ∙ sym c.globals-globals.ensures in
    let past : is_past state.counters.period until ≡ false = ap (λ (k : Counters). is_past k.period until) counters ∙ ap (λ p. is_past p until) (sym c.period.ensures) ∙ sym c.is_past.ensures ∙ c.if-is_past.false in
    let full : (nat_le password_limit (length object.passwords) || all_drawn state) ≡ true =
    ap (λ (k : Counters). nat_le password_limit (length object.passwords) || nat_le draw_limit k.draws) counters ∙ sym c.is_full.ensures ∙ c.if-is_full.true in
    pwadd-is state t a object named may c.args.rights until false true past full)

pub returns : goal.returns
returns c =
    call_made _ _ _ _ _ (λ no. no) tt (λ image t a spelled formed named may.
    let v = c.args.volume.now in
    let mid = c.next_password-password.new.self in
    let state = now_of v image in
    let object : ObjectRow = c.args.object in
    let new : ObjectRow = c.with_password-row.result in
    let rights = c.args.rights in
    let until = c.args.until in
    let password = c.next_password-password.result in
    let ends = c.unwrap_or.result in
    let change = with_password password rights ends in
    let counters = now_counters v image ∙ sym c.globals-globals.ensures in
    let past : is_past state.counters.period until ≡ false = ap (λ (k : Counters). is_past k.period until) counters ∙ ap (λ p. is_past p until) (sym c.period.ensures) ∙ sym c.is_past.ensures ∙ c.if-is_past.false in
    let full : (nat_le password_limit (length object.passwords) || all_drawn state) ≡ false =
    ap (λ (k : Counters). nat_le password_limit (length object.passwords) || nat_le draw_limit k.draws) counters ∙ sym c.is_full.ensures ∙ c.if-is_full.false in
    let base : new.base ≡ object.base = ap (λ (r : ObjectRow). r.base) c.with_password-row.ensures in
    let now = c.change.ensures.now change (change_gives (objects_in v) (objects_in mid) object new c.next_password-password.ensures.rows c.requires.held base change (sym c.with_password-row.ensures)) image in
    pwadd-is state t a object named may rights until false false past full
    ∙ ap (λ p. (changed (drawn state) object (with_password p rights (unwrap_or until never)), Value p)) (sym (c.next_password-password.ensures.drawn image))
    ∙ ap (λ u. (changed (drawn state) object (with_password password rights u), Value password)) (sym c.unwrap_or.ensures)
    ∙ ap (λ s. (changed s object change, Value password)) (sym (c.next_password-password.ensures.now image))
    ∙ staged-is (now_of mid image) (now_of c.change.new.self image) object new change (Value password) base now) (search rules)
