use Rattle.{mg_access.specs.Searching.{IsOpenedBy, slot_opens}, mg_model.specs.{Access.{domain_of, last_slots}, State.{CallFrame, Thread}}}
use Rattle.{mg_volume.specs.{Meaning.now_of, RunLemmas.told_thread}, std.proofs.Common.{◌≡◌, [], false, None, Option, Some, sym, ap, subst, ◌∙◌}}
use Rattle.std.{proofs.lemmas.Result.IfOk-weaker, specs.{List.list_any, Option.option_map_or, Prelude.MatchOption}}
use Rattle.mg_access.proofs.lists.list_of.Goals as goal

pub returns-in-Some-clause-via : goal.returns-in-Some-clause-via
returns-in-Some-clause-via g c =
    let (thread, lives, is) = c.in-Some.ensures.found in
    IfOk-weaker c.list_among.result _ _
    (λ via under image told.
    let state = now_of c.args.volume.now image in
    let slots : c.as_slice.result.now ≡ domain_of state c.args.thread =
    c.as_slice.ensures.value ∙ ap (λ (frame : CallFrame). frame.slots) c.present.view_is ∙ sym (ap (λ (o : Option CallFrame). option_map_or (λ (frame : CallFrame). frame.slots) o []) is) ∙ ap (λ (o : Option Thread). option_map_or (λ (x : Thread). last_slots x.row.frames) o []) (sym (told_thread c.args.volume.now image c.args.thread (Some thread) lives)) in
    subst (λ slots. MatchOption via (list_any (λ slot. slot_opens state c.args.sought.now slot) slots ≡ false) (λ via. IsOpenedBy state c.args.sought.now slots via)) slots (under image told))
    c.list_among.ensures.via

pub returns-in-None-clause-via : goal.returns-in-None-clause-via
returns-in-None-clause-via g c image told =
    let state = now_of c.args.volume.now image in
    ap (λ (o : Option Thread). list_any (λ slot. slot_opens state c.args.sought.now slot) (option_map_or (λ (x : Thread). last_slots x.row.frames) o [])) (told_thread c.args.volume.now image c.args.thread None c.in-None.ensures.found)
