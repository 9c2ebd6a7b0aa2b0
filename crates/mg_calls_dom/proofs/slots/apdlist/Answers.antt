use Rattle.{mg_access.specs.ThreadLemmas.lives-row, mg_model.specs.{Access.{domain_of, last_slots}, State.{CallFrame, Thread}}}
use Rattle.{mg_model.specs.declared.{replies.Reply.TheVariants.Slots, slots.Slot.Slot}, mg_volume.specs.Meaning.{now_of, threads_in}}
use Rattle.{mg_volume.specs.RunLemmas.{stages_none, told_thread}, std.{proofs.Common.{sym, ap, ◌∙◌, rules}, specs.Option.option_map_or}}
use Rattle.std.specs.Prelude.{◌≡◌, ◌-◌, ◌++◌, [], length, map, option_map, replicate, List, Option, Some}
use Rattle.mg_calls_dom.proofs.slots.apdlist.Goals as goal

pub unreachable-requires : goal.unreachable-requires
unreachable-requires c = lives-row c.args.thread (threads_in c.args.volume.now) c.requires.lives (ap (option_map (λ (thread : Thread). thread.row)) c.in-None.ensures.found)

pub returns : goal.returns
returns c = record {
  answers = λ image spelled formed.
      let state = now_of c.args.volume.now image in
      let (thread, lives, is) = c.in-Some.ensures.found in
      let slots : domain_of state c.args.thread ≡ c.as_slice.result.now =
      ap (λ (o : Option Thread). option_map_or (λ (x : Thread). last_slots x.row.frames) o []) (told_thread c.args.volume.now image c.args.thread (Some thread) lives)
      ∙ ap (λ (o : Option CallFrame). option_map_or (λ (frame : CallFrame). frame.slots) o []) is
      ∙ sym (c.as_slice.ensures.value ∙ ap (λ (frame : CallFrame). frame.slots) c.present.view_is) in
      ap (λ (slots : List Slot). (state, Slots (length slots) (map (λ (slot : Slot). slot.base) slots ++ replicate (8 - length slots) 0))) slots ∙ ap (λ reply. (state, reply)) (sym c.listed.ensures);
  stages = stages_none 0 c.args.volume.now;
  refused = search rules;
  slots = search rules;
}
