use Rattle.{mg_model.specs.{Abbreviations.slot_words, Bytes.words_bytes}, std.proofs.Common.{◌≡◌, ◌+◌, ◌*◌, ◌++◌, flat_map, length, take}}
use Rattle.mg_rows.proofs.threads.add_slots.Given as goal

-- the slots so far are there
abbrev pub invariant-loop-slot : goal.invariant-loop-slot
invariant-loop-slot g l = record {
  value : l.filling ≡ l.initial.filling ++ words_bytes (flat_map slot_words (take l.slot-index l.slots));
  long : length l.filling ≡ length l.initial.filling + 16 * l.slot-index;
}
