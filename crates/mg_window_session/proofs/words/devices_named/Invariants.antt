use Rattle.{mg_io.specs.Arguments.arguments, mg_window_session.specs.Commands.devices_from, std.proofs.Common.{drop, ◌≡◌, ◌≤◌, [], length}}
use Rattle.mg_window_session.proofs.words.devices_named.Given as goal

abbrev pub invariant-loop-word : goal.invariant-loop-word
invariant-loop-word l = (length l.asked.items ≤ l.word-index) × (length l.words ≤ 16) × (devices_from l.asked.items (arguments (drop l.word-index l.words)) ≡ devices_from [] (arguments l.words))
