-- The names that the proofs of this crate cite, passed on from one place.
pub use Rattle.mg_model.specs.Print.{hex_digit, hex_text, spaced}
pub use Rattle.mg_model.specs.Ranges.{IsCallFrame, IsCounters, IsExtension, IsObjectRow, IsSlot, IsThreadRow, IsWord}
pub use Rattle.mg_model.specs.State.{CallFrame, Counters, Object, ObjectRow, State, Thread, ThreadRow, state_row}
pub use Rattle.mg_model.specs.WellFormed.{IsBefore, IsObject, IsSettings, IsWellFormed}
pub use Rattle.mg_show.specs.StateText.{account_text, accounts_text, counters_text, entry_text, extension_text, frame_text, line, object_line, object_text, pages_paid, password_text, registers_text, rights_text, rows_in, seed_text, settings_text, slot_text, state_text, step_text, thread_head, thread_text, until_text, words_text}
pub use Rattle.mg_text.specs.NumberLemmas.{Digits, High, decimal-digits, hex-high, high-append, number_of-hex}
pub use Rattle.std.proofs.Common.{All, Bool, List, None, Option, Some, [], ap, append_assoc, arith, cond, drop, eqb, false, get_or, leb, length, map, refl, subst, suc, sym, true, zero, ℕ, ◌%◌, ◌*◌, ◌++◌, ◌+◌, ◌/◌, ◌<◌, ◌^◌, ◌∙◌, ◌∷◌, ◌≡◌, ◌≤◌}
pub use Rattle.std.proofs.lemmas.Bool.{agree_below_at, and_parts, cond_both, eqb-true, leb-true}
pub use Rattle.std.proofs.lemmas.Bool.Decides.{nat_tests}
pub use Rattle.std.proofs.lemmas.Fmt.{decimal_injective}
pub use Rattle.std.proofs.lemmas.List.{append_cancel_left}
pub use Rattle.std.proofs.lemmas.List.Elements.{All-from_recursion, All-head, All-map, All-nil, All-tail, All-weaker}
pub use Rattle.std.specs.Fmt.{decimal, digit_glyph, digits_onto}
unfoldable pub use Rattle.std.specs.Fmt.{digits}
pub use Rattle.std.specs.Prelude.{AllPairs, IsTrue, codes, filter, flat_map, if◌then◌else◌, ◌&&◌, ◌==◌}
