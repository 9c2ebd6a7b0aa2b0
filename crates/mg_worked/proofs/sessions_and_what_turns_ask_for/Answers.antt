use Rattle.{mg_model.specs.Print.hex_text, rand_chacha.specs.Block.{block_word, column_round, diagonal_round, double_rounds, quarter_round}}
use Rattle.{rand_core.specs.Steps.u32_at, std.{proofs.Common.refl, specs.Fmt.digits}}
use Rattle.mg_worked.proofs.sessions_and_what_turns_ask_for.Goals as goal

pub returns : goal.returns
unfolding block_word double_rounds quarter_round column_round diagonal_round u32_at hex_text digits
returns c = record {
  turns_that_enter = record { answered = refl; paid = refl };
  turns_that_fault = record { answered = refl; paid = refl };
  turns_that_store = record { answered = refl; paid = refl };
  turns_that_call = record { answered = refl; paid = refl };
  one_seat_in_a_turn = record { answered = refl; paid = refl };
}
