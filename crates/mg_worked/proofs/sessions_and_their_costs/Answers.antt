use Rattle.{mg_model.specs.Print.hex_text, rand_chacha.specs.Block.{block_word, column_round, diagonal_round, double_rounds, quarter_round}}
use Rattle.{rand_core.specs.Steps.u32_at, std.{proofs.Common.refl, specs.Fmt.digits}}
use Rattle.mg_worked.proofs.sessions_and_their_costs.Goals as goal

pub returns : goal.returns
unfolding block_word double_rounds quarter_round column_round diagonal_round u32_at hex_text digits
returns c = record {
  words_of_one_object = record { answered = refl; paid = refl };
  store_between_loads = record { answered = refl; paid = refl };
  info_twice = record { answered = refl; paid = refl };
  refused_between_loads = record { answered = refl; paid = refl };
  turns_of_a_script = record { answered = refl; paid = refl };
  one_seat = record { answered = refl; paid = refl };
  two_seats = record { answered = refl; paid = refl };
}
