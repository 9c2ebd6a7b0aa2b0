use Rattle.{mg_model.specs.Print.hex_text, rand_chacha.specs.Block.{block_word, column_round, diagonal_round, double_rounds, quarter_round}}
use Rattle.{rand_core.specs.Steps.u32_at, std.{proofs.Common.refl, specs.Fmt.digits}}
use Rattle.mg_worked.proofs.sessions_and_what_they_ask_for.Goals as goal

pub returns : goal.returns
unfolding block_word double_rounds quarter_round column_round diagonal_round u32_at hex_text digits
returns c = record {
  calls_on_an_object = record { answered = refl; paid = refl };
  six_rights_in_turn = record { answered = refl; paid = refl };
  sixth_right_is_kept = record { answered = refl; paid = refl };
  delete_then = record { answered = refl; paid = refl };
  thread_then = record { answered = refl; paid = refl };
  pwadd_then = record { answered = refl; paid = refl };
  ext_then = record { answered = refl; paid = refl };
}
