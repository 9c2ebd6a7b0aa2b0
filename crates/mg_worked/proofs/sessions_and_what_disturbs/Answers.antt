use Rattle.{mg_model.specs.Print.hex_text, rand_chacha.specs.Block.{block_word, column_round, diagonal_round, double_rounds, quarter_round}}
use Rattle.{rand_core.specs.Steps.u32_at, std.{proofs.Common.refl, specs.Fmt.digits}}
use Rattle.mg_worked.proofs.sessions_and_what_disturbs.Goals as goal

pub returns : goal.returns
unfolding block_word double_rounds quarter_round column_round diagonal_round u32_at hex_text digits
returns c = record {
  calls_that_only_tell = record { answered = refl; paid = refl };
  stores_into_both_pages = record { answered = refl; paid = refl };
  denied_twice = record { answered = refl; paid = refl };
  refused_calls = record { answered = refl; paid = refl };
  domain_and_back = record { answered = refl; paid = refl };
  turns_that_disturb = record { answered = refl; paid = refl };
  turns_that_load = record { answered = refl; paid = refl };
  one_key_twice = record { answered = refl; paid = refl };
}
