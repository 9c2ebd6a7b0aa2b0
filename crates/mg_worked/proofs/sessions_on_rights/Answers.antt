use Rattle.{mg_model.specs.Print.hex_text, rand_chacha.specs.Block.{block_word, column_round, diagonal_round, double_rounds, quarter_round}}
use Rattle.{rand_core.specs.Steps.u32_at, std.{proofs.Common.refl, specs.Fmt.digits}}
use Rattle.mg_worked.proofs.sessions_on_rights.Goals as goal

pub returns : goal.returns
unfolding block_word double_rounds quarter_round column_round diagonal_round u32_at hex_text digits
returns c = record {
  each_right_is_needed = refl;
  each_right_alone = refl;
  rights_by_their_bits = refl;
  edges_of_an_object = refl;
  all_frames_are_taken = refl;
  slot_needs_its_right = refl;
}
