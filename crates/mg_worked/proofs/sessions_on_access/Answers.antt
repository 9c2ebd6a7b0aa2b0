use Rattle.{mg_model.specs.Print.hex_text, rand_chacha.specs.Block.{block_word, column_round, diagonal_round, double_rounds, quarter_round}}
use Rattle.{rand_core.specs.Steps.u32_at, std.{proofs.Common.refl, specs.Fmt.digits}}
use Rattle.mg_worked.proofs.sessions_on_access.Goals as goal

pub returns : goal.returns
unfolding block_word double_rounds quarter_round column_round diagonal_round u32_at hex_text digits
returns c = record {
  first_line = refl;
  creator_has_no_capability = refl;
  stored_capability_reads = refl;
  large_count_is_cut = refl;
  domain_locks_itself_out = refl;
  alignment_first = refl;
  revocation_acts_at_once = refl;
  new_object_reads_zeros = refl;
  lowest_pages_are_taken = refl;
}
