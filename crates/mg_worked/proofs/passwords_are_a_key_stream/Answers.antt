use Rattle.{rand_chacha.specs.Block.{block_word, column_round, diagonal_round, double_rounds, quarter_round}, rand_core.specs.Steps.u32_at}
use Rattle.std.proofs.Common.{refl}
use Rattle.mg_worked.proofs.passwords_are_a_key_stream.Goals as goal

pub returns : goal.returns
unfolding block_word double_rounds quarter_round column_round diagonal_round u32_at
returns c = refl
