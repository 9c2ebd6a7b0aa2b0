use Rattle.mg_rows.proofs.ThreadWords.{pc_put, register_put, state_put}
use Rattle.mg_rows.proofs.laws.threads_change_by_words.Goals as goal

pub returns-clause-pc : goal.returns-clause-pc
returns-clause-pc c = pc_put

pub returns-clause-state : goal.returns-clause-state
returns-clause-state c = state_put

pub returns-clause-register : goal.returns-clause-register
returns-clause-register c = register_put
