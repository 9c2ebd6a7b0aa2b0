use Rattle.mg_volume.proofs.thread_block.stage_none.Goals as goal

pub returns : goal.returns
returns c = record {
  bytes = c.thread_block.result;
  read = c.thread_block.ensures.read_back;
  staged = record { coming = c.stage.ensures.coming; table = c.stage.ensures.table; shape = c.stage.ensures.shape; staged = c.stage.ensures.staged; here = c.stage.ensures.here; words = c.stage.ensures.words; spelled = c.stage.ensures.spelled };
}
