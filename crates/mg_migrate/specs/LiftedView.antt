-- A volume of version 1 as it is looked at: where its blocks are seen through its journal, and its settings.
use Rattle.{mg_journal.specs.Looked.Placed, mg_model.specs.Settings.Settings}

pub record LiftedView : Type 0 where
  pub placed : Placed
  pub settings : Settings
