use Rattle.{mg_model.specs.Spelling.globals_read, std.proofs.Common.{ap, sym, ◌∙◌}}
use Rattle.mg_check.proofs.tables.read_counters.Goals as goal

pub returns-in-Some-clause-told : goal.returns-in-Some-clause-told
returns-in-Some-clause-told g c r told = ap globals_read (sym (c.in-Ok.ensures.block r told)) ∙ sym c.read_globals.ensures ∙ c.in-Some.is

pub returns-in-None-clause-damaged : goal.returns-in-None-clause-damaged
returns-in-None-clause-damaged g c is r told = record { none = ap globals_read (sym (c.in-Ok.ensures.block r told)) ∙ sym c.read_globals.ensures ∙ c.in-None.is }
