use Rattle.{mg_migrate.proofs.FreshBlocks1.{fresh_before, fresh_behind, fresh_objects, fresh_super}, std.proofs.Common.{sym, ◌∙◌}}
use Rattle.mg_migrate.proofs.fresh.fresh_block1.Goals as goal

pub returns-then-i-eq-SUPER_BLOCK : goal.returns-then-i-eq-SUPER_BLOCK
returns-then-i-eq-SUPER_BLOCK c = c.write_super1.ensures ∙ fresh_super c.args.params.now c.args.i c.if-i-eq-SUPER_BLOCK.true

pub returns-then-i-eq-FIRST_OBJECT_BLOCK : goal.returns-then-i-eq-FIRST_OBJECT_BLOCK
returns-then-i-eq-FIRST_OBJECT_BLOCK c = c.root_row.ensures ∙ fresh_objects c.args.params.now c.args.i c.if-i-eq-FIRST_OBJECT_BLOCK.true

pub returns-then-i-lt-TABLE1_BLOCK : goal.returns-then-i-lt-TABLE1_BLOCK
returns-then-i-lt-TABLE1_BLOCK c =
    c.fresh_block.ensures ∙ sym (fresh_before c.args.params.now c.args.i c.if-i-eq-SUPER_BLOCK.false c.if-i-eq-FIRST_OBJECT_BLOCK.false c.if-i-lt-TABLE1_BLOCK.true)

pub returns-else-i-lt-TABLE1_BLOCK : goal.returns-else-i-lt-TABLE1_BLOCK
returns-else-i-lt-TABLE1_BLOCK c =
    c.fresh_block-else-i-lt-TABLE1_BLOCK.ensures ∙ sym (fresh_behind c.args.params.now c.args.i c.if-i-eq-SUPER_BLOCK.false c.if-i-eq-FIRST_OBJECT_BLOCK.false c.if-i-lt-TABLE1_BLOCK.false)
