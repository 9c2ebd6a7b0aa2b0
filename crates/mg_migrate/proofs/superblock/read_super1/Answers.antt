use Rattle.{mg_migrate.proofs.SuperBlocks.{super1-bad, super1-is, super1-new, super1-old}, mg_model.specs.{Bytes.{bytes_at, number_at}, Layout.magic}}
use Rattle.{mg_model.specs.Words.same_bytes, std.proofs.{Common.{◌≡◌, sym, ◌∙◌, arith}, lemmas.Bool.not-false}}
use Rattle.mg_migrate.proofs.superblock.read_super1.Goals as goal

pub returns-then-version : goal.returns-then-version
returns-then-version c =
    let word : c.number_at-version.result ≡ number_at c.args.block.now 8 = c.number_at-version.ensures in
    super1-old c.args.block.now (not-false (same_bytes magic (bytes_at c.args.block.now 0 8)) (sym c.ne.ensures ∙ c.if-ne.false)) (omega arith)

pub returns-then-version-2 : goal.returns-then-version-2
returns-then-version-2 c =
    let word : c.number_at-version.result ≡ number_at c.args.block.now 8 = c.number_at-version.ensures in
    super1-new c.args.block.now (not-false (same_bytes magic (bytes_at c.args.block.now 0 8)) (sym c.ne.ensures ∙ c.if-ne.false)) (omega arith)

pub settings_in-requires : goal.settings_in-requires
settings_in-requires c = let word : c.number_at-version.result ≡ number_at c.args.block.now 8 = c.number_at-version.ensures in omega arith

pub returns-in-Some : goal.returns-in-Some
returns-in-Some c =
    let word : c.number_at-version.result ≡ number_at c.args.block.now 8 = c.number_at-version.ensures in
    super1-is c.args.block.now c.in-Some.p (not-false (same_bytes magic (bytes_at c.args.block.now 0 8)) (sym c.ne.ensures ∙ c.if-ne.false)) (omega arith) c.in-Some.ensures

pub returns-in-None : goal.returns-in-None
returns-in-None c =
    let word : c.number_at-version.result ≡ number_at c.args.block.now 8 = c.number_at-version.ensures in
    super1-bad c.args.block.now (not-false (same_bytes magic (bytes_at c.args.block.now 0 8)) (sym c.ne.ensures ∙ c.if-ne.false)) (omega arith) c.in-None.ensures
