use Rattle.{mg_layout.specs.SuperBlock.IsSuper, mg_mirror_session.proofs.FirstFault.{fault-closed, fault-short, said-spelled}}
use Rattle.mg_model.specs.{Layout.super_block, Replay.block_of, Spelling.{BadSuper, NotSuper, OldSuper, Spells, super_read}, Volume.Damaged}
use Rattle.{mg_model.specs.Volume.{NotVolume, OldVolume}, std.{proofs.Common.{refl, rules, subst}, specs.Prelude.{None, Some}}}
use Rattle.mg_mirror_session.proofs.judging.judge.Goals as goal

pub returns-then-first-lt2 : goal.returns-then-first-lt2
returns-then-first-lt2 c = fault-short c.args.first.now c.if-first-lt2.true

pub returns-then-first : goal.returns-then-first
returns-then-first c = fault-closed c.args.first.now c.if-first.true

pub returns-in-Is : goal.returns-in-Is
returns-in-Is c = said-spelled c.args.first.now (Spells c.in-Is.field-0) None (search rules) (search rules) (subst (λ s. IsSuper s (super_read (block_of c.args.first.now super_block))) c.in-Is.is c.read_super.ensures) refl

pub returns-in-Damaged : goal.returns-in-Damaged
returns-in-Damaged c = said-spelled c.args.first.now BadSuper (Some Damaged) (search rules) (search rules) (subst (λ s. IsSuper s (super_read (block_of c.args.first.now super_block))) c.in-Damaged.is c.read_super.ensures) refl

pub returns-in-Old : goal.returns-in-Old
returns-in-Old c = said-spelled c.args.first.now OldSuper (Some OldVolume) (search rules) (search rules) (subst (λ s. IsSuper s (super_read (block_of c.args.first.now super_block))) c.in-Old.is c.read_super.ensures) refl

pub returns-in-Not : goal.returns-in-Not
returns-in-Not c = said-spelled c.args.first.now NotSuper (Some NotVolume) (search rules) (search rules) (subst (λ s. IsSuper s (super_read (block_of c.args.first.now super_block))) c.in-Not.is c.read_super.ensures) refl
