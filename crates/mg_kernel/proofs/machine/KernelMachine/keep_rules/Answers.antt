use Rattle.{mg_kernel.specs.Meaning.{keeps_key, now_kept}, std.proofs.Common.{arith, refl}}
use Rattle.mg_kernel.proofs.machine.KernelMachine.keep_rules.Goals as goal

pub returns : goal.returns
returns g c = record {
  settled = c.requires.stands.settled;
  spelled = λ none image seen. now_kept c.args.self.now image (c.requires.stands.fits image seen) none;
  none = λ image. refl;
  begins = λ image n. record { warm = c.warm_keys_are_kept.ensures.begins (λ key. keeps_key c.args.self.now key); spent = omega arith; counts = refl };
}
