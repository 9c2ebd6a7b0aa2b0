use Rattle.{mg_kernel.specs.Meaning.now_kept, std.proofs.Common.refl}
use Rattle.mg_window_session.proofs.device_kernel.DeviceKernelMachine.keep_rules.Goals as goal

pub returns : goal.returns
returns g c = record {
  settled = c.requires.stands.settled;
  spelled = λ none image seen. now_kept c.args.self.now.kernel image (c.requires.stands.fits image seen) none;
  none = λ image. refl;
  begins = λ image n. refl;
}
