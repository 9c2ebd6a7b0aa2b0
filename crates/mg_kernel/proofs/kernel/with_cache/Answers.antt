use Rattle.{mg_kernel.specs.declared.kernel.Kernel.Kernel, mg_model.specs.declared.seats.Seat.Seat, std.proofs.Common.{ap, List, Option}}
use Rattle.mg_kernel.proofs.kernel.with_cache.Goals as goal

pub returns-in-Ok-clause-kernel : goal.returns-in-Ok-clause-kernel
returns-in-Ok-clause-kernel c = ap (λ (seats : List (Option Seat)). let k : Kernel = record { volume = c.args.volume; cache = seats } in k) c.in-Ok.ensures
