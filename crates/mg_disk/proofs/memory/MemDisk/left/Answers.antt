use Rattle.std.proofs.Common.{Contains, subst, arith}
use Rattle.mg_disk.proofs.memory.MemDisk.left.Goals as goal

pub put_gates-requires : goal.put_gates-requires
put_gates-requires c k inside =
    let was = c.args.self.now in
    let below = was.placed k (subst (λ places. Contains places k) c.deref-in-Gates-2.ensures.value inside) in
    let a = was.content.ok.0 in
    let b = was.synced.ok.0 in
    let n = was.pending.count in
    let m = c.in_ok-content-in-Gates.ensures.len in
    let d = c.deref-in-Gates.ensures.len in
    omega arith
