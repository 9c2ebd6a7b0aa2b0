use Rattle.{mg_disk.specs.{Disk.{Image, At}, Held.LeftIn, Memory.{content_of, left_may}}, std.proofs.Common.{◌≡◌, sym, subst, length}}
use Rattle.std.proofs.lemmas.Result.{IfOk-weaker}
use Rattle.mg_disk.proofs.memory.MemDisk.stopped.Goals as goal

pub returns-clause-may_be_left : goal.returns-clause-may_be_left
returns-clause-may_be_left c =
    let was = c.args.self.now in
    let may : Image → Type 0 = LeftIn was.first.items was.events.items (At (length was.events.items)) in
    IfOk-weaker c.holding.result (λ disk. content_of disk ≡ c.in_ok-left.field-0.items) (λ disk. may (content_of disk))
    (λ disk is. subst may (sym is) (left_may c.args.left was c.in_ok-left.field-0.items c.in_ok-left.ensures.left)) c.holding.ensures.content
