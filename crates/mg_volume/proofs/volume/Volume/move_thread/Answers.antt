use Rattle.{mg_model.specs.{Domains.with_thread, State.{Thread, ThreadRow}}, mg_volume.specs.{Held.VolumeHeld, Meaning.{now_of, threads_in}}}
use Rattle.{mg_volume.specs.Standing.stands_at, std.proofs.Common.{List, ◌≡◌, ◌==◌, ℕ, find, refl, subst, IfSome}}
use Rattle.mg_volume.proofs.volume.Volume.move_thread.Goals as goal

pub returns-then-not-move_staged-clause-now : goal.returns-then-not-move_staged-clause-now
returns-then-not-move_staged-clause-now c =
    subst
    (λ (v : VolumeHeld). (change : ThreadRow → ThreadRow) → IfSome (find (λ (thread : Thread). thread.number == c.args.number) (threads_in v)) (λ thread. change thread.row ≡ stands_at c.args.pc c.args.state c.args.regs.now thread.row)
    → (image : List (List ℕ)) → now_of c.move_whole.new.self image ≡ with_thread (now_of v image) c.args.number change)
    (c.if-not-move_staged.ensures.not_staged refl) c.move_whole.ensures.now
