-- What a stop leaves of calls that only read, and of more calls after them, when nothing was pending.
use Rattle.mg_disk.specs.{Disk.Image, Runs.{leaves_quiet, leaves_then, leaves_yet, only_image}, Stops.{Leaves, NothingPending, WritesNothing}}
use Rattle.{mg_disk.specs.declared.disk.Disk.Ghosts, std.{proofs.Common.{sym, subst, ◌∙◌}, specs.Option.ForSome}}

module _ {D : Type 0} (facts : Ghosts D) (old mid : D) (R : Image → Image → Type 0) (itself : (a : Image) → R a a) (reads : WritesNothing facts old mid) (pending : NothingPending facts old) where
  pub of_reads : ForSome (facts.seen old) (λ a. Leaves facts old mid (R a))
  of_reads a told =
      leaves_quiet facts old old mid (R a)
      (leaves_yet facts old (R a) reads.stops.begins (λ c left. subst (R a) (sym (only_image facts old a c (record { told = told; settled = pending }) left)) (itself a))) reads.stops

  pub after_reads : (new : D) → ForSome (facts.seen mid) (λ a. Leaves facts mid new (R a)) → ForSome (facts.seen old) (λ a. Leaves facts old new (R a))
  after_reads new then a told = leaves_then facts old mid new (R a) (R a) (of_reads a told) (then a (reads.same ∙ told)) (λ c is. is)
