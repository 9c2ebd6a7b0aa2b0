use Rattle.{mg_calls_obj.proofs.Rights.{Tries, of}, mg_model.specs.{Access.allowed, Kept.Searches, State.Thread, declared.rights.Right.Right}}
use Rattle.{mg_model.specs.declared.rights.Right.TheVariants.{R, W, X, D, P, O}, mg_vcache.specs.Seats.is_kept, mg_volume.specs.Calls.Reads}
use Rattle.{mg_volume.specs.Meaning.{now_of, threads_in}, std.{proofs.Common.{◌≡◌, ◌==◌, ◌-◌, [], ◌∷◌, List, drop, None, take}, specs.List.list_any}}
use Rattle.std.specs.{Option.ForSome, Prelude.{find, map}}
use Rattle.mg_calls_obj.proofs.informing.validated_info.Given as goal

abbrev pub rights : List Right
rights = R ∷ W ∷ X ∷ D ∷ P ∷ O ∷ []

-- no right before this one is given, and their searches kept nothing
abbrev pub invariant-loop-right : goal.invariant-loop-right
invariant-loop-right g l = record {
  reads : Reads g.D.Disk l.fn.volume l.volume l.fn.disk l.disk l.fn.steps l.steps;
  same : l.cache ≡ l.fn.cache;
  nobody : find (λ (thread : Thread). thread.number == l.fn.thread) (threads_in l.fn.volume) ≡ None → l.steps ≡ l.fn.steps;
  rest : ForSome (g.D.Disk.seen l.fn.disk) (λ image.
      list_any (λ right. allowed (now_of l.fn.volume image) l.fn.thread l.fn.address right) rights ≡ list_any (λ right. allowed (now_of l.fn.volume image) l.fn.thread l.fn.address right) (drop l.right-index rights));
  tries : ForSome (g.D.Disk.seen l.fn.disk) (λ image. Tries (now_of l.fn.volume image) l.fn.thread l.fn.address rights l.right-index);
  searches : ForSome (g.D.Disk.seen l.fn.disk) (λ image.
      Searches (now_of l.fn.volume image) (λ key. is_kept l.fn.cache key) (map (of (now_of l.fn.volume image) l.fn.thread l.fn.address) (take l.right-index rights)) (λ key. is_kept l.fn.cache key) (l.steps - l.fn.steps));
}
