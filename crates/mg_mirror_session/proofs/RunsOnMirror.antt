-- A run over a mirror: what it keeps of the two disks.
use Rattle.mg_commands.specs.{Headline.{RunKeeps, session_of}, LastLemmas.{disk_ran, done_or_memory, ends_run, put_all, put_prefix, sink_failed}}
use Rattle.{mg_disk.specs.{Disk.{Image, Moment}, Stops.{CountRose, WritesNothing}}, mg_faults.specs.Faults.{CountGoesOn, Rose, is_last, rose_then}}
use Rattle.mg_mirror.specs.{Mirror.{CutOf, LeftSince, moment_of}, Opened.{BothRose, RoseFrom}, declared.mirror.Side.{Side, TheVariants.{Left, Right}}}
use Rattle.mg_mirror_session.proofs.{Opening.{and_true, of_side}, Refusing.of_side_too, Through.{if_some_then, on_volume_then}}
use Rattle.mg_mirror_session.specs.Headline.{PutsSide, IsOpenedFrom, MirrorKeeps, RanOnMirror, last_line, seen_behind, session_over}
use Rattle.{mg_mirror_session.specs.{Judged.first_fault, Mirrored.{Two, mirror}}, mg_model.specs.Print.replies_text, mg_serve.specs.Serving.IsWithin}
use Rattle.{mg_serve.specs.{Sessions.{use_of, input_limit}, declared.status.Status.Status}, std.proofs.Common.{refl, sym, ap, subst, inl, inr}}
use Rattle.std.{proofs.Common.{⊎_elim, arith, zero, suc}, specs.{Option.ForSome, Prelude.{ℕ, ◌≡◌, ◌≢◌, ◌<◌, ◌&&◌, Bool, true, false, IsTrue, List}}}
use Rattle.std.specs.Prelude.{length, Option, Some, None, IfSome}
use Rattle.mg_disk.specs.declared.disk.Disk as disks
use Rattle.mg_io.specs.declared.traits.Sink as sinks
use Rattle.mg_io.specs.declared.traits.Source as sources
use Rattle.mg_serve.specs.declared.status.Status.TheVariants as status

false_true : false ≡ true → ⊥
false_true is = cc

-- a count that rose from a number
pub rose_from : (from count : ℕ) (spent : Bool) → RoseFrom from count spent → Rose from count spent
rose_from from count true h = inr refl
rose_from from count false h = inl (h (λ is. cc))

last_is_some : (count : ℕ) → IsTrue (is_last count) → 0 < count
last_is_some zero is = absurd (false_true is)
last_is_some (suc n) is = omega arith

pub rose_is_some : (before now : ℕ) → Rose before now (is_last now) → 0 < now
rose_is_some before now rose = ⊎_elim (λ more. omega arith) (λ last. last_is_some now last) rose

-- what a stop may leave of a side in use it may leave of the mirror
left_stays : (n : ℕ) (alone : Option Side) (a b : Bool) (l r : Moment) (ls rs : Moment → Image → Type 0) (c : Image) → alone ≢ Some Right → IsTrue (a && b) → CutOf n (ls l) c
    → LeftSince n alone (a && b) ls rs (moment_of alone l r) c
left_stays n None a b l r ls rs c used told cut = (told, inl cut)
left_stays n (Some Left) a b l r ls rs c used told cut = (told, cut)
left_stays n (Some Right) a b l r ls rs c used told cut = absurd (used refl)

right_stays : (n : ℕ) (alone : Option Side) (a b : Bool) (l r : Moment) (ls rs : Moment → Image → Type 0) (c : Image) → alone ≢ Some Left → IsTrue (a && b) → CutOf n (rs r) c
    → LeftSince n alone (a && b) ls rs (moment_of alone l r) c
right_stays n None a b l r ls rs c used told cut = (told, inr cut)
right_stays n (Some Right) a b l r ls rs c used told cut = (told, cut)
right_stays n (Some Left) a b l r ls rs c used told cut = absurd (used refl)

-- the last line is the same behind each input
same_last : (left : Option (List ℕ)) (last : List ℕ) → IfSome left (λ bytes. last ≡ last)
same_last None last = tt
same_last (Some bytes) last = refl

within_then : (limit : ℕ) (left : Option (List ℕ)) (P Q : Type 0) → (P → Q) → IsWithin limit left P → IsWithin limit left Q
within_then limit left P Q then h = if_some_then left _ _ (λ input promise short. then (promise short)) h

-- the disks, the source and the sink of a run
module _ {D E S K : Type 0} (d : disks.Ghosts D) (e : disks.Ghosts E) (input : sources.Ghosts S) (to : sinks.Ghosts K) (from : Side) (left : D) (right : E) (opened closed : Two D E)
    (ran result : Status) (source source' : S) (sink replied sink' : K) (steps steps' : ℕ) (opens : IsOpenedFrom d e from left right opened) (blocks : closed.blocks ≡ opened.blocks)
    (keeps : RunKeeps (session_of 1 ran (use_of (mirror d e) opened closed) (use_of input source source') (use_of to sink replied) steps steps')) (ends : PutsSide to ran closed.alone result replied sink')
    (before : CountGoesOn (to.faults sink) (to.faults replied) (to.is_spent sink) (to.is_spent replied)) (after : CountGoesOn (to.faults replied) (to.faults sink') (to.is_spent replied) (to.is_spent sink'))
    (both : 0 < closed.failed → BothRose (d.faults left) (d.faults closed.left) (d.is_spent closed.left) (e.faults right) (e.faults closed.right) (e.is_spent closed.right))
    (right_out : opened.alone ≡ Some Left → closed.right ≡ opened.right) (left_out : opened.alone ≡ Some Right → closed.left ≡ opened.left)
    (left_told : (t : Moment) (c : Image) → (d.time closed.left).left_since t c → IsTrue (d.tells_stops closed.left)) (right_told : (t : Moment) (c : Image) → (e.time closed.right).left_since t c → IsTrue (e.tells_stops closed.right)) where
  mirror_rose : CountRose (mirror d e) opened closed → CountRose d left closed.left × CountRose e right closed.right
  mirror_rose rose =
      let b = both (rose_is_some opened.failed closed.failed rose) in
      (rose_from (d.faults left) (d.faults closed.left) (d.is_spent closed.left) b.left, rose_from (e.faults right) (e.faults closed.right) (e.is_spent closed.right) b.right)

  both_failed : result ≡ status.Disk → CountRose d left closed.left × CountRose e right closed.right
  both_failed is = mirror_rose (keeps.lines.disk_failed (disk_ran to ran (last_line closed.alone) result replied sink' ends.last is))

  ran_on_mirror : ForSome (seen_behind d e from left right) (λ image. first_fault image ≡ None) → RanOnMirror (session_over from result closed.alone (use_of d left closed.left) (use_of e right closed.right) (use_of input source source') (use_of to sink sink') steps steps')
  ran_on_mirror no_fault = record {
    opened = opened;
    opens = opens;
    no_fault = no_fault;
    failed = closed.failed;
    closed = closed;
    closes = ap (λ (n : ℕ). record { left = closed.left; right = closed.right; blocks = n; alone = closed.alone; failed = closed.failed }) blocks;
    dropped_right = right_out;
    dropped_left = left_out;
    ran = ran;
    replied = replied;
    keeps = keeps;
    ends = ends;
    prefix = on_volume_then ((mirror d e).seen opened) _ _ (λ s a. put_prefix to ran (last_line closed.alone) result replied sink' ends.last (replies_text s) (use_of input source source') sink a (λ bytes. last_line closed.alone) (λ done. same_last (input.left source) (last_line closed.alone))) keeps.lines.answers;
    done = λ is. on_volume_then ((mirror d e).seen opened) _ _ (λ s a. put_all to ran (last_line closed.alone) result replied sink' ends.last (replies_text s) (use_of input source source') sink a (λ bytes. last_line closed.alone) (λ done. same_last (input.left source) (last_line closed.alone)) is) keeps.lines.answers;
    left_held = λ used told c cut. left_stays closed.blocks closed.alone (d.tells_stops closed.left) (e.tells_stops closed.right) (d.time closed.left).moment (e.time closed.right).moment (d.time closed.left).left_since (e.time closed.right).left_since c used
        (and_true (d.tells_stops closed.left) (e.tells_stops closed.right) (left_told (d.time closed.left).moment cut.whole cut.is_one) told) (subst (λ n. CutOf n ((d.time closed.left).left_since (d.time closed.left).moment) c) (sym blocks) cut);
    right_held = λ used told c cut. right_stays closed.blocks closed.alone (d.tells_stops closed.left) (e.tells_stops closed.right) (d.time closed.left).moment (e.time closed.right).moment (d.time closed.left).left_since (e.time closed.right).left_since c used
        (and_true (d.tells_stops closed.left) (e.tells_stops closed.right) told (right_told (e.time closed.right).moment cut.whole cut.is_one)) (subst (λ n. CutOf n ((e.time closed.right).left_since (e.time closed.right).moment) c) (sym blocks) cut);
    both_failed = both_failed;
    complete = on_volume_then ((mirror d e).seen opened) _ _ (λ s promise. λ not_both source_went sink_went.
        within_then input_limit (input.left source) _ _ (λ either. done_or_memory to ran (last_line closed.alone) result replied sink' ends.last sink before sink_went either)
        (promise (λ rose. not_both (mirror_rose rose)) source_went (λ rose. sink_went (rose_then _ _ _ _ _ rose after)))) keeps.lines.complete;
  }

  pub mirror_keeps : ForSome (d.seen left) (λ image. length image ≡ d.block_count left) → ForSome (e.seen right) (λ image. length image ≡ e.block_count right)
      → ForSome (seen_behind d e from left right) (λ image. first_fault image ≡ None)
      → (closed.alone ≡ Some Left → RoseFrom (e.faults right) (e.faults closed.right) (e.is_spent closed.right)) → (closed.alone ≡ Some Right → RoseFrom (d.faults left) (d.faults closed.left) (d.is_spent closed.left))
      → MirrorKeeps (session_over from result closed.alone (use_of d left closed.left) (use_of e right closed.right) (use_of input source source') (use_of to sink sink') steps steps')
  mirror_keeps left_count right_count no_fault dropped_right dropped_left = record {
    how = inr (inr (ran_on_mirror no_fault));
    side_judged = of_side_too d e from left right (WritesNothing d left closed.left × WritesNothing e right closed.right) left_count right_count (λ image told some. absurd (some (no_fault image told)));
    judged = λ image told some. absurd (some (no_fault image told));
    which = ends_run to ran (last_line closed.alone) result replied sink' ends.last keeps.lines.which;
    disk_failed = λ is. of_side from _ _ (λ _. (both_failed is).0) (λ _. (both_failed is).1);
    right_failed = λ is. rose_from (e.faults right) (e.faults closed.right) (e.is_spent closed.right) (dropped_right is);
    left_failed = λ is. rose_from (d.faults left) (d.faults closed.left) (d.is_spent closed.left) (dropped_left is);
    sink_failed = sink_failed to ran (last_line closed.alone) result replied sink' ends.last sink before keeps.lines.ends.sink_failed;
  }
