-- What was judged before a mirror was opened, and the two ways in which none was.
use Rattle.{mg_check.specs.declared.examining.OpenFault.OpenFault, mg_commands.specs.{Headline.check_line, Unopened.{EndsUnopenedBy, fault_line}}}
use Rattle.{mg_disk.specs.{Disk.{HasBlocks, Image}, Runs.nothing_then, Stops.{CountRose, WritesNothing}}, mg_faults.specs.Faults.{Rose, then_rose}}
use Rattle.{mg_io.specs.Known.AppendsPrefix, mg_layout.specs.MayFormat.IsNoState, mg_mirror.specs.{Copy.LeavesCopy, declared.mirror.Side.Side}}
use Rattle.{mg_mirror.specs.declared.mirror.Side.TheVariants.{Left, Right}, mg_mirror_session.proofs.Copying.{copy_holds, copy_none, copy_since}}
use Rattle.mg_mirror_session.proofs.{FirstFault.{fault-cut, fault-read, fault_volume}, Opening.{OnlyRead, left_alone, of_side, same_blocks}}
use Rattle.mg_mirror_session.specs.{Headline.{CopyHolds, MirrorKeeps, OfSide, seen_behind, seen_on, session_over}, Judged.{IsJudged, IsKind}}
use Rattle.{mg_mirror_session.specs.Judged.first_fault, mg_model.specs.Volume.{Damaged, NotVolume, OldVolume, VolumeRead}}
use Rattle.{mg_serve.specs.{Sessions.use_of, declared.status.Status.Status}, std.proofs.Common.{refl, sym, ap, subst, ◌∙◌, inl, inr, ⊎_elim, arith}}
use Rattle.std.specs.{Io.KnownBytes.Appends, Option.ForSome, Prelude.{ℕ, ◌≡◌, ◌≢◌, ◌⊎◌, ◌≤◌, length, min, take, option_map, Option, Some, None}}
use Rattle.std.specs.Prelude.{Result, Ok, Err}
use Rattle.mg_check.specs.declared.examining.OpenFault.TheVariants as fault
use Rattle.mg_disk.specs.declared.disk.Disk as disks
use Rattle.mg_io.specs.declared.traits.Sink as sinks
use Rattle.mg_io.specs.declared.traits.Source as sources
use Rattle.mg_serve.specs.declared.status.Status.TheVariants as status

-- what was read and judged of the disk on a side, the other one left alone
pub record IsSideJudged {D E F : Type 0} (d : disks.Ghosts D) (e : disks.Ghosts E) (from : Side) (left left' : D) (right right' : E) (first : Image) (result : Result (Option OpenFault) F) : Type 0 where
  pub on_left : from ≡ Left → IsJudged d left left' first result
  pub on_right : from ≡ Right → IsJudged e right right' first result
  pub left_alone : from ≡ Right → left' ≡ left
  pub right_alone : from ≡ Left → right' ≡ right

-- the same, of a pattern
pub side_judged : {D E F : Type 0} (d : disks.Ghosts D) (e : disks.Ghosts E) (from : Side) (left left' : D) (right right' : E) (first : Image) (said pattern : Option OpenFault) → said ≡ pattern
    → (from ≡ Left → IsJudged {F = F} d left left' first (Ok said)) → (from ≡ Right → IsJudged {F = F} e right right' first (Ok said)) → (from ≡ Right → left' ≡ left) → (from ≡ Left → right' ≡ right)
    → IsSideJudged {F = F} d e from left left' right right' first (Ok pattern)
side_judged {F = F} d e from left left' right right' first said pattern is on_left on_right left_alone right_alone =
    subst (λ s. IsSideJudged {F = F} d e from left left' right right' first (Ok s)) is (record { on_left = on_left; on_right = on_right; left_alone = left_alone; right_alone = right_alone })

only_read : {D F : Type 0} (d : disks.Ghosts D) (old new : D) (first : Image) (result : Result (Option OpenFault) F) → IsJudged d old new first result → OnlyRead d old new
only_read d old new first result judged = record { writes = judged.writes; blocks = judged.blocks; tells = judged.tells; count = judged.count }

-- what holds of each of an option's values, once they are changed
for_map : (f : Image → Image) (o : Option Image) (P : Image → Type 0) → ForSome o (λ x. P (f x)) → ForSome (option_map f o) P
for_map f (Some x) P h y is = subst P (some_inj (f x) y is) (h x refl)
  where
    some_inj : (x y : Image) → Some x ≡ Some y → x ≡ y
    some_inj x y is = cc
for_map f None P h y is = absurd (cc)

not_some : (side : Side) → None ≡ Some side → ⊥
not_some side is = cc

disk_no_sink : status.Disk ≡ status.Sink → ⊥
disk_no_sink is = cc

volume_no_disk : (result : Status) → result ≡ status.NoVolume → result ≡ status.Disk → ⊥
volume_no_disk result no_volume disk = cc

sink_no_disk : (result : Status) → result ≡ status.Sink → result ≡ status.Disk → ⊥
sink_no_disk result sink disk = cc

module _ {D E F : Type 0} (d : disks.Ghosts D) (e : disks.Ghosts E) (left left' : D) (right right' : E) (first : Image) (result : Result (Option OpenFault) F)
    (left_been : (d.time left).has_been (d.time left).moment) (right_been : (e.time right).has_been (e.time right).moment) where
  pub read_left : (from : Side) → IsSideJudged d e from left left' right right' first result → OnlyRead d left left'
  read_left Left judged = only_read d left left' first result (judged.on_left refl)
  read_left Right judged = left_alone d left left' left_been (judged.left_alone refl)

  pub read_right : (from : Side) → IsSideJudged d e from left left' right right' first result → OnlyRead e right right'
  read_right Left judged = left_alone e right right' right_been (judged.right_alone refl)
  read_right Right judged = only_read e right right' first result (judged.on_right refl)

  kept : (from : Side) → IsSideJudged d e from left left' right right' first result → OfSide from (WritesNothing d left left' × (right' ≡ right)) (WritesNothing e right right' × (left' ≡ left))
  kept Left judged = ((judged.on_left refl).writes, judged.right_alone refl)
  kept Right judged = ((judged.on_right refl).writes, judged.left_alone refl)

  kept_side : (from : Side) → IsSideJudged d e from left left' right right' first result → OfSide from (WritesNothing d left left') (WritesNothing e right right')
  kept_side from judged = of_side from _ _ (λ is. (judged.on_left is).writes) (λ is. (judged.on_right is).writes)

-- what reads of SIDE's disk give told of no fault, in the mirror's blocks
module _ {D E : Type 0} (d : disks.Ghosts D) (e : disks.Ghosts E) where
  cut_of : (n : ℕ) (o : Option Image) → ForSome (option_map (take n) o) (λ image. first_fault image ≡ None) → ForSome o (λ x. first_fault (take n x) ≡ None)
  cut_of n o fine x is = fine (take n x) (ap (option_map (take n)) is)

  pub fine_left : (n : ℕ) (from : Side) (left left' : D) (right : E) → d.seen left' ≡ d.seen left → from ≡ Left → ForSome (option_map (take n) (seen_on d e from left right)) (λ image. first_fault image ≡ None)
      → ForSome (d.seen left') (λ x. first_fault (take n x) ≡ None)
  fine_left n from left left' right same is fine =
      subst (λ o. ForSome o (λ x. first_fault (take n x) ≡ None)) (sym same) (cut_of n (d.seen left) (subst (λ s. ForSome (option_map (take n) (seen_on d e s left right)) (λ image. first_fault image ≡ None)) is fine))

  pub fine_right : (n : ℕ) (from : Side) (left : D) (right right' : E) → e.seen right' ≡ e.seen right → from ≡ Right → ForSome (option_map (take n) (seen_on d e from left right)) (λ image. first_fault image ≡ None)
      → ForSome (e.seen right') (λ x. first_fault (take n x) ≡ None)
  fine_right n from left right right' same is fine =
      subst (λ o. ForSome o (λ x. first_fault (take n x) ≡ None)) (sym same) (cut_of n (e.seen right) (subst (λ s. ForSome (option_map (take n) (seen_on d e s left right)) (λ image. first_fault image ≡ None)) is fine))

-- SIDE's first blocks were read
module _ {D E F : Type 0} (d : disks.Ghosts D) (e : disks.Ghosts E) (from : Side) (left left' : D) (right right' : E) (first : Image) (said : Option OpenFault)
    (left_count : ForSome (d.seen left) (λ image. length image ≡ d.block_count left)) (right_count : ForSome (e.seen right) (λ image. length image ≡ e.block_count right))
    (room : length first ≡ min (min (d.block_count left) (e.block_count right)) 32) (judged : IsSideJudged {F = F} d e from left left' right right' first (Ok said)) where
  within : (from : Side) → ForSome (seen_on d e from left right) (λ x. min (d.block_count left) (e.block_count right) ≤ length x)
  within Left x told = let c = left_count x told in omega arith
  within Right x told = let c = right_count x told in omega arith

  read : (from : Side) → IsSideJudged {F = F} d e from left left' right right' first (Ok said) → ForSome (seen_on d e from left right) (HasBlocks 0 first)
  read Left judged = (judged.on_left refl).read
  read Right judged = (judged.on_right refl).read

  kind : (from : Side) → IsSideJudged {F = F} d e from left left' right right' first (Ok said) → IsKind said (first_fault first)
  kind Left judged = (judged.on_left refl).kind
  kind Right judged = (judged.on_right refl).kind

  pub said_kind : IsKind said (first_fault first)
  said_kind = kind from judged

  -- what they tell, the mirror's tell
  pub same_fault : ForSome (seen_behind d e from left right) (λ image. first_fault first ≡ first_fault image)
  same_fault = for_map (take (min (d.block_count left) (e.block_count right))) (seen_on d e from left right) (λ image. first_fault first ≡ first_fault image)
      (λ x told. fault-read (min (d.block_count left) (e.block_count right)) 32 first x (omega arith) room (within from x told) (read from judged x told))

  pub no_fault : said ≡ None → ForSome (seen_behind d e from left right) (λ image. first_fault image ≡ None)
  no_fault is image told = sym (same_fault image told) ∙ subst (λ s. IsKind s (first_fault first)) is said_kind

  -- so SIDE's blocks spell what a stop may leave of the other disk, once they are copied
  pub right_copied : (n : ℕ) (right'' : E) → said ≡ None → (d.time left).has_been (d.time left).moment → (e.time right).has_been (e.time right).moment → n ≡ min (d.block_count left') (e.block_count right') → from ≡ Left
      → LeavesCopy e (min (d.block_count left') (e.block_count right')) (d.seen left') right' right'' → CopyHolds e n (d.seen left') right' right''
  right_copied n right'' none left_been right_been is_n is leaves =
      let l = read_left d e left left' right right' first (Ok said) left_been right_been from judged in
      let r = read_right d e left left' right right' first (Ok said) left_been right_been from judged in
      let count = is_n ∙ same_blocks d e left left' right right' l r in
      let fine = subst (λ m. ForSome (option_map (take m) (seen_on d e from left right)) (λ image. first_fault image ≡ None)) (sym count) (no_fault none) in
      copy_holds e n (d.seen left') right' right'' (fine_left d e n from left left' right l.writes.same is fine) (subst (λ m. LeavesCopy e m (d.seen left') right' right'') (sym is_n) leaves)

  pub left_copied : (n : ℕ) (left'' : D) → said ≡ None → (d.time left).has_been (d.time left).moment → (e.time right).has_been (e.time right).moment → n ≡ min (d.block_count left') (e.block_count right') → from ≡ Right
      → LeavesCopy d (min (d.block_count left') (e.block_count right')) (e.seen right') left' left'' → CopyHolds d n (e.seen right') left' left''
  left_copied n left'' none left_been right_been is_n is leaves =
      let l = read_left d e left left' right right' first (Ok said) left_been right_been from judged in
      let r = read_right d e left left' right right' first (Ok said) left_been right_been from judged in
      let count = is_n ∙ same_blocks d e left left' right right' l r in
      let fine = subst (λ m. ForSome (option_map (take m) (seen_on d e from left right)) (λ image. first_fault image ≡ None)) (sym count) (no_fault none) in
      copy_holds d n (e.seen right') left' left'' (fine_right d e n from left right right' r.writes.same is fine) (subst (λ m. LeavesCopy d m (e.seen right') left' left'') (sym is_n) leaves)

  -- so nothing is owed where they tell of no fault
  pub none_judged : (P : Type 0) → said ≡ None → ForSome (seen_behind d e from left right) (λ image. first_fault image ≢ None → P)
  none_judged P is image told some = absurd (some (no_fault is image told))

-- what holds where the mirror's first two blocks tell of a fault holds where SIDE's do
pub of_side_too : {D E : Type 0} (d : disks.Ghosts D) (e : disks.Ghosts E) (from : Side) (left : D) (right : E) (P : Type 0)
    → ForSome (d.seen left) (λ image. length image ≡ d.block_count left) → ForSome (e.seen right) (λ image. length image ≡ e.block_count right)
    → ForSome (seen_behind d e from left right) (λ image. first_fault image ≢ None → P) → ForSome (seen_on d e from left right) (λ image. first_fault image ≢ None → P)
of_side_too d e from left right P left_count right_count judged x told some =
    judged (take (min (d.block_count left) (e.block_count right)) x) (ap (option_map (take (min (d.block_count left) (e.block_count right)))) told)
    (fault-cut (min (d.block_count left) (e.block_count right)) x (within from x told) some)
  where
    within : (from : Side) → ForSome (seen_on d e from left right) (λ x. min (d.block_count left) (e.block_count right) ≤ length x)
    within Left x told = let c = left_count x told in omega arith
    within Right x told = let c = right_count x told in omega arith

-- No mirror was opened.
module _ {D E S K : Type 0} (d : disks.Ghosts D) (e : disks.Ghosts E) (input : sources.Ghosts S) (to : sinks.Ghosts K) (from : Side) (left left' : D) (right right' : E)
    (source : S) (sink : K) (steps : ℕ) where
  -- SIDE's disk failed
  failed : OfSide from (WritesNothing d left left') (WritesNothing e right right') → OfSide from (CountRose d left left') (CountRose e right right')
      → OfSide from (CopyHolds e (min (d.block_count left) (e.block_count right)) (d.seen left) right right') (CopyHolds d (min (d.block_count left) (e.block_count right)) (e.seen right) left left')
      → ForSome (seen_on d e from left right) (λ image. first_fault image ≢ None → WritesNothing d left left' × WritesNothing e right right')
      → ForSome (seen_behind d e from left right) (λ image. first_fault image ≢ None → WritesNothing d left left' × WritesNothing e right right')
      → MirrorKeeps (session_over from status.Disk None (use_of d left left') (use_of e right right') (use_of input source source) (use_of to sink sink) steps steps)
  failed nothing rose copied of_side of_mirror = record {
    how = inl (record { status = refl; none = refl; failed = rose; kept = nothing; copied = copied; nothing = (refl, refl, refl) });
    side_judged = of_side;
    judged = of_mirror;
    which = inr (inr (inr (inl refl)));
    disk_failed = λ is. rose;
    right_failed = λ is. absurd (not_some Left is);
    left_failed = λ is. absurd (not_some Right is);
    sink_failed = λ is. absurd (disk_no_sink is);
  }

module _ {D E S K F : Type 0} (d : disks.Ghosts D) (e : disks.Ghosts E) (input : sources.Ghosts S) (to : sinks.Ghosts K) (from : Side) (left left' : D) (right right' : E) (first : Image)
    (source : S) (sink : K) (steps : ℕ) (left_been : (d.time left).has_been (d.time left).moment) (right_been : (e.time right).has_been (e.time right).moment) where
  -- as its first blocks were read
  pub not_read : (failure : F) → IsSideJudged d e from left left' right right' first (Err failure) → MirrorKeeps (session_over from status.Disk None (use_of d left left') (use_of e right right') (use_of input source source) (use_of to sink sink) steps steps)
  not_read failure judged =
      let l = read_left d e left left' right right' first (Err failure) left_been right_been from judged in
      let r = read_right d e left left' right right' first (Err failure) left_been right_been from judged in
      failed d e input to from left left' right right' source sink steps (kept_side d e left left' right right' first (Err failure) left_been right_been from judged)
      (of_side from _ _ (λ is. (judged.on_left is).cause) (λ is. (judged.on_right is).cause))
      (of_side from _ _ (λ is. copy_none e (min (d.block_count left) (e.block_count right)) (d.seen left) right right' right_been r.writes) (λ is. copy_none d (min (d.block_count left) (e.block_count right)) (e.seen right) left left' left_been l.writes))
      (λ image told some. (l.writes, r.writes)) (λ image told some. (l.writes, r.writes))

  module _ (left_count : ForSome (d.seen left) (λ image. length image ≡ d.block_count left)) (right_count : ForSome (e.seen right) (λ image. length image ≡ e.block_count right))
      (room : length first ≡ min (min (d.block_count left) (e.block_count right)) 32) where
    -- or as the blocks behind them were
    pub not_opened : (left'' : D) (right'' : E) → IsSideJudged {F = F} d e from left left' right right' first (Ok None)
        → (from ≡ Left → WritesNothing d left' left'') → (from ≡ Right → WritesNothing e right' right'') → (from ≡ Left → CountRose d left' left'') → (from ≡ Right → CountRose e right' right'')
        → (from ≡ Left → LeavesCopy e (min (d.block_count left') (e.block_count right')) (d.seen left') right' right'') → (from ≡ Right → LeavesCopy d (min (d.block_count left') (e.block_count right')) (e.seen right') left' left'')
        → MirrorKeeps (session_over from status.Disk None (use_of d left left'') (use_of e right right'') (use_of input source source) (use_of to sink sink) steps steps)
    not_opened left'' right'' judged left_kept right_kept left_rose right_rose right_torn left_torn =
        let n = min (d.block_count left) (e.block_count right) in
        let l = read_left d e left left' right right' first (Ok None) left_been right_been from judged in
        let r = read_right d e left left' right right' first (Ok None) left_been right_been from judged in
        let n_is = sym (same_blocks d e left left' right right' l r) in
        let none = none_judged {F = F} d e from left left' right right' first None left_count right_count room judged (WritesNothing d left left'' × WritesNothing e right right'') refl in
        failed d e input to from left left'' right right'' source sink steps
        (of_side from _ _ (λ is. nothing_then d left left' left'' (judged.on_left is).writes (left_kept is)) (λ is. nothing_then e right right' right'' (judged.on_right is).writes (right_kept is)))
        (of_side from _ _ (λ is. then_rose _ _ _ _ _ _ (judged.on_left is).count (left_rose is)) (λ is. then_rose _ _ _ _ _ _ (judged.on_right is).count (right_rose is)))
        (of_side from _ _
        (λ is. copy_since e n (d.seen left) (d.seen left') right right' right'' l.writes.same right_been r.writes (right_copied {F = F} d e from left left' right right' first None left_count right_count room judged n right'' refl left_been right_been n_is is (right_torn is)))
        (λ is. copy_since d n (e.seen right) (e.seen right') left left' left'' r.writes.same left_been l.writes (left_copied {F = F} d e from left left' right right' first None left_count right_count room judged n left'' refl left_been right_been n_is is (left_torn is))))
        (of_side_too d e from left right (WritesNothing d left left'' × WritesNothing e right right'') left_count right_count none) none

    -- SIDE's first two blocks told of a fault
    module _ (cause : OpenFault) (judged : IsSideJudged {F = F} d e from left left' right right' first (Ok (Some cause))) (result : Status) (sink' : K)
        (rose : result ≡ status.Sink → Rose (to.faults sink) (to.faults sink') (to.is_spent sink')) where
      refused_as : (kind : VolumeRead) → IsNoState kind → first_fault first ≡ Some kind → (result ≡ status.NoVolume) ⊎ (result ≡ status.Sink)
          → (result ≡ status.NoVolume → Appends (to.taken sink) (to.taken sink') (check_line kind)) → AppendsPrefix (to.taken sink) (to.taken sink') (check_line kind)
          → MirrorKeeps (session_over from result None (use_of d left left') (use_of e right right') (use_of input source source) (use_of to sink sink') steps steps)
      refused_as kind no_state told ends put prefix = record {
        how = inr (inl (record {
          kind = kind;
          fault = fault_is;
          is = λ image seen. fault_volume image kind (fault_is image seen);
          no_state = no_state;
          line = ⊎_elim (λ is. inl (is, put is)) (λ is. inr (is, prefix, rose is)) ends;
          none = refl;
          kept = kept d e left left' right right' first (Ok (Some cause)) left_been right_been from judged;
          nothing = (refl, refl);
        }));
        side_judged = λ image seen some. (l.writes, r.writes);
        judged = λ image seen some. (l.writes, r.writes);
        which = ⊎_elim (λ is. inl is) (λ is. inr (inr (inr (inr (inr (inl is)))))) ends;
        disk_failed = λ is. absurd (⊎_elim (λ no_volume. volume_no_disk result no_volume is) (λ failed. sink_no_disk result failed is) ends);
        right_failed = λ is. absurd (not_some Left is);
        left_failed = λ is. absurd (not_some Right is);
        sink_failed = rose;
      }
        where
          l : OnlyRead d left left'
          l = read_left d e left left' right right' first (Ok (Some cause)) left_been right_been from judged

          r : OnlyRead e right right'
          r = read_right d e left left' right right' first (Ok (Some cause)) left_been right_been from judged

          fault_is : ForSome (seen_behind d e from left right) (λ image. first_fault image ≡ Some kind)
          fault_is image seen = sym (same_fault {F = F} d e from left left' right right' first (Some cause) left_count right_count room judged image seen) ∙ told

      by_kind : (f : OpenFault) → IsKind (Some f) (first_fault first) → EndsUnopenedBy f result → (result ≡ status.NoVolume → Appends (to.taken sink) (to.taken sink') (fault_line f))
          → AppendsPrefix (to.taken sink) (to.taken sink') (fault_line f) → MirrorKeeps (session_over from result None (use_of d left left') (use_of e right right') (use_of input source source) (use_of to sink sink') steps steps)
      by_kind fault.Not told ends put prefix = refused_as NotVolume tt told ends put prefix
      by_kind fault.Old told ends put prefix = refused_as OldVolume tt told ends put prefix
      by_kind fault.Damaged told ends put prefix = refused_as Damaged tt told ends put prefix
      by_kind fault.Disk told ends put prefix = absurd told
      by_kind fault.Memory told ends put prefix = absurd told

      pub refused : EndsUnopenedBy cause result → (result ≡ status.NoVolume → Appends (to.taken sink) (to.taken sink') (fault_line cause)) → AppendsPrefix (to.taken sink) (to.taken sink') (fault_line cause)
          → MirrorKeeps (session_over from result None (use_of d left left') (use_of e right right') (use_of input source source) (use_of to sink sink') steps steps)
      refused ends put prefix = by_kind cause (said_kind {F = F} d e from left left' right right' first (Some cause) left_count right_count room judged) ends put prefix
