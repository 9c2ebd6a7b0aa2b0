-- What the command keeps when a line says what the old image is, and when nothing is printed.
use Rattle.{mg_check.specs.{Summaries.summary_of, declared.examining.Summary.Summary}, mg_commands.specs.{Headline.small_line, Unopened.summary_line}}
use Rattle.{mg_disk.specs.{Disk.Image, Stops.{CountRose, FromLeft, Leaves, NothingPending, WritesNothing}}, mg_faults.specs.Faults.Rose}
use Rattle.{mg_io.specs.Known.{AppendsPrefix, AppendsPrefix-none}, mg_migrate.specs.{Copied.{ReadsNow, StandsClosed}, Migrated.{Fits1, IsLiftOf}}}
use Rattle.mg_migrate.specs.{Migrated.{IsState1, MayMigrate, StandsBack, needed}, Version1.{Damaged1, Is1, NewVolume1, NotVolume1, OldVolume1}}
use Rattle.{mg_migrate.specs.Version1.{Volume1Read, lift, volume1}, mg_migrate_session.specs.Headline.{GoesWith, HasPlaces, HasPut, IfState1}}
use Rattle.{mg_migrate_session.specs.Headline.{MigrateKeeps, StandsAfter, migrate_line, migrate_status}, mg_model.specs.State.State}
use Rattle.{mg_serve.specs.{Sessions.use_of, declared.status.Status.Status}, std.proofs.Common.{refl, sym, ap, subst, ◌∙◌, inl, inr, ⊎_elim, arith}}
use Rattle.std.{proofs.lemmas.Bool.{le-ltb, lt-ltb}, specs.{Io.KnownBytes.Appends, Option.ForSome, Prelude.{ℕ, ◌≡◌, ◌⊎◌, ◌<◌, ◌≤◌, nat_lt, List}}}
use Rattle.std.specs.Prelude.{Bool, true, false, if◌then◌else◌}
use Rattle.mg_disk.specs.declared.disk.Disk as disks
use Rattle.mg_io.specs.declared.traits.Sink as sinks
use Rattle.mg_serve.specs.declared.status.Status.TheVariants as status

-- a promise on a state, from another one, and from one on every state
if_state1_then : (v : Volume1Read) (P Q : State → Type 0) → ((s : State) → P s → Q s) → IfState1 v P → IfState1 v Q
if_state1_then NotVolume1 P Q step h = h
if_state1_then OldVolume1 P Q step h = h
if_state1_then NewVolume1 P Q step h = h
if_state1_then Damaged1 P Q step h = h
if_state1_then (Is1 s) P Q step h = step s h

pub every_state1 : (v : Volume1Read) (P : State → Type 0) → ((s : State) → P s) → IfState1 v P
every_state1 NotVolume1 P each = tt
every_state1 OldVolume1 P each = tt
every_state1 NewVolume1 P each = tt
every_state1 Damaged1 P each = tt
every_state1 (Is1 s) P each = each s

-- a status is one alone
put_no_memory : (s : Status) → HasPut s → s ≡ status.Memory → ⊥
put_no_memory s put h = ⊎_elim (λ (e : s ≡ status.Done). cc) (λ p. ⊎_elim (λ (e : s ≡ status.NoVolume). cc) (λ (e : s ≡ status.TooSmall). cc) p) put

put_no_disk : (s : Status) → HasPut s → s ≡ status.Disk → ⊥
put_no_disk s put h = ⊎_elim (λ (e : s ≡ status.Done). cc) (λ p. ⊎_elim (λ (e : s ≡ status.NoVolume). cc) (λ (e : s ≡ status.TooSmall). cc) p) put

put_no_sink : (s : Status) → HasPut s → s ≡ status.Sink → ⊥
put_no_sink s put h = ⊎_elim (λ (e : s ≡ status.Done). cc) (λ p. ⊎_elim (λ (e : s ≡ status.NoVolume). cc) (λ (e : s ≡ status.TooSmall). cc) p) put

sink_no_memory : (s : Status) → s ≡ status.Sink → s ≡ status.Memory → ⊥
sink_no_memory s sink h = cc

sink_no_disk : (s : Status) → s ≡ status.Sink → s ≡ status.Disk → ⊥
sink_no_disk s sink h = cc

sink_no_none : (s : Status) → s ≡ status.Sink → (s ≡ status.NoVolume) ⊎ (s ≡ status.TooSmall) → ⊥
sink_no_none s sink h = ⊎_elim (λ (e : s ≡ status.NoVolume). cc) (λ (e : s ≡ status.TooSmall). cc) h

disk_no_memory : (s : Status) → s ≡ status.Disk → s ≡ status.Memory → ⊥
disk_no_memory s disk h = cc

disk_no_none : (s : Status) → s ≡ status.Disk → (s ≡ status.NoVolume) ⊎ (s ≡ status.TooSmall) → ⊥
disk_no_none s disk h = ⊎_elim (λ (e : s ≡ status.NoVolume). cc) (λ (e : s ≡ status.TooSmall). cc) h

-- what the old image spells is shown by this status and this line
pub record IsTold {D : Type 0} (d : disks.Ghosts D) (end : Status) (line : List ℕ) (new new' : D) (v : Volume1Read) : Type 0 where
  pub ends : migrate_status (d.block_count new) v ≡ end
  pub puts : migrate_line (d.block_count new) v ≡ line
  pub stands : StandsAfter d v new new'
  pub enough : IfState1 v (λ state. needed state ≤ d.block_count new → end ≡ status.Done)

-- the volume was migrated
pub migrated : {D : Type 0} (d : disks.Ghosts D) (summary : Summary) (new new' : D) (v : Volume1Read)
    → IsState1 v (λ state. (summary ≡ summary_of (lift state)) × (needed state ≤ d.block_count new))
    → ReadsNow (IsLiftOf v) (d.seen new) (d.seen new') → ((c : Image) → (d.time new').left_since (d.time new').moment c → IsLiftOf v c) → NothingPending d new'
    → IsTold d status.Done (summary_line summary) new new' v
migrated d summary new new' NotVolume1 told reads left settled = absurd told
migrated d summary new new' OldVolume1 told reads left settled = absurd told
migrated d summary new new' NewVolume1 told reads left settled = absurd told
migrated d summary new new' Damaged1 told reads left settled = absurd told
migrated d summary new new' (Is1 state) (is, room) reads left settled =
    let have = d.block_count new in
    let fits : nat_lt have (needed state) ≡ false = le-ltb have (needed state) room in record {
      ends = ap (λ (t : Bool). if t then status.TooSmall else status.Done) fits;
      puts = ap (λ (t : Bool). if t then small_line (needed state) have else summary_line (summary_of (lift state))) fits ∙ sym (ap summary_line is);
      stands = (λ few. absurd (omega arith), λ enough. record { reads = reads; left = left; settled = settled });
      enough = λ room. refl;
    }

-- the new disk is too small for it
pub too_small : {D : Type 0} (d : disks.Ghosts D) (need have : ℕ) (new new' : D) (v : Volume1Read)
    → IsState1 v (λ state. (need ≡ needed state) × (have ≡ d.block_count new) × (d.block_count new < need)) → new' ≡ new → IsTold d status.TooSmall (small_line need have) new new' v
too_small d need have new new' NotVolume1 told same = absurd told
too_small d need have new new' OldVolume1 told same = absurd told
too_small d need have new new' NewVolume1 told same = absurd told
too_small d need have new new' Damaged1 told same = absurd told
too_small d need have new new' (Is1 state) (needs, has, few) same =
    let small : nat_lt (d.block_count new) (needed state) ≡ true = lt-ltb (d.block_count new) (needed state) (omega arith) in record {
      ends = ap (λ (t : Bool). if t then status.TooSmall else status.Done) small;
      puts = ap (λ (t : Bool). if t then small_line (needed state) (d.block_count new) else summary_line (summary_of (lift state))) small
          ∙ ap (λ n. small_line n (d.block_count new)) (sym needs) ∙ ap (λ n. small_line need n) (sym has);
      stands = (λ few. same, λ enough. absurd (omega arith));
      enough = λ room. absurd (omega arith);
    }

-- which it owes nothing to
pub small_state1 : {D : Type 0} (d : disks.Ghosts D) (need have : ℕ) (new : D) (v : Volume1Read) (P : State → Type 0)
    → IsState1 v (λ state. (need ≡ needed state) × (have ≡ d.block_count new) × (d.block_count new < need)) → IfState1 v (λ state. needed state ≤ d.block_count new → P state)
small_state1 d need have new NotVolume1 P told = tt
small_state1 d need have new OldVolume1 P told = tt
small_state1 d need have new NewVolume1 P told = tt
small_state1 d need have new Damaged1 P told = tt
small_state1 d need have new (Is1 state) P (needs, has, few) = λ room. absurd (omega arith)

module _ {D E K : Type 0} (d : disks.Ghosts D) (e : disks.Ghosts E) (to : sinks.Ghosts K) (result : Status) (new new' : D) (old old' : E) (sink sink' : K)
    (moments : ForSome (e.seen old) (λ before. Leaves d new new' (FromLeft d new (λ image. MayMigrate image (volume1 before)))))
    (back : ForSome (e.seen old) (λ before. StandsBack (d.block_count new) (volume1 before) new new')) (kept : WritesNothing e old old') where
  -- A line says what the old image is, or the sink failed.
  pub told_keeps : (end : Status) (line : List ℕ) → HasPut end → GoesWith end line → ForSome (e.seen old) (λ before. IsTold d end line new new' (volume1 before))
      → ForSome (e.seen old) (λ before. IfState1 (volume1 before) (λ state. needed state ≤ d.block_count new → HasPlaces d before new new'))
      → ((end ≡ status.NoVolume) ⊎ (end ≡ status.TooSmall) → new' ≡ new) → (result ≡ end) ⊎ (result ≡ status.Sink) → (result ≡ end → Appends (to.taken sink) (to.taken sink') line)
      → AppendsPrefix (to.taken sink) (to.taken sink') line → (result ≡ status.Sink → Rose (to.faults sink) (to.faults sink') (to.is_spent sink'))
      → MigrateKeeps result (use_of d new new') (use_of e old old') (use_of to sink sink')
  told_keeps end line has_put goes told places untouched ends put prefix rose = record {
    ends = λ before is. ⊎_elim (λ as_told. inl (as_told ∙ sym (told before is).ends)) (λ failed. inr (inr (inr failed))) ends;
    which = ⊎_elim (λ as_told. inl (subst HasPut (sym as_told) has_put)) (λ failed. inr (inr (inr failed))) ends;
    line = λ h before is. subst (λ text. Appends (to.taken sink) (to.taken sink') text) (sym (told before is).puts) (⊎_elim put (λ failed. absurd (put_no_sink result h failed)) ends);
    prefix = λ before is. subst (λ text. AppendsPrefix (to.taken sink) (to.taken sink') text) (sym (told before is).puts) prefix;
    some_line = λ h.
        ⊎_elim (λ as_told. (line, subst (λ s. GoesWith s line) (sym as_told) goes, put as_told)) (λ failed. absurd (put_no_sink result h failed)) ends;
    moments = moments;
    stands = λ h before is. (told before is).stands;
    places = λ h. places;
    untouched = λ h. ⊎_elim (λ none. alone (inl none)) (λ p. ⊎_elim (λ small. alone (inr small)) (λ memory. absurd (no_memory memory)) p) h;
    old_kept = kept;
    memory = λ h. absurd (no_memory h);
    disk_failed = λ h. absurd (no_disk h);
    stands_back = back;
    closed = λ h. absurd (no_disk h);
    sink_failed = rose;
    complete = λ before is. if_state1_then (volume1 before) _ _ (λ state enough room no_new no_old no_sink. ⊎_elim (λ as_told. inl (as_told ∙ enough room)) (λ failed. absurd (no_sink (rose failed))) ends) (told before is).enough;
  }
    where
      alone : (result ≡ status.NoVolume) ⊎ (result ≡ status.TooSmall) → new' ≡ new
      alone h = ⊎_elim (λ as_told. untouched (subst (λ s. (s ≡ status.NoVolume) ⊎ (s ≡ status.TooSmall)) as_told h)) (λ failed. absurd (sink_no_none result failed h)) ends

      no_memory : result ≡ status.Memory → ⊥
      no_memory h = ⊎_elim (λ as_told. put_no_memory end has_put (sym as_told ∙ h)) (λ failed. sink_no_memory result failed h) ends

      no_disk : result ≡ status.Disk → ⊥
      no_disk h = ⊎_elim (λ as_told. put_no_disk end has_put (sym as_told ∙ h)) (λ failed. sink_no_disk result failed h) ends

  -- There was not enough memory.
  pub memory_keeps : result ≡ status.Memory → new' ≡ new → sink' ≡ sink → MigrateKeeps result (use_of d new new') (use_of e old old') (use_of to sink sink')
  memory_keeps memory untouched same = record {
    ends = λ before is. inr (inl memory);
    which = inr (inl memory);
    line = λ h. absurd (put_no_memory result h memory);
    some_line = λ h. absurd (put_no_memory result h memory);
    prefix = λ before is. subst (λ k. AppendsPrefix (to.taken sink) (to.taken k) (migrate_line (d.block_count new) (volume1 before))) (sym same) (AppendsPrefix-none (to.taken sink) (migrate_line (d.block_count new) (volume1 before)));
    moments = moments;
    stands = λ h. absurd (⊎_elim (λ put. put_no_memory result put memory) (λ failed. sink_no_memory result failed memory) h);
    places = λ h. absurd (⊎_elim (λ put. put_no_memory result put memory) (λ failed. sink_no_memory result failed memory) h);
    untouched = λ h. untouched;
    old_kept = kept;
    memory = λ h. same;
    disk_failed = λ h. absurd (disk_no_memory result h memory);
    stands_back = back;
    closed = λ h. absurd (disk_no_memory result h memory);
    sink_failed = λ h. absurd (sink_no_memory result h memory);
    complete = λ before is. every_state1 (volume1 before) _ (λ state room no_new no_old no_sink. inr memory);
  }

  -- A call of a disk failed.
  pub disk_keeps : result ≡ status.Disk → CountRose d new new' ⊎ CountRose e old old' → ((CountRose d new new' → ⊥) → (new' ≡ new) ⊎ (StandsClosed d new' × ForSome (e.seen old) (λ before. Fits1 (d.block_count new) (volume1 before)))) → sink' ≡ sink → MigrateKeeps result (use_of d new new') (use_of e old old') (use_of to sink sink')
  disk_keeps disk rose closed same = record {
    ends = λ before is. inr (inr (inl disk));
    which = inr (inr (inl disk));
    line = λ h. absurd (put_no_disk result h disk);
    some_line = λ h. absurd (put_no_disk result h disk);
    prefix = λ before is. subst (λ k. AppendsPrefix (to.taken sink) (to.taken k) (migrate_line (d.block_count new) (volume1 before))) (sym same) (AppendsPrefix-none (to.taken sink) (migrate_line (d.block_count new) (volume1 before)));
    moments = moments;
    stands = λ h. absurd (⊎_elim (λ put. put_no_disk result put disk) (λ failed. sink_no_disk result failed disk) h);
    places = λ h. absurd (⊎_elim (λ put. put_no_disk result put disk) (λ failed. sink_no_disk result failed disk) h);
    untouched = λ h. absurd (⊎_elim (λ none. disk_no_none result disk (inl none)) (λ p. ⊎_elim (λ small. disk_no_none result disk (inr small)) (λ memory. disk_no_memory result disk memory) p) h);
    old_kept = kept;
    memory = λ h. same;
    disk_failed = λ h. (rose, same);
    stands_back = back;
    closed = λ h. closed;
    sink_failed = λ h. absurd (sink_no_disk result h disk);
    complete = λ before is. every_state1 (volume1 before) _ (λ state room no_new no_old no_sink. absurd (⊎_elim no_new no_old rose));
  }
