-- An opening and a session after it: from what each of them keeps to the record of a command.
use Rattle.std.proofs.{Common.{refl, sym, ap, ◌∙◌, arith, drop, inl, inr, subst, ⊎_elim}, lemmas.List.drop_all}
use Rattle.std.specs.{Io.KnownBytes.Appends, Option.ForSome, Prelude.{ℕ, ◌≡◌, ◌≢◌, ◌⊎◌, ◌<◌, ◌≤◌, ◌+◌, List, [], ◌++◌}}
use Rattle.std.specs.Prelude.{length, take, Option, Some, None, IfSome, IsSomeAnd, Result, Err}
use Rattle.mg_check.specs.declared.examining.{OpenFault.OpenFault, Summary.Summary}
use Rattle.mg_commands.specs.Headline.{EndsRun, EndsUnopened, HoldsSince, IsWithinCost, LinesKeep, OnVolume, TellsLine}
use Rattle.mg_commands.specs.{Headline.{TellsOfNone, check_line, session_of, IsCounted}, Unopened.EndsUnopenedBy}
use Rattle.mg_commands.specs.Unopened.{FaultTells, TellsNothing, TellsState, fault_line, summary_line}
use Rattle.mg_disk.specs.{Disk.Image, Runs.{leaves_then, leaves_wider}, Stops.{CountGoes, CountRose, Leaves, LeftOr}}
use Rattle.{mg_disk.specs.{Stops.WritesNothing, declared.disk.Disk.Ghosts}, mg_faults.specs.Faults.{Rose, then_rose}}
use Rattle.mg_io.specs.Known.{Appends-none, AppendsPrefix, AppendsPrefix-longer, AppendsPrefix-none, TakesAtMost}
use Rattle.{mg_layout.specs.MayFormat.IsNoState, mg_model.specs.{Ended.ended_lines, Lines.lines, Print.answered}}
use Rattle.mg_model.specs.{State.State, Volume.{Damaged, Is, NotVolume, OldVolume, VolumeRead, volume}, Warmth.cost}
use Rattle.{mg_model.specs.declared.calls.Line.Line, mg_serve.specs.{Counting.CountsEach, Parts.AnswersLines}}
use Rattle.mg_serve.specs.Parts.{AnswersPrefix, AreAnswered, IsPrefix, KeepsAnswered, SpellsAfter, replies}
use Rattle.mg_serve.specs.{Serving.{IsWithin, Serves, Traces}, Sessions.{OfAnswered, Answers, AreHeld, DiskUse}}
use Rattle.mg_serve.specs.Sessions.{EndsSession, EndsTaking, Holds, HoldsExactly, IsDoneOrMemory, SinkUse, SourceUse}
use Rattle.mg_serve.specs.Sessions.{SpellsFirst, use_of, input_limit, left_at, left_now, consumed}
use Rattle.mg_serve.specs.declared.status.Status.{Status}
use Rattle.mg_check.specs.declared.examining.OpenFault.TheVariants as fault
use Rattle.mg_io.specs.declared.traits.Sink as sinks
use Rattle.mg_io.specs.declared.traits.Source as sources
use Rattle.mg_serve.specs.declared.machine.Machine as machines
use Rattle.mg_serve.specs.declared.status.Status.TheVariants as status

-- before the first call
none_put : (said : List Line → List ℕ) (left taken : Option (List ℕ)) → AnswersPrefix said left taken taken
none_put said None taken = tt
none_put said (Some input) taken = AppendsPrefix-none taken (replies said input)

none_lines : (said : List Line → List ℕ) → said [] ≡ [] → (left taken : Option (List ℕ)) → AnswersLines said left taken taken
none_lines said none None taken = tt
none_lines said none (Some input) taken = (0, omega arith, subst (λ (v : List ℕ). Appends taken taken v) (sym none) (Appends-none taken))

none_taken : (left : Option (List ℕ)) (most : ℕ) → TakesAtMost most left left
none_taken None most = tt
none_taken (Some input) most = omega arith

-- a command that ended before the first step
pub none_spent : (s : State) (result : Status) (left : Option (List ℕ)) (steps : ℕ) → IsWithinCost s result left left steps steps
none_spent s result None steps = tt
none_spent s result (Some input) steps = (omega arith, λ cut. omega arith)

-- a command that ended before the first call of the source and of the sink
first_answers : {S K : Type 0} (from : sources.Ghosts S) (to : sinks.Ghosts K) (said : List Line → List ℕ) → said [] ≡ [] → (result : Status) (source : S) (sink : K) → result ≢ status.Done
    → Answers said result (use_of from source source) (use_of to sink sink)
first_answers from to said none result source sink early = record {
  prefix = none_put said (from.left source) (to.taken sink);
  done = λ ended. absurd (early ended);
  first_lines = λ ended. none_lines said none (from.left source) (to.taken sink);
}

quiet_early : (f : OpenFault) (result : Status) → TellsNothing f → EndsUnopenedBy f result → result ≢ status.Done
quiet_early fault.Not result quiet ends = absurd quiet
quiet_early fault.Old result quiet ends = absurd quiet
quiet_early fault.Damaged result quiet ends = absurd quiet
quiet_early fault.Disk result quiet ends = λ ended. (let e : result ≡ status.Disk = ends in cc)
quiet_early fault.Memory result quiet ends = λ ended. (let e : result ≡ status.Memory = ends in cc)

-- the state that an image spells
pub state_is : (read : VolumeRead) (s : State) (P : State → Type 0) → read ≡ Is s → P s → (t : State) → read ≡ Is t → P t
state_is read s P is p t same = subst P (one_state s t (sym is ∙ same)) p
  where
    one_state : (s t : State) → ◌≡◌ {A = VolumeRead} (Is s) (Is t) → s ≡ t
    one_state s t e = cc

-- the image that was opened is a volume, and a machine whose state over an image is `now` has the state of that volume over what reads give
pub record OpensAs (now : Image → State) (before : VolumeRead) (told : Option Image) : Type 0 where
  pub state : State
  pub is : before ≡ Is state
  pub image : Image
  pub seen : told ≡ Some image
  pub has : now image ≡ state

-- what holds of the state of an opened volume
pub opened_then : (now : Image → State) (told told' : Option Image) (P : State → Type 0) → ForSome told (λ image. OpensAs now (volume image) told') → ForSome told' (λ image. P (now image)) → OnVolume told P
opened_then now told told' P opens p = λ image is.
    let o = opens image is in
    state_is (volume image) o.state P o.is (subst P o.has (p o.image o.seen))

-- what a fault of an opening says of the image
pub fault_tells : {T : Type 0} (f : OpenFault) (told : Option Image)
    → (◌≡◌ {A = Result T OpenFault} (Err f) (Err fault.Not) → ForSome told (λ image. volume image ≡ NotVolume))
    → (◌≡◌ {A = Result T OpenFault} (Err f) (Err fault.Old) → ForSome told (λ image. volume image ≡ OldVolume))
    → (◌≡◌ {A = Result T OpenFault} (Err f) (Err fault.Damaged) → ForSome told (λ image. volume image ≡ Damaged)) → FaultTells f told
fault_tells fault.Not told n o d = n refl
fault_tells fault.Old told n o d = o refl
fault_tells fault.Damaged told n o d = d refl
fault_tells fault.Disk told n o d = tt
fault_tells fault.Memory told n o d = tt

-- what holds of a state holds if a fault says that there is none
pub unopened : (f : OpenFault) (told : Option Image) (P : State → Type 0) → FaultTells f told → (TellsNothing f → (image : Image) → told ≡ Some image → (s : State) → volume image ≡ Is s → P s) → OnVolume told P
unopened fault.Not told P tells p = λ image is s spelled. absurd (let e : NotVolume ≡ Is s = sym (tells image is) ∙ spelled in cc)
unopened fault.Old told P tells p = λ image is s spelled. absurd (let e : OldVolume ≡ Is s = sym (tells image is) ∙ spelled in cc)
unopened fault.Damaged told P tells p = λ image is s spelled. absurd (let e : Damaged ≡ Is s = sym (tells image is) ∙ spelled in cc)
unopened fault.Disk told P tells p = λ image is s spelled. p tt image is s spelled
unopened fault.Memory told P tells p = λ image is s spelled. p tt image is s spelled

-- what the sink took if the volume was not opened
unopened_answers : {S K : Type 0} (from : sources.Ghosts S) (to : sinks.Ghosts K) (said : State → List Line → List ℕ) → ((s : State) → said s [] ≡ []) → (f : OpenFault) (told : Option Image) (result : Status) (source : S) (sink sink' : K)
    → FaultTells f told → EndsUnopenedBy f result → (TellsNothing f → sink' ≡ sink) → OnVolume told (λ s. Answers (said s) result (use_of from source source) (use_of to sink sink'))
unopened_answers from to said none f told result source sink sink' tells ends same =
    unopened f told (λ s. Answers (said s) result (use_of from source source) (use_of to sink sink')) tells
    (λ quiet image is s spelled. subst (λ k. Answers (said s) result (use_of from source source) (use_of to sink k)) (sym (same quiet)) (first_answers from to (said s) (none s) result source sink (quiet_early f result quiet ends)))

not_taking : (result : Status) → EndsTaking result → result ≢ status.Source → result ≢ status.TooLong → ⊥
not_taking result taking source too_long = ⊎_elim source too_long taking

-- what a stop leaves of it
unopened_exactly : {D S K : Type 0} (d : DiskUse D) (i : SourceUse S) (o : SinkUse K) (kept : State → List Line → State) (f : OpenFault) (told : Option Image) (result : Status) → FaultTells f told → EndsUnopenedBy f result
    → OnVolume told (λ s. HoldsExactly (kept s) result d i o)
unopened_exactly d i o kept f told result tells ends =
    unopened f told (λ s. HoldsExactly (kept s) result d i o) tells (λ quiet image is s spelled. by_fault f quiet ends s)
  where
    by_fault : (f : OpenFault) → TellsNothing f → EndsUnopenedBy f result → (s : State) → HoldsExactly (kept s) result d i o
    by_fault fault.Not quiet ends s = absurd quiet
    by_fault fault.Old quiet ends s = absurd quiet
    by_fault fault.Damaged quiet ends s = absurd quiet
    by_fault fault.Disk quiet ends s = let e : result ≡ status.Disk = ends in record { held_taking = λ h. absurd (not_taking result h (λ s. cc) (λ s. cc)); held_sink = λ h. absurd (cc) }
    by_fault fault.Memory quiet ends s = let e : result ≡ status.Memory = ends in record { held_taking = λ h. absurd (not_taking result h (λ s. cc) (λ s. cc)); held_sink = λ h. absurd (cc) }

some_image : (a b : Image) → Some a ≡ Some b → b ≡ a
some_image a b is = cc

-- a line was printed, or a part of it, that is the line of what reads give if they are told
abbrev pub PutsOf : Option Image → Option (List ℕ) → Option (List ℕ) → Type 0
PutsOf told taken taken' = (read : VolumeRead) × ForSome told (λ image. volume image ≡ read) × AppendsPrefix taken taken' (check_line read)

-- nothing was printed
nothing_puts : (told : Option Image) (taken taken' : Option (List ℕ)) → AppendsPrefix taken taken' [] → PutsOf told taken taken'
nothing_puts None taken taken' put = (NotVolume, (λ image is. absurd (cc)), AppendsPrefix-longer taken taken' [] (check_line NotVolume) put)
nothing_puts (Some image) taken taken' put = (volume image, (λ one is. ap volume (some_image image one is)), AppendsPrefix-longer taken taken' [] (check_line (volume image)) put)

-- a prefix of a fault's line is one of the line of what reads give
pub fault_may_tell : (f : OpenFault) (told : Option Image) (taken taken' : Option (List ℕ)) → FaultTells f told → AppendsPrefix taken taken' (fault_line f) → PutsOf told taken taken'
fault_may_tell fault.Not told taken taken' tells put = (NotVolume, tells, put)
fault_may_tell fault.Old told taken taken' tells put = (OldVolume, tells, put)
fault_may_tell fault.Damaged told taken taken' tells put = (Damaged, tells, put)
fault_may_tell fault.Disk told taken taken' tells put = nothing_puts told taken taken' put
fault_may_tell fault.Memory told taken taken' tells put = nothing_puts told taken taken' put

-- what is said of a volume is said of the state that the image spells
pub told_prefix : (summary : Summary) (told : Option Image) (taken taken' : Option (List ℕ)) → TellsState summary told → AppendsPrefix taken taken' (summary_line summary) → PutsOf told taken taken'
told_prefix summary told taken taken' t put = (Is t.state, t.is, subst (λ (v : List ℕ). AppendsPrefix taken taken' v) (ap summary_line t.summed) put)

pub told_done : (summary : Summary) (told : Option Image) (taken taken' : Option (List ℕ)) → TellsState summary told → Appends taken taken' (summary_line summary)
    → TellsLine (λ read. (s : State) × (read ≡ Is s)) told taken taken'
told_done summary told taken taken' t put = record {
  read = Is t.state;
  is_kind = (t.state, refl);
  is = t.is;
  put = subst (λ (v : List ℕ). Appends taken taken' v) (ap summary_line t.summed) put;
}

-- a command that found a volume
pub told_without : {D K : Type 0} (facts : Ghosts D) (to : sinks.Ghosts K) (summary : Summary) (result : Status) (d d' : D) (k k' : K) → TellsState summary (facts.seen d)
    → (result ≡ status.Done) ⊎ (result ≡ status.Sink) → TellsOfNone facts to result d d' k k'
told_without facts to summary result d d' k k' t ends = record {
  none = λ h. absurd (found h);
  not_opened = λ image is none. absurd (subst IsNoState (t.is image is) none);
}
  where
    found : result ≡ status.NoVolume → ⊥
    found h = ⊎_elim (λ (e : result ≡ status.Done). cc) (λ (e : result ≡ status.Sink). cc) ends

-- an opening that found no volume wrote nothing
pub untouched : {T : Type 0} (f : OpenFault) (W : Type 0) → (◌≡◌ {A = Result T OpenFault} (Err f) (Err fault.Not) → W) → (◌≡◌ {A = Result T OpenFault} (Err f) (Err fault.Old) → W)
    → (◌≡◌ {A = Result T OpenFault} (Err f) (Err fault.Damaged) → W) → (TellsNothing f → ⊥) → W
untouched fault.Not W n o d loud = n refl
untouched fault.Old W n o d loud = o refl
untouched fault.Damaged W n o d loud = d refl
untouched fault.Disk W n o d loud = absurd (loud tt)
untouched fault.Memory W n o d loud = absurd (loud tt)

-- what a session on a volume that was opened says of none
pub opened_without : {D K : Type 0} (facts : Ghosts D) (to : sinks.Ghosts K) (now : Image → State) (result : Status) (d mid d' : D) (k k' : K)
    → ForSome (facts.seen d) (λ image. OpensAs now (volume image) (facts.seen mid)) → EndsSession result → TellsOfNone facts to result d d' k k'
opened_without facts to now result d mid d' k k' opens ends = record {
  none = λ h. absurd (never h);
  not_opened = λ image is no_state. absurd (gone image is no_state);
}
  where
    gone : (image : Image) → facts.seen d ≡ Some image → IsNoState (volume image) → ⊥
    gone image is no_state = let o = opens image is in subst IsNoState o.is no_state

    never : result ≡ status.NoVolume → ⊥
    never h =
        ⊎_elim (λ (e : result ≡ status.Done). cc)
        (⊎_elim (λ (e : result ≡ status.Memory). cc) (⊎_elim (λ (e : result ≡ status.Disk). cc) (⊎_elim (λ (e : result ≡ status.Source). cc) (⊎_elim (λ (e : result ≡ status.Sink). cc) (λ (e : result ≡ status.TooLong). cc)))))
        ends

-- a command that found no volume
pub unopened_without : {D K : Type 0} (facts : Ghosts D) (to : sinks.Ghosts K) (f : OpenFault) (result : Status) (d d' : D) (k k' : K) → FaultTells f (facts.seen d) → EndsUnopenedBy f result
    → ((TellsNothing f → ⊥) → WritesNothing facts d d') → (result ≡ status.NoVolume → Appends (to.taken k) (to.taken k') (fault_line f)) → AppendsPrefix (to.taken k) (to.taken k') (fault_line f)
    → TellsOfNone facts to result d d' k k'
unopened_without facts to f result d d' k k' tells ends writes put prefix = record {
  none = λ h. (none f tells ends put h, loud f ends writes h);
  not_opened = λ image is no_state. (may_end f ends, line f tells prefix image is);
}
  where
    none : (f : OpenFault) → FaultTells f (facts.seen d) → EndsUnopenedBy f result → (result ≡ status.NoVolume → Appends (to.taken k) (to.taken k') (fault_line f)) → result ≡ status.NoVolume → TellsLine IsNoState (facts.seen d) (to.taken k) (to.taken k')
    none fault.Not tells ends put h = record { read = NotVolume; is_kind = tt; is = tells; put = put h }
    none fault.Old tells ends put h = record { read = OldVolume; is_kind = tt; is = tells; put = put h }
    none fault.Damaged tells ends put h = record { read = Damaged; is_kind = tt; is = tells; put = put h }
    none fault.Disk tells ends put h = let e : result ≡ status.Disk = ends in absurd (cc)
    none fault.Memory tells ends put h = let e : result ≡ status.Memory = ends in absurd (cc)

    loud : (f : OpenFault) → EndsUnopenedBy f result → ((TellsNothing f → ⊥) → WritesNothing facts d d') → result ≡ status.NoVolume → WritesNothing facts d d'
    loud fault.Not ends writes h = writes (λ quiet. quiet)
    loud fault.Old ends writes h = writes (λ quiet. quiet)
    loud fault.Damaged ends writes h = writes (λ quiet. quiet)
    loud fault.Disk ends writes h = let e : result ≡ status.Disk = ends in absurd (cc)
    loud fault.Memory ends writes h = let e : result ≡ status.Memory = ends in absurd (cc)

    either : (result ≡ status.NoVolume) ⊎ (result ≡ status.Sink) → EndsUnopened result
    either ends = ⊎_elim (λ none. inl none) (λ sink. inr (inr (inr sink))) ends

    may_end : (f : OpenFault) → EndsUnopenedBy f result → EndsUnopened result
    may_end fault.Not ends = either ends
    may_end fault.Old ends = either ends
    may_end fault.Damaged ends = either ends
    may_end fault.Disk ends = inr (inr (inl ends))
    may_end fault.Memory ends = inr (inl ends)

    of_kind : (read : VolumeRead) (image : Image) → volume image ≡ read → AppendsPrefix (to.taken k) (to.taken k') (check_line read) → AppendsPrefix (to.taken k) (to.taken k') (check_line (volume image))
    of_kind read image is prefix = subst (λ v. AppendsPrefix (to.taken k) (to.taken k') (check_line v)) (sym is) prefix

    line : (f : OpenFault) → FaultTells f (facts.seen d) → AppendsPrefix (to.taken k) (to.taken k') (fault_line f) → (image : Image) → facts.seen d ≡ Some image
        → AppendsPrefix (to.taken k) (to.taken k') (check_line (volume image))
    line fault.Not tells prefix image is = of_kind NotVolume image (tells image is) prefix
    line fault.Old tells prefix image is = of_kind OldVolume image (tells image is) prefix
    line fault.Damaged tells prefix image is = of_kind Damaged image (tells image is) prefix
    line fault.Disk tells prefix image is = AppendsPrefix-longer (to.taken k) (to.taken k') [] (check_line (volume image)) prefix
    line fault.Memory tells prefix image is = AppendsPrefix-longer (to.taken k) (to.taken k') [] (check_line (volume image)) prefix

-- when nothing was taken or printed, no line is answered
none_answered : (taken : Option (List ℕ)) → AreAnswered taken taken 0
none_answered None = tt
none_answered (Some before) = omega (arith, ap answered (drop_all (length before) before (omega arith)))

none_held : (left_now : Image → Type 0) (kept : List Line → State) (left taken : Option (List ℕ)) → ((c : Image) → left_now c → volume c ≡ Is (kept [])) → KeepsAnswered left_now kept left left taken taken
none_held left_now kept None taken spelled = tt
none_held left_now kept (Some input) taken spelled = λ c left. (0, record { all_answered = none_answered taken; came = omega arith }, spelled c left)

no_lines : (kept : List Line → State) (ls : List Line) (c : Image) → volume c ≡ Is (kept []) → IsPrefix kept ls c
no_lines kept ls c is = (0, omega arith, is)

-- what an opening may leave, if the session then leaves this
module _ {D : Type 0} (facts : Ghosts D) (d mid : D) where
  -- what a stop might have left before, or the state after some first lines
  abbrev Since : (List Line → State) → List Line → Image → Type 0
  Since kept ls c = (facts.time d).left_since (facts.time d).moment c ⊎ IsPrefix kept ls c

  -- what it might have left before, or the same volume
  prefix_yet : (left : Option (List ℕ)) (image : Image) (kept : List Line → State) → volume image ≡ Is (kept []) → Leaves facts d mid (LeftOr facts d (λ c. volume c ≡ volume image))
      → IfSome left (λ input. Leaves facts d mid (Since kept (lines input)))
  prefix_yet None image kept spelled first = tt
  prefix_yet (Some input) image kept spelled first =
      leaves_wider facts d mid (LeftOr facts d (λ c. volume c ≡ volume image)) (Since kept (lines input)) first
      (λ c may. ⊎_elim (λ before. inl before) (λ same. inr (no_lines kept (lines input) c (same ∙ spelled))) may)

  prefix_then : (d' : D) (left : Option (List ℕ)) (kept : List Line → State) → IfSome left (λ input. Leaves facts d mid (Since kept (lines input)))
      → IfSome left (λ input. Leaves facts mid d' (IsPrefix kept (lines input))) → IfSome left (λ input. Leaves facts d d' (Since kept (lines input)))
  prefix_then d' None kept first second = tt
  prefix_then d' (Some input) kept first second = leaves_then facts d mid d' (IsPrefix kept (lines input)) (Since kept (lines input)) first second (λ c f. inr f)

  -- what is held at the end, of a session on a settled disk, or of an opening that failed
  held_since : {S K : Type 0} (i : SourceUse S) (o : SinkUse K) (kept : List Line → State) (d' : D) (l l' : Option (List ℕ))
      → IfSome l (λ input. IsSomeAnd l' (λ rest. (c : Image) → (facts.time d').left_since (facts.time d').moment c → (k : ℕ) × AreHeld o input rest k × SpellsFirst kept input k c))
      → IfSome l (λ input. IsSomeAnd l' (λ rest. (c : Image) → (facts.time d').left_since (facts.time d').moment c
      → ((facts.time d).left_since (facts.time d).moment c × AreHeld o input rest 0) ⊎ ((k : ℕ) × AreHeld o input rest k × SpellsFirst kept input k c)))
  held_since i o kept d' None l' held = tt
  held_since i o kept d' (Some input) None held = held
  held_since i o kept d' (Some input) (Some rest) held = λ c left. inr (held c left)

  none_since : {K : Type 0} (o : SinkUse K) (kept : List Line → State) (image : Image) → volume image ≡ Is (kept []) → o.facts.taken o.new ≡ o.facts.taken o.old
      → Leaves facts d mid (LeftOr facts d (λ c. volume c ≡ volume image)) → (l : Option (List ℕ))
      → IfSome l (λ input. IsSomeAnd l (λ rest. (c : Image) → (facts.time mid).left_since (facts.time mid).moment c
      → ((facts.time d).left_since (facts.time d).moment c × AreHeld o input rest 0) ⊎ ((k : ℕ) × AreHeld o input rest k × SpellsFirst kept input k c)))
  none_since o kept image spelled same first None = tt
  none_since o kept image spelled same first (Some input) = λ c left.
      let none : AreHeld o input input 0 = record { all_answered = subst (λ t. AreAnswered (o.facts.taken o.old) t 0) (sym same) (none_answered (o.facts.taken o.old)); came = omega arith } in
      ⊎_elim (λ before. inl (before, none))
      (λ may. ⊎_elim (λ before. inl (before, none)) (λ is. inr (0, none, is ∙ spelled)) may) (first.time.now c left)

  -- an opening, and then a session
  opened_holds : {S K : Type 0} (i : SourceUse S) (o : SinkUse K) (kept : State → List Line → State) → ((s : State) → kept s [] ≡ s) → (now : Image → State) (d' : D) → ForSome (facts.seen d) (λ image. OpensAs now (volume image) (facts.seen mid))
      → ForSome (facts.seen d) (λ image. Leaves facts d mid (LeftOr facts d (λ c. volume c ≡ volume image)))
      → ForSome (facts.seen mid) (λ image. Holds (kept (now image)) (use_of facts mid d') i o)
      → OnVolume (facts.seen d) (λ s. HoldsSince (kept s) (use_of facts d d') i o)
  opened_holds i o kept none now d' opens first second = λ image is.
      let opened : OpensAs now (volume image) (facts.seen mid) = opens image is in
      let h : Holds (kept opened.state) (use_of facts mid d') i o = subst (λ (s : State). Holds (kept s) (use_of facts mid d') i o) opened.has (second opened.image opened.seen) in
      state_is (volume image) opened.state (λ s. HoldsSince (kept s) (use_of facts d d') i o) opened.is
      record {
        moments = prefix_then d' (left_at i) (kept opened.state) (prefix_yet (left_at i) image (kept opened.state) (opened.is ∙ ap (λ v. Is v) (sym (none opened.state))) (first image is)) h.moments;
        held = held_since i o (kept opened.state) d' (left_at i) (left_now i) h.held;
      }

  -- an opening that failed
  unopened_holds : {S K : Type 0} (from : sources.Ghosts S) (to : sinks.Ghosts K) (kept : State → List Line → State) → ((s : State) → kept s [] ≡ s) → (f : OpenFault) (source : S) (sink sink' : K)
      → FaultTells f (facts.seen d) → (TellsNothing f → sink' ≡ sink) → ForSome (facts.seen d) (λ image. Leaves facts d mid (LeftOr facts d (λ c. volume c ≡ volume image)))
      → OnVolume (facts.seen d) (λ s. HoldsSince (kept s) (use_of facts d mid) (use_of from source source) (use_of to sink sink'))
  unopened_holds from to kept none f source sink sink' tells same first =
      unopened f (facts.seen d) (λ s. HoldsSince (kept s) (use_of facts d mid) (use_of from source source) (use_of to sink sink')) tells (λ quiet image is s spelled.
      let here : volume image ≡ Is (kept s []) = spelled ∙ ap (λ v. Is v) (sym (none s)) in
      record {
        moments = prefix_yet (from.left source) image (kept s) here (first image is);
        held = none_since (use_of to sink sink') (kept s) image here (ap to.taken (same quiet)) (first image is) (from.left source);
      })

-- a session that ended so ended in one of the ways of `run`, and not for want of a volume
pub no_volume : (result : Status) → EndsSession result → result ≡ status.NoVolume → ⊥
no_volume result ends h =
    ⊎_elim (λ (e : result ≡ status.Done). cc)
    (⊎_elim (λ (e : result ≡ status.Memory). cc) (⊎_elim (λ (e : result ≡ status.Disk). cc) (⊎_elim (λ (e : result ≡ status.Source). cc) (⊎_elim (λ (e : result ≡ status.Sink). cc) (λ (e : result ≡ status.TooLong). cc)))))
    ends

within_any : (limit : ℕ) (left : Option (List ℕ)) (P : Type 0) → P → IsWithin limit left P
within_any limit None P holds = tt
within_any limit (Some input) P holds = λ short. holds

-- how a command ends with a fault
fault_ends : (f : OpenFault) (result : Status) → EndsUnopenedBy f result → EndsUnopened result
fault_ends fault.Not result ends = ⊎_elim (λ none. inl none) (λ sink. inr (inr (inr sink))) ends
fault_ends fault.Old result ends = ⊎_elim (λ none. inl none) (λ sink. inr (inr (inr sink))) ends
fault_ends fault.Damaged result ends = ⊎_elim (λ none. inl none) (λ sink. inr (inr (inr sink))) ends
fault_ends fault.Disk result ends = inr (inr (inl ends))
fault_ends fault.Memory result ends = inr (inl ends)

-- of these four statuses it is no other
other_end : (result other : Status) → EndsUnopened result → other ≢ status.NoVolume → other ≢ status.Memory → other ≢ status.Disk → other ≢ status.Sink → result ≡ other → ⊥
other_end result other ends a b c d h = ⊎_elim (λ (e : result ≡ status.NoVolume). a (sym h ∙ e)) (⊎_elim (λ (e : result ≡ status.Memory). b (sym h ∙ e)) (⊎_elim (λ (e : result ≡ status.Disk). c (sym h ∙ e)) (λ (e : result ≡ status.Sink). d (sym h ∙ e)))) ends

unopened_which : (result : Status) → EndsUnopened result → EndsRun result
unopened_which result ends = ⊎_elim (λ none. inl none) (⊎_elim (λ memory. inr (inr (inl memory))) (⊎_elim (λ disk. inr (inr (inr (inl disk)))) (λ sink. inr (inr (inr (inr (inr (inl sink)))))))) ends

-- a command that ended with no line of a fault, and not because the sink failed, had a fault that is quiet
fault_quiet : (f : OpenFault) (result : Status) → EndsUnopenedBy f result → (result ≡ status.NoVolume → ⊥) → (result ≡ status.Sink → ⊥) → TellsNothing f
fault_quiet fault.Not result ends no_line no_sink = ⊎_elim no_line no_sink ends
fault_quiet fault.Old result ends no_line no_sink = ⊎_elim no_line no_sink ends
fault_quiet fault.Damaged result ends no_line no_sink = ⊎_elim no_line no_sink ends
fault_quiet fault.Disk result ends no_line no_sink = tt
fault_quiet fault.Memory result ends no_line no_sink = tt

fault_disk : (f : OpenFault) (result : Status) → EndsUnopenedBy f result → result ≡ status.Disk → f ≡ fault.Disk
fault_disk fault.Not result ends h = ⊎_elim (λ (e : result ≡ status.NoVolume). absurd (cc)) (λ (e : result ≡ status.Sink). absurd (cc)) ends
fault_disk fault.Old result ends h = ⊎_elim (λ (e : result ≡ status.NoVolume). absurd (cc)) (λ (e : result ≡ status.Sink). absurd (cc)) ends
fault_disk fault.Damaged result ends h = ⊎_elim (λ (e : result ≡ status.NoVolume). absurd (cc)) (λ (e : result ≡ status.Sink). absurd (cc)) ends
fault_disk fault.Disk result ends h = refl
fault_disk fault.Memory result ends h = let e : result ≡ status.Memory = ends in absurd (cc)

module _ {D S K : Type 0} (facts : Ghosts D) (from : sources.Ghosts S) (to : sinks.Ghosts K) (said : State → List Line → List ℕ) (kept : State → List Line → State) (batch : ℕ) where
  -- what is held exactly at the end rests on no disk before
  exactly_since : (kept : List Line → State) (result : Status) (mid d d' : D) (i : SourceUse S) (o : SinkUse K) → HoldsExactly kept result (use_of facts mid d') i o → HoldsExactly kept result (use_of facts d d') i o
  exactly_since kept result mid d d' i o h = record { held_taking = h.held_taking; held_sink = h.held_sink }

  -- a volume was opened, and a machine over its kernel served the lines
  pub lines_opened : {M : Type 0} (is : machines.Ghosts M) (now : Image → State) (m m' : M) (result : Status) (d mid d' : D) (source source' : S) (sink sink' : K) (steps steps' : ℕ)
      → ForSome (facts.seen d) (λ image. OpensAs now (volume image) (facts.seen mid)) → ForSome (facts.seen d) (λ image. Leaves facts d mid (LeftOr facts d (λ c. volume c ≡ volume image))) → CountGoes facts d mid
      → ((image : Image) → is.said m image ≡ said (now image)) → ((image : Image) → is.kept m image ≡ kept (now image)) → ((s : State) → kept s [] ≡ s)
      → Serves is batch input_limit result m m' (use_of facts mid d') (use_of from source source') (use_of to sink sink') steps steps'
      → LinesKeep said kept (session_of batch result (use_of facts d d') (use_of from source source') (use_of to sink sink') steps steps')
  lines_opened is now m m' result d mid d' source source' sink sink' steps steps' opens first count says keeps none serves = record {
    answers = opened_then now (facts.seen d) (facts.seen mid) (λ s. Answers (said s) result (use_of from source source') (use_of to sink sink')) opens
        (λ image seen. subst (λ (v : List Line → List ℕ). Answers v result (use_of from source source') (use_of to sink sink')) (says image) (serves.answers image seen));
    kept = λ done. opened_then now (facts.seen d) (facts.seen mid) (λ s. IfSome (from.left source) (λ input. SpellsAfter (kept s) input (facts.seen d'))) opens
        (λ image seen. subst (λ (v : List Line → State). IfSome (from.left source) (λ input. SpellsAfter v input (facts.seen d'))) (keeps image) (serves.kept done image seen));
    holds = opened_holds facts d mid (use_of from source source') (use_of to sink sink') kept none now d' opens first
        (λ image seen. subst (λ (v : List Line → State). Holds v (use_of facts mid d') (use_of from source source') (use_of to sink sink')) (keeps image) (serves.holds image seen));
    holds_exactly = opened_then now (facts.seen d) (facts.seen mid) (λ s. HoldsExactly (kept s) result (use_of facts d d') (use_of from source source') (use_of to sink sink')) opens
        (λ image seen. subst (λ (v : List Line → State). HoldsExactly v result (use_of facts d d') (use_of from source source') (use_of to sink sink')) (keeps image) (exactly_since (is.kept m image) result mid d d' (use_of from source source') (use_of to sink sink') (serves.holds_exactly image seen)));
    settled = serves.settled;
    ends = serves.ends;
    which = inr serves.which;
    disk_failed = λ h. then_rose _ _ _ _ _ _ count (serves.disk_failed h);
    without = opened_without facts to now result d mid d' sink sink' opens serves.which;
    none_source = λ h. absurd (no_volume result serves.which h);
    untouched = λ image seen no_state. absurd (gone image seen no_state);
    complete = opened_then now (facts.seen d) (facts.seen mid) _ opens (λ image seen. λ no_disk no_source no_sink. serves.complete (λ rose. no_disk (then_rose _ _ _ _ _ _ count rose)) no_source no_sink);
  }
    where
      gone : (image : Image) → facts.seen d ≡ Some image → IsNoState (volume image) → ⊥
      gone image seen no_state = let o = opens image seen in subst IsNoState o.is no_state

  -- no volume was opened, and the line of the fault was printed, or a part of it
  pub lines_unopened : (f : OpenFault) (result : Status) (d d' : D) (source : S) (sink sink' : K) (steps : ℕ) → FaultTells f (facts.seen d) → EndsUnopenedBy f result → ((TellsNothing f → ⊥) → WritesNothing facts d d')
      → ForSome (facts.seen d) (λ image. IsNoState (volume image) → WritesNothing facts d d') → (TellsNothing f → sink' ≡ sink)
      → (result ≡ status.NoVolume → Appends (to.taken sink) (to.taken sink') (fault_line f)) → AppendsPrefix (to.taken sink) (to.taken sink') (fault_line f)
      → (result ≡ status.Sink → Rose (to.faults sink) (to.faults sink') (to.is_spent sink')) → (f ≡ fault.Disk → CountRose facts d d')
      → ForSome (facts.seen d) (λ image. Leaves facts d d' (LeftOr facts d (λ c. volume c ≡ volume image))) → ((s : State) → said s [] ≡ []) → ((s : State) → kept s [] ≡ s)
      → LinesKeep said kept (session_of batch result (use_of facts d d') (use_of from source source) (use_of to sink sink') steps steps)
  lines_unopened f result d d' source sink sink' steps tells ends writes none_written quiet put prefix sink_rose disk_rose first says none =
      let un : EndsUnopened result = fault_ends f result ends in
      let disk : result ≡ status.Disk → CountRose facts d d' = λ h. disk_rose (fault_disk f result ends h) in record {
        answers = unopened_answers from to said says f (facts.seen d) result source sink sink' tells ends quiet;
        kept = λ done. absurd (other_end result status.Done un (λ h. cc) (λ h. cc) (λ h. cc) (λ h. cc) done);
        holds = unopened_holds facts d d' from to kept none f source sink sink' tells quiet first;
        holds_exactly = unopened_exactly (use_of facts d d') (use_of from source source) (use_of to sink sink') kept f (facts.seen d) result tells ends;
        settled = λ done. absurd (other_end result status.Done un (λ h. cc) (λ h. cc) (λ h. cc) (λ h. cc) done);
        ends = record {
          few = λ h. absurd (not_taking result h (other_end result status.Source un (λ h. cc) (λ h. cc) (λ h. cc) (λ h. cc)) (other_end result status.TooLong un (λ h. cc) (λ h. cc) (λ h. cc) (λ h. cc)));
          memory = λ h. (refl, quiet (fault_quiet f result ends (λ line. cc) (λ sink. cc)));
          source_failed = λ h. absurd (other_end result status.Source un (λ h. cc) (λ h. cc) (λ h. cc) (λ h. cc) h);
          sink_failed = sink_rose;
          too_long = λ h. absurd (other_end result status.TooLong un (λ h. cc) (λ h. cc) (λ h. cc) (λ h. cc) h);
          within = λ h. none_taken (from.left source) input_limit;
          bounded = none_taken (from.left source) (input_limit + 4096);
        };
        which = unopened_which result un;
        disk_failed = disk;
        without = unopened_without facts to f result d d' sink sink' tells ends writes put prefix;
        none_source = λ h. refl;
        untouched = λ image seen no_state. (refl, none_written image seen no_state, (λ failed. quiet (fault_quiet f result ends (λ line. cc) (λ sink. cc))));
        complete = unopened f (facts.seen d) _ tells (λ q image seen s spelled. λ no_disk no_source no_sink. within_any input_limit (from.left source) (IsDoneOrMemory result) (⊎_elim
            (λ (e : result ≡ status.NoVolume). absurd (quiet_volume f result q ends e))
            (⊎_elim (λ (e : result ≡ status.Memory). inr e) (⊎_elim (λ (e : result ≡ status.Disk). absurd (no_disk (disk e))) (λ (e : result ≡ status.Sink). absurd (no_sink (sink_rose e)))))
            un));
      }
    where
      quiet_volume : (f : OpenFault) (result : Status) → TellsNothing f → EndsUnopenedBy f result → result ≡ status.NoVolume → ⊥
      quiet_volume fault.Not result q ends h = absurd q
      quiet_volume fault.Old result q ends h = absurd q
      quiet_volume fault.Damaged result q ends h = absurd q
      quiet_volume fault.Disk result q ends h = let e : result ≡ status.Disk = ends in cc
      quiet_volume fault.Memory result q ends h = let e : result ≡ status.Memory = ends in cc

-- of the answered lines there are as many as were counted, and so no more than were stepped
on_answered : (taken taken' : Option (List ℕ)) (count stepped : ℕ) → IfSome taken (λ before. IsSomeAnd taken' (λ now. answered (drop (length before) now) ≡ count)) → count ≤ stepped
    → OfAnswered taken taken' (λ n. n ≤ stepped)
on_answered None taken' count stepped is least = tt
on_answered (Some before) None count stepped is least = absurd is
on_answered (Some before) (Some now) count stepped is least = omega (arith, is, least)

-- what each line of a session counts, if the machine says so of the lines that it stepped
pub traced_counts : {M : Type 0} (is : machines.Ghosts M) (batch : ℕ) (result : Status) (m m' : M) (image : Image) (s : State) (left left' taken taken' : Option (List ℕ)) (steps steps' : ℕ)
    → ((ls : List Line) → is.Stepped m image ls steps steps' m' → CountsEach [] s ls steps steps') → Traces is batch result m image left left' taken taken' steps steps' m'
    → IsCounted s result left taken taken' steps steps'
traced_counts is batch result m m' image s None left' taken taken' steps steps' stepped t not_disk = tt
traced_counts is batch result m m' image s (Some input) None taken taken' steps steps' stepped t not_disk = absurd t
traced_counts is batch result m m' image s (Some input) (Some rest) taken taken' steps steps' stepped t not_disk = record {
  stepped = t.stepped;
  came = t.few;
  answered_lines = on_answered taken taken' t.count t.stepped t.answers t.least;
  done = λ end. (t.done end).0;
  counts = stepped (take t.stepped (lines input)) (t.after not_disk);
}

-- a session that ended before its first line
pub none_counted : (s : State) (result : Status) (left taken taken' : Option (List ℕ)) (steps : ℕ) → result ≢ status.Done → taken' ≡ taken → IsCounted s result left taken taken' steps steps
none_counted s result None taken taken' steps early same not_disk = tt
none_counted s result (Some input) taken taken' steps early same not_disk = record {
  stepped = 0;
  came = omega arith;
  answered_lines = subst (λ t. AreAnswered taken t 0) (sym same) (none_answered taken);
  done = λ end. absurd (early end);
  counts = refl;
}

-- the same of a fault of the opening
pub unopened_counted : (f : OpenFault) (told : Option Image) (result : Status) (left taken taken' : Option (List ℕ)) (steps : ℕ) → FaultTells f told → EndsUnopenedBy f result → (TellsNothing f → taken' ≡ taken)
    → OnVolume told (λ s. IsCounted s result left taken taken' steps steps)
unopened_counted f told result left taken taken' steps tells ends same =
    unopened f told (λ s. IsCounted s result left taken taken' steps steps) tells (λ quiet image is s spelled. none_counted s result left taken taken' steps (quiet_early f result quiet ends) (same quiet))

-- what a session costs, if each step counts what its line may cost
pub traced_cost : {M : Type 0} (is : machines.Ghosts M) → ((s : State) (ls more : List Line) → cost s ls ≤ cost s (ls ++ more)) → (batch : ℕ) (result : Status) (m m' : M) (image : Image) (s : State) (left left' taken taken' : Option (List ℕ)) (steps steps' : ℕ)
    → ((ls : List Line) → is.Stepped m image ls steps steps' m' → steps' ≤ steps + cost s ls) → ((ls : List Line) → is.StoppedIn m image ls steps steps' m' → steps' ≤ steps + cost s ls)
    → Traces is batch result m image left left' taken taken' steps steps' m' → IsWithinCost s result left left' steps steps'
traced_cost is less batch result m m' image s None left' taken taken' steps steps' stepped stopped t = tt
traced_cost is less batch result m m' image s (Some input) None taken taken' steps steps' stepped stopped t = absurd t
traced_cost is less batch result m m' image s (Some input) (Some rest) taken taken' steps steps' stepped stopped t =
    let spent : steps' ≤ steps + cost s (take t.stepped (lines input)) = by_status result t.at_disk t.after in
    (within (lines (consumed input rest)) spent t.came, λ cut. within (ended_lines (consumed input rest)) spent (t.ended cut))
  where
    -- first lines cost no more than all
    within : (all : List Line) → steps' ≤ steps + cost s (take t.stepped (lines input)) → (more : List Line) × (all ≡ take t.stepped (lines input) ++ more) → steps' ≤ steps + cost s all
    within all spent (more, are) = let first = less s (take t.stepped (lines input)) more in omega (arith, ap (λ v. cost s v) are, first)

    by_status : (result : Status) → (result ≡ status.Disk → is.Stepped m image (take t.stepped (lines input)) steps steps' m' ⊎ ((t.count < t.stepped) × is.StoppedIn m image (take t.stepped (lines input)) steps steps' m'))
        → (result ≢ status.Disk → is.Stepped m image (take t.stepped (lines input)) steps steps' m') → steps' ≤ steps + cost s (take t.stepped (lines input))
    by_status status.Disk at_disk after = ⊎_elim (λ a. stepped (take t.stepped (lines input)) a) (λ (b : (t.count < t.stepped) × is.StoppedIn m image (take t.stepped (lines input)) steps steps' m'). stopped (take t.stepped (lines input)) b.1) (at_disk refl)
    by_status status.Done at_disk after = stepped (take t.stepped (lines input)) (after (λ h. cc))
    by_status status.Usage at_disk after = stepped (take t.stepped (lines input)) (after (λ h. cc))
    by_status status.NoVolume at_disk after = stepped (take t.stepped (lines input)) (after (λ h. cc))
    by_status status.Memory at_disk after = stepped (take t.stepped (lines input)) (after (λ h. cc))
    by_status status.Source at_disk after = stepped (take t.stepped (lines input)) (after (λ h. cc))
    by_status status.Sink at_disk after = stepped (take t.stepped (lines input)) (after (λ h. cc))
    by_status status.TooLong at_disk after = stepped (take t.stepped (lines input)) (after (λ h. cc))
    by_status status.TooSmall at_disk after = stepped (take t.stepped (lines input)) (after (λ h. cc))
