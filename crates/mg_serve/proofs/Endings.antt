-- From how a session ended to the records of what it keeps.
use Rattle.{mg_disk.specs.{Stops.NothingPending, declared.disk.Disk.Ghosts}, mg_serve.proofs.Outcomes.{disk_exactly, exactly, few_of, finishes_all}}
use Rattle.mg_serve.proofs.Outcomes.{finishes_kept, finishes_stops, finishes_traces, finishes_within, not_more, sink_one, source_within, stops_bound}
use Rattle.mg_serve.proofs.Outcomes.{stops_held, stops_moments, stops_prefix, stops_traces, too_long_more, whole_lines, within_more}
use Rattle.mg_serve.specs.{Machines.{Entry, Point}, Parts.{KeepsExactly, SpellsAfter, TakesMore}, Readings.{Finishes, Stops}, Serving.Broken}
use Rattle.mg_serve.specs.{Serving.{IsWithin, Serves, Session, Traces}, Sessions.{Answers, DiskRose, DiskUse, Ends, EndsSession, EndsTaking, Holds}}
use Rattle.mg_serve.specs.{Sessions.{HoldsExactly, IsDoneOrMemory, SinkRose, SinkUse, SourceRose, SourceUse, status_at, status_of}, Waiting.Waiting}
use Rattle.{mg_serve.specs.declared.{ended.Ended.Ended, status.Status.Status}, std.proofs.Common.{arith, inl, inr, refl, ⊎_elim}}
use Rattle.std.specs.{Option.ForSome, Prelude.{ℕ, ◌+◌, ◌≡◌, ◌≢◌, ◌⊎◌, true, List, Option, Some, None, Result, Ok, Err, IfErr, IfSome, IsOk, OnOk}}
use Rattle.mg_serve.specs.declared.ended.Ended.TheVariants as ended
use Rattle.mg_serve.specs.declared.machine.Machine as machines
use Rattle.mg_serve.specs.declared.status.Status.TheVariants as status

-- at another status
not_taking : (r : Status) → r ≢ status.Source → r ≢ status.TooLong → EndsTaking r → ⊥
not_taking r source too_long h = ⊎_elim source too_long h

no_lines : (r : Status) → r ≢ status.Disk → r ≢ status.Source → r ≢ status.TooLong → (r ≡ status.Disk) ⊎ EndsTaking r → ⊥
no_lines r disk source too_long h = ⊎_elim disk (λ taking. not_taking r source too_long taking) h

not_within : (r : Status) → r ≢ status.Done → r ≢ status.Source → (r ≡ status.Done) ⊎ (r ≡ status.Source) → ⊥
not_within r done source h = ⊎_elim done source h

within_any : (limit : ℕ) (left : Option (List ℕ)) (P : Type 0) → P → IsWithin limit left P
within_any limit None P holds = tt
within_any limit (Some input) P holds = λ short. holds

-- when no call failed and the input is not too long, a session has a good end
pub session_complete : {T : Type 0} (r : Result T Ended) (limit : ℕ) (left left' : Option (List ℕ)) (OfDisk OfSource OfSink : Type 0)
    → (r ≡ Err ended.Disk → OfDisk) → (r ≡ Err ended.Source → OfSource) → (r ≡ Err ended.Sink → OfSink) → (status_of r ≡ status.TooLong → TakesMore limit left left')
    → (OfDisk → ⊥) → (OfSource → ⊥) → (OfSink → ⊥) → IsWithin limit left (IsOk r)
session_complete (Ok x) limit left left' OfDisk OfSource OfSink d s k more no_disk no_source no_sink = within_any limit left _ refl
session_complete (Err ended.Disk) limit left left' OfDisk OfSource OfSink d s k more no_disk no_source no_sink = absurd (no_disk (d refl))
session_complete (Err ended.Source) limit left left' OfDisk OfSource OfSink d s k more no_disk no_source no_sink = absurd (no_source (s refl))
session_complete (Err ended.Sink) limit left left' OfDisk OfSource OfSink d s k more no_disk no_source no_sink = absurd (no_sink (k refl))
session_complete (Err ended.TooLong) limit left left' OfDisk OfSource OfSink d s k more no_disk no_source no_sink = not_more limit left left' _ (more refl)

-- when no call failed, all is done, or there was not enough memory
done_or_memory : {T : Type 0} (r : Result T Ended) → IsOk r → IsDoneOrMemory (status_of r)
done_or_memory (Ok x) h = inl refl
done_or_memory (Err e) h = absurd (cc)

within_more_of : (limit : ℕ) (left : Option (List ℕ)) (P Q : Type 0) → (P → Q) → IsWithin limit left P → IsWithin limit left Q
within_more_of limit None P Q f h = tt
within_more_of limit (Some input) P Q f h = λ short. f (h short)

ends_session : {T : Type 0} (r : Result T Ended) → EndsSession (status_of r)
ends_session (Ok x) = inl refl
ends_session (Err ended.Disk) = inr (inr (inl refl))
ends_session (Err ended.Source) = inr (inr (inr (inl refl)))
ends_session (Err ended.Sink) = inr (inr (inr (inr (inl refl))))
ends_session (Err ended.TooLong) = inr (inr (inr (inr (inr refl))))

at_disk : {T : Type 0} (r : Result T Ended) → status_of r ≡ status.Disk → r ≡ Err ended.Disk
at_disk (Ok x) h = absurd (cc)
at_disk (Err ended.Disk) h = refl
at_disk (Err ended.Source) h = absurd (cc)
at_disk (Err ended.Sink) h = absurd (cc)
at_disk (Err ended.TooLong) h = absurd (cc)

is_done : {T : Type 0} {P : Type 0} (r : Result T Ended) → OnOk r P → status_of r ≡ status.Done → P
is_done (Ok x) p h = p
is_done (Err ended.Disk) p h = absurd (cc)
is_done (Err ended.Source) p h = absurd (cc)
is_done (Err ended.Sink) p h = absurd (cc)
is_done (Err ended.TooLong) p h = absurd (cc)

module _ {M D S K : Type 0} (is : machines.Ghosts M) (d : DiskUse D) (i : SourceUse S) (o : SinkUse K) (m m' : M) (owed : Waiting) (n n' limit batch : ℕ) where
  abbrev facts : Ghosts D
  facts = d.facts

  abbrev left : Option (List ℕ)
  left = i.facts.left i.old

  abbrev left' : Option (List ℕ)
  left' = i.facts.left i.new

  abbrev entry : Entry M D
  entry = record { machine = m; disk = d.old; taken = o.facts.taken o.old; steps = n }

  abbrev p : Point M D
  p = record { machine = m'; disk = d.new; owed = owed; taken = o.facts.taken o.new; steps = n' }

  -- it ended early
  abbrev Early : Ended → Type 0
  Early e = Stops (Broken is facts batch) e entry left limit batch (limit + 4096) p left'

  -- at a good end nothing more was to be sent
  like_early : Finishes (Session is facts) entry left limit p left' → NothingPending facts p.disk → Early ended.Sink
  like_early f stands = finishes_stops is facts entry limit batch (limit + 4096) left left' p f (omega arith) stands

  answers_early : (e : Ended) → Early e → ForSome (facts.seen entry.disk) (λ image. Answers (is.said entry.machine image) (status_at e) i o)
  answers_early ended.Disk w = λ image seen. record {
    prefix = stops_prefix is facts entry limit batch (limit + 4096) ended.Disk left left' p w image seen;
    done = λ h. absurd (cc);
    first_lines = λ h. whole_lines is facts entry limit batch (limit + 4096) ended.Disk left left' p w (λ said h. h) image seen;
  }
  answers_early ended.Source w = λ image seen. record {
    prefix = stops_prefix is facts entry limit batch (limit + 4096) ended.Source left left' p w image seen;
    done = λ h. absurd (cc);
    first_lines = λ h. whole_lines is facts entry limit batch (limit + 4096) ended.Source left left' p w (λ said h. h) image seen;
  }
  answers_early ended.Sink w = λ image seen. record {
    prefix = stops_prefix is facts entry limit batch (limit + 4096) ended.Sink left left' p w image seen;
    done = λ h. absurd (cc);
    first_lines = λ h. absurd (no_lines status.Sink (λ e. cc) (λ e. cc) (λ e. cc) h);
  }
  answers_early ended.TooLong w = λ image seen. record {
    prefix = stops_prefix is facts entry limit batch (limit + 4096) ended.TooLong left left' p w image seen;
    done = λ h. absurd (cc);
    first_lines = λ h. whole_lines is facts entry limit batch (limit + 4096) ended.TooLong left left' p w (λ said h. h) image seen;
  }

  exactly_early : (e : Ended) → Early e → ForSome (facts.seen entry.disk) (λ image. HoldsExactly (is.kept entry.machine image) (status_at e) d i o)
  exactly_early ended.Disk w = λ image seen. record { held_taking = λ h. absurd (not_taking status.Disk (λ e. cc) (λ e. cc) h); held_sink = λ h. absurd (cc) }
  exactly_early ended.Source w = λ image seen. record {
    held_taking = λ h. exactly is facts entry limit batch (limit + 4096) ended.Source left left' p w (λ kept c h. h) image seen;
    held_sink = λ h. absurd (cc);
  }
  exactly_early ended.Sink w = λ image seen. record {
    held_taking = λ h. absurd (not_taking status.Sink (λ e. cc) (λ e. cc) h);
    held_sink = λ h. sink_one is facts entry limit batch (limit + 4096) left left' p w image seen;
  }
  exactly_early ended.TooLong w = λ image seen. record {
    held_taking = λ h. exactly is facts entry limit batch (limit + 4096) ended.TooLong left left' p w (λ kept c h. h) image seen;
    held_sink = λ h. absurd (cc);
  }

  holds_early : (e : Ended) → Early e → ForSome (facts.seen entry.disk) (λ image. Holds (is.kept entry.machine image) d i o)
  holds_early e w = λ image seen. record {
    moments = stops_moments is facts entry limit batch (limit + 4096) e left left' p w image seen;
    held = stops_held is facts entry limit batch (limit + 4096) e left left' p w image seen;
  }

  pub session_answers : {T : Type 0} (r : Result T Ended) → OnOk r (Finishes (Session is facts) entry left limit p left') → OnOk r (NothingPending facts p.disk) → IfErr r Early
      → ForSome (facts.seen entry.disk) (λ image. Answers (is.said entry.machine image) (status_of r) i o)
  session_answers (Ok x) f stands w = λ image seen. record {
    prefix = stops_prefix is facts entry limit batch (limit + 4096) ended.Sink left left' p (like_early f stands) image seen;
    done = λ h. finishes_all is facts entry limit batch (limit + 4096) left left' p f image seen;
    first_lines = λ h. absurd (no_lines status.Done (λ e. cc) (λ e. cc) (λ e. cc) h);
  }
  session_answers (Err e) f stands w = answers_early e w

  pub session_kept : {T : Type 0} (r : Result T Ended) → OnOk r (Finishes (Session is facts) entry left limit p left')
      → OnOk r (ForSome (facts.seen entry.disk) (λ image. IfSome left (λ input. SpellsAfter (is.kept entry.machine image) input (facts.seen p.disk))))
  session_kept (Ok x) f = finishes_kept is facts entry limit batch (limit + 4096) left left' p f
  session_kept (Err e) f = tt

  pub session_holds : {T : Type 0} (r : Result T Ended) → OnOk r (Finishes (Session is facts) entry left limit p left') → OnOk r (NothingPending facts p.disk) → IfErr r Early
      → ForSome (facts.seen entry.disk) (λ image. Holds (is.kept entry.machine image) d i o)
  session_holds (Ok x) f stands w = holds_early ended.Sink (like_early f stands)
  session_holds (Err e) f stands w = holds_early e w

  pub session_exactly : {T : Type 0} (r : Result T Ended) → IfErr r Early
      → ForSome (facts.seen entry.disk) (λ image. HoldsExactly (is.kept entry.machine image) (status_of r) d i o)
  session_exactly (Ok x) w = λ image seen. record { held_taking = λ h. absurd (not_taking status.Done (λ e. cc) (λ e. cc) h); held_sink = λ h. absurd (cc) }
  session_exactly (Err e) w = exactly_early e w

  pub session_at_disk : {T : Type 0} (r : Result T Ended) → IfErr r Early → r ≡ Err ended.Disk → is.is_live p.machine ≡ true
      → ForSome (facts.seen entry.disk) (λ image. KeepsExactly ((facts.time p.disk).left_since (facts.time p.disk).moment) (is.kept entry.machine image) left entry.taken p.taken)
  session_at_disk (Ok x) w at live = absurd (cc)
  session_at_disk (Err ended.Disk) w at live = disk_exactly is facts entry limit batch (limit + 4096) left left' p live w
  session_at_disk (Err ended.Source) w at live = absurd (cc)
  session_at_disk (Err ended.Sink) w at live = absurd (cc)
  session_at_disk (Err ended.TooLong) w at live = absurd (cc)

  -- what is traced of the lines
  session_traces : {T : Type 0} (r : Result T Ended) → OnOk r (Finishes (Session is facts) entry left limit p left') → IfErr r Early
      → ForSome (facts.seen entry.disk) (λ image. Traces is batch (status_of r) entry.machine image left left' entry.taken p.taken entry.steps p.steps p.machine)
  session_traces (Ok x) f w = finishes_traces is facts entry limit batch (limit + 4096) left left' p f
  session_traces (Err e) f w = stops_traces is facts entry limit batch (limit + 4096) e left left' p w

  ends_early : (e : Ended) → Early e
      → (e ≡ ended.Source → SourceRose i) → (e ≡ ended.Sink → SinkRose o)
      → Ends batch limit (status_at e) i o
  ends_early ended.Disk w source_rose sink_rose = record {
    few = λ h. absurd (not_taking status.Disk (λ e. cc) (λ e. cc) h);
    memory = λ h. absurd (cc);
    source_failed = λ h. absurd (cc);
    sink_failed = λ h. absurd (cc);
    too_long = λ h. absurd (cc);
    within = λ h. absurd (not_within status.Disk (λ e. cc) (λ e. cc) h);
    bounded = stops_bound is facts entry limit batch (limit + 4096) ended.Disk left left' p w;
  }
  ends_early ended.Source w source_rose sink_rose = record {
    few = λ h. few_of is facts entry limit batch (limit + 4096) ended.Source left left' p w w.few;
    memory = λ h. absurd (cc);
    source_failed = λ h. source_rose refl;
    sink_failed = λ h. absurd (cc);
    too_long = λ h. absurd (cc);
    within = λ h. source_within is facts entry limit batch (limit + 4096) left left' p w;
    bounded = stops_bound is facts entry limit batch (limit + 4096) ended.Source left left' p w;
  }
  ends_early ended.Sink w source_rose sink_rose = record {
    few = λ h. absurd (not_taking status.Sink (λ e. cc) (λ e. cc) h);
    memory = λ h. absurd (cc);
    source_failed = λ h. absurd (cc);
    sink_failed = λ h. sink_rose refl;
    too_long = λ h. absurd (cc);
    within = λ h. absurd (not_within status.Sink (λ e. cc) (λ e. cc) h);
    bounded = stops_bound is facts entry limit batch (limit + 4096) ended.Sink left left' p w;
  }
  ends_early ended.TooLong w source_rose sink_rose = record {
    few = λ h. few_of is facts entry limit batch (limit + 4096) ended.TooLong left left' p w w.few;
    memory = λ h. absurd (cc);
    source_failed = λ h. absurd (cc);
    sink_failed = λ h. absurd (cc);
    too_long = λ h. too_long_more is facts entry limit batch (limit + 4096) left left' p w;
    within = λ h. absurd (not_within status.TooLong (λ e. cc) (λ e. cc) h);
    bounded = stops_bound is facts entry limit batch (limit + 4096) ended.TooLong left left' p w;
  }

  session_ends : {T : Type 0} (r : Result T Ended) → OnOk r (Finishes (Session is facts) entry left limit p left') → IfErr r Early
      → (r ≡ Err ended.Source → SourceRose i) → (r ≡ Err ended.Sink → SinkRose o)
      → Ends batch limit (status_of r) i o
  session_ends (Ok x) f w source_rose sink_rose = record {
    few = λ h. absurd (not_taking status.Done (λ e. cc) (λ e. cc) h);
    memory = λ h. absurd (cc);
    source_failed = λ h. absurd (cc);
    sink_failed = λ h. absurd (cc);
    too_long = λ h. absurd (cc);
    within = λ h. finishes_within is facts entry limit batch (limit + 4096) left left' p f;
    bounded = within_more left left' limit 4096 (finishes_within is facts entry limit batch (limit + 4096) left left' p f);
  }
  session_ends (Err e) f w source_rose sink_rose = ends_early e w (λ h. source_rose (let s : e ≡ ended.Source = h in cc)) (λ h. sink_rose (let s : e ≡ ended.Sink = h in cc))

  -- all done, when no call failed and the input is not too long
  pub session_done : {T : Type 0} (r : Result T Ended) → OnOk r (Finishes (Session is facts) entry left limit p left') → IfErr r Early
      → (r ≡ Err ended.Disk → DiskRose d) → (r ≡ Err ended.Source → SourceRose i) → (r ≡ Err ended.Sink → SinkRose o)
      → (DiskRose d → ⊥) → (SourceRose i → ⊥) → (SinkRose o → ⊥)
      → IsWithin limit left (IsOk r)
  session_done r f w disk_rose source_rose sink_rose = grind (arith, session_complete, session_ends)

  -- the record of a session that ended so
  pub session_serves : {T : Type 0} (r : Result T Ended) → OnOk r (Finishes (Session is facts) entry left limit p left') → OnOk r (NothingPending facts p.disk) → IfErr r Early
      → (r ≡ Err ended.Disk → DiskRose d) → (r ≡ Err ended.Source → SourceRose i) → (r ≡ Err ended.Sink → SinkRose o)
      → Serves is batch limit (status_of r) m m' d i o n n'
  session_serves r f settled w disk_rose source_rose sink_rose = record {
    which = ends_session r;
    answers = session_answers r f settled w;
    kept = is_done r (session_kept r f);
    holds = session_holds r f settled w;
    holds_exactly = session_exactly r w;
    traces = session_traces r f w;
    ends = session_ends r f w source_rose sink_rose;
    settled = is_done r settled;
    disk_failed = λ h. disk_rose (at_disk r h);
    complete = λ no_disk no_source no_sink. within_more_of limit left (IsOk r) (IsDoneOrMemory (status_of r)) (done_or_memory r) (session_done r f w disk_rose source_rose sink_rose no_disk no_source no_sink);
  }
