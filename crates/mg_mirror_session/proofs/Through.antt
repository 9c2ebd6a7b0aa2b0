-- What is kept of a disk is kept of each view of it that shows the same.
use Rattle.{mg_commands.specs.Headline.{HoldsSince, OnVolume, RunKeeps, TellsOfNone, session_of}, mg_disk.specs.{Disk.Image, Stops.Leaves}}
use Rattle.{mg_disk.specs.Stops.WritesNothing, mg_model.specs.{State.State, Step.after}, mg_serve.specs.Sessions.{HoldsExactly, SinkUse, SourceUse}}
use Rattle.{mg_serve.specs.{Sessions.use_of, declared.status.Status.Status}, std.specs.Prelude.{ℕ, Option, Some, None, IfSome}}
use Rattle.mg_disk.specs.declared.disk.Disk as disks
use Rattle.mg_io.specs.declared.traits.Sink as sinks

pub if_some_then : {T : Type 0} (o : Option T) (P Q : T → Type 0) → ((x : T) → P x → Q x) → IfSome o P → IfSome o Q
if_some_then None P Q then h = h
if_some_then (Some x) P Q then h = then x h

-- a promise on a state, from another one
pub on_volume_then : (told : Option Image) (P Q : State → Type 0) → ((s : State) → P s → Q s) → OnVolume told P → OnVolume told Q
on_volume_then told P Q then h = λ image is s spelled. then s (h image is s spelled)

module _ {M N : Type 0} (facts : disks.Ghosts N) (view : M → N) where
  -- a disk that shows what its view does
  abbrev pub seen_through : disks.Ghosts M
  seen_through = record {
    block_count = λ m. facts.block_count (view m);
    seen = λ m. facts.seen (view m);
    tells_stops = λ m. facts.tells_stops (view m);
    time = λ m. facts.time (view m);
    faults = λ m. facts.faults (view m);
    is_spent = λ m. facts.is_spent (view m);
  }

  leaves : (m m' : M) (P : Image → Type 0) → Leaves seen_through m m' P → Leaves facts (view m) (view m') P
  leaves m m' P h = record { each = h.each; time = h.time }

  pub writes_nothing : (m m' : M) → WritesNothing seen_through m m' → WritesNothing facts (view m) (view m')
  writes_nothing m m' h = record { same = h.same; stops = h.stops }

  holds : {S K : Type 0} (s : State) (m m' : M) (i : SourceUse S) (o : SinkUse K) → HoldsSince (after s) (use_of seen_through m m') i o → HoldsSince (after s) (use_of facts (view m) (view m')) i o
  holds s m m' i o h = record {
    moments = if_some_then (i.facts.left i.old) _ _ (λ input l. leaves m m' _ l) h.moments;
    held = h.held;
  }

  exactly : {S K : Type 0} (s : State) (result : Status) (m m' : M) (i : SourceUse S) (o : SinkUse K) → HoldsExactly (after s) result (use_of seen_through m m') i o → HoldsExactly (after s) result (use_of facts (view m) (view m')) i o
  exactly s result m m' i o h = record { held_taking = h.held_taking; held_sink = h.held_sink }

  none : {K : Type 0} (to : sinks.Ghosts K) (result : Status) (m m' : M) (k k' : K) → TellsOfNone seen_through to result m m' k k' → TellsOfNone facts to result (view m) (view m') k k'
  none to result m m' k k' h = record {
    none = λ is. ((h.none is).0, writes_nothing m m' (h.none is).1);
    not_opened = h.not_opened;
  }

  pub through : {S K : Type 0} (batch : ℕ) (result : Status) (m m' : M) (i : SourceUse S) (o : SinkUse K) (steps steps' : ℕ)
      → RunKeeps (session_of batch result (use_of seen_through m m') i o steps steps') → RunKeeps (session_of batch result (use_of facts (view m) (view m')) i o steps steps')
  through batch result m m' i o steps steps' h = record {
    lines = record {
      answers = h.lines.answers;
      kept = h.lines.kept;
      holds = on_volume_then (facts.seen (view m)) _ _ (λ s k. holds s m m' i o k) h.lines.holds;
      holds_exactly = on_volume_then (facts.seen (view m)) _ _ (λ s k. exactly s result m m' i o k) h.lines.holds_exactly;
      settled = h.lines.settled;
      ends = h.lines.ends;
      which = h.lines.which;
      disk_failed = h.lines.disk_failed;
      without = none o.facts result m m' o.old o.new h.lines.without;
      none_source = h.lines.none_source;
      untouched = λ image seen no_state. let (alone, kept, quiet) = h.lines.untouched image seen no_state in (alone, writes_nothing m m' kept, quiet);
      complete = h.lines.complete;
    };
    costs = record { cost = h.costs.cost; counts = h.costs.counts; none_steps = h.costs.none_steps; untouched_steps = h.costs.untouched_steps };
  }
