-- What follows of how the lines ended, and of the lines of the devices after the replies.
use Rattle.mg_commands.specs.{Headline.{OnVolume, PrintsLast, session_of}, LastLemmas.{disk_ran, done_or_memory, ends_run, put_all, put_prefix}}
use Rattle.{mg_commands.specs.{LastLemmas.sink_failed, OpeningLemmas.{lines_unopened, unopened}}, mg_disk.specs.{Disk.Image, Runs.leaves_yet}}
use Rattle.{mg_disk.specs.{Runs.nothing_none, Stops.LeftOr}, mg_faults.specs.Faults.{CountGoesOn, count_none, rose_then}}
use Rattle.{mg_io.specs.Known.AppendsPrefix-none, mg_model.specs.{Lines.lines, State.State, Volume.volume}, mg_serve.specs.Serving.IsWithin}
use Rattle.{mg_serve.specs.{Sessions.{IsDoneOrMemory, use_of, input_limit}, declared.status.Status.Status}, mg_window.specs.Attached.Attached}
use Rattle.mg_window_session.{proofs.DeviceSteps.fault_devices, specs.Headline.{DevKeeps, DevicesKeep, LeavesDevices, device_lines, equipped}}
use Rattle.{mg_window_session.specs.Machine.{device_after, device_state, device_text}, std.{proofs.Common.{ap, inl, refl}, specs.Prelude.{ℕ, ◌≡◌}}}
use Rattle.std.specs.Prelude.{List, [], Option, Some, None, IfSome}
use Rattle.mg_check.specs.declared.examining.OpenFault.TheVariants as fault
use Rattle.mg_disk.specs.declared.disk.Disk as disks
use Rattle.mg_io.specs.declared.traits.Sink as sinks
use Rattle.mg_io.specs.declared.traits.Source as sources
use Rattle.mg_serve.specs.declared.status.Status.TheVariants as status

within_then : (limit : ℕ) (left : Option (List ℕ)) (P Q : Type 0) → (P → Q) → IsWithin limit left P → IsWithin limit left Q
within_then limit None P Q then h = tt
within_then limit (Some input) P Q then h = λ short. then (h short)

if_some_then : {T : Type 0} (o : Option T) (P Q : T → Type 0) → ((x : T) → P x → Q x) → IfSome o P → IfSome o Q
if_some_then None P Q then h = h
if_some_then (Some x) P Q then h = then x h

-- a promise on a state, from two others
on_volume_both : (told : Option Image) (P Q R : State → Type 0) → ((s : State) → P s → Q s → R s) → OnVolume told P → OnVolume told Q → OnVolume told R
on_volume_both told P Q R then p q = λ image is s spelled. then s (p image is s spelled) (q image is s spelled)

-- what is kept once the lines of the devices are printed
pub dev_keeps : {D S K : Type 0} (facts : disks.Ghosts D) (from : sources.Ghosts S) (to : sinks.Ghosts K) (ran result : Status) (windows windows' : Attached) (d d' : D) (source source' : S) (sink replied sink' : K) (steps steps' : ℕ)
    → DevicesKeep windows windows' (session_of 1 ran (use_of facts d d') (use_of from source source') (use_of to sink replied) steps steps') → PrintsLast to ran (device_lines windows') result replied sink'
    → CountGoesOn (to.faults sink) (to.faults replied) (to.is_spent sink) (to.is_spent replied) → CountGoesOn (to.faults replied) (to.faults sink') (to.is_spent replied) (to.is_spent sink')
    → DevKeeps windows windows' (session_of 1 result (use_of facts d d') (use_of from source source') (use_of to sink sink') steps steps')
dev_keeps facts from to ran result windows windows' d d' source source' sink replied sink' steps steps' keeps ends before after = record {
  ran = ran;
  replied = replied;
  keeps = keeps;
  ends = ends;
  prefix = on_volume_both (facts.seen d) _ _ _
      (λ s answers devices. put_prefix to ran (device_lines windows') result replied sink' ends (device_text (equipped windows s)) (use_of from source source') sink answers
      (λ bytes. device_lines (device_after (equipped windows s) (lines bytes)).windows) (λ done. if_some_then (from.left source) _ _ (λ bytes are. ap device_lines are) (devices.all done))) keeps.lines.answers keeps.devices;
  done = λ is. on_volume_both (facts.seen d) _ _ _
      (λ s answers devices. put_all to ran (device_lines windows') result replied sink' ends (device_text (equipped windows s)) (use_of from source source') sink answers
      (λ bytes. device_lines (device_after (equipped windows s) (lines bytes)).windows) (λ done. if_some_then (from.left source) _ _ (λ bytes are. ap device_lines are) (devices.all done)) is) keeps.lines.answers keeps.devices;
  which = ends_run to ran (device_lines windows') result replied sink' ends keeps.lines.which;
  disk_failed = λ is. keeps.lines.disk_failed (disk_ran to ran (device_lines windows') result replied sink' ends is);
  sink_failed = sink_failed to ran (device_lines windows') result replied sink' ends sink before keeps.lines.ends.sink_failed;
  complete = on_volume_both (facts.seen d) _ _ _
      (λ s promise again. λ no_disk no_source no_sink.
      within_then input_limit (from.left source) (IsDoneOrMemory ran) (IsDoneOrMemory result) (λ either. done_or_memory to ran (device_lines windows') result replied sink' ends sink before no_sink either)
      (promise no_disk no_source (λ rose. no_sink (rose_then _ _ _ _ _ rose after)))) keeps.lines.complete keeps.lines.complete;
}

-- when there is not enough memory before anything was begun
pub not_begun : {D S K : Type 0} (facts : disks.Ghosts D) (from : sources.Ghosts S) (to : sinks.Ghosts K) (windows : Attached) (d : D) (source : S) (sink : K) (steps : ℕ) → (facts.time d).has_been (facts.time d).moment
    → DevKeeps windows windows (session_of 1 status.Memory (use_of facts d d) (use_of from source source) (use_of to sink sink) steps steps)
not_begun facts from to windows d source sink steps been = dev_keeps facts from to status.Memory status.Memory windows windows d d source source sink sink sink steps steps
    record {
      lines = lines_unopened facts from to (λ s. device_text (equipped windows s)) (λ s. device_state (equipped windows s)) 1 fault.Memory status.Memory d d source sink sink steps tt refl
          (λ loud. absurd (loud tt)) (λ image told no_state. nothing_none facts d been) (λ q. refl) (λ h. absurd (cc)) (AppendsPrefix-none (to.taken sink) []) (λ h. absurd (cc)) (λ h. absurd (cc))
          (λ image told. leaves_yet facts d (LeftOr facts d (λ c. volume c ≡ volume image)) been (λ c left. inl left)) (λ s. refl) (λ s. refl);
      devices = unopened fault.Memory (facts.seen d) (λ s. LeavesDevices (equipped windows s) status.Memory windows (from.left source) (to.taken sink) (to.taken sink)) tt
          (λ quiet image seen s spelled. fault_devices (equipped windows s) fault.Memory status.Memory (from.left source) (to.taken sink) (to.taken sink) quiet refl refl);
      none_devices = λ h. refl;
      untouched_devices = λ image seen no_state. refl;
      memory_devices = λ h. refl;
      none_steps = λ h. refl;
      untouched_steps = λ image seen no_state. refl;
    }
    record { done = λ h. absurd (cc); early = λ h. (refl, refl) } (count_none (to.faults sink) (to.is_spent sink)) (count_none (to.faults sink) (to.is_spent sink))
