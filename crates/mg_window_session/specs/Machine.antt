-- The machine with devices attached: a load or a store that is allowed and falls into an object with a device reaches the
-- device in place of the object's words. Scripts, fetches and capability lists use the words as before.
use Rattle.std.specs.Prelude.{ℕ, ◌-◌, ◌&&◌, nat_lt, not, Bool, List, [], ◌∷◌, ◌++◌, filter, if◌then◌else◌, is_some}
use Rattle.std.specs.Prelude.{length, option_map, Option, Some, None}
use Rattle.mg_model.specs.{Access.{allowed, at, based_at}, ObjectCalls.is_aligned, Print.reply_line, State.State}
use Rattle.mg_model.specs.{Step.step, declared.{calls.{Call.Call, Line.Line}, replies.Reply.Reply, rights.Right.Right}}
use Rattle.{mg_model.specs.declared.rights.Right.TheVariants.{R, W}, mg_window.specs.Attached.{Attached, device_at}}
use Rattle.mg_window.specs.{Attached.{place_at, with_device}, Devices.{Held, reading, stored}}
use Rattle.mg_model.specs.declared.calls.Call.TheVariants as call
use Rattle.mg_model.specs.declared.replies.Refusal.TheVariants as refusal
use Rattle.mg_model.specs.declared.replies.Reply.TheVariants as reply

-- a state of the machine, and the devices that are attached
pub record Equipped : Type 0 where
  pub state : State
  pub windows : Attached

-- a machine as it is after a line, and its reply
abbrev pub Outcome : Type 0
Outcome = Equipped × Reply

-- the base of the object that has the address, if the thread may reach it with the right
abbrev pub base_reached : State → ℕ → ℕ → Right → Option ℕ
base_reached s t a right = if allowed s t a right then option_map (λ object. object.row.base) (at s.objects a) else None

-- the place of the device at this base, and the address from the base on, in bytes
abbrev pub window_of : Attached → ℕ → Option ℕ → Option (ℕ × ℕ)
window_of windows a None = None
window_of windows a (Some base) = option_map (λ i. (i, a - base)) (place_at windows base)

-- the device that an access of the thread reaches, if it reaches one
abbrev pub reached : Equipped → ℕ → ℕ → Right → Option (ℕ × ℕ)
reached m t a right = if is_aligned a then window_of m.windows a (base_reached m.state t a right) else None

-- whether an object had this base and none has it now
abbrev pub has_gone : State → State → ℕ → Bool
has_gone old new base = is_some (based_at old.objects base) && not (is_some (based_at new.objects base))

-- the devices that stay: all but those at the bases that have gone
abbrev pub staying : State → State → Attached → Attached
staying old new windows = filter (λ (window : ℕ × Held). not (has_gone old new window.0)) windows

-- a line that reaches no device is a step of the machine
abbrev pub plain_step : Equipped → Line → Outcome
plain_step m line =
    (record { state = (step m.state line).0; windows = staying m.state (step m.state line).0 m.windows }, (step m.state line).1)

-- a load of a device
abbrev pub load_step : Equipped → Line → Option (ℕ × ℕ) → Outcome
load_step m line None = plain_step m line
load_step m line (Some (i, off)) = (m, reply.Value (reading (device_at m.windows i).kind (device_at m.windows i).tape off))

-- whether a device has room for a store more
abbrev pub has_room : Held → Bool
has_room device = nat_lt (length device.tape) device.room

-- a store to a device: the devices after it, and the reply
abbrev pub stored_at : Attached → ℕ → ℕ → ℕ → Attached × Reply
stored_at windows i off value =
    if has_room (device_at windows i) then (with_device windows i (stored (device_at windows i) off value), reply.Done)
    else (windows, reply.No refusal.Limit)

abbrev pub store_step : Equipped → Line → ℕ → Option (ℕ × ℕ) → Outcome
store_step m line value None = plain_step m line
store_step m line value (Some (i, off)) =
    (record { state = m.state; windows = (stored_at m.windows i off value).0 }, (stored_at m.windows i off value).1)

abbrev pub call_step : Equipped → Line → Call → Outcome
call_step m line (call.Load a) = load_step m line (reached m line.thread a R)
call_step m line (call.Store a value) = store_step m line value (reached m line.thread a W)
call_step m line other = plain_step m line

-- the machine and the reply after a line
abbrev pub device_step : Equipped → Line → Outcome
device_step m line = call_step m line line.call

-- the machine after these lines
abbrev pub device_after : Equipped → List Line → Equipped
device_after m [] = m
device_after m (line ∷ more) = device_after (device_step m line).0 more

-- the replies to these lines, a line each
abbrev pub device_text : Equipped → List Line → List ℕ
device_text m [] = []
device_text m (line ∷ more) = reply_line (device_step m line).1 ++ device_text (device_step m line).0 more

-- the state of the volume after these lines
abbrev pub device_state : Equipped → List Line → State
device_state m ls = (device_after m ls).state
