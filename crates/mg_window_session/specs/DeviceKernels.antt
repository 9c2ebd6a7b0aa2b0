-- A kernel with devices as a machine: what it says of lines that it stepped. `held` is what is known of a device.
use Rattle.std.specs.Prelude.{◌≡◌, List, [], ◌∷◌, ◌++◌}
use Rattle.{mg_disk.specs.Disk.Image, mg_kernel.specs.Meaning.now_of, mg_model.specs.declared.calls.Line.Line}
use Rattle.{mg_window.specs.{Attached.{Attached, seen}, Devices.Held}, mg_window_session.specs.Machine.Equipped}
use Rattle.mg_window_session.specs.{Machine.device_after, declared.device_kernel.DeviceKernel.DeviceKernel}

-- the devices of a kernel
abbrev pub windows_in : {W : Type 0} → (W → Held) → DeviceKernel W → Attached
windows_in held k = seen held k.windows

-- the machine that a kernel with devices is
abbrev pub machine_of : {W : Type 0} → (W → Held) → DeviceKernel W → Image → Equipped
machine_of held k image = record { state = now_of k.kernel image; windows = windows_in held k }

-- the devices are those after these lines
abbrev pub IsStepped : {W : Type 0} → (W → Held) → DeviceKernel W → Image → List Line → DeviceKernel W → Type 0
IsStepped held old first ls new = windows_in held new ≡ (device_after (machine_of held old first) ls).windows

-- the devices are those before the last of these lines
pub record IsStopped {W : Type 0} (held : W → Held) (old : DeviceKernel W) (first : Image) (ls : List Line) (new : DeviceKernel W) : Type 0 where
  pub before : List Line
  pub last : Line
  pub split : ls ≡ before ++ last ∷ []
  pub windows : windows_in held new ≡ (device_after (machine_of held old first) before).windows
