-- What a kernel with devices says of lines, and what is left of its devices when a session ended.
use Rattle.{mg_check.specs.declared.examining.OpenFault.OpenFault, mg_commands.specs.Unopened.{EndsUnopenedBy, TellsNothing}}
use Rattle.{mg_disk.specs.Disk.Image, mg_kernel.specs.{Meaning.now_of, Opening.Holds, declared.kernel.Kernel.Kernel}, mg_model.specs.Lines.lines}
use Rattle.mg_model.specs.{Print.{answered, reply_line}, State.State, declared.{calls.Line.Line, replies.Reply.Reply}}
use Rattle.mg_serve.specs.{Machines.{AnswersLine, Commits}, Serving.{IsTraced, Traces}, declared.status.Status.Status}
use Rattle.{mg_window.specs.{Attached.Attached, Devices.Held}, mg_window_session.{proofs.Lines.after-append, specs.DeviceKernels.IsStepped}}
use Rattle.mg_window_session.specs.{DeviceKernels.{IsStopped, machine_of, windows_in}, Headline.{AreAfterAnswered, AreAfterOneMore, LeavesDevices}}
use Rattle.mg_window_session.specs.{Headline.equipped, Machine.{Equipped, device_after, device_state, device_step, device_text}}
use Rattle.{mg_window_session.specs.declared.device_kernel.DeviceKernel.DeviceKernel, std.proofs.Common.{refl, sym, ap, ◌∙◌, arith, length-append}}
use Rattle.std.proofs.{Common.{subst, ⊎_elim}, Math.Seq.take-append_seam, lemmas.List.{drop_all, length-take-le, take-append-le, take-append-drop}}
use Rattle.std.{proofs.lemmas.List.take_all, specs.Prelude.{ℕ, ◌≡◌, ◌≢◌, ◌<◌, ◌≤◌, ◌+◌, List, [], ◌∷◌, ◌++◌, length, take, drop, Option, Some, None}}
use Rattle.mg_check.specs.declared.examining.OpenFault.TheVariants as fault
use Rattle.mg_serve.specs.declared.machine.Machine as machines
use Rattle.mg_serve.specs.declared.status.Status.TheVariants as status

-- what is said and kept from a line on
pub answers_line : (m m' : Equipped) (line : Line) (reply : Reply) → (m', reply) ≡ device_step m line → AnswersLine (device_text m) (device_state m) (device_text m') (device_state m') line reply
answers_line m m' line reply told = record {
  says = λ ls. ap (λ (v : Equipped × Reply). reply_line v.1 ++ device_text v.0 ls) (sym told);
  none = refl;
  keeps = λ ls. ap (λ (v : Equipped × Reply). device_state v.0 ls) (sym told);
}

-- a line more was stepped, or failed
module _ {W : Type 0} (held : W → Held) where
  pub stepped_line : (k k' : DeviceKernel W) (image : Image) (line : Line) (reply : Reply) → (machine_of held k' image, reply) ≡ device_step (machine_of held k image) line
      → (old : DeviceKernel W) (first : Image) (ls : List Line) → device_state (machine_of held old first) ls ≡ now_of k.kernel image → IsStepped held old first ls k → IsStepped held old first (ls ++ line ∷ []) k'
  stepped_line k k' image line reply told old first ls now st =
      let same : machine_of held k image ≡ device_after (machine_of held old first) ls = ap (λ (s : State). equipped (windows_in held k) s) (sym now) ∙ ap (λ (w : Attached). equipped w (device_state (machine_of held old first) ls)) st in
      ap (λ (v : Equipped × Reply). v.0.windows) told ∙ ap (λ m. (device_step m line).0.windows) same ∙ ap (λ (m : Equipped). m.windows) (sym (after-append (machine_of held old first) ls (line ∷ [])))

  pub stopped_line : (k k' : DeviceKernel W) (line : Line) → windows_in held k' ≡ windows_in held k
      → (old : DeviceKernel W) (first : Image) (ls : List Line) → IsStepped held old first ls k → IsStopped held old first (ls ++ line ∷ []) k'
  stopped_line k k' line same old first ls st = record { before = ls; last = line; split = refl; windows = same ∙ st }

-- a commit leaves what is said and kept
pub commits : (windows : Attached) (s : State) (kernel' : Kernel) (told : Option Image) → Holds s kernel' told
    → Commits (device_text (equipped windows s)) (device_state (equipped windows s)) (λ image. device_text (equipped windows (now_of kernel' image))) (λ image. device_state (equipped windows (now_of kernel' image))) told
commits windows s kernel' told h = record {
  image = h.image;
  seen = h.is;
  spelled = h.kept;
  says = λ ls. ap (λ v. device_text (equipped windows v) ls) h.now;
  keeps = λ ls. ap (λ v. device_state (equipped windows v) ls) h.now;
}

-- The devices that are left

-- the devices after this many first lines
abbrev AreAfter : Equipped → List ℕ → ℕ → Attached → Type 0
AreAfter m input k windows = windows ≡ (device_after m (take k (lines input))).windows

-- the lines before the last of some first ones are first ones too, one fewer
fewer_lines : (k : ℕ) (all before : List Line) (last : Line) → k ≤ length all → take k all ≡ before ++ last ∷ [] → (length before + 1 ≡ k) × (before ≡ take (length before) all)
fewer_lines k all before last few split =
    let count : length before + 1 ≡ k = omega (arith, length-take-le k all few, ap length split, length-append before (last ∷ [])) in
    let short : length before ≤ length (take k all) = omega (arith, length-take-le k all few) in (
      count,
      sym (ap (λ v. take (length before) v) (sym (take-append-drop k all)) ∙ take-append-le (length before) (take k all) (drop k all) short ∙ ap (λ v. take (length before) v) split ∙ take-append_seam before (last ∷ [])),
    )

module _ {W : Type 0} (held : W → Held) (is : machines.Ghosts (DeviceKernel W)) (result : Status) (old new : DeviceKernel W) (image : Image) (steps steps' : ℕ)
    (stepped : (ls : List Line) → is.Stepped old image ls steps steps' new → IsStepped held old image ls new) (stopped : (ls : List Line) → is.StoppedIn old image ls steps steps' new → IsStopped held old image ls new) where
  -- at the end, or if the input failed, they are those after the answered lines
  answered_devices : (input rest : List ℕ) (taken taken' : Option (List ℕ)) (t : IsTraced is 1 result old image input rest taken taken' steps steps' new) → result ≢ status.Disk → t.count ≡ t.stepped
      → AreAfterAnswered (machine_of held old image) (Some input) taken taken' (windows_in held new)
  answered_devices input rest None taken' t early same = tt
  answered_devices input rest (Some before) None t early same = absurd t.answers
  answered_devices input rest (Some before) (Some now) t early same =
      stepped (take t.stepped (lines input)) (t.after early) ∙ ap (λ v. (device_after (machine_of held old image) (take v (lines input))).windows) (sym (t.answers ∙ same))

  one_more : (input rest : List ℕ) (taken taken' : Option (List ℕ)) (t : IsTraced is 1 result old image input rest taken taken' steps steps' new) (k : ℕ) → t.count ≤ k → k ≤ t.count + 1 → k ≤ length (lines input)
      → AreAfter (machine_of held old image) input k (windows_in held new) → AreAfterOneMore (machine_of held old image) (Some input) taken taken' (windows_in held new)
  one_more input rest None taken' t k least most few are = tt
  one_more input rest (Some before) None t k least most few are = absurd t.answers
  one_more input rest (Some before) (Some now) t k least most few are = (k, record { least = let n = t.answers in omega arith; most = let n = t.answers in omega arith }, few, are)

  at_disk : (input rest : List ℕ) (taken taken' : Option (List ℕ)) → IsTraced is 1 result old image input rest taken taken' steps steps' new → result ≡ status.Disk → AreAfterOneMore (machine_of held old image) (Some input) taken taken' (windows_in held new)
  at_disk input rest taken taken' t h = ⊎_elim
      (λ (a : is.Stepped old image (take t.stepped (lines input)) steps steps' new). one_more input rest taken taken' t t.stepped t.least t.most t.few (stepped (take t.stepped (lines input)) a))
      (λ (b : (t.count < t.stepped) × is.StoppedIn old image (take t.stepped (lines input)) steps steps' new).
      let s : IsStopped held old image (take t.stepped (lines input)) new = stopped (take t.stepped (lines input)) b.1 in
      let fewer = fewer_lines t.stepped (lines input) s.before s.last t.few s.split in
      let one : length s.before + 1 ≡ t.stepped = fewer.0 in
      let more : t.count < t.stepped = b.0 in
      let most = t.most in
      let few = t.few in
      one_more input rest taken taken' t (length s.before) (omega arith) (omega arith) (omega arith) (s.windows ∙ ap (λ v. (device_after (machine_of held old image) v).windows) fewer.1))
      (t.at_disk h)

  pub leaves_devices : (left left' taken taken' : Option (List ℕ)) → Traces is 1 result old image left left' taken taken' steps steps' new → LeavesDevices (machine_of held old image) result (windows_in held new) left taken taken'
  leaves_devices None left' taken taken' t = record { all = λ h. tt; done = λ h. tt; source = λ h. tt; too_long = λ h. tt; disk = λ h. tt; sink = λ h. tt }
  leaves_devices (Some input) None taken taken' t = absurd t
  leaves_devices (Some input) (Some rest) taken taken' t = record {
    all = λ h. stepped (take t.stepped (lines input)) (t.after (λ e. cc)) ∙ ap (λ v. (device_after (machine_of held old image) v).windows) (take_all t.stepped (lines input) (let all = t.done h in omega (arith, all.0)));
    done = λ h. answered_devices input rest taken taken' t (λ e. cc) (t.done h).1;
    source = λ h. answered_devices input rest taken taken' t (λ e. cc) (let few = t.source h in let least = t.least in omega arith);
    too_long = λ h. answered_devices input rest taken taken' t (λ e. cc) (let few = t.too_long h in let least = t.least in omega arith);
    disk = λ h. at_disk input rest taken taken' t h;
    sink = λ h. one_more input rest taken taken' t t.stepped t.least t.most t.few (stepped (take t.stepped (lines input)) (t.after (λ e. cc)));
  }

-- If no line ran the devices are those that were handed in.
none_answered : (taken : List ℕ) → answered (drop (length taken) taken) ≡ 0
none_answered taken = ap answered (drop_all (length taken) taken (omega arith))

none_more : (m : Equipped) (left taken : Option (List ℕ)) → AreAfterOneMore m left taken taken m.windows
none_more m None taken = tt
none_more m (Some input) None = tt
none_more m (Some input) (Some before) = (0, record { least = let none = none_answered before in omega arith; most = omega arith }, omega arith, refl)

pub fault_devices : (m : Equipped) (f : OpenFault) (result : Status) (left taken taken' : Option (List ℕ)) → TellsNothing f → EndsUnopenedBy f result → taken' ≡ taken → LeavesDevices m result m.windows left taken taken'
fault_devices m fault.Not result left taken taken' quiet ends same = absurd quiet
fault_devices m fault.Old result left taken taken' quiet ends same = absurd quiet
fault_devices m fault.Damaged result left taken taken' quiet ends same = absurd quiet
fault_devices m fault.Disk result left taken taken' quiet ends same = let e : result ≡ status.Disk = ends in subst (λ (v : Option (List ℕ)). LeavesDevices m result m.windows left taken v) (sym same) record {
  all = λ h. absurd (cc);
  done = λ h. absurd (cc);
  source = λ h. absurd (cc);
  too_long = λ h. absurd (cc);
  disk = λ h. none_more m left taken;
  sink = λ h. none_more m left taken;
}
fault_devices m fault.Memory result left taken taken' quiet ends same = let e : result ≡ status.Memory = ends in subst (λ (v : Option (List ℕ)). LeavesDevices m result m.windows left taken v) (sym same) record {
  all = λ h. absurd (cc);
  done = λ h. absurd (cc);
  source = λ h. absurd (cc);
  too_long = λ h. absurd (cc);
  disk = λ h. none_more m left taken;
  sink = λ h. none_more m left taken;
}
