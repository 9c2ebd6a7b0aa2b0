-- What the calls of a kernel keep, one fact a field.
use Rattle.std.specs.{Option.ForSome, Prelude.{ℕ, ◌≡◌, ◌≤◌, ◌+◌, ◌-◌, true, Option, None, Result, IfOk, OnErr, OnOk}}
use Rattle.{mg_disk.specs.{Stops.WritesNothing, declared.disk.Disk.Ghosts}, mg_kernel.specs.Meaning.{StandsOn, is_live}}
use Rattle.mg_kernel.specs.Meaning.{keeps_key, knows, now_of, seats_in, staged_in, words_in}
use Rattle.{mg_kernel.specs.declared.kernel.Kernel.Kernel, mg_model.specs.{Accesses.Access, Counts.CountsAlike}}
use Rattle.mg_model.specs.{FewSlots.{HasFewSlots, IsRefusal}, Kept.{KeepsLine, Validates, access_limit, line_limit}}
use Rattle.mg_model.specs.{Step.step, declared.{calls.Line.Line, replies.Reply.Reply}}

-- Whatever comes of a call: nothing was written, and the kernel serves on.
pub record Serves {D : Type 0} (facts : Ghosts D) (k k' : Kernel) (disk disk' : D) (steps steps' : ℕ) : Type 0 where
  pub stands : StandsOn facts k' disk'
  pub writes : WritesNothing facts disk disk'
  pub live : is_live k' ≡ is_live k
  pub counted : CountsAlike (words_in k) (words_in k') steps steps'

-- The state and what is staged are as they were.
pub record Stays {D : Type 0} (facts : Ghosts D) (k k' : Kernel) (disk : D) : Type 0 where
  pub now : ForSome (facts.seen disk) (λ image. now_of k' image ≡ now_of k image)
  pub staged : staged_in k' ≡ staged_in k

-- What a line is answered.
pub record StepAnswers {D E : Type 0} (facts : Ghosts D) (line : Line) (result : Result Reply E) (k k' : Kernel) (disk : D) : Type 0 where
  -- The state and the reply are those of the machine's step.
  pub answers : IfOk result (λ reply. ForSome (facts.seen disk) (λ image. step (now_of k image) line ≡ (now_of k' image, reply)))
  -- A refused line stages nothing, and if a call of the disk failed the state stays too.
  pub refused : IfOk result (λ reply. IsRefusal reply → staged_in k' ≡ staged_in k)
  pub failed : OnErr result (Stays facts k k' disk)
  pub slots : IfOk result HasFewSlots

-- Which keys stay kept after a line that was answered, and how many words are counted, be it answered or not.
pub record StepCosts {D E : Type 0} (facts : Ghosts D) (line : Line) (result : Result Reply E) (k k' : Kernel) (disk : D) (steps steps' : ℕ) : Type 0 where
  pub keeps : OnOk result (ForSome (facts.seen disk) (λ image. KeepsLine (now_of k image) line (λ key. keeps_key k key) (λ key. keeps_key k' key) steps steps'))
  pub limit : ForSome (facts.seen disk) (λ image. steps' ≤ steps + line_limit (λ key. keeps_key k key) (now_of k image) line)

-- The same of one access, and which seats stay.
pub record ProbeCosts {D E : Type 0} (facts : Ghosts D) (access : Access) (result : Result (Option ℕ) E) (k k' : Kernel) (disk disk' : D) (steps steps' : ℕ) : Type 0 where
  pub keeps : OnOk result (ForSome (facts.seen disk) (λ image. Validates (now_of k image) access (λ key. keeps_key k key) (λ key. keeps_key k' key) (steps' - steps)))
  pub limit : ForSome (facts.seen disk) (λ image. steps' ≤ steps + access_limit (λ key. keeps_key k key) (now_of k image) access)
  -- If the key is kept no word is read, and no call of the disk is made.
  pub known : knows k access.thread access.address access.right ≡ true → (disk' ≡ disk) × (steps' ≡ steps)
  pub none : IfOk result (λ base. base ≡ None → seats_in k' ≡ seats_in k)
  pub failed : OnErr result (seats_in k' ≡ seats_in k)
