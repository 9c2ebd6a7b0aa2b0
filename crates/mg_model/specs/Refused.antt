-- The refusals, and a row of the table of calls: its refusals in their order, and what is done if none of them holds.
use Rattle.std.specs.{Option.option_map_or, Prelude.{ℕ, Bool, List, [], ◌∷◌, Option, Some, None, if◌then◌else◌, codes}}
use Rattle.mg_model.specs.{State.State, declared.replies.{Refusal.Refusal, Reply.{Reply, TheVariants.No}}}
use Rattle.mg_model.specs.declared.replies.Refusal.TheVariants as refusal

-- the refusals: the number that a script sees, and the word that a line is answered
abbrev pub refusal_row : Refusal → ℕ × List ℕ
refusal_row refusal.Syntax = (1, codes "Syntax")
refusal_row refusal.NoThread = (2, codes "NoThread")
refusal_row refusal.Align = (3, codes "Align")
refusal_row refusal.Denied = (4, codes "Denied")
refusal_row refusal.Size = (5, codes "Size")
refusal_row refusal.Account = (6, codes "Account")
refusal_row refusal.Debt = (7, codes "Debt")
refusal_row refusal.Limit = (8, codes "Limit")
refusal_row refusal.Full = (9, codes "Full")
refusal_row refusal.NoPassword = (10, codes "NoPassword")
refusal_row refusal.Range = (11, codes "Range")
refusal_row refusal.SlotFull = (12, codes "SlotFull")
refusal_row refusal.NoSlot = (13, codes "NoSlot")
refusal_row refusal.NoEntry = (14, codes "NoEntry")
refusal_row refusal.Depth = (15, codes "Depth")
refusal_row refusal.NoFrame = (16, codes "NoFrame")
refusal_row refusal.NotYours = (17, codes "NotYours")
refusal_row refusal.NotReady = (18, codes "NotReady")
refusal_row refusal.Idle = (19, codes "Idle")
refusal_row refusal.Credit = (20, codes "Credit")
refusal_row refusal.Calendar = (21, codes "Calendar")
refusal_row refusal.Past = (22, codes "Past")

-- a state and the reply that came with it
abbrev pub Answer : Type 0
Answer = State × Reply

-- the first refusal whose condition holds
abbrev pub first_refusal : List (Bool × Refusal) → Option Refusal
first_refusal [] = None
first_refusal ((holds, word) ∷ more) = if holds then Some word else first_refusal more

-- a row of the table of calls: its state, its refusals in order, and what is done otherwise; a refused call changes nothing
abbrev pub checked : State → List (Bool × Refusal) → Answer → Answer
checked state refusals done = option_map_or (λ word. (state, No word)) (first_refusal refusals) done
