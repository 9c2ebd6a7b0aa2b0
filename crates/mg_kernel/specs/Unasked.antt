-- Calls of a thread that need no right: those of the bank, those on the thread's own frames, those that end or resume a
-- thread, and `create`.
use Rattle.std.specs.Prelude.{◌≡◌, ℕ, Bool, true, false, List, Option}
use Rattle.mg_model.specs.{Backed.by_thread, declared.{calls.Call.Call, replies.Reply.Reply, seats.Seat.Seat}}
use Rattle.mg_vcache.specs.Drops.{Drops}
use Rattle.mg_model.specs.declared.calls.Call.TheVariants as call

-- whether a call is one of them
abbrev pub asks_nothing : Call → Bool
asks_nothing (call.Create n account password) = true
asks_nothing (call.Apdadd clist password) = true
asks_nothing (call.Apddel index) = true
asks_nothing call.Apdlist = true
asks_nothing call.Ret = true
asks_nothing (call.End i) = true
asks_nothing (call.Resume i) = true
asks_nothing (call.Account account password amount) = true
asks_nothing (call.Pay account password to amount) = true
asks_nothing (call.Balance account password) = true
asks_nothing other = false

-- which seats of the validation cache it ends: if a thread has fewer slots than before, or ends, all of that thread
abbrev pub EndsUnasked : ℕ → Call → List (Option Seat) → List (Option Seat) → Reply → Type 0
EndsUnasked t (call.Apddel index) old new reply = Drops (by_thread t) old new reply
EndsUnasked t call.Ret old new reply = Drops (by_thread t) old new reply
EndsUnasked t (call.End i) old new reply = Drops (by_thread i) old new reply
EndsUnasked t other old new reply = new ≡ old
