-- Calls that act on the object which an address names.
use Rattle.std.specs.Prelude.{◌≡◌, ℕ, Bool, true, false, List, Option}
use Rattle.{mg_disk.specs.Disk.Image, mg_model.specs.{Access.allowed, Backed.by_via, ObjectCalls.row_at}}
use Rattle.mg_model.specs.{State.ObjectRow, Turn.thread_call, WellFormed.IsWellFormed, declared.calls.Call.Call}
use Rattle.mg_model.specs.declared.{replies.Reply.Reply, rights.Right.{Right, TheVariants.{D, O}}, seats.Seat.Seat}
use Rattle.{mg_vcache.specs.Drops.Drops, mg_volume.specs.{Held.VolumeHeld, Meaning.{IsSpelledBy, now_of}}}
use Rattle.mg_model.specs.declared.calls.Call.TheVariants as call

-- whether a call is one of them, the address that it names, and the right that it wants there
abbrev pub is_on_object : Call → Bool
is_on_object (call.Delete b) = true
is_on_object (call.Pwadd b rights until) = true
is_on_object (call.Pwdel b password) = true
is_on_object (call.Entry b off) = true
is_on_object (call.Ext b clist password) = true
is_on_object (call.Recharge b account password) = true
is_on_object other = false

abbrev pub named : Call → ℕ
named (call.Delete b) = b
named (call.Pwadd b rights until) = b
named (call.Pwdel b password) = b
named (call.Entry b off) = b
named (call.Ext b clist password) = b
named (call.Recharge b account password) = b
named other = 0

abbrev pub asked : Call → Right
asked (call.Delete b) = D
asked other = O

-- its reply and the state after it are those of its row, if the address names the object and the thread has the right
abbrev pub ActsBy : Call → ObjectRow → VolumeHeld → VolumeHeld → Reply → Type 0
ActsBy made object old new reply =
    (image : Image) (t : ℕ) → IsSpelledBy old image → IsWellFormed (now_of old image) → row_at (now_of old image) (named made) ≡ object → allowed (now_of old image) t (named made) (asked made) ≡ true
    → thread_call (now_of old image) t made ≡ (now_of new image, reply)

-- which seats it ends
abbrev pub EndsBy : Call → ObjectRow → List (Option Seat) → List (Option Seat) → Reply → Type 0
EndsBy (call.Delete b) object old new reply = Drops (by_via object.base) old new reply
EndsBy (call.Pwdel b password) object old new reply = Drops (by_via object.base) old new reply
EndsBy other object old new reply = new ≡ old
