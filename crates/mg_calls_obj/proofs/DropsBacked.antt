-- What a call on an object that ends rights leaves of them, by the law on what a change of one object ends.
use Rattle.{mg_access.specs.Backing.StayBacked, mg_calls_obj.specs.Based.KeepsOthers, mg_laws.specs.Backing.{ChangeKeepsOthers, GoneKeepsOthers}}
use Rattle.mg_model.specs.{Backed.{KeepsBacked, by_via}, FewSlots.IsRefusal, Objects.{with_row, without_object}, State.{ObjectRow, State}}
use Rattle.{mg_model.specs.declared.{replies.Reply.Reply, seats.Seat.Seat}, mg_vcache.specs.{Drops.Drops, SeatLemmas.drops_backed}}
use Rattle.{mg_volume.specs.{Held.VolumeHeld, Meaning.now_of}, std.{proofs.Common.{ap, subst, sym}, specs.Prelude.{◌≡◌, ℕ, List, Option}}}

-- the object is gone
pub gone_keeps : GoneKeepsOthers → (state new : State) (base own : ℕ) → base ≡ own → new ≡ record state { objects = without_object base state.objects } → KeepsBacked (by_via own) state new
gone_keeps law state new base own same is =
    subst (λ b. KeepsBacked (by_via b) state new) same (subst (λ s. KeepsBacked (by_via base) state s) (sym is) (law state base))

-- it has another row
pub change_keeps :
    ChangeKeepsOthers → (state new : State) (base own : ℕ) (change : ObjectRow → ObjectRow) → ((row : ObjectRow) → (change row).base ≡ row.base) → base ≡ own → new ≡ record state { objects = with_row base change state.objects }
    → KeepsBacked (by_via own) state new
change_keeps law state new base own change stays same is =
    subst (λ b. KeepsBacked (by_via b) state new) same (subst (λ s. KeepsBacked (by_via base) state s) (sym is) (law state base change stays))

-- and the seats of the object are dropped, or the call is refused
pub others_stay :
    (base : ℕ) (old new : VolumeHeld) (seats seats' : List (Option Seat)) (reply : Reply) → KeepsOthers base old new → (IsRefusal reply → new ≡ old) → Drops (by_via base) seats seats' reply → StayBacked old new seats seats'
others_stay base old new seats seats' reply keeps stays drops image spelled formed all =
    drops_backed (by_via base) (now_of old image) (now_of new image) seats seats' reply (keeps image) drops (λ refused. ap (λ v. now_of v image) (stays refused)) all
