-- Lemmas on seats: what drops, fills and steps leave of what holds of each of them.
use Rattle.std.proofs.{Common.{refl, sym, ap, subst, ◌∙◌}, lemmas.Bool.{and_parts, eqb-true, ltb-false, ltb-true}}
use Rattle.std.proofs.lemmas.List.{get_or_past, Elements.{All-map, All-replicate, All-set, All-weaker}}
use Rattle.std.specs.{Option.option_map_or, Prelude.{◌≡◌, ◌≤◌, ℕ, zero, suc, ◌==◌, ◌&&◌, nat_lt, Bool, true, false}}
use Rattle.std.specs.Prelude.{List, if◌then◌else◌, length, replicate, slice_index_or, slice_set, Option, Some, None}
use Rattle.std.specs.Prelude.{IfSome}
use Rattle.mg_model.specs.{Backed.{IsBacked, KeepsBacked, by_none}, FewSlots.IsRefusal, Keys.{Key, is_key, seat_of}}
use Rattle.mg_model.specs.{Rights.right_number, State.State, Warmth.is_ok, declared.replies.Reply.Reply}
use Rattle.mg_model.specs.declared.{replies.Reply.TheVariants.No, rights.Right.Right, seats.Seat.Seat}
use Rattle.mg_vcache.specs.{Drops.Drops, Seats.{AllBacked, EachKept, is_kept, key_in, unless_ended, without}}
use Rattle.mg_model.specs.declared.rights.Right.TheVariants as right

-- what a drop leaves of one seat
left_one : (ended : Seat → Bool) (P Q : Seat → Type 0) → ((seat : Seat) → ended seat ≡ false → P seat → Q seat) → (kept : Option Seat) → IfSome kept P → IfSome (unless_ended ended kept) Q
left_one ended P Q keeps None holds = holds
left_one ended P Q keeps (Some seat) holds = by_end (ended seat) refl
  where
    by_end : (v : Bool) → ended seat ≡ v → IfSome (if v then None else Some seat) Q
    by_end true is = tt
    by_end false is = keeps seat is holds

-- a drop keeps what holds of each seat, if it is kept of those that are not dropped
pub each_without : (ended : Seat → Bool) (P Q : Seat → Type 0) → ((seat : Seat) → ended seat ≡ false → P seat → Q seat) → (seats : List (Option Seat)) → EachKept P seats → EachKept Q (without ended seats)
each_without ended P Q keeps seats all =
    All-map (λ kept. IfSome kept Q) (λ kept. unless_ended ended kept) seats (All-weaker (λ kept. IfSome kept P) (λ kept. IfSome (unless_ended ended kept) Q) (λ kept holds. left_one ended P Q keeps kept holds) seats all)

-- when a step ends these seats alone, each is backed after it once these are dropped
pub backed_without : (ended : Seat → Bool) (old new : State) (seats : List (Option Seat)) → KeepsBacked ended old new → AllBacked old seats → AllBacked new (without ended seats)
backed_without ended old new seats keeps all = each_without ended (λ seat. IsBacked old seat) (λ seat. IsBacked new seat) keeps seats all

-- when it ends none, each is backed still
pub backed_still : (old new : State) (seats : List (Option Seat)) → KeepsBacked by_none old new → AllBacked old seats → AllBacked new seats
backed_still old new seats keeps all = All-weaker (λ kept. IfSome kept (λ seat. IsBacked old seat)) (λ kept. IfSome kept (λ seat. IsBacked new seat)) (λ kept holds. still kept holds) seats all
  where
    still : (kept : Option Seat) → IfSome kept (λ seat. IsBacked old seat) → IfSome kept (λ seat. IsBacked new seat)
    still None holds = holds
    still (Some seat) holds = keeps seat refl holds

-- no seat is none that is not backed
pub backed_none : (state : State) (n : ℕ) → AllBacked state (replicate n None)
backed_none state n = All-replicate (λ kept. IfSome kept (λ seat. IsBacked state seat)) n None tt

-- a seat that is filled
pub each_fill : (P : Seat → Type 0) (seats : List (Option Seat)) (i : ℕ) (seat : Seat) → P seat → EachKept P seats → EachKept P (slice_set seats i (Some seat))
each_fill P seats i seat holds all = All-set (λ kept. IfSome kept P) seats i (Some seat) holds all

-- what holds of each seat holds of the one at a place
pub each_at : (P : Seat → Type 0) (seats : List (Option Seat)) (i : ℕ) → EachKept P seats → IfSome (slice_index_or seats i None) P
each_at P seats i all = by_place (nat_lt i (length seats)) refl
  where
    by_place : (v : Bool) → nat_lt i (length seats) ≡ v → IfSome (slice_index_or seats i None) P
    by_place true is = all i None (ltb-true i (length seats) is)
    by_place false is = let past : length seats ≤ i = ltb-false i (length seats) is in subst (λ o. IfSome o P) (sym (get_or_past seats i None past)) tt

-- rights are distinguished by their numbers
right_at : ℕ → Right
right_at zero = right.R
right_at (suc zero) = right.W
right_at (suc (suc zero)) = right.X
right_at (suc (suc (suc zero))) = right.D
right_at (suc (suc (suc (suc zero)))) = right.P
right_at (suc (suc (suc (suc (suc n))))) = right.O

at_number : (one : Right) → right_at (right_number one) ≡ one
unfolding right_at
at_number right.R = refl
at_number right.W = refl
at_number right.X = refl
at_number right.D = refl
at_number right.P = refl
at_number right.O = refl

same_right : (one other : Right) → (right_number one == right_number other) ≡ true → one ≡ other
same_right one other same = sym (at_number one) ∙ ap right_at (eqb-true (right_number one) (right_number other) same) ∙ at_number other

-- a key that is kept is that of a right which the state gives
pub kept_backed : (state : State) (seats : List (Option Seat)) (key : Key) → AllBacked state seats → is_kept seats key ≡ true → (via : ℕ) × IsBacked state (record { thread = key.thread; base = key.base; right = key.right; via = via })
kept_backed state seats key all kept = by_seat (slice_index_or seats (seat_of key) None) (each_at (λ seat. IsBacked state seat) seats (seat_of key) all) kept
  where
    by_seat : (o : Option Seat) → IfSome o (λ seat. IsBacked state seat) → option_map_or (λ seat. is_key (key_in seat) key) o false ≡ true → (via : ℕ) × IsBacked state (record { thread = key.thread; base = key.base; right = key.right; via = via })
    by_seat None backed is = cc
    by_seat (Some seat) backed is =
        let parts = and_parts (seat.thread == key.thread) (seat.base == key.base && right_number seat.right == right_number key.right) is in
        let rest = and_parts (seat.base == key.base) (right_number seat.right == right_number key.right) parts.1 in
        let thread = eqb-true seat.thread key.thread parts.0 in
        let base = eqb-true seat.base key.base rest.0 in
        let same = same_right seat.right key.right rest.1 in (
          seat.via,
          subst (λ t. IsBacked state (record { thread = t; base = key.base; right = key.right; via = seat.via })) thread
              (subst (λ b. IsBacked state (record { thread = seat.thread; base = b; right = key.right; via = seat.via })) base
              (subst (λ r. IsBacked state (record { thread = seat.thread; base = seat.base; right = r; via = seat.via })) same backed)),
        )

-- A call that drops seats, or none if it is refused: each seat that is left is backed, and one that is refused drops none.
pub drops_backed : (ended : Seat → Bool) (state new : State) (seats seats' : List (Option Seat)) (reply : Reply) → KeepsBacked ended state new → Drops ended seats seats' reply → (IsRefusal reply → new ≡ state) → AllBacked state seats → AllBacked new seats'
drops_backed ended state new seats seats' (No word) keeps drops same all = subst (λ s. AllBacked new s) (sym drops) (subst (λ s. AllBacked s seats) (sym (same tt)) all)
drops_backed ended state new seats seats' other keeps drops same all = subst (λ s. AllBacked new s) (sym drops) (backed_without ended state new seats keeps all)

pub same_backed : (state new : State) (seats seats' : List (Option Seat)) → KeepsBacked by_none state new → seats' ≡ seats → AllBacked state seats → AllBacked new seats'
same_backed state new seats seats' keeps ends all = subst (λ s. AllBacked new s) (sym ends) (backed_still state new seats keeps all)

pub drops_none : (ended : Seat → Bool) (old new : List (Option Seat)) (reply : Reply) → Drops ended old new reply → is_ok reply ≡ false → new ≡ old
drops_none ended old new (No word) drops ok = drops
drops_none ended old new other drops ok = cc
