-- A key is recent exactly if an earlier line took it, nothing disturbed since, and no other key took its seat since.
use Rattle.mg_laws.proofs.KeysSeats.{elsewhere-has_seat, first-append, first-splits, is_last, last_is, none-elsewhere, seat-first, splits-first}
use Rattle.mg_model.specs.{Events.{DisturbsNothing, TellsTaken, WasTaken, keys_taken_in}, Keys.{Key, first_at, has_seat, seat_of}, Warmth.Event}
use Rattle.{mg_model.specs.Warmth.{is_disturbing, is_recent, recent}, std.proofs.Common.{arith, ◌≡◌, true, List, [], ◌∷◌, ◌++◌, Option, Some, None}}
use Rattle.std.proofs.{Common.{refl, sym, ap, ◌∙◌, All, append_assoc}, lemmas.{Bool.{cond-false, cond_both}, List.Elements.{All-cons, All-head}}}
use Rattle.std.{proofs.lemmas.{List.Elements.{All-nil, All-tail}, Option.none-some}, specs.Option.option_or}

-- the key has its seat now
abbrev IsLast : List Event → Key → Type 0
IsLast past key = first_at (seat_of key) (recent past) ≡ Some key

pub recent-last : (past : List Event) (key : Key) → is_recent past key ≡ true → IsLast past key
recent-last past key is = last_is key (first_at (seat_of key) (recent past)) is

pub last-recent : (past : List Event) (key : Key) → IsLast past key → is_recent past key ≡ true
last-recent past key is = is_last key (first_at (seat_of key) (recent past)) is

-- the line took the key last
taken-here : (event : Event) (past : List Event) (key : Key) → DisturbsNothing event → first_at (seat_of key) (keys_taken_in event) ≡ Some key → WasTaken (event ∷ past) key
taken-here event past key quiet first =
    let s = first-splits key (keys_taken_in event) first in record {
      later = [];
      event = event;
      older = past;
      split = refl;
      quiet = quiet;
      all_quiet = All-nil DisturbsNothing;
      after = s.after;
      before = s.before;
      took = s.split;
      seat = s.seat;
      seats = All-nil (λ other. has_seat (keys_taken_in other) key ≡ true);
    }

-- an earlier line did, and this line left it
taken-earlier : (event : Event) (past : List Event) (key : Key) → DisturbsNothing event → has_seat (keys_taken_in event) key ≡ true → WasTaken past key → WasTaken (event ∷ past) key
taken-earlier event past key quiet leaves w = record {
  later = event ∷ w.later;
  event = w.event;
  older = w.older;
  split = ap (λ v. event ∷ v) w.split;
  quiet = w.quiet;
  all_quiet = All-cons DisturbsNothing event w.later quiet w.all_quiet;
  after = w.after;
  before = w.before;
  took = w.took;
  seat = w.seat;
  seats = All-cons (λ other. has_seat (keys_taken_in other) key ≡ true) event w.later leaves w.seats;
}

last-taken : (past : List Event) (key : Key) → IsLast past key → WasTaken past key
last-taken [] key is = absurd (none-some key is)
last-taken (event ∷ past) key is =
    cond_both (is_disturbing event.state event.line) [] (keys_taken_in event ++ recent past) (λ keys. first_at (seat_of key) keys ≡ Some key → WasTaken (event ∷ past) key)
    (λ _ none. absurd (none-some key none))
    (λ quiet last. by_line quiet (first_at (seat_of key) (keys_taken_in event)) refl (sym (first-append (seat_of key) (keys_taken_in event) (recent past)) ∙ last) (last-taken past key))
    is
  where
    by_line : DisturbsNothing event → (o : Option Key) → first_at (seat_of key) (keys_taken_in event) ≡ o → option_or o (first_at (seat_of key) (recent past)) ≡ Some key
        → (IsLast past key → WasTaken past key) → WasTaken (event ∷ past) key
    by_line quiet (Some x) there last earlier = taken-here event past key quiet (there ∙ last)
    by_line quiet None none last earlier = taken-earlier event past key quiet (elsewhere-has_seat key (keys_taken_in event) (none-elsewhere key (keys_taken_in event) none)) (earlier last)

-- a line that does not disturb
quiet-recent : (event : Event) (past : List Event) → DisturbsNothing event → recent (event ∷ past) ≡ keys_taken_in event ++ recent past
quiet-recent event past quiet = cond-false (is_disturbing event.state event.line) [] (keys_taken_in event ++ recent past) quiet

taken-last : (key : Key) (later : List Event) (event : Event) (older : List Event) (after before : List Key) → DisturbsNothing event → All DisturbsNothing later
    → keys_taken_in event ≡ after ++ key ∷ before → has_seat after key ≡ true → All (λ other. has_seat (keys_taken_in other) key ≡ true) later → IsLast (later ++ event ∷ older) key
taken-last key [] event older after before quiet all took seat seats = grind (arith, quiet-recent, append_assoc, splits-first)
taken-last key (x ∷ later) event older after before quiet all took seat seats =
    ap (λ keys. first_at (seat_of key) keys) (quiet-recent x (later ++ event ∷ older) (All-head DisturbsNothing x later all))
    ∙ seat-first key (keys_taken_in x) (recent (later ++ event ∷ older)) (All-head (λ other. has_seat (keys_taken_in other) key ≡ true) x later seats)
    (taken-last key later event older after before quiet (All-tail DisturbsNothing x later all) took seat (All-tail (λ other. has_seat (keys_taken_in other) key ≡ true) x later seats))

pub tells_taken : TellsTaken is_recent
tells_taken past key = grind (arith, last-taken, recent-last, last-recent, taken-last)
