-- What the row of a thread says of it, if it is held.
use Rattle.mg_model.specs.{Refused.first_refusal, State.{Thread, ThreadRow}, declared.replies.Refusal.TheVariants.{NoThread, NotYours}}
use Rattle.std.proofs.Common.{ℕ, ◌≡◌, ◌||◌, ◌==◌, Bool, not, true, false, List, [], ◌∷◌, if◌then◌else◌, Option, Some, None, refl, ap}
use Rattle.std.specs.{List.list_any, Option.option_map_or, Prelude.{find, is_some, option_map}}

pub birth-of : (found : Option Thread) (row : ThreadRow) → option_map (λ (x : Thread). x.row) found ≡ Some row → option_map_or (λ (x : Thread). x.row.birth) found 0 ≡ row.birth
birth-of None row h = cc
birth-of (Some x) row h = let same : x.row ≡ row = cc in ap (λ (r : ThreadRow). r.birth) same

-- why a thread is not own, by whether there is one, and by its row
pub none-there : (found : Option Thread) (own : Bool) → option_map (λ (x : Thread). x.row) found ≡ None → first_refusal ((not (is_some found), NoThread) ∷ (not own, NotYours) ∷ []) ≡ Some NoThread
none-there None own h = refl
none-there (Some x) own h = cc

pub one-there : (found : Option Thread) (row : ThreadRow) (same : Bool) (birth : ℕ) → option_map (λ (x : Thread). x.row) found ≡ Some row
    → first_refusal ((not (is_some found), NoThread) ∷ (not (same || option_map_or (λ (x : Thread). x.row.creator) found 0 == birth), NotYours) ∷ []) ≡ (if not (same || row.creator == birth) then Some NotYours else None)
one-there None row same birth h = cc
one-there (Some x) row same birth h = let is : x.row ≡ row = cc in ap (λ (r : ThreadRow). if not (same || r.creator == birth) then Some NotYours else None) is

-- a thread that has a row lives
pub lives-held : (t : ℕ) (threads : List Thread) (row : ThreadRow) → option_map (λ (x : Thread). x.row) (find (λ (x : Thread). x.number == t) threads) ≡ Some row → list_any (λ (x : Thread). x.number == t) threads ≡ true
lives-held t [] row h = cc
lives-held t (thread ∷ threads) row h = by_test (thread.number == t) (lives-held t threads row) h
  where
    by_test : (v : Bool) → (option_map (λ (x : Thread). x.row) (find (λ (x : Thread). x.number == t) threads) ≡ Some row → list_any (λ (x : Thread). x.number == t) threads ≡ true)
        → option_map (λ (x : Thread). x.row) (if v then Some thread else find (λ (x : Thread). x.number == t) threads) ≡ Some row → (v || list_any (λ (x : Thread). x.number == t) threads) ≡ true
    by_test true later h = refl
    by_test false later h = later h
