-- One object more, in the order of the bases and in that of the places.
use Rattle.{mg_model.specs.State.ObjectRow, mg_objects.specs.Held.{by_base, into_place}, mg_volume.proofs.FreePlace.is_taken}
use Rattle.mg_volume.{proofs.{ObjectLists.place-cases, StillStaged.with_base}, specs.{Meaning.bare_rows, RowLists.{row_at, row_set}}}
use Rattle.{mg_volume.specs.Staging.with_new_row, std.proofs.{Common.{refl, arith}, lemmas.Bool.{or_right, Decides.nat_tests}}}
use Rattle.std.{proofs.lemmas.List.{Elements.{All-cons, All-head, All-nil, All-tail}, Sums.sum_by-cons}, specs.{List.list_any, Prelude.{◌≡◌, ◌≢◌}}}
use Rattle.std.specs.Prelude.{◌+◌, ℕ, Bool, true, false, All, List, [], ◌∷◌, length, sum_by, Some, None}

-- what is true of each was true of each before
from-into : (P : ℕ × ObjectRow → Type 0) (new : ℕ × ObjectRow) (os : List (ℕ × ObjectRow)) → All P (into_place new os) → (P new) × All P os
from-into P new [] all = (All-head P new [] all, All-nil P)
from-into P new (o ∷ os) all =
    let more = from-into P new os in
    place-cases (λ l. All P l → (P new) × All P (o ∷ os)) new o os (λ low all. (All-head P new (o ∷ os) all, All-tail P new (o ∷ os) all))
    (λ high all. (let rest = more (All-tail P o (into_place new os) all) in (rest.0, All-cons P o os (All-head P o (into_place new os) all) rest.1))) all

pub from_by_base : (P : ℕ × ObjectRow → Type 0) (rows : List (ℕ × ObjectRow)) → All P (by_base rows) → All P rows
from_by_base P [] all = all
from_by_base P (o ∷ rows) all = (let parts = from-into P o (by_base rows) all in All-cons P o rows parts.0 (from_by_base P rows parts.1))

-- counts and tests
pub into_length : (new : ℕ × ObjectRow) (os : List (ℕ × ObjectRow)) → length (into_place new os) ≡ length os + 1
into_length new [] = refl
into_length new (o ∷ os) = (let rest = into_length new os in place-cases (λ l. length l ≡ length (o ∷ os) + 1) new o os (λ low. omega arith) (λ high. omega arith))

pub into_sum : (f : ℕ × ObjectRow → ℕ) (new : ℕ × ObjectRow) (os : List (ℕ × ObjectRow)) → sum_by f (into_place new os) ≡ sum_by f os + f new
into_sum f new [] = (let a = sum_by-cons f new [] in omega arith)
into_sum f new (o ∷ os) =
    let rest = into_sum f new os in
    let a = sum_by-cons f o os in
    let b = sum_by-cons f new (o ∷ os) in
    let c = sum_by-cons f o (into_place new os) in
    place-cases (λ l. sum_by f l ≡ sum_by f (o ∷ os) + f new) new o os (λ low. omega arith) (λ high. omega arith)

pub into_any : (q : ObjectRow → Bool) (new : ℕ × ObjectRow) (os : List (ℕ × ObjectRow)) → list_any q (bare_rows os) ≡ true → list_any q (bare_rows (into_place new os)) ≡ true
into_any q new [] any = or_right (q new.1) false any
into_any q new (o ∷ os) any = grind (arith, any, into_any q new os)

-- of the rows alone
pub into_rows : (new : ℕ × ObjectRow) (os : List (ℕ × ObjectRow)) → bare_rows (into_place new os) ≡ with_new_row new.1 (bare_rows os)
into_rows new [] = refl
into_rows new (o ∷ os) = grind (arith, into_rows new os)

-- the others are found as before, and it is found
pub into_others : (base : ℕ) (new : ℕ × ObjectRow) (os : List (ℕ × ObjectRow)) → new.1.base ≢ base → with_base base (into_place new os) ≡ with_base base os
into_others base new [] other = grind (arith, nat_tests, other)
into_others base new (o ∷ os) other = grind (arith, nat_tests, other, into_others base new os other)

pub into_found : (new : ℕ × ObjectRow) (os : List (ℕ × ObjectRow)) → All (λ (o : ℕ × ObjectRow). o.1.base ≢ new.1.base) os → with_base new.1.base (into_place new os) ≡ Some new
into_found new [] none = grind (arith, nat_tests)
into_found new (o ∷ os) none =
    grind (arith, nat_tests, All-head (λ (o : ℕ × ObjectRow). o.1.base ≢ new.1.base) o os none, into_found new os (All-tail (λ (o : ℕ × ObjectRow). o.1.base ≢ new.1.base) o os none))

into-swaps : (a b : ℕ × ObjectRow) (os : List (ℕ × ObjectRow)) → a.1.base ≢ b.1.base → into_place a (into_place b os) ≡ into_place b (into_place a os)
into-swaps a b [] other = grind (arith, nat_tests, other)
into-swaps a b (o ∷ os) other = grind (arith, nat_tests, other, into-swaps a b os other)

-- a row that is written at a place where none was
pub set_order : (place : ℕ) (row : ObjectRow) (rows : List (ℕ × ObjectRow)) → row_at place rows ≡ None → All (λ (o : ℕ × ObjectRow). o.1.base ≢ row.base) rows → by_base (row_set place (Some row) rows) ≡ into_place (place, row) (by_base rows)
set_order place row [] free others = refl
set_order place row ((i, r) ∷ rows) free others =
    let differ = All-head (λ (o : ℕ × ObjectRow). o.1.base ≢ row.base) (i, r) rows others in
    let rest : row_at place rows ≡ None → by_base (row_set place (Some row) rows) ≡ into_place (place, row) (by_base rows) = λ none. set_order place row rows none (All-tail (λ (o : ℕ × ObjectRow). o.1.base ≢ row.base) (i, r) rows others) in
    grind (arith, nat_tests, free, rest, into-swaps (i, r) (place, row) (by_base rows) differ)

-- no row is at a place that no object has
pub none_at : (place : ℕ) (os : List (ℕ × ObjectRow)) → is_taken os place ≡ false → row_at place os ≡ None
none_at place [] free = refl
none_at place ((i, r) ∷ os) free = grind (arith, free, none_at place os)
