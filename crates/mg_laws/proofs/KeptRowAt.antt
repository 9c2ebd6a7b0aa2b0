-- The row that an address names belongs to one object alone, so a change of it keeps the objects well formed.
use Rattle.{mg_laws.proofs.KeptObjects.{AreObjects-with_row, HasPlaceOf, IsPaidRow, are-IsPaidRow}, mg_model.specs.{Abbreviations.no_row, Access.at}}
use Rattle.mg_model.specs.{Access.covers, KeptListLemmas.{All-both, AllPairs-head, AllPairs-tail}, ObjectCalls.{row_at, with_row_at}, State.Object}
use Rattle.{mg_model.specs.{State.{ObjectRow, State}, WellFormed.{AreObjects, IsBefore, IsObject, IsWellFormed}}, std.proofs.Common.{◌≡◌, ◌≢◌, ℕ}}
use Rattle.std.proofs.{Common.{List, [], ◌∷◌, length, All, AllPairs, Option, Some, refl, sym, arith}, lemmas.{Bool.cond_both, List.Elements.All-cons}}
use Rattle.std.{proofs.lemmas.List.Elements.{All-head, All-nil, All-tail, All-weaker}, specs.Option.option_map_or}

-- the row of an object, if there is one
abbrev row_in : Option Object → ObjectRow
row_in found = option_map_or (λ (object : Object). object.row) found no_row

-- what holds for all rows, and for the row of no object, holds for the row that is found
found-holds : (P : ObjectRow → Type 0) (objects : List Object) (address : ℕ) → P no_row → All (λ (object : Object). P object.row) objects → P (row_in (at objects address))
found-holds P [] address none all = none
found-holds P (object ∷ objects) address none all =
    cond_both (covers object.row address) (Some object) (at objects address) (λ found. P (row_in found))
    (λ _. All-head (λ (object : Object). P object.row) object objects all)
    (λ _. found-holds P objects address none (All-tail (λ (object : Object). P object.row) object objects all))

-- no object after this one has its base
pub other_base : (object other : Object) → IsObject object → IsBefore object other → object.row.base ≢ other.row.base
other_base object other formed before same = let some = formed.row.place.some in absurd (omega arith)

-- the object with the base of the found row has that row
abbrev pub IsOnly : ObjectRow → Object → Type 0
IsOnly row object = object.row.base ≡ row.base → object.row ≡ row

only_found : (objects : List Object) (address : ℕ) → All IsObject objects → AllPairs IsBefore objects → All (IsOnly (row_in (at objects address))) objects
only_found [] address each pairs = All-nil (IsOnly no_row)
only_found (object ∷ objects) address each pairs =
    let here : IsObject object = All-head IsObject object objects each in
    let rest : All IsObject objects = All-tail IsObject object objects each in
    let later : All (IsBefore object) objects = AllPairs-head IsBefore object objects pairs in
    let others : All (λ (other : Object). object.row.base ≢ other.row.base) objects = All-weaker (IsBefore object) (λ (other : Object). object.row.base ≢ other.row.base) (λ other before. other_base object other here before) objects later in
    cond_both (covers object.row address) (Some object) (at objects address) (λ found. All (IsOnly (row_in found)) (object ∷ objects))
    (λ _. All-cons (IsOnly object.row) object objects (λ _. refl) (All-weaker (λ (other : Object). object.row.base ≢ other.row.base) (IsOnly object.row) (λ other differs same. absurd (differs (sym same))) objects others))
    (λ _.
    let differs : object.row.base ≢ (row_in (at objects address)).base =
    found-holds (λ row. object.row.base ≢ row.base) objects address (λ same. let low = here.row.place.low in absurd (omega arith)) others in
    All-cons (IsOnly (row_in (at objects address))) object objects (λ same. absurd (differs same)) (only_found objects address rest (AllPairs-tail IsBefore object objects pairs)))

pub row_at-only : (state : State) (address : ℕ) → IsWellFormed state → All (IsOnly (row_at state address)) state.objects
row_at-only state address formed = only_found state.objects address formed.objects.each formed.objects.apart

-- For a change that keeps the places it is enough to keep that row well formed.
pub AreObjects-with_row_at : (state : State) (address : ℕ) (change : ObjectRow → ObjectRow) → IsWellFormed state → ((row : ObjectRow) → HasPlaceOf (change row) row) → (IsPaidRow (length state.accounts) (row_at state address) → IsPaidRow (length state.accounts) (change (row_at state address))) → AreObjects state.settings.frames (length state.accounts) (with_row_at state address change).objects
AreObjects-with_row_at state address change formed places keeps =
    let accounts = length state.accounts in
    let row = row_at state address in
    let changed : (object : Object) → IsPaidRow accounts object.row → IsOnly row object → object.row.base ≡ row.base → IsPaidRow accounts (change object.row) = λ object paid only here.
    grind arith in
    AreObjects-with_row state.settings.frames accounts row.base change state.objects places
    (All-both (λ (object : Object). IsPaidRow accounts object.row) (IsOnly row) (λ (object : Object). object.row.base ≡ row.base → IsPaidRow accounts (change object.row)) changed
    state.objects (are-IsPaidRow state.settings.frames accounts state.objects formed.objects) (row_at-only state address formed))
    formed.objects
