-- The calls on words and objects keep the state well formed.
use Rattle.mg_laws.proofs.{Keeps.unless_refused-keeps, KeptAccounts.opens-number, KeptObjects.{AreObjects-with_word, AreObjects-without_object}}
use Rattle.{mg_laws.proofs.{KeptObjects.{HasPlaceOf, IsPaidRow}, KeptRowAt.AreObjects-with_row_at, Passed.unrefused}, mg_model.specs.Access.allowed}
use Rattle.mg_model.specs.{Bank.opens, DrawnLemmas.drawn-IsWord, KeptListLemmas.length-filter-le, Limits.{entry_point_limit, password_limit, never}}
use Rattle.mg_model.specs.ObjectCalls.{all_drawn, delete, drawn, entry, ext, extension_of, info, is_aligned, is_entry, is_past, has_password, load}
use Rattle.mg_model.specs.{ObjectCalls.{next_password, pwadd, pwdel, recharge, row_at, store, with_entry, with_row_at}, Objects.with_word}
use Rattle.mg_model.specs.{Objects.without_object, PasswordRows.IsPassword, Ranges.{IsEntryOf, IsExtension, IsObjectRow, IsWord}, Rights.IsRights}
use Rattle.mg_model.specs.{State.{Object, ObjectRow, State}, WellFormed.{AreObjects, IsWellFormed}, declared.rights.Right.TheVariants.O}
use Rattle.{mg_model.specs.declared.slots.Pw.Pw, std.proofs.Common.{◌≡◌, ◌≢◌, ℕ, ◌+◌, ◌*◌, ◌<◌, ◌≤◌, nat_le, ◌&&◌, ◌||◌, false, not, List, [], ◌∷◌}}
use Rattle.std.proofs.{Common.{◌++◌, length, filter, get_or, Option, Some, None, refl, sym, ◌∙◌, inl, inr, arith}, lemmas.Bool.{cond_both, eq-eqb}}
use Rattle.std.proofs.lemmas.{Bool.{false≢true, eqb-false, eqb-true, leb-false, not-false, or_parts, and_cases}, List.length_push}
use Rattle.std.proofs.lemmas.{List.{Elements.{All-filter, All-push}, Folds.list_any_at, Quantifiers.all_pairs_push}, Option.same_Some}
use Rattle.std.specs.Option.{ForSome, unwrap_or}

-- other objects
pub objects-keep : (state : State) (objects : List Object) → IsWellFormed state → AreObjects state.settings.frames (length state.accounts) objects → IsWellFormed (record state { objects = objects })
objects-keep state objects formed are = grind arith

-- one password more is drawn
pub drawn-keeps : (state : State) → IsWellFormed state → all_drawn state ≡ false → IsWellFormed (drawn state)
drawn-keeps state formed left = grind (arith, leb-false)

pub load-keeps : (state : State) (t a : ℕ) → IsWellFormed state → IsWellFormed (load state t a).0
load-keeps state t a formed = unless_refused-keeps _ state _ formed (λ _. formed)

pub info-keeps : (state : State) (t b : ℕ) → IsWellFormed state → IsWellFormed (info state t b).0
info-keeps state t b formed = unless_refused-keeps _ state _ formed (λ _. formed)

pub store-keeps : (state : State) (t a value : ℕ) → IsWellFormed state → IsWord value → IsWellFormed (store state t a value).0
store-keeps state t a value formed word =
    unless_refused-keeps _ state _ formed (λ _.
    objects-keep state (with_word state.objects a value) formed (AreObjects-with_word state.settings.frames (length state.accounts) a value state.objects word formed.objects))

pub delete-keeps : (state : State) (t b : ℕ) → IsWellFormed state → IsWellFormed (delete state t b).0
delete-keeps state t b formed =
    unless_refused-keeps _ state _ formed (λ _.
    objects-keep state (without_object (row_at state b).base state.objects) formed (AreObjects-without_object state.settings.frames (length state.accounts) (row_at state b).base state.objects formed.objects))

-- the until of a new password is from 1 to `never`
given_until : (period : ℕ) (until : Option ℕ) → is_past period until ≡ false → (1 ≤ unwrap_or until never) × (unwrap_or until never ≤ never)
given_until period None past = (omega arith, omega arith)
given_until period (Some until) past = grind (arith, or_parts, leb-false)

-- one password more
password-added : (state : State) (b rights : ℕ) (until : Option ℕ) → IsWellFormed state → IsRights rights → is_past state.counters.period until ≡ false → length (row_at state b).passwords < 32 → all_drawn state ≡ false
    → IsWellFormed (with_row_at (drawn state) b (λ object. record object { passwords = object.passwords ++ record { password = next_password state; rights = rights; until = unwrap_or until never } ∷ [] }))
password-added state b rights until formed some past room left =
    let new : Pw = record { password = next_password state; rights = rights; until = unwrap_or until never } in
    let change = λ (object : ObjectRow). record object { passwords = object.passwords ++ new ∷ [] } in
    let ends = given_until state.counters.period until past in
    objects-keep (drawn state) (with_row_at state b change).objects (drawn-keeps state formed left)
    (AreObjects-with_row_at state b change formed (λ row. record { base = refl; pages = refl })
    (λ paid.
    let few = length_push (row_at state b).passwords new in
    let each = All-push IsPassword (row_at state b).passwords new paid.formed.passwords (record { password = drawn-IsWord state.settings.seed state.counters.draws; rights = some; begins = ends.0; ends = ends.1 }) in
    record { formed = grind arith; paid = paid.paid }))

pub pwadd-keeps : (state : State) (t b rights : ℕ) (until : Option ℕ) → IsWellFormed state → IsRights rights → IsWellFormed (pwadd state t b rights until).0
pwadd-keeps state t b rights until formed some =
    unless_refused-keeps _ state _ formed (λ none.
    let denied = unrefused (not (allowed state t b O)) _ _ none in
    let past = unrefused (is_past state.counters.period until) _ _ denied.1 in
    let limit = unrefused (nat_le password_limit (length (row_at state b).passwords) || all_drawn state) _ _ past.1 in
    let room = or_parts (nat_le password_limit (length (row_at state b).passwords)) (all_drawn state) limit.0 in
    password-added state b rights until formed some past.0 (leb-false password_limit (length (row_at state b).passwords) room.0) room.1)

pub pwdel-keeps : (state : State) (t b password : ℕ) → IsWellFormed state → IsWellFormed (pwdel state t b password).0
pwdel-keeps state t b password formed =
    unless_refused-keeps _ state _ formed (λ _.
    let change = λ (object : ObjectRow). record object { passwords = filter (λ pw. not (has_password password pw)) object.passwords } in
    objects-keep state (with_row_at state b change).objects formed
    (AreObjects-with_row_at state b change formed (λ row. record { base = refl; pages = refl })
    (λ paid.
    let row = row_at state b in
    let few : length (filter (λ pw. not (has_password password pw)) row.passwords) ≤ 32 = omega (arith, length-filter-le (λ pw. not (has_password password pw)) row.passwords) in
    let each = All-filter (λ pw. not (has_password password pw)) IsPassword row.passwords paid.formed.passwords in
    record { formed = grind arith; paid = paid.paid })))

-- one entry more, at the end, that is none of the others
entry-added : (accounts address : ℕ) (row : ObjectRow) → IsPaidRow accounts row → IsEntryOf row.base row.pages address → length row.entries < 16 → is_entry row address ≡ false → IsPaidRow accounts (record row { entries = row.entries ++ address ∷ [] })
entry-added accounts address row paid inside room new =
    let few = length_push row.entries address in
    let others : (k d : ℕ) → k < length row.entries → get_or row.entries k d ≢ address = λ k d within same. grind (arith, list_any_at, eq-eqb) in
    let each = All-push (IsEntryOf row.base row.pages) row.entries address paid.formed.entries inside in
    let distinct = all_pairs_push (λ x y. x ≢ y) row.entries address paid.formed.distinct others in
    record { formed = grind arith; paid = paid.paid }

with_entry-paid : (accounts address : ℕ) (row : ObjectRow) → IsPaidRow accounts row → IsEntryOf row.base row.pages address → (nat_le entry_point_limit (length row.entries) && not (is_entry row address)) ≡ false → IsPaidRow accounts (with_entry row address)
with_entry-paid accounts address row paid inside room =
    cond_both (is_entry row address) row (record row { entries = row.entries ++ address ∷ [] }) (IsPaidRow accounts)
    (λ _. paid)
    (λ new. entry-added accounts address row paid inside
    (elim (and_cases (nat_le entry_point_limit (length row.entries)) (not (is_entry row address)) room) [
      | inl few ↦ leb-false entry_point_limit (length row.entries) few
      | inr there ↦ absurd (false≢true (sym new ∙ not-false (is_entry row address) there))
    ])
    new)

with_entry-placed : (address : ℕ) (row : ObjectRow) → HasPlaceOf (with_entry row address) row
with_entry-placed address row = grind (arith, cond_both)

entry_address : (row : ObjectRow) (off : ℕ) → IsObjectRow row → (not (is_aligned off) || nat_le (4096 * row.pages) off) ≡ false → IsEntryOf row.base row.pages (row.base + off)
entry_address row off formed range = grind (arith, or_parts, eqb-true, not-false, leb-false)

pub entry-keeps : (state : State) (t b off : ℕ) → IsWellFormed state → IsWellFormed (entry state t b off).0
entry-keeps state t b off formed =
    unless_refused-keeps _ state _ formed (λ none.
    let denied = unrefused (not (allowed state t b O)) _ _ none in
    let range = unrefused (not (is_aligned off) || nat_le (4096 * (row_at state b).pages) off) _ _ denied.1 in
    let limit = unrefused (nat_le entry_point_limit (length (row_at state b).entries) && not (is_entry (row_at state b) ((row_at state b).base + off))) _ _ range.1 in
    objects-keep state (with_row_at state b (λ object. with_entry object ((row_at state b).base + off))).objects formed
    (AreObjects-with_row_at state b (λ object. with_entry object ((row_at state b).base + off)) formed (with_entry-placed ((row_at state b).base + off))
    (λ paid. with_entry-paid (length state.accounts) ((row_at state b).base + off) (row_at state b) paid (entry_address (row_at state b) off paid.formed range.0) limit.0)))

extension-formed : (clist password : ℕ) → IsWord clist → IsWord password → ForSome (extension_of clist password) IsExtension
extension-formed clist password base word = grind (arith, cond_both, same_Some, eqb-false)

pub ext-keeps : (state : State) (t b clist password : ℕ) → IsWellFormed state → IsWord clist → IsWord password → IsWellFormed (ext state t b clist password).0
ext-keeps state t b clist password formed base word =
    unless_refused-keeps _ state _ formed (λ _.
    let change = λ (object : ObjectRow). record object { extension = extension_of clist password } in
    objects-keep state (with_row_at state b change).objects formed
    (AreObjects-with_row_at state b change formed (λ row. record { base = refl; pages = refl })
    (λ paid. record {
      formed = grind (arith, extension-formed);
      paid = paid.paid;
    })))

-- another account pays, which is there
recharged : (state : State) (b account : ℕ) → IsWellFormed state → 1 ≤ account → account ≤ length state.accounts → IsWellFormed (with_row_at state b (λ object. record object { account = account }))
recharged state b account formed some there =
    let change = λ (object : ObjectRow). record object { account = account } in
    let few = formed.accounts.few in
    objects-keep state (with_row_at state b change).objects formed
    (AreObjects-with_row_at state b change formed (λ row. record { base = refl; pages = refl })
    (λ paid. record {
      formed = grind arith;
      paid = there;
    }))

pub recharge-keeps : (state : State) (t b account password : ℕ) → IsWellFormed state → IsWellFormed (recharge state t b account password).0
recharge-keeps state t b account password formed =
    unless_refused-keeps _ state _ formed (λ none.
    let denied = unrefused (not (allowed state t b O)) _ _ none in
    let closed = unrefused (not (opens state.accounts account password)) _ _ denied.1 in
    let number = opens-number state.accounts account password (not-false (opens state.accounts account password) closed.0) in
    recharged state b account formed number.0 number.1)
