-- The calls on words and objects keep seats backed, except those that they end.
use Rattle.mg_laws.proofs.{Backs.{found-backed, unless_refused-backed, with_row-backed, with_word-backed}, Finds.{find-filter, find-none}}
use Rattle.mg_laws.proofs.{KeepsCreate.frames-few, Lowest.{IsApart, is_free-true, lowest_free-exists}, Passed.unrefused}
use Rattle.mg_model.specs.{Access.based_at, Backed.{KeepsBacked, by_none, by_via, by_word, held_at}, KeptListLemmas.All-both, ObjectCalls.create}
use Rattle.mg_model.specs.ObjectCalls.{delete, drawn, entry, ext, extension_of, is_entry, next_password, pwadd, pwdel, recharge, row_at, store}
use Rattle.mg_model.specs.{ObjectCalls.{with_entry, with_row_at}, Objects.{lowest_free, new_object, with_object, with_row, with_word, without_object}}
use Rattle.mg_model.specs.{State.{Object, ObjectRow, State}, WellFormed.{IsObject, IsWellFormed}, declared.rights.Right.{Right, TheVariants.R}}
use Rattle.std.proofs.Common.{ℕ, ◌+◌, ◌*◌, ◌≤◌, ◌≡◌, ◌≢◌, true, false, eqb, ltb, List, [], ◌∷◌, length, Option, None, refl, arith, All}
use Rattle.std.proofs.lemmas.{Bool.{cond_both, cond-false, eqb-false, eqb-true, ltb-false, ne_eqb, or_left, or_parts}, List.Folds.list_any-append}

pub store-backed : (state : State) (t a value : ℕ) → KeepsBacked (by_word a) state (store state t a value).0
store-backed state t a value = unless_refused-backed (by_word a) state _ (record state { objects = with_word state.objects a value }, _) (λ _. with_word-backed state a value)

-- a change of a row that keeps its base and its passwords
leaves-backed : (state : State) (x : ℕ) (change : ObjectRow → ObjectRow) → ((row : ObjectRow) → (change row).base ≡ row.base) → ((row : ObjectRow) → (change row).passwords ≡ row.passwords) → KeepsBacked by_none state (with_row_at state x change)
leaves-backed state x change base passwords seat stays = grind (arith, with_row-backed)

pub ext-backed : (state : State) (t b clist password : ℕ) → KeepsBacked by_none state (ext state t b clist password).0
ext-backed state t b clist password =
    let change : ObjectRow → ObjectRow = λ object. record object { extension = extension_of clist password } in
    unless_refused-backed by_none state _ (with_row_at state b change, _) (λ _. leaves-backed state b change (λ row. refl) (λ row. refl))

pub recharge-backed : (state : State) (t b account password : ℕ) → KeepsBacked by_none state (recharge state t b account password).0
recharge-backed state t b account password =
    let change : ObjectRow → ObjectRow = λ object. record object { account = account } in
    unless_refused-backed by_none state _ (with_row_at state b change, _) (λ _. leaves-backed state b change (λ row. refl) (λ row. refl))

pub entry-backed : (state : State) (t b off : ℕ) → KeepsBacked by_none state (entry state t b off).0
entry-backed state t b off =
    let address = (row_at state b).base + off in
    let change : ObjectRow → ObjectRow = λ object. with_entry object address in
    unless_refused-backed by_none state _ (with_row_at state b change, _)
    (λ _. leaves-backed state b change
    (λ row. cond_both (is_entry row address) _ _ (λ (r : ObjectRow). r.base ≡ row.base) (λ _. refl) (λ _. refl))
    (λ row. cond_both (is_entry row address) _ _ (λ (r : ObjectRow). r.passwords ≡ row.passwords) (λ _. refl) (λ _. refl)))

-- one password more takes none away
pub pwadd-backed : (state : State) (t b rights : ℕ) (until : Option ℕ) → KeepsBacked by_none state (pwadd state t b rights until).0
pwadd-backed state t b rights until = grind (arith, list_any-append, or_left, unless_refused-backed, with_row-backed)

-- a change of the row with this base ends the seats that its list gave, and those for its object
pub change-backed : (state : State) (base : ℕ) (change : ObjectRow → ObjectRow) → ((row : ObjectRow) → (change row).base ≡ row.base) → KeepsBacked (by_via base) state (record state { objects = with_row base change state.objects })
change-backed state base change same seat stays = grind (arith, or_parts, with_row-backed, eqb-false)

pub pwdel-backed : (state : State) (t b password : ℕ) → KeepsBacked (by_via (row_at state b).base) state (pwdel state t b password).0
pwdel-backed state t b password = grind (arith, unless_refused-backed, change-backed)

-- one object less
find-without_object : (x base : ℕ) (objects : List Object) → base ≢ x → based_at (without_object x objects) base ≡ based_at objects base
find-without_object x base objects other = grind (arith, find-filter, ne_eqb, eqb-true)

pub gone-backed : (state : State) (base : ℕ) → KeepsBacked (by_via base) state (record state { objects = without_object base state.objects })
gone-backed state base seat stays = grind (arith, or_parts, find-without_object, eqb-false, found-backed)

pub delete-backed : (state : State) (t b : ℕ) → KeepsBacked (by_via (row_at state b).base) state (delete state t b).0
delete-backed state t b = grind (arith, unless_refused-backed, gone-backed)

-- one object more: a search for another base finds the same object as before
find-with_object : (new : Object) (base : ℕ) (objects : List Object) → new.row.base ≢ base → based_at (with_object new objects) base ≡ based_at objects base
find-with_object new base [] other = cond-false _ _ _ (ne_eqb _ _ other)
find-with_object new base (object ∷ objects) other = grind (arith, (find-with_object new base objects other))

-- the base of the lowest free pages is that of no object
none_at : (state : State) (n : ℕ) → IsWellFormed state → 1 ≤ n → n ≤ 1024 → based_at state.objects (4096 * lowest_free state.objects n) ≡ None
none_at state n formed some few =
    let page = lowest_free state.objects n in
    let there = lowest_free-exists state.settings.frames (length state.accounts) state.objects n formed.objects (frames-few state.settings formed.settings) some few in
    let differ : All (λ (o : Object). eqb o.row.base (4096 * page) ≡ false) state.objects = grind (arith, All-both, ne_eqb, meets, is_free-true) in
    find-none (λ (o : Object). eqb o.row.base (4096 * page)) state.objects differ
  where
    meets : (page n : ℕ) (o : Object) → 1 ≤ n → IsObject o → o.row.base ≡ 4096 * page → IsApart page n o → ⊥
    meets page n o some is same apart = grind arith

-- a base at which a password is held is that of an object
held-other : (state : State) (base at password : ℕ) (right : Right) → based_at state.objects base ≡ None → held_at state at password right ≡ true → base ≢ at
held-other state base at password right none there same = grind arith

pub create-backed : (state : State) (n account password : ℕ) → IsWellFormed state → KeepsBacked by_none state (create state n account password).0
create-backed state n account password formed =
    let base = 4096 * lowest_free state.objects n in
    let made : Object = new_object base n account (next_password state) in
    let new : State = record (drawn state) { objects = with_object made state.objects } in
    unless_refused-backed by_none state _ (new, _)
    (λ none seat _ backed.
    let sizes = or_parts (eqb n 0) (ltb 1024 n) (unrefused _ _ _ none).0 in
    let some : 1 ≤ n = (let differs = eqb-false n 0 sizes.0 in omega arith) in
    let free : based_at state.objects base ≡ None = none_at state n formed some (ltb-false 1024 n sizes.1) in
    found-backed state new seat refl refl
    (find-with_object made seat.via state.objects (held-other state base seat.via backed.slot.password R free backed.opened))
    (find-with_object made seat.base state.objects (held-other state base seat.base backed.entry.1 seat.right free backed.held))
    backed)
