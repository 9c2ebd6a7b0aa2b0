-- A seat that is backed is an access that is allowed, and the other way round. An address in the first page of a list finds
-- the list.
use Rattle.mg_laws.{proofs.{Finds.{find-hit, find_by_key}, KeptRowAt.other_base}, specs.Backing.{AllowedIsBacked, BackedAllows, EndsOneList}}
use Rattle.{mg_laws.specs.Backing.OpeningBacks, mg_model.specs.Access.{allowed, at, based_at, covers, domain_of, pairs_of, pairs_under, holds}}
use Rattle.mg_model.specs.{Backed.{IsBacked, by_word, pairs_at, held_at}, State.{Object, State}, WellFormed.{IsBefore, IsObject, IsWellFormed}}
use Rattle.{mg_model.specs.declared.{rights.Right.{Right, TheVariants.R}, seats.Seat.Seat, slots.Slot.Slot}, std.proofs.Common.{ℕ, ◌+◌, ◌*◌, ◌<◌}}
use Rattle.std.proofs.Common.{◌≤◌, ◌≡◌, ◌≢◌, ◌||◌, ◌&&◌, Bool, true, false, eqb, leb, ltb, if◌then◌else◌, List, [], ◌∷◌, get_or, Option, Some, None}
use Rattle.std.proofs.{Common.{refl, sym, ap, ◌∙◌, subst, inl, inr, arith, AllPairs, Contains}, lemmas.Bool.{and_from, and_parts, cases_lt}}
use Rattle.std.proofs.lemmas.{Bool.{cond-true, eq-eqb, eqb-true, false≢true, leb-true, le-leb, lt-ltb, ltb-true}, List.Elements.All-contains}
use Rattle.std.{proofs.lemmas.List.{Elements.at_from_Contains, Folds.{Any-from_list_any, list_any_at, list_any-append}}, specs.List.list_any}
use Rattle.std.specs.{Option.option_map_or, Prelude.flat_map}

-- an object is found by its base
own-based : (state : State) (object : Object) → IsWellFormed state → Contains state.objects object → based_at state.objects object.row.base ≡ Some object
own-based state object formed among =
    let apart : AllPairs (λ (x y : Object). x.row.base ≢ y.row.base) state.objects =
    λ i j d below within. other_base (get_or state.objects i d) (get_or state.objects j d) (formed.objects.each i d (omega arith)) (formed.objects.apart i j d below within) in
    ap (λ (x : Object). based_at state.objects x.row.base) (sym among.2)
    ∙ find_by_key (λ (x : Object). x.row.base) state.objects among.0 object apart among.1
    ∙ ap (λ (x : Object). Some x) among.2

at-based : (state : State) (address : ℕ) (object : Object) → IsWellFormed state → at state.objects address ≡ Some object → based_at state.objects object.row.base ≡ Some object
at-based state address object formed there = own-based state object formed (find-hit (λ (x : Object). covers x.row address) state.objects object there).among

-- what is held at a base, by the object that is found there
held-found : (state : State) (base password : ℕ) (right : Right) (object : Object) → based_at state.objects base ≡ Some object → held_at state base password right ≡ holds state.counters.period object.row password right
held-found state base password right object found = ap (λ (o : Option Object). option_map_or (λ (x : Object). holds state.counters.period x.row password right) o false) found

-- what a slot gives if its password opens the list: the entries of the list
opened_of : (o : Option Object) (test : Object → Bool) → option_map_or test o false ≡ true → option_map_or (λ (x : Object). if test x then pairs_of x.words else []) o [] ≡ option_map_or (λ (x : Object). pairs_of x.words) o []
opened_of None test never = absurd (false≢true never)
opened_of (Some x) test opens = cond-true _ _ _ opens

entries-opened : (state : State) (slot : Slot) → held_at state slot.base slot.password R ≡ true → pairs_under state.objects state.counters.period slot ≡ pairs_at state slot.base
entries-opened state slot opened = opened_of (based_at state.objects slot.base) (λ (x : Object). holds state.counters.period x.row slot.password R) opened

-- if a slot gives any entry, its password opens the list
opens_of : (o : Option Object) (test : Object → Bool) (entry : ℕ × ℕ) → Contains (option_map_or (λ (x : Object). if test x then pairs_of x.words else []) o []) entry → option_map_or test o false ≡ true
opens_of None test entry among = let within = among.1 in absurd (omega arith)
opens_of (Some x) test entry among = grind arith

any-flat_map : {X Y : Type 0} (test : Y → Bool) (f : X → List Y) (xs : List X) → list_any test (flat_map f xs) ≡ list_any (λ x. list_any test (f x)) xs
any-flat_map test f [] = refl
any-flat_map test f (x ∷ xs) = list_any-append test (f x) (flat_map f xs) ∙ ap (λ v. list_any test (f x) || v) (any-flat_map test f xs)

any-contains : {X : Type 0} (test : X → Bool) (xs : List X) (x : X) → Contains xs x → test x ≡ true → list_any test xs ≡ true
any-contains test xs x among passes = list_any_at test xs among.0 x among.1 (ap test among.2 ∙ passes)

-- whether an entry is for the object, with a password that gives the right
abbrev is_for : State → Object → Right → ℕ × ℕ → Bool
is_for state object right entry = eqb entry.0 object.row.base && holds state.counters.period object.row entry.1 right

allowed-any : (state : State) (t address : ℕ) (right : Right) (object : Object) → at state.objects address ≡ Some object →
    allowed state t address right ≡ list_any (λ slot. list_any (is_for state object right) (pairs_under state.objects state.counters.period slot)) (domain_of state t)
allowed-any state t address right object there = grind (arith, any-flat_map)

pub backed-allows : BackedAllows allowed
backed-allows state seat address object formed backed there same =
    let slot = backed.slot in
    let found : based_at state.objects seat.base ≡ Some object = ap (λ (b : ℕ). based_at state.objects b) (sym same) ∙ at-based state address object formed there in
    let opened : held_at state slot.base slot.password R ≡ true = ap (λ (b : ℕ). held_at state b slot.password R) backed.via ∙ backed.opened in
    let entries : pairs_under state.objects state.counters.period slot ≡ pairs_at state seat.via = entries-opened state slot opened ∙ ap (λ (b : ℕ). pairs_at state b) backed.via in
    let held : holds state.counters.period object.row backed.entry.1 seat.right ≡ true = sym (held-found state seat.base backed.entry.1 seat.right object found) ∙ backed.held in
    let passes : is_for state object seat.right backed.entry ≡ true = and_from _ _ (eq-eqb _ _ (backed.base ∙ sym same)) held in
    allowed-any state seat.thread address seat.right object there
    ∙ any-contains (λ (s : Slot). list_any (is_for state object seat.right) (pairs_under state.objects state.counters.period s)) (domain_of state seat.thread) slot backed.slots
    (ap (λ (es : List (ℕ × ℕ)). list_any (is_for state object seat.right) es) entries ∙ any-contains (is_for state object seat.right) (pairs_at state seat.via) backed.entry backed.entries passes)

-- a slot whose list opens the object backs a seat for it
pub opening-backs : OpeningBacks
opening-backs state t address right object slot formed there among opens =
    grind (arith, Any-from_list_any, and_parts, opens_of, entries-opened, eqb-true, held-found, at-based)

pub allowed-backed : AllowedIsBacked allowed
allowed-backed state t address right object formed there may =
    let any = Any-from_list_any (λ slot. list_any (is_for state object right) (pairs_under state.objects state.counters.period slot)) (domain_of state t) (sym (allowed-any state t address right object there) ∙ may) in
    let slot : Slot = any.1 in
    (slot.base, opening-backs state t address right object slot formed there (any.0, any.2, any.3) any.4)

-- two objects that have one address are the same object
same_object : (state : State) (x y : Object) (address : ℕ) → IsWellFormed state → Contains state.objects x → Contains state.objects y → covers x.row address ≡ true → covers y.row address ≡ true → x.row.base ≡ y.row.base
same_object state x y address formed among also first second =
    let i = at_from_Contains state.objects x among in
    let j = at_from_Contains state.objects y also in
    let px = and_parts (leb x.row.base address) (ltb address (x.row.base + 4096 * x.row.pages)) first in
    let py = and_parts (leb y.row.base address) (ltb address (y.row.base + 4096 * y.row.pages)) second in
    let xlow : x.row.base ≤ address = leb-true _ _ px.0 in
    let xhigh : address < x.row.base + 4096 * x.row.pages = ltb-true _ _ px.1 in
    let ylow : y.row.base ≤ address = leb-true _ _ py.0 in
    let yhigh : address < y.row.base + 4096 * y.row.pages = ltb-true _ _ py.1 in
    let xis : IsObject x = All-contains IsObject state.objects x formed.objects.each among in
    let yis : IsObject y = All-contains IsObject state.objects y formed.objects.each also in
    let xa = xis.row.place.aligned in
    let ya = yis.row.place.aligned in
    elim (cases_lt i.0 j.0) [
      | inl below ↦
          let before : IsBefore x y = subst (λ (o : Object). IsBefore x o) (j.2 x) (subst (λ (o : Object). IsBefore o (get_or state.objects j.0 x)) (i.2 x) (formed.objects.apart i.0 j.0 x below j.1)) in
          absurd (omega arith)
      | inr upto ↦ elim (cases_lt j.0 i.0) [
        | inl below ↦
            let before : IsBefore y x = subst (λ (o : Object). IsBefore y o) (i.2 x) (subst (λ (o : Object). IsBefore o (get_or state.objects i.0 x)) (j.2 x) (formed.objects.apart j.0 i.0 x below i.1)) in
            absurd (omega arith)
        | inr also ↦
            let same : i.0 ≡ j.0 = omega arith in
            ap (λ (o : Object). o.row.base) (sym (i.2 x) ∙ ap (λ (k : ℕ). get_or state.objects k x) same ∙ j.2 x)
      ]
    ]

-- a list that is open is an object
held-some : (state : State) (base password : ℕ) (right : Right) (o : Option Object) → based_at state.objects base ≡ o → held_at state base password right ≡ true → (object : Object) × (based_at state.objects base ≡ Some object)
held-some state base password right None is held = absurd (false≢true (sym (ap (λ (o : Option Object). option_map_or (λ (x : Object). holds state.counters.period x.row password right) o false) is) ∙ held))
held-some state base password right (Some object) is held = (object, is)

-- if the first page of a seat's list has an address, the list is the object that has the address
word-via : (state : State) (seat : Seat) (address : ℕ) (object : Object) → IsWellFormed state → IsBacked state seat → by_word address seat ≡ true → at state.objects address ≡ Some object → seat.via ≡ object.row.base
word-via state seat address object formed backed within there =
    let some = held-some state seat.via backed.slot.password R (based_at state.objects seat.via) refl backed.opened in
    let list : Object = some.0 in
    let hit = find-hit (λ (x : Object). eqb x.row.base seat.via) state.objects list some.1 in
    let via : list.row.base ≡ seat.via = eqb-true _ _ hit.passes in
    let parts = and_parts (leb seat.via address) (ltb address (seat.via + 4096)) within in
    let low : seat.via ≤ address = leb-true _ _ parts.0 in
    let high : address < seat.via + 4096 = ltb-true _ _ parts.1 in
    let is : IsObject list = All-contains IsObject state.objects list formed.objects.each hit.among in
    let pages = is.row.place.some in
    let has : covers list.row address ≡ true = and_from _ _ (le-leb list.row.base address (omega arith)) (lt-ltb address (list.row.base + 4096 * list.row.pages) (omega arith)) in
    let other = find-hit (λ (x : Object). covers x.row address) state.objects object there in
    sym via ∙ same_object state list object address formed hit.among other.among has other.passes

pub ends-one_list : EndsOneList
ends-one_list old new address object formed there keeps seat stays backed = grind (arith, word-via, ltb-true, and_parts, lt-ltb, cond-true, eq-eqb)
