-- The pages that a new object takes, by addresses: no object covers an address there, and each lower place has an address
-- that an object covers.
use Rattle.mg_laws.{proofs.{KeepsCreate.frames-few, Lowest.{IsApart, apart-is_free, is_free-true, lowest_free-exists}}, specs.Laws.MeetsNone}
use Rattle.{mg_laws.specs.Laws.TakesLowest, mg_model.specs.{Access.{at, covers}, KeptListLemmas.All-both, Objects.{is_free, lowest_free}}}
use Rattle.{mg_model.specs.{Objects.{page_behind, page_of}, State.Object, WellFormed.IsObject}, std.proofs.Common.{◌≡◌, ℕ, ◌+◌, ◌*◌, ◌<◌, ◌≤◌}}
use Rattle.std.proofs.Common.{nat_le, nat_lt, true, false, List, [], ◌∷◌, get_or, length, All, Some, None, refl, sym, ◌∙◌, inl, inr, arith}
use Rattle.std.proofs.lemmas.Bool.{and_from, and_left, and_right, cases_lt, cond_both, false≢true, le-leb, le-ltb, lt-leb, lt-ltb}
use Rattle.std.proofs.lemmas.List.Elements.{All-cons, All-head, All-nil, All-tail}

-- no object covers the address
abbrev Misses : ℕ → Object → Type 0
Misses address object = covers object.row address ≡ false

none-at : (objects : List Object) (address : ℕ) → All (Misses address) objects → at objects address ≡ None
none-at [] address all = refl
none-at (object ∷ objects) address all =
    grind (arith, (none-at objects address (All-tail (Misses address) object objects all)), cond_both, All-head, All-tail)

at-none : (objects : List Object) (address : ℕ) → at objects address ≡ None → All (Misses address) objects
at-none [] address none = All-nil (Misses address)
at-none (object ∷ objects) address none =
    cond_both (covers object.row address) (Some object) (at objects address) (λ found. found ≡ None → All (Misses address) (object ∷ objects))
    (λ _ is. absurd (cc))
    (λ misses rest. All-cons (Misses address) object objects misses (at-none objects address rest))
    none

-- pages that are apart from an object have none of its addresses
apart-misses : (page n address : ℕ) (object : Object) → 4096 * page ≤ address → address < 4096 * (page + n) → IsObject object → IsApart page n object → Misses address object
apart-misses page n address object low high formed apart = grind (arith, and_left, lt-leb, and_right, le-ltb)

covered : (object : Object) (address : ℕ) → object.row.base ≤ address → address < object.row.base + 4096 * object.row.pages → covers object.row address ≡ true
covered object address low high = and_from (nat_le object.row.base address) (nat_lt address (object.row.base + 4096 * object.row.pages)) (le-leb object.row.base address low) (lt-ltb address (object.row.base + 4096 * object.row.pages) high)

-- pages that have none of its addresses are apart from it: else the higher of the two first addresses is in both
misses-apart : (page n : ℕ) (object : Object) → 1 ≤ n → IsObject object → ((address : ℕ) → 4096 * page ≤ address → address < 4096 * (page + n) → Misses address object) → IsApart page n object
misses-apart page n object some formed misses =
    let aligned = formed.row.place.aligned in
    let pages = formed.row.place.some in
    elim (cases_lt (page_of object.row) (page + n)) [
      | inr before ↦ inl before
      | inl low ↦ elim (cases_lt page (page_behind object.row)) [
        | inr behind ↦ inr behind
        | inl inside ↦ elim (cases_lt page (page_of object.row)) [
          | inl higher ↦ absurd (false≢true (sym (misses object.row.base (omega arith) (omega arith)) ∙ covered object object.row.base (omega arith) (omega arith)))
          | inr lower ↦ absurd (false≢true (sym (misses (4096 * page) (omega arith) (omega arith)) ∙ covered object (4096 * page) (omega arith) (omega arith)))
        ]
      ]
    ]

pub is_free-meets_none : (objects : List Object) (n page : ℕ) → All IsObject objects → is_free objects n page ≡ true → MeetsNone objects n page
is_free-meets_none objects n page each free address low high = grind (arith, none-at, All-both, apart-misses, is_free-true)

pub meets_none-is_free : (objects : List Object) (n page : ℕ) → 1 ≤ n → All IsObject objects → MeetsNone objects n page → is_free objects n page ≡ true
meets_none-is_free objects n page some each meets =
    apart-is_free objects n page (λ k d within. misses-apart page n (get_or objects k d) some (each k d within) (λ address low high. at-none objects address (meets address low high) k d within))

pub lowest_free-taken : TakesLowest lowest_free
lowest_free-taken state n formed some few =
    let lowest = lowest_free-exists state.settings.frames (length state.accounts) state.objects n formed.objects (frames-few state.settings formed.settings) some few in
    record {
      low = lowest.low;
      high = lowest.high;
      free = is_free-meets_none state.objects n (lowest_free state.objects n) formed.objects.each lowest.free;
      least = λ other low meets. lowest.least other low (meets_none-is_free state.objects n other some formed.objects.each meets);
    }
