-- What an edit of the objects keeps: each is well formed, they are in order and apart, and they fit.
use Rattle.{mg_laws.proofs.Lowest.{IsApart, is_free-true}, mg_model.specs.{Access.covers, Bank.used, KeptListLemmas.{All-both, All-change}}}
use Rattle.mg_model.specs.KeptListLemmas.{AllPairs-change, AllPairs-head, AllPairs-tail, length-filter-le, sum_by-change, sum_by-filter-le}
use Rattle.mg_model.specs.{Objects.{is_free, page_of, with_object, with_row, with_word, without_object}, Ranges.{IsObjectRow, IsWord}, State.Object}
use Rattle.{mg_model.specs.{State.ObjectRow, WellFormed.{AreObjects, IsBefore, IsObject}}, std.proofs.Common.{◌≡◌, ℕ, suc, ◌+◌, ◌/◌, ◌<◌, ◌≤◌, ◌-◌}}
use Rattle.std.proofs.Common.{◌==◌, nat_lt, if◌then◌else◌, true, not, List, [], ◌∷◌, map, length, slice_set, All, AllPairs, refl, ap, arith}
use Rattle.std.proofs.lemmas.{Bool.{cond_both, eqb-true, ltb-false, ltb-true}, List.{length-map, length-set, Elements.{All-cons, All-filter}}}
use Rattle.std.proofs.lemmas.List.{Elements.{All-head, All-nil, All-set, All-tail, All-weaker}, Kept.{AllPairs-cons, AllPairs-filter}}
use Rattle.std.proofs.lemmas.List.Sums.{sum_by-cons}

-- one object more: what holds of it and of the others
All-with_object : (P : Object → Type 0) (new : Object) (objects : List Object) → P new → All P objects → All P (with_object new objects)
All-with_object P new [] here all = All-cons P new [] here all
All-with_object P new (object ∷ objects) here all =
    grind (arith, (All-with_object P new objects here (All-tail P object objects all)), cond_both, All-cons, All-head, All-tail)

length-with_object : (new : Object) (objects : List Object) → length (with_object new objects) ≡ suc (length objects)
length-with_object new [] = refl
length-with_object new (object ∷ objects) = grind (arith, (length-with_object new objects), cond_both)

used-cons : (object : Object) (objects : List Object) → used (object ∷ objects) ≡ object.row.pages + used objects
used-cons object objects = sum_by-cons (λ (object : Object). object.row.pages) object objects

used-with_object : (new : Object) (objects : List Object) → used (with_object new objects) ≡ used objects + new.row.pages
used-with_object new [] = omega (arith, used-cons new [])
used-with_object new (object ∷ objects) =
    cond_both (nat_lt new.row.base object.row.base) (new ∷ object ∷ objects) (object ∷ with_object new objects) (λ l. used l ≡ used (object ∷ objects) + new.row.pages)
    (λ _. omega (arith, used-cons new (object ∷ objects)))
    (λ _. omega (arith, used-cons object (with_object new objects), used-cons object objects, used-with_object new objects))

-- if the new object is apart from each, it comes before those with a higher base
before_higher : (new object : Object) → IsObject new → IsObject object → IsApart (page_of new.row) new.row.pages object → new.row.base < object.row.base → IsBefore new object
before_higher new object formed other apart higher = grind arith

after_lower : (new object : Object) → IsObject new → IsObject object → IsApart (page_of new.row) new.row.pages object → object.row.base ≤ new.row.base → IsBefore object new
after_lower new object formed other apart lower = grind arith

apart-with_object : (new : Object) (objects : List Object) → IsObject new → All IsObject objects → All (IsApart (page_of new.row) new.row.pages) objects → AllPairs IsBefore objects → AllPairs IsBefore (with_object new objects)
apart-with_object new [] formed each meets pairs = AllPairs-cons IsBefore new [] (All-nil (IsBefore new)) pairs
apart-with_object new (object ∷ objects) formed each meets pairs =
    let here : IsObject object = All-head IsObject object objects each in
    let apart : IsApart (page_of new.row) new.row.pages object = All-head (IsApart (page_of new.row) new.row.pages) object objects meets in
    let later : All (IsBefore object) objects = AllPairs-head IsBefore object objects pairs in
    cond_both (nat_lt new.row.base object.row.base) (new ∷ object ∷ objects) (object ∷ with_object new objects) (AllPairs IsBefore)
    (λ higher.
    let before : IsBefore new object = before_higher new object formed here apart (ltb-true new.row.base object.row.base higher) in
    AllPairs-cons IsBefore new (object ∷ objects) (All-cons (IsBefore new) object objects before (All-weaker (IsBefore object) (IsBefore new) (λ other behind. omega arith) objects later)) pairs)
    (λ lower.
    AllPairs-cons IsBefore object (with_object new objects)
    (All-with_object (IsBefore object) new objects (after_lower new object formed here apart (ltb-false new.row.base object.row.base lower)) later)
    (apart-with_object new objects formed (All-tail IsObject object objects each) (All-tail (IsApart (page_of new.row) new.row.pages) object objects meets) (AllPairs-tail IsBefore object objects pairs)))

-- a new object whose pages are free
pub AreObjects-with_object : (frames accounts : ℕ) (new : Object) (objects : List Object) → AreObjects frames accounts objects → length objects < 4096 → IsObject new → new.row.account ≤ accounts → used objects + new.row.pages ≤ frames → is_free objects new.row.pages (page_of new.row) ≡ true → AreObjects frames accounts (with_object new objects)
AreObjects-with_object frames accounts new objects formed room object paid fit free = record {
  few = omega (arith, length-with_object new objects);
  each = All-with_object IsObject new objects object formed.each;
  apart = apart-with_object new objects object formed.each (is_free-true objects new.row.pages (page_of new.row) free) formed.apart;
  paid = All-with_object (λ (object : Object). object.row.account ≤ accounts) new objects paid formed.paid;
  fit = omega (arith, used-with_object new objects);
}

-- one object less
pub AreObjects-without_object : (frames accounts base : ℕ) (objects : List Object) → AreObjects frames accounts objects → AreObjects frames accounts (without_object base objects)
AreObjects-without_object frames accounts base objects formed =
    let kept = λ (object : Object). not (object.row.base == base) in
    let few = formed.few in
    let fit = formed.fit in
    record {
      few = omega (arith, length-filter-le kept objects);
      each = All-filter kept IsObject objects formed.each;
      apart = AllPairs-filter IsBefore kept objects formed.apart;
      paid = All-filter kept (λ (object : Object). object.row.account ≤ accounts) objects formed.paid;
      fit = omega (arith, sum_by-filter-le kept (λ (object : Object). object.row.pages) objects);
    }

-- two rows have one place
pub record HasPlaceOf (row old : ObjectRow) : Type 0 where
  pub base : row.base ≡ old.base
  pub pages : row.pages ≡ old.pages

before_kept : (x y u v : Object) → HasPlaceOf u.row x.row → HasPlaceOf v.row y.row → IsBefore x y → IsBefore u v
before_kept x y u v first second before = grind arith

-- each object changed, except for its place
pub AreObjects-map : (frames accounts : ℕ) (change : Object → Object) (objects : List Object) → ((object : Object) → HasPlaceOf (change object).row object.row) → All (λ object. IsObject (change object)) objects → All (λ object. (change object).row.account ≤ accounts) objects → AreObjects frames accounts objects → AreObjects frames accounts (map change objects)
AreObjects-map frames accounts change objects placed each paid formed =
    let few = formed.few in
    let fit = formed.fit in
    record {
      few = omega (arith, length-map objects change);
      each = All-change (λ object. IsObject (change object)) IsObject change (λ _ here. here) objects each;
      apart = AllPairs-change IsBefore IsBefore change (λ x y before. before_kept x y (change x) (change y) (placed x) (placed y) before) objects formed.apart;
      paid = All-change (λ object. (change object).row.account ≤ accounts) (λ (object : Object). object.row.account ≤ accounts) change (λ _ here. here) objects paid;
      fit = omega (arith, sum_by-change (λ (object : Object). object.row.pages) change (λ object. (placed object).pages) objects);
    }

-- a row that is well formed, and that an account which is there pays for
pub record IsPaidRow (accounts : ℕ) (row : ObjectRow) : Type 0 where
  pub formed : IsObjectRow row
  pub paid : row.account ≤ accounts

-- the object with a change of its row, if it has the base
abbrev rewritten : ℕ → (ObjectRow → ObjectRow) → Object → Object
rewritten base change object = if object.row.base == base then record object { row = change object.row } else object

rewritten-placed : (base : ℕ) (change : ObjectRow → ObjectRow) → ((row : ObjectRow) → HasPlaceOf (change row) row) → (object : Object) → HasPlaceOf (rewritten base change object).row object.row
rewritten-placed base change places object = grind (arith, cond_both)

-- an object that is well formed, and that an account which is there pays for
record IsPaid (accounts : ℕ) (object : Object) : Type 0 where
  formed : IsObject object
  paid : object.row.account ≤ accounts

rewritten-paid : (accounts base : ℕ) (change : ObjectRow → ObjectRow) → ((row : ObjectRow) → HasPlaceOf (change row) row) → (object : Object) → IsPaid accounts object → (object.row.base ≡ base → IsPaidRow accounts (change object.row)) → IsPaid accounts (rewritten base change object)
rewritten-paid accounts base change places object formed changed = grind (arith, cond_both, eqb-true)

are-IsPaid : (frames accounts : ℕ) (objects : List Object) → AreObjects frames accounts objects → All (IsPaid accounts) objects
are-IsPaid frames accounts objects formed = All-both IsObject (λ (object : Object). object.row.account ≤ accounts) (IsPaid accounts) (λ object each paid. record { formed = each; paid = paid }) objects formed.each formed.paid

-- the rows of the objects
pub are-IsPaidRow : (frames accounts : ℕ) (objects : List Object) → AreObjects frames accounts objects → All (λ (object : Object). IsPaidRow accounts object.row) objects
are-IsPaidRow frames accounts objects formed = All-weaker (IsPaid accounts) (λ (object : Object). IsPaidRow accounts object.row) (λ object paid. record { formed = paid.formed.row; paid = paid.paid }) objects (are-IsPaid frames accounts objects formed)

-- another row for the object with this base, at the same place
pub AreObjects-with_row : (frames accounts base : ℕ) (change : ObjectRow → ObjectRow) (objects : List Object) → ((row : ObjectRow) → HasPlaceOf (change row) row) → All (λ (object : Object). object.row.base ≡ base → IsPaidRow accounts (change object.row)) objects → AreObjects frames accounts objects → AreObjects frames accounts (with_row base change objects)
AreObjects-with_row frames accounts base change objects places changed formed =
    let all : All (λ object. IsPaid accounts (rewritten base change object)) objects = grind (arith, All-both, rewritten-paid, are-IsPaid, formed) in
    AreObjects-map frames accounts (rewritten base change) objects (rewritten-placed base change places)
    (All-weaker (λ object. IsPaid accounts (rewritten base change object)) (λ object. IsObject (rewritten base change object)) (λ object paid. paid.formed) objects all)
    (All-weaker (λ object. IsPaid accounts (rewritten base change object)) (λ object. (rewritten base change object).row.account ≤ accounts) (λ object paid. paid.paid) objects all)
    formed

-- the object with another word, if it covers the address
abbrev stored : ℕ → ℕ → Object → Object
stored address value object = if covers object.row address then record object { words = slice_set object.words ((address - object.row.base) / 8) value } else object

stored-row : (address value : ℕ) (object : Object) → (stored address value object).row ≡ object.row
stored-row address value object = cond_both (covers object.row address) (record object { words = slice_set object.words ((address - object.row.base) / 8) value }) object (λ (o : Object). o.row ≡ object.row) (λ _. refl) (λ _. refl)

stored-formed : (address value : ℕ) → IsWord value → (object : Object) → IsObject object → IsObject (stored address value object)
stored-formed address value word object formed =
    cond_both (covers object.row address) (record object { words = slice_set object.words ((address - object.row.base) / 8) value }) object IsObject
    (λ _. record {
      row = formed.row;
      long = (let long = formed.long in omega (arith, length-set object.words ((address - object.row.base) / 8) value));
      words = All-set IsWord object.words ((address - object.row.base) / 8) value word formed.words;
    })
    (λ _. formed)

-- another word
pub AreObjects-with_word : (frames accounts address value : ℕ) (objects : List Object) → IsWord value → AreObjects frames accounts objects → AreObjects frames accounts (with_word objects address value)
AreObjects-with_word frames accounts address value objects word formed =
    AreObjects-map frames accounts (stored address value) objects
    (λ object. let same = stored-row address value object in record { base = ap (λ (row : ObjectRow). row.base) same; pages = ap (λ (row : ObjectRow). row.pages) same })
    (All-weaker IsObject (λ object. IsObject (stored address value object)) (stored-formed address value word) objects formed.each)
    (All-weaker (λ (object : Object). object.row.account ≤ accounts) (λ object. (stored address value object).row.account ≤ accounts)
    (λ object paid. let same : (stored address value object).row.account ≡ object.row.account = ap (λ (row : ObjectRow). row.account) (stored-row address value object) in omega arith)
    objects formed.paid)
    formed
