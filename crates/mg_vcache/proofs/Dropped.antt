-- Seats that were dropped group by group, and the marks after that.
use Rattle.{mg_model.specs.{Backed.{by_each, by_given, by_via}, declared.seats.Seat.Seat}, mg_vcache.specs.{EndedSeats.by_object, Marks.AreMarked}}
use Rattle.{mg_vcache.specs.{Marks.{IsMarked, StayMarked, is_in_row, is_set, mark_at}, Seats.{unless_ended, without}}, std.proofs.Common.{refl, sym}}
use Rattle.std.proofs.{Common.{ap, subst, ◌∙◌, arith}, lemmas.Bool.{cond-true, cond-false, eqb-true, eqb-false, eq-eqb, ne_eqb, ltb-true, ltb-false}}
use Rattle.std.proofs.lemmas.List.{ext_get_or, get_or-map, get_or-set_other, get_or-set_same, get_or_past, get_or-replicate, length-map}
use Rattle.std.{proofs.lemmas.List.{length-replicate, length-set, take_at}, specs.Prelude.{◌≡◌, ◌≢◌, ◌≤◌, ◌<◌, ◌+◌, ◌*◌, ◌/◌, ◌==◌, ℕ, Bool, true}}
use Rattle.std.specs.Prelude.{false, List, [], ◌∷◌, ◌||◌, if◌then◌else◌, length, replicate, is_some, slice_index_or, slice_set, take, ◌++◌, nat_lt}
use Rattle.std.specs.Prelude.{Option, Some, None}

-- these seats at the places from one on up to another are dropped, and what is said of those that are left
pub record GroupDropped (from to row : ℕ) (ended : Seat → Bool) (old new : List (Option Seat)) (left : Bool) : Type 0 where
  pub within : (place : ℕ) → from ≤ place → place < to → slice_index_or new place None ≡ unless_ended ended (slice_index_or old place None)
  pub before : (place : ℕ) → place < from → slice_index_or new place None ≡ slice_index_or old place None
  pub behind : (place : ℕ) → to ≤ place → slice_index_or new place None ≡ slice_index_or old place None
  pub size : length new ≡ length old
  pub apart : left ≡ false → (place : ℕ) → from ≤ place → place < to → (seat : Seat) → slice_index_or new place None ≡ Some seat → is_in_row row seat ≡ false

-- a seat more
pub group_more : (from i row : ℕ) (ended : Seat → Bool) (old new : List (Option Seat)) (left : Bool) (kept : Option Seat) (more : Bool)
    → GroupDropped from i row ended old new left
    → from ≤ i
    → i < length old
    → kept ≡ unless_ended ended (slice_index_or new i None)
    → (more ≡ false → left ≡ false)
    → (more ≡ false → (seat : Seat) → kept ≡ Some seat → is_in_row row seat ≡ false)
    → GroupDropped from (i + 1) row ended old (slice_set new i kept) more
group_more from i row ended old new left kept more done low inside is was apart = record {
  within = λ place above below. by_within place above below;
  before = λ place under. get_or-set_other new i place kept None (omega arith) ∙ done.before place under;
  behind = λ place over. get_or-set_other new i place kept None (omega arith) ∙ done.behind place (omega arith);
  size = length-set new i kept ∙ done.size;
  apart = λ none place above below seat found. by_apart none place above below seat found;
}
  where
    room : i < length new
    room = subst (λ n. i < n) (sym done.size) inside

    here : slice_index_or (slice_set new i kept) i None ≡ kept
    here = get_or-set_same new i kept None room

    by_within : (place : ℕ) → from ≤ place → place < i + 1 → slice_index_or (slice_set new i kept) place None ≡ unless_ended ended (slice_index_or old place None)
    by_within place above below = by_test (nat_lt place i) refl
      where
        by_test : (v : Bool) → nat_lt place i ≡ v → slice_index_or (slice_set new i kept) place None ≡ unless_ended ended (slice_index_or old place None)
        by_test true lower = let less : place < i = ltb-true place i lower in get_or-set_other new i place kept None (omega arith) ∙ done.within place above less
        by_test false lower =
            let more : i ≤ place = ltb-false place i lower in
            let same : i ≡ place = omega arith in
            subst (λ p. slice_index_or (slice_set new i kept) p None ≡ unless_ended ended (slice_index_or old p None)) same (here ∙ is ∙ ap (unless_ended ended) (done.behind i (omega arith)))

    by_apart : more ≡ false → (place : ℕ) → from ≤ place → place < i + 1 → (seat : Seat) → slice_index_or (slice_set new i kept) place None ≡ Some seat → is_in_row row seat ≡ false
    by_apart none place above below seat found = by_test (nat_lt place i) refl
      where
        by_test : (v : Bool) → nat_lt place i ≡ v → is_in_row row seat ≡ false
        by_test true lower =
            let less : place < i = ltb-true place i lower in
            let other : place ≢ i = omega arith in
            done.apart (was none) place above less seat (sym (get_or-set_other new i place kept None other) ∙ found)
        by_test false lower =
            let above' : i ≤ place = ltb-false place i lower in
            let same : place ≡ i = omega arith in
            apart none seat (sym here ∙ subst (λ p. slice_index_or (slice_set new i kept) p None ≡ Some seat) same found)

-- these seats of the first groups are dropped, and all are marked
pub record RowDropped (groups : ℕ) (ended : Seat → Bool) (old new : List (Option Seat)) (marks : List Bool) : Type 0 where
  pub before : (place : ℕ) → place / 16 < groups → slice_index_or new place None ≡ unless_ended ended (slice_index_or old place None)
  pub behind : (place : ℕ) → groups ≤ place / 16 → slice_index_or new place None ≡ slice_index_or old place None
  pub size : length new ≡ 256
  pub marks_size : length marks ≡ 3072
  pub marked : AreMarked new marks

pub row_done : (ended : Seat → Bool) (old new : List (Option Seat)) (marks : List Bool) → length old ≡ 256 → RowDropped 16 ended old new marks → new ≡ without ended old
row_done ended old new marks long done =
    ext_get_or None new (without ended old) (done.size ∙ sym long ∙ sym (length-map old (λ kept. unless_ended ended kept)))
    (λ place within. let low : place < 256 = subst (λ n. place < n) done.size within in done.before place (omega arith) ∙ sym (get_or-map (λ kept. unless_ended ended kept) old place None None (subst (λ n. place < n) (sym long) low)))

-- what is left of a seat is the seat
some_left : (ended : Seat → Bool) (kept : Option Seat) (seat : Seat) → unless_ended ended kept ≡ Some seat → kept ≡ Some seat
some_left ended None seat is = is
some_left ended (Some other) seat is = by_end (ended other) is
  where
    by_end : (v : Bool) → (if v then None else Some other) ≡ Some seat → Some other ≡ Some seat
    by_end true left = cc
    by_end false left = left

-- when the mark of a group is not set, none of its seats is ended
pub row_skipped : (group row : ℕ) (ended : Seat → Bool) (old new : List (Option Seat)) (marks : List Bool)
    → RowDropped group ended old new marks
    → ((seat : Seat) → ended seat ≡ true → is_in_row row seat ≡ true)
    → is_set marks (16 * row + group) ≡ false
    → RowDropped (group + 1) ended old new marks
row_skipped group row ended old new marks done in_row unset = record {
  before = λ place below. by_group place below (nat_lt (place / 16) group) refl;
  behind = λ place above. done.behind place (omega arith);
  size = done.size;
  marks_size = done.marks_size;
  marked = done.marked;
}
  where
    stays : (place : ℕ) → place / 16 ≡ group → (kept : Option Seat) → slice_index_or new place None ≡ kept → kept ≡ unless_ended ended kept
    stays place same None is = refl
    stays place same (Some seat) is = by_end (ended seat) refl
      where
        by_end : (v : Bool) → ended seat ≡ v → Some seat ≡ (if v then None else Some seat)
        by_end true ends =
            let set : is_set marks (16 * row + place / 16) ≡ true = (done.marked.kept place seat is).in_row row (in_row seat ends) in
            let both : is_set marks (16 * row + group) ≡ true = subst (λ g. is_set marks (16 * row + g) ≡ true) same set in
            cc
        by_end false ends = refl

    by_group : (place : ℕ) → place / 16 < group + 1 → (v : Bool) → nat_lt (place / 16) group ≡ v → slice_index_or new place None ≡ unless_ended ended (slice_index_or old place None)
    by_group place below true lower = done.before place (ltb-true (place / 16) group lower)
    by_group place below false lower =
        let above : group ≤ place / 16 = ltb-false (place / 16) group lower in
        let same : place / 16 ≡ group = omega arith in
        let kept : slice_index_or new place None ≡ slice_index_or old place None = done.behind place above in
        stays place same (slice_index_or new place None) refl ∙ ap (unless_ended ended) kept

-- a group more is dropped, and its mark is set if one that is left has the row
pub row_more : (group row : ℕ) (ended : Seat → Bool) (old new seats : List (Option Seat)) (marks : List Bool) (left : Bool)
    → RowDropped group ended old new marks
    → group < 16
    → row < 192
    → ((place : ℕ) → slice_index_or seats place None ≡ (if place / 16 == group then unless_ended ended (slice_index_or new place None) else slice_index_or new place None))
    → length seats ≡ 256
    → (left ≡ false → (place : ℕ) → place / 16 ≡ group → (seat : Seat) → slice_index_or seats place None ≡ Some seat → is_in_row row seat ≡ false)
    → RowDropped (group + 1) ended old seats (slice_set marks (16 * row + group) left)
row_more group row ended old new seats marks left done few low dropped size apart = record {
  before = λ place below. by_group place below (nat_lt (place / 16) group) refl;
  behind = λ place above. elsewhere place (omega arith) ∙ done.behind place (omega arith);
  size = size;
  marks_size = length-set marks (16 * row + group) left ∙ done.marks_size;
  marked = record { kept = λ place seat found. record { in_row = λ other is. by_mark place seat found other is (16 * other + place / 16 == 16 * row + group) refl } };
}
  where
    elsewhere : (place : ℕ) → place / 16 ≢ group → slice_index_or seats place None ≡ slice_index_or new place None
    elsewhere place other = dropped place ∙ cond-false (place / 16 == group) (unless_ended ended (slice_index_or new place None)) (slice_index_or new place None) (ne_eqb (place / 16) group other)

    inside : (place : ℕ) → place / 16 ≡ group → slice_index_or seats place None ≡ unless_ended ended (slice_index_or new place None)
    inside place same = dropped place ∙ cond-true (place / 16 == group) (unless_ended ended (slice_index_or new place None)) (slice_index_or new place None) (eq-eqb (place / 16) group same)

    by_group : (place : ℕ) → place / 16 < group + 1 → (v : Bool) → nat_lt (place / 16) group ≡ v → slice_index_or seats place None ≡ unless_ended ended (slice_index_or old place None)
    by_group place below true lower = let less : place / 16 < group = ltb-true (place / 16) group lower in elsewhere place (omega arith) ∙ done.before place less
    by_group place below false lower =
        let above : group ≤ place / 16 = ltb-false (place / 16) group lower in
        inside place (omega arith) ∙ ap (unless_ended ended) (done.behind place above)

    was : (place : ℕ) (seat : Seat) → slice_index_or seats place None ≡ Some seat → slice_index_or new place None ≡ Some seat
    was place seat found = by_place (place / 16 == group) refl
      where
        by_place : (v : Bool) → (place / 16 == group) ≡ v → slice_index_or new place None ≡ Some seat
        by_place true is = some_left ended (slice_index_or new place None) seat (sym (inside place (eqb-true (place / 16) group is)) ∙ found)
        by_place false is = sym (elsewhere place (eqb-false (place / 16) group is)) ∙ found

    short : (place : ℕ) (seat : Seat) → slice_index_or seats place None ≡ Some seat → place < 256
    short place seat found = by_size (nat_lt place 256) refl
      where
        by_size : (v : Bool) → nat_lt place 256 ≡ v → place < 256
        by_size true lower = ltb-true place 256 lower
        by_size false lower =
            let over : 256 ≤ place = ltb-false place 256 lower in
            let past : slice_index_or seats place None ≡ None = get_or_past seats place None (subst (λ n. n ≤ place) (sym size) over) in
            cc

    by_mark : (place : ℕ) (seat : Seat) → slice_index_or seats place None ≡ Some seat → (other : ℕ) → is_in_row other seat ≡ true → (v : Bool) → (16 * other + place / 16 == 16 * row + group) ≡ v → is_set (slice_set marks (16 * row + group) left) (16 * other + place / 16) ≡ true
    by_mark place seat found other is false apart_is =
        get_or-set_other marks (16 * row + group) (16 * other + place / 16) left false (eqb-false (16 * other + place / 16) (16 * row + group) apart_is)
        ∙ (done.marked.kept place seat (was place seat found)).in_row other is
    by_mark place seat found other is true here_is = by_left left refl
      where
        small : place < 256
        small = short place seat found

        here : 16 * other + place / 16 ≡ 16 * row + group
        here = eqb-true (16 * other + place / 16) (16 * row + group) here_is

        by_left : (v : Bool) → left ≡ v → is_set (slice_set marks (16 * row + group) left) (16 * other + place / 16) ≡ true
        by_left true set =
            ap (λ k. is_set (slice_set marks (16 * row + group) left) k) here
            ∙ get_or-set_same marks (16 * row + group) left false (subst (λ n. 16 * row + group < n) (sym done.marks_size) (omega arith))
            ∙ set
        by_left false unset =
            let in_group : place / 16 < 16 = omega (arith, small) in
            let row_same : other ≡ row = omega (arith, here) in
            let group_same : place / 16 ≡ group = omega (arith, here) in
            let none : is_in_row row seat ≡ false = apart unset place group_same seat found in
            let some : is_in_row row seat ≡ true = subst (λ r. is_in_row r seat ≡ true) row_same is in
            cc

-- of every seat nothing is left
pub none_of_each : (kept : Option Seat) → None ≡ unless_ended by_each kept
none_of_each None = refl
none_of_each (Some seat) = refl

pub none_left : (kept : Option Seat) → is_some kept ≡ false → kept ≡ unless_ended by_each kept
none_left None is = refl
none_left (Some seat) is = cc

-- a drop in a whole cache, seat by seat
pub without_marked : (ended : Seat → Bool) (seats : List (Option Seat)) (marks : List Bool) → AreMarked seats marks → AreMarked (without ended seats) marks
without_marked ended seats marks marked = record { kept = λ place seat found. marked.kept place seat (was place seat found (nat_lt place (length seats)) refl) }
  where
    was : (place : ℕ) (seat : Seat) → slice_index_or (without ended seats) place None ≡ Some seat → (v : Bool) → nat_lt place (length seats) ≡ v → slice_index_or seats place None ≡ Some seat
    was place seat found true within =
        some_left ended (slice_index_or seats place None) seat (sym (get_or-map (λ kept. unless_ended ended kept) seats place None None (ltb-true place (length seats) within)) ∙ found)
    was place seat found false past =
        let none : slice_index_or (without ended seats) place None ≡ None = get_or_past (without ended seats) place None (subst (λ n. n ≤ place) (sym (length-map seats (λ kept. unless_ended ended kept))) (ltb-false place (length seats) past)) in
        cc

none_at : (none : Option Seat) (n place : ℕ) → slice_index_or (replicate n none) place none ≡ none
none_at none n place = by_size (nat_lt place n) refl
  where
    by_size : (v : Bool) → nat_lt place n ≡ v → slice_index_or (replicate n none) place none ≡ none
    by_size true within = get_or-replicate n place none none (ltb-true place n within)
    by_size false past = get_or_past (replicate n none) place none (subst (λ k. k ≤ place) (sym (length-replicate n none)) (ltb-false place n past))

-- when no seat is kept, all are marked
pub none_marked : (seats : List (Option Seat)) (marks : List Bool) → seats ≡ replicate 256 None → AreMarked seats marks
none_marked seats marks is = record { kept = λ place seat found. by_place place seat found }
  where
    by_place : (place : ℕ) (seat : Seat) → slice_index_or seats place None ≡ Some seat → IsMarked marks place seat
    by_place place seat found = let both : Some seat ≡ None = sym found ∙ ap (λ s. slice_index_or s place None) is ∙ none_at None 256 place in cc

some_inj : (x y : Seat) → Some x ≡ Some y → x ≡ y
some_inj x y is = cc

-- a seat that is filled, and marked before
fill_marked : (seats : List (Option Seat)) (place : ℕ) (seat : Seat) (marks new : List Bool) → place < length seats → AreMarked seats marks → IsMarked new place seat → StayMarked marks new → AreMarked (slice_set seats place (Some seat)) new
fill_marked seats place seat marks new within marked here stays = record { kept = λ other found is. by_place other found is (other == place) refl }
  where
    by_place : (other : ℕ) (found : Seat) → slice_index_or (slice_set seats place (Some seat)) other None ≡ Some found → (v : Bool) → (other == place) ≡ v → IsMarked new other found
    by_place other found is true same =
        let at : other ≡ place = eqb-true other place same in
        let one : Some seat ≡ Some found = sym (get_or-set_same seats place (Some seat) None within) ∙ ap (λ k. slice_index_or (slice_set seats place (Some seat)) k None) (sym at) ∙ is in
        subst (λ k. IsMarked new k found) (sym at) (subst (IsMarked new place) (some_inj seat found one) here)
    by_place other found is false apart =
        let old : IsMarked marks other found = marked.kept other found (sym (get_or-set_other seats place other (Some seat) None (eqb-false other place apart)) ∙ is) in
        record { in_row = λ row in_row. stays.stays (mark_at row other) (old.in_row row in_row) }

-- the cache's own invariant
abbrev pub IsCache : List (Option Seat) → List Bool → Type 0
IsCache seats marks = (length seats ≡ 256) × (length marks ≡ 3072) × AreMarked seats marks

pub filled : (items : List (Option Seat)) (place : ℕ) (seat : Seat) (marks now new rest : List Bool) (len : ℕ) → IsCache items marks → place < 256 → now ≡ marks → length now ≡ len → IsMarked new place seat → StayMarked now new → length new ≡ 3072 → IsCache (slice_set items place (Some seat)) (take len (new ++ rest))
filled items place seat marks now new rest len cache within value size here stays long =
    let whole : take len (new ++ rest) ≡ new = take_at new rest len (long ∙ sym cache.1 ∙ ap length (sym value) ∙ size) in (
      length-set items place (Some seat) ∙ cache.0,
      ap length whole ∙ long,
      subst (AreMarked (slice_set items place (Some seat))) (sym whole) (fill_marked items place seat marks new (subst (λ n. place < n) (sym cache.0) within) cache.2 here (subst (λ m. StayMarked m new) value stays)),
    )

pub all_dropped : (ended : Seat → Bool) (items now new rest : List (Option Seat)) (marks : List Bool) (len : ℕ) → IsCache items marks → now ≡ items → length now ≡ len → new ≡ without ended now → IsCache (take len (new ++ rest)) marks
all_dropped ended items now new rest marks len cache value size drops =
    let same : new ≡ without ended items = drops ∙ ap (without ended) value in
    let long : length new ≡ 256 = ap length same ∙ length-map items (λ kept. unless_ended ended kept) ∙ cache.0 in
    let whole : take len (new ++ rest) ≡ new = take_at new rest len (long ∙ sym cache.0 ∙ ap length (sym value) ∙ size) in (
      ap length whole ∙ long,
      cache.1,
      subst (λ s. AreMarked s marks) (sym (whole ∙ same)) (without_marked ended items marks cache.2),
    )

-- those that a list gave and then those for its object
one_both : (base : ℕ) (kept : Option Seat) → unless_ended (by_object base) (unless_ended (by_given base) kept) ≡ unless_ended (by_via base) kept
one_both base None = refl
one_both base (Some seat) = by_list (seat.via == base)
  where
    by_list : (v : Bool) → unless_ended (by_object base) (if v then None else Some seat) ≡ (if v || seat.base == base then None else Some seat)
    by_list true = refl
    by_list false = refl

pub without_both : (base : ℕ) (seats : List (Option Seat)) → without (by_object base) (without (by_given base) seats) ≡ without (by_via base) seats
without_both base [] = refl
without_both base (kept ∷ seats) =
    ap (λ k. k ∷ without (by_object base) (without (by_given base) seats)) (one_both base kept) ∙ ap (λ s. unless_ended (by_via base) kept ∷ s) (without_both base seats)
