-- Lemmas on what is found in a list: it passes the test and is in the list, and each address of a row that is found has a page.
use Rattle.std.proofs.Common.{ℕ, ◌+◌, ◌*◌, ◌/◌, ◌≡◌, ◌||◌, Bool, true, false, List, [], ◌∷◌, if◌then◌else◌, Some, refl}
use Rattle.std.proofs.{Common.{sym, ap, ◌∙◌, arith}, lemmas.Bool.{and_from, and_parts, leb-true, le-leb, lt-ltb}}
use Rattle.std.{proofs.lemmas.Bool.{ltb-true, or_left, or_right}, specs.{List.list_any, Prelude.{find, nat_le, nat_lt}}}
use Rattle.{mg_model.specs.{Access.covers, Ranges.IsPlace, State.ObjectRow}, mg_volume.specs.Meaning.is_page_in}

-- what is found passes the test
pub found-passes : {X : Type 0} (test : X → Bool) (xs : List X) (x : X) → find test xs ≡ Some x → test x ≡ true
found-passes test [] x h = cc
found-passes test (y ∷ xs) x h = by_test (test y) refl (found-passes test xs x) h
  where
    by_test : (v : Bool) → test y ≡ v → (find test xs ≡ Some x → test x ≡ true) → (if v then Some y else find test xs) ≡ Some x → test x ≡ true
    by_test true is later h = let same : y ≡ x = cc in ap test (sym same) ∙ is
    by_test false is later h = later h

-- and is in the list, which has one that passes another test if it does
pub found-any : {X : Type 0} (test other : X → Bool) (xs : List X) (x : X) → find test xs ≡ Some x → other x ≡ true → list_any other xs ≡ true
found-any test other [] x h passes = cc
found-any test other (y ∷ xs) x h passes = by_test (test y) (found-any test other xs x) h
  where
    by_test : (v : Bool) → (find test xs ≡ Some x → other x ≡ true → list_any other xs ≡ true) → (if v then Some y else find test xs) ≡ Some x → (other y || list_any other xs) ≡ true
    by_test true later h = let same : y ≡ x = cc in or_left (other y) (list_any other xs) (ap other same ∙ passes)
    by_test false later h = or_right (other y) (list_any other xs) (later h passes)

-- the page of an address of a row
pub page-in : (row : ObjectRow) (a : ℕ) → covers row a ≡ true → IsPlace row.base row.pages → is_page_in (a / 4096) row ≡ true
page-in row a inside place =
    let parts = and_parts (nat_le row.base a) (nat_lt a (row.base + 4096 * row.pages)) inside in
    let above = leb-true row.base a parts.0 in
    let below = ltb-true a (row.base + 4096 * row.pages) parts.1 in
    let aligned = place.aligned in
    and_from (nat_le (row.base / 4096) (a / 4096)) (nat_lt (a / 4096) (row.base / 4096 + row.pages)) (le-leb (row.base / 4096) (a / 4096) (omega arith)) (lt-ltb (a / 4096) (row.base / 4096 + row.pages) (omega arith))
