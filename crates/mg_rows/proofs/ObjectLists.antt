-- The lists of an object are read item by item.
use Rattle.mg_model.specs.{Abbreviations.passwords_at, Bytes.{number_at, numbers_at}, ObjectCalls.is_entry, State.ObjectRow, Tests.all_distinct}
use Rattle.{mg_model.specs.{Tests.{is_entry_of, is_password}, declared.slots.Pw.Pw}, mg_rows.specs.ObjectParts.{are_entries, are_passwords}}
use Rattle.{mg_rows.specs.ObjectParts.{entries_in, password_at, passwords_in, some_if}, std.proofs.Common.{◌≡◌, ℕ, zero, suc, ◌+◌, ◌-◌, ◌*◌, ◌<◌}}
use Rattle.std.proofs.Common.{◌≤◌, ◌==◌, ◌&&◌, ◌||◌, Bool, true, false, not, [], ◌∷◌, ◌++◌, List, Some, None, length, min, nat_le, refl, sym, ap, ◌∙◌}
use Rattle.std.proofs.{Common.{arith, ⊎_elim}, lemmas.Bool.{and_cases, and_from, and_left, and_parts, and_right, le-leb, lt-leb, not-false, not-true}}
use Rattle.std.proofs.lemmas.{Bool.{not_from_true, or_cases, or_left, or_parts, or_right}, List.Folds.{list_all-append, list_any-append}}
use Rattle.std.specs.List.{list_all, list_any}

pub length-passwords_at : (bytes : List ℕ) (k n : ℕ) → length (passwords_at bytes k n) ≡ n
length-passwords_at bytes k zero = refl
length-passwords_at bytes k (suc n) = ap suc (length-passwords_at bytes (k + 1) n)

pub length-numbers_at : (bytes : List ℕ) (o n : ℕ) → length (numbers_at bytes o n) ≡ n
length-numbers_at bytes o zero = refl
length-numbers_at bytes o (suc n) = ap suc (length-numbers_at bytes (o + 8) n)

-- the first n, and those after them
passwords-split : (bytes : List ℕ) (k n m : ℕ) → passwords_at bytes k (n + m) ≡ passwords_at bytes k n ++ passwords_at bytes (k + n) m
passwords-split bytes k zero m = let e : k + 0 ≡ k = omega arith in let f : 0 + m ≡ m = omega arith in ap (passwords_at bytes k) f ∙ ap (λ j. passwords_at bytes j m) (sym e)
passwords-split bytes k (suc n) m =
    let e : suc n + m ≡ suc (n + m) = omega arith in
    let f : k + 1 + n ≡ k + suc n = omega arith in
    ap (passwords_at bytes k) e
    ∙ ap (λ (v : List Pw). password_at bytes k ∷ v) (passwords-split bytes (k + 1) n m ∙ ap (λ j. passwords_at bytes (k + 1) n ++ passwords_at bytes j m) f)

numbers-split : (bytes : List ℕ) (o n m : ℕ) → numbers_at bytes o (n + m) ≡ numbers_at bytes o n ++ numbers_at bytes (o + 8 * n) m
numbers-split bytes o zero m = let e : o + 8 * 0 ≡ o = omega arith in let f : 0 + m ≡ m = omega arith in ap (numbers_at bytes o) f ∙ ap (λ j. numbers_at bytes j m) (sym e)
numbers-split bytes o (suc n) m =
    let e : suc n + m ≡ suc (n + m) = omega arith in
    let f : o + 8 + 8 * n ≡ o + 8 * suc n = omega arith in
    ap (numbers_at bytes o) e
    ∙ ap (λ (v : List ℕ). number_at bytes o ∷ v) (numbers-split bytes (o + 8) n m ∙ ap (λ j. numbers_at bytes (o + 8) n ++ numbers_at bytes j m) f)

-- one more
pub passwords-more : (bytes : List ℕ) (n : ℕ) → passwords_at bytes 0 (n + 1) ≡ passwords_at bytes 0 n ++ password_at bytes n ∷ []
passwords-more bytes n = let e : 0 + n ≡ n = omega arith in passwords-split bytes 0 n 1 ∙ ap (λ k. passwords_at bytes 0 n ++ password_at bytes k ∷ []) e

pub numbers-more : (bytes : List ℕ) (o n : ℕ) → numbers_at bytes o (n + 1) ≡ numbers_at bytes o n ++ number_at bytes (o + 8 * n) ∷ []
numbers-more bytes o n = numbers-split bytes o n 1

-- the item at a place, with those before it and after it
passwords-around : (bytes : List ℕ) (n k : ℕ) → k < n → passwords_at bytes 0 n ≡ passwords_at bytes 0 k ++ password_at bytes k ∷ passwords_at bytes (k + 1) (n - (k + 1))
passwords-around bytes n k below =
    let e : n ≡ k + suc (n - (k + 1)) = omega arith in
    let f : 0 + k ≡ k = omega arith in
    ap (passwords_at bytes 0) e ∙ passwords-split bytes 0 k (suc (n - (k + 1))) ∙ ap (λ j. passwords_at bytes 0 k ++ password_at bytes j ∷ passwords_at bytes (j + 1) (n - (k + 1))) f

numbers-around : (bytes : List ℕ) (o n k : ℕ) → k < n → numbers_at bytes o n ≡ numbers_at bytes o k ++ number_at bytes (o + 8 * k) ∷ numbers_at bytes (o + 8 * k + 8) (n - (k + 1))
numbers-around bytes o n k below =
    let e : n ≡ k + suc (n - (k + 1)) = omega arith in
    ap (numbers_at bytes o) e ∙ numbers-split bytes o k (suc (n - (k + 1)))

-- a list with an item that fails
all-fails : {X : Type 0} (test : X → Bool) (xs : List X) (x : X) (ys : List X) → test x ≡ false → list_all test (xs ++ x ∷ ys) ≡ false
all-fails test xs x ys fails = list_all-append test xs (x ∷ ys) ∙ and_right (list_all test xs) (test x && list_all test ys) (and_left (test x) (list_all test ys) fails)

pub all-more : {X : Type 0} (test : X → Bool) (xs : List X) (x : X) → list_all test xs ≡ true → test x ≡ true → list_all test (xs ++ x ∷ []) ≡ true
all-more test xs x all here = list_all-append test xs (x ∷ []) ∙ and_from (list_all test xs) (test x && true) all (and_from (test x) true here refl)

-- a list in which an item is twice
here : (y : ℕ) (xs : List ℕ) (x : ℕ) (ys : List ℕ) → (y == x) ≡ true → all_distinct (y ∷ (xs ++ x ∷ ys)) ≡ false
here y xs x ys e = grind (arith, list_any-append, or_right, or_left, and_left, not_from_true)

twice : (xs : List ℕ) (x : ℕ) (ys : List ℕ) → list_any (λ y. y == x) xs ≡ true → all_distinct (xs ++ x ∷ ys) ≡ false
twice [] x ys is = absurd (cc)
twice (y ∷ xs) x ys is = ⊎_elim (here y xs x ys) (λ (e : list_any (λ z. z == x) xs ≡ true). and_right (not (list_any (λ z. y == z) (xs ++ x ∷ ys))) (all_distinct (xs ++ x ∷ ys)) (twice xs x ys e)) (or_cases (y == x) (list_any (λ z. z == x) xs) is)

pub distinct-more : (xs : List ℕ) (x : ℕ) → all_distinct xs ≡ true → list_any (λ y. y == x) xs ≡ false → all_distinct (xs ++ x ∷ []) ≡ true
distinct-more [] x distinct none = refl
distinct-more (y ∷ xs) x distinct none =
    let parts = and_parts (not (list_any (λ z. y == z) xs)) (all_distinct xs) distinct in
    let others = or_parts (y == x) (list_any (λ z. z == x) xs) none in
    let front : not (list_any (λ z. y == z) (xs ++ x ∷ [])) ≡ true =
    ap not (list_any-append (λ z. y == z) xs (x ∷ [])) ∙ ap (λ b. not (list_any (λ z. y == z) xs || (b || false))) others.0 ∙ ap (λ b. not (b || false)) (not-true (list_any (λ z. y == z) xs) parts.0) in
    and_from (not (list_any (λ z. y == z) (xs ++ x ∷ []))) (all_distinct (xs ++ x ∷ [])) front (distinct-more xs x parts.1 others.1)

-- the answer for the password rows
module _ {R : Type 0} (bytes : List ℕ) (row : R) (count : ℕ) (is : count ≡ number_at bytes 32) where
  some_if-false : (test : Bool) → test ≡ false → None ≡ some_if test row
  some_if-false test fails = sym (ap (λ b. some_if b row) fails)

  pub too_many_passwords : 32 < count → None ≡ some_if (are_passwords (passwords_in bytes)) row
  too_many_passwords many =
      let long : length (passwords_in bytes) ≡ min (number_at bytes 32) 33 = length-passwords_at bytes 0 (min (number_at bytes 32) 33) in
      some_if-false (are_passwords (passwords_in bytes))
      (and_left (nat_le (length (passwords_in bytes)) 32) (list_all is_password (passwords_in bytes)) (lt-leb (length (passwords_in bytes)) 32 (omega arith)))

  pub bad_password : (k : ℕ) → count ≤ 32 → k < count → is_password (password_at bytes k) ≡ false → None ≡ some_if (are_passwords (passwords_in bytes)) row
  bad_password k few below fails =
      let all = min (number_at bytes 32) 33 in
      let within : k < all = omega arith in
      some_if-false (are_passwords (passwords_in bytes))
      (and_right (nat_le (length (passwords_in bytes)) 32) (list_all is_password (passwords_in bytes))
      (ap (list_all is_password) (passwords-around bytes all k within) ∙ all-fails is_password (passwords_at bytes 0 k) (password_at bytes k) (passwords_at bytes (k + 1) (all - (k + 1))) fails))

  pub good_passwords : (k : ℕ) → count ≤ 32 → k ≡ count → list_all is_password (passwords_at bytes 0 k) ≡ true → (passwords_at bytes 0 k ≡ passwords_in bytes) × (are_passwords (passwords_in bytes) ≡ true)
  good_passwords k few end all = grind (arith, length-passwords_at, and_from, le-leb)

-- what follows from an answer with a test
pub none_tells : {X : Type 0} (test : Bool) (x : X) → None ≡ some_if test x → test ≡ false
none_tells false x is = refl
none_tells true x is = absurd (cc)

pub some_tells : {X : Type 0} (test : Bool) (x y : X) → Some y ≡ some_if test x → (test ≡ true) × (y ≡ x)
some_tells false x y is = absurd (cc)
some_tells true x y is = (refl, cc)

-- a row that takes one more
pub password-added : (new filled row : ObjectRow) (ps next : List Pw) (pw given : Pw) → filled ≡ record row { passwords = ps }
    → new ≡ record filled { passwords = filled.passwords ++ given ∷ [] } → given ≡ pw → next ≡ ps ++ pw ∷ [] → new ≡ record row { passwords = next }
password-added new filled row ps next pw given was is same more = grind arith

pub entry-added : (new filled row : ObjectRow) (es next : List ℕ) (a given : ℕ) → filled ≡ record row { entries = es }
    → new ≡ record filled { entries = filled.entries ++ given ∷ [] } → given ≡ a → next ≡ es ++ a ∷ [] → new ≡ record row { entries = next }
entry-added new filled row es next a given was is same more = grind arith

-- the test of one entry more, on the entries so far
abbrev pub is_next : ObjectRow → List ℕ → ℕ → Bool
is_next row es a = is_entry_of row.base row.pages a && not (list_any (λ entry. entry == a) es)

pub next-test : (filled row : ObjectRow) (es : List ℕ) (a given : ℕ) (answer : Bool) → filled ≡ record row { entries = es } → given ≡ a
    → answer ≡ (is_entry_of filled.base filled.pages given && not (is_entry filled given)) → answer ≡ is_next row es a
next-test filled row es a given answer was same is = grind arith

-- the answer for the entries
module _ {R : Type 0} (bytes : List ℕ) (result : R) (row : ObjectRow) (count : ℕ) (is : count ≡ number_at bytes 40) where
  no_entries : are_entries row.base row.pages (entries_in bytes) ≡ false → None ≡ some_if (are_entries row.base row.pages (entries_in bytes)) result
  no_entries fails = sym (ap (λ b. some_if b result) fails)

  abbrev each : List ℕ → Bool
  each = list_all (is_entry_of row.base row.pages)

  pub too_many_entries : 16 < count → None ≡ some_if (are_entries row.base row.pages (entries_in bytes)) result
  too_many_entries many =
      let long : length (entries_in bytes) ≡ min (number_at bytes 40) 17 = length-numbers_at bytes 368 (min (number_at bytes 40) 17) in
      no_entries
      (and_left (nat_le (length (entries_in bytes)) 16 && each (entries_in bytes)) (all_distinct (entries_in bytes))
      (and_left (nat_le (length (entries_in bytes)) 16) (each (entries_in bytes)) (lt-leb (length (entries_in bytes)) 16 (omega arith))))

  pub bad_entry : (k : ℕ) → count ≤ 16 → k < count → is_next row (numbers_at bytes 368 k) (number_at bytes (368 + 8 * k)) ≡ false → None ≡ some_if (are_entries row.base row.pages (entries_in bytes)) result
  bad_entry k few below fails =
      let all = min (number_at bytes 40) 17 in
      let within : k < all = omega arith in
      let a = number_at bytes (368 + 8 * k) in
      let before = numbers_at bytes 368 k in
      let behind = numbers_at bytes (368 + 8 * k + 8) (all - (k + 1)) in
      let around : entries_in bytes ≡ before ++ a ∷ behind = numbers-around bytes 368 all k within in
      ⊎_elim
      (λ (e : is_entry_of row.base row.pages a ≡ false).
      no_entries
      (and_left (nat_le (length (entries_in bytes)) 16 && each (entries_in bytes)) (all_distinct (entries_in bytes))
      (and_right (nat_le (length (entries_in bytes)) 16) (each (entries_in bytes)) (ap each around ∙ all-fails (is_entry_of row.base row.pages) before a behind e))))
      (λ (e : not (list_any (λ entry. entry == a) before) ≡ false).
      no_entries
      (and_right (nat_le (length (entries_in bytes)) 16 && each (entries_in bytes)) (all_distinct (entries_in bytes))
      (ap all_distinct around ∙ twice before a behind (not-false (list_any (λ entry. entry == a) before) e))))
      (and_cases (is_entry_of row.base row.pages a) (not (list_any (λ entry. entry == a) before)) fails)

  pub good_entries : (k : ℕ) → count ≤ 16 → k ≡ count → each (numbers_at bytes 368 k) ≡ true → all_distinct (numbers_at bytes 368 k) ≡ true
      → (numbers_at bytes 368 k ≡ entries_in bytes) × (are_entries row.base row.pages (entries_in bytes) ≡ true)
  good_entries k few end all distinct = grind (arith, length-numbers_at, and_from, le-leb)
