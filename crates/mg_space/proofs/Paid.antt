-- For how many pages an account pays, and what a change of the objects makes of it.
use Rattle.{mg_bank.specs.Bank.pages_at, mg_model.specs.{Ranges.IsObjectRow, State.ObjectRow}, mg_objects.specs.Held.{AreApart, with_row}}
use Rattle.mg_space.{proofs.Spans.{Between, bases-rise, between-cons, between-without, none-based}, specs.Space.{paid_by, share}}
use Rattle.std.proofs.{Common.{refl, sym, ap, ◌∙◌, subst, ⊎_elim, arith, get_or}, lemmas.Bool.{cases_Bool, cond-false, cond-true, eq-eqb, eqb-true}}
use Rattle.std.{proofs.lemmas.{Bool.{ne_eqb, or_from}, List.{take_more, Elements.{All-head, All-tail}, Sums.sum_by-cons}}, specs.List.list_any}
use Rattle.std.specs.{Option.option_map, Prelude.{◌≡◌, ◌+◌, ◌<◌, ◌≤◌, ◌==◌, ℕ, suc, Bool, true, false, List, [], ◌++◌, ◌∷◌, All, Option, Some, None}}
use Rattle.std.specs.Prelude.{filter, find, if◌then◌else◌, length, not, sum_by, take}

paid-cons : (n : ℕ) (o : ℕ × ObjectRow) (objects : List (ℕ × ObjectRow)) → paid_by n (o ∷ objects) ≡ paid_by n objects + share o.1 n
paid-cons n o objects = ⊎_elim own other (cases_Bool (o.1.account == n))
  where
    rest : List (ℕ × ObjectRow)
    rest = filter (λ (o : ℕ × ObjectRow). o.1.account == n) objects

    own : (o.1.account == n) ≡ true → paid_by n (o ∷ objects) ≡ paid_by n objects + share o.1 n
    own is =
        let a = ap (sum_by (λ (o : ℕ × ObjectRow). o.1.pages)) (cond-true (o.1.account == n) (o ∷ rest) rest is) in
        let b = sum_by-cons (λ (o : ℕ × ObjectRow). o.1.pages) o rest in
        let s = cond-true (o.1.account == n) o.1.pages 0 is in
        omega arith

    other : (o.1.account == n) ≡ false → paid_by n (o ∷ objects) ≡ paid_by n objects + share o.1 n
    other is = grind (arith, cond-false, rest)

paid-append : (n : ℕ) (before behind : List (ℕ × ObjectRow)) → paid_by n (before ++ behind) ≡ paid_by n before + paid_by n behind
paid-append n [] behind = omega arith
paid-append n (o ∷ before) behind = grind (arith, (paid-append n before behind), paid-cons)

pub paid-between : (new : ℕ × ObjectRow) (without with_it : List (ℕ × ObjectRow)) → Between new without with_it → (n : ℕ) → paid_by n with_it ≡ paid_by n without + share new.1 n
paid-between new without with_it b n = grind (arith, paid-append, paid-cons)

-- an account pays for no more pages than there are
share-few : (row : ObjectRow) (n : ℕ) → share row n ≤ row.pages
share-few row n = grind (arith, cond-true, cond-false, cases_Bool)

pub paid-few : (n : ℕ) (objects : List (ℕ × ObjectRow)) → paid_by n objects ≤ sum_by (λ (o : ℕ × ObjectRow). o.1.pages) objects
paid-few n [] = omega arith
paid-few n (o ∷ objects) =
    let a = paid-cons n o objects in
    let b = sum_by-cons (λ (o : ℕ × ObjectRow). o.1.pages) o objects in
    let s = share-few o.1 n in
    let rest = paid-few n objects in
    omega arith

-- and its payer for all of an object
pub share-own : (row : ObjectRow) → share row row.account ≡ row.pages
share-own row = cond-true (row.account == row.account) row.pages 0 (eq-eqb row.account row.account refl)

-- one object more of the first ones
pub paid-more : (objects : List (ℕ × ObjectRow)) (i : ℕ) (d : ℕ × ObjectRow) (row : ObjectRow) → i < length objects → row ≡ (get_or objects i d).1
    → (n : ℕ) → paid_by n (take (i + 1) objects) ≡ paid_by n (take i objects) + share row n
paid-more objects i d row under is n =
    let a = ap (paid_by n) (take_more objects i d under) in
    let b = paid-append n (take i objects) (get_or objects i d ∷ []) in
    let c = paid-cons n (get_or objects i d) [] in
    let e = ap (λ (r : ObjectRow). share r n) is in
    omega arith

-- another row of an object is where the old one was
other-based : (row : ObjectRow) (objects : List (ℕ × ObjectRow)) → All (λ (o : ℕ × ObjectRow). row.base < o.1.base) objects → with_row row objects ≡ objects
other-based row [] above = refl
other-based row (o ∷ objects) above =
    let P : ℕ × ObjectRow → Type 0 = λ o. row.base < o.1.base in
    let a = All-head P o objects above in
    let other : (o.1.base == row.base) ≡ false = ne_eqb o.1.base row.base (λ is. absurd (omega arith)) in
    ap (λ x. x ∷ with_row row objects) (cond-false (o.1.base == row.base) (o.0, row) o other) ∙ ap (λ os. o ∷ os) (other-based row objects (All-tail P o objects above))

pub between-row :
    (row : ObjectRow) (gone : ℕ × ObjectRow) (objects : List (ℕ × ObjectRow)) → AreApart objects → All (λ (o : ℕ × ObjectRow). IsObjectRow o.1) objects → find (λ (o : ℕ × ObjectRow). o.1.base == row.base) objects ≡ Some gone
    → Between (gone.0, row) (filter (λ (o : ℕ × ObjectRow). not (o.1.base == row.base)) objects) (with_row row objects)
between-row row gone [] apart rows found = absurd (none_some found)
  where
    none_some : None ≡ Some gone → ⊥
    none_some is = cc
between-row row gone (o ∷ objects) apart rows found = ⊎_elim here (later (between-row row gone objects rest (All-tail R o objects rows))) (cases_Bool (o.1.base == row.base))
  where
    R : ℕ × ObjectRow → Type 0
    R o = IsObjectRow o.1

    rest : AreApart objects
    rest i j d before under = apart (suc i) (suc j) d (omega arith) (omega arith)

    W : List (ℕ × ObjectRow) → List (ℕ × ObjectRow)
    W os = filter (λ (o : ℕ × ObjectRow). not (o.1.base == row.base)) os

    the_one : (x y : ℕ × ObjectRow) → Some x ≡ Some y → x ≡ y
    the_one x y is = cc

    here : (o.1.base == row.base) ≡ true → Between (gone.0, row) (W (o ∷ objects)) (with_row row (o ∷ objects))
    here is =
        let same = the_one o gone (sym (cond-true (o.1.base == row.base) (Some o) (find (λ (o : ℕ × ObjectRow). o.1.base == row.base) objects) is) ∙ found) in
        let above : All (λ (x : ℕ × ObjectRow). row.base < x.1.base) objects = subst (λ (b : ℕ). All (λ (x : ℕ × ObjectRow). b < x.1.base) objects) (eqb-true o.1.base row.base is) (bases-rise o objects apart rows) in
        record {
          before = [];
          behind = objects;
          without_is = cond-false (not (o.1.base == row.base)) (o ∷ W objects) (W objects) (ap not is) ∙ none-based row.base objects above;
          with_is = ap (λ x. x ∷ with_row row objects) (cond-true (o.1.base == row.base) (o.0, row) o is ∙ ap (λ (x : ℕ × ObjectRow). (x.0, row)) same) ∙ ap (λ os. (gone.0, row) ∷ os) (other-based row objects above);
        }

    later : (find (λ (o : ℕ × ObjectRow). o.1.base == row.base) objects ≡ Some gone → Between (gone.0, row) (W objects) (with_row row objects)) → (o.1.base == row.base) ≡ false → Between (gone.0, row) (W (o ∷ objects)) (with_row row (o ∷ objects))
    later again is = grind (arith, cond-false, W, cond-true, between-cons)

-- one account pays for others than before
pub added : (old new : List ℕ) (row : ObjectRow) (payer total : ℕ) → payer ≡ row.account → ((k : ℕ) → pages_at new k ≡ (if payer == k then total else pages_at old k)) → total ≡ pages_at old payer + row.pages
    → (n : ℕ) → pages_at new n ≡ pages_at old n + share row n
added old new row payer total pays are is n = ⊎_elim own other (cases_Bool (payer == n))
  where
    own : (payer == n) ≡ true → pages_at new n ≡ pages_at old n + share row n
    own it = grind (arith, cond-true, eqb-true)

    other : (payer == n) ≡ false → pages_at new n ≡ pages_at old n + share row n
    other it = grind (arith, cond-false)

pub subtracted : (old new : List ℕ) (row : ObjectRow) (payer total : ℕ) → payer ≡ row.account → ((k : ℕ) → pages_at new k ≡ (if payer == k then total else pages_at old k)) → total + row.pages ≡ pages_at old payer
    → (n : ℕ) → pages_at old n ≡ pages_at new n + share row n
subtracted old new row payer total pays are is n = ⊎_elim own other (cases_Bool (payer == n))
  where
    own : (payer == n) ≡ true → pages_at old n ≡ pages_at new n + share row n
    own it = grind (arith, cond-true, eqb-true)

    other : (payer == n) ≡ false → pages_at old n ≡ pages_at new n + share row n
    other it = grind (arith, cond-false)

-- a row that is found is there
pub none-found : (test : ℕ × ObjectRow → Bool) (objects : List (ℕ × ObjectRow)) → None ≡ option_map (λ (o : ℕ × ObjectRow). o.1) (find test objects) → list_any test objects ≡ false
none-found test [] none = refl
none-found test (o ∷ objects) none = ⊎_elim here (later (none-found test objects)) (cases_Bool (test o))
  where
    some : None ≡ Some o.1 → ⊥
    some is = cc

    here : test o ≡ true → list_any test (o ∷ objects) ≡ false
    here is = absurd (some (none ∙ ap (option_map (λ (o : ℕ × ObjectRow). o.1)) (cond-true (test o) (Some o) (find test objects) is)))

    later : (None ≡ option_map (λ (o : ℕ × ObjectRow). o.1) (find test objects) → list_any test objects ≡ false) → test o ≡ false → list_any test (o ∷ objects) ≡ false
    later again is = grind (arith, or_from, cond-false)

found-whole : (found : Option (ℕ × ObjectRow)) (row : ObjectRow) → option_map (λ (o : ℕ × ObjectRow). o.1) found ≡ Some row → (o : ℕ × ObjectRow) × (found ≡ Some o) × (o.1 ≡ row)
found-whole None row is = absurd (cc)
found-whole (Some o) row is = (o, refl, the_one o.1 row is)
  where
    the_one : (x y : ObjectRow) → Some x ≡ Some y → x ≡ y
    the_one x y is = cc

-- for how many pages an account pays beside an object, with its old row, and with its new one
pub record Changed (row old : ObjectRow) (objects : List (ℕ × ObjectRow)) (n : ℕ) : Type 0 where
  pub others : ℕ
  pub before : paid_by n objects ≡ others + share old n
  pub after : paid_by n (with_row row objects) ≡ others + share row n

pub row-changed :
    (row old : ObjectRow) (objects : List (ℕ × ObjectRow)) → AreApart objects → All (λ (o : ℕ × ObjectRow). IsObjectRow o.1) objects
    → option_map (λ (o : ℕ × ObjectRow). o.1) (find (λ (o : ℕ × ObjectRow). o.1.base == row.base) objects) ≡ Some old → (n : ℕ) → Changed row old objects n
row-changed row old objects apart rows is n =
    let found = found-whole (find (λ (o : ℕ × ObjectRow). o.1.base == row.base) objects) old is in
    let gone = found.0 in
    let without = filter (λ (o : ℕ × ObjectRow). not (o.1.base == row.base)) objects in
    let was = paid-between gone without objects (between-without row.base gone objects apart rows found.1) n in
    let now = paid-between (gone.0, row) without (with_row row objects) (between-row row gone objects apart rows found.1) n in
    let same = ap (λ (r : ObjectRow). share r n) found.2 in
    record { others = paid_by n without; before = omega arith; after = now }
