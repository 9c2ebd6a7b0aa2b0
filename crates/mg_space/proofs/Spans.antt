-- The pages of objects: they lie one after another, and what a change of the objects makes of them.
use Rattle.mg_model.specs.{Limits.page_end, Objects.{page_behind, page_of}, Ranges.IsObjectRow, State.{Object, ObjectRow}}
use Rattle.{mg_objects.specs.Held.{AreApart, into_place, with_row}, mg_ranges.specs.{Gaps.{AreGapsOf, AreTaken, LieFrom, spans_of}, Kept.CanGive}}
use Rattle.{mg_ranges.specs.Kept.{CanTake, HasRoom}, mg_space.specs.Space.{AreRowsOf, spans_in}, std.proofs.Common.{refl, sym, ap, ◌∙◌, subst}}
use Rattle.std.proofs.{Common.{⊎_elim, arith, get_or}, lemmas.{Bool.{cases_Bool, cond-false, cond-true, eqb-true, ne_eqb}, List.length-map}}
use Rattle.std.proofs.lemmas.List.{length-take-le, map-append, take_more, Elements.{All-cons, All-head, All-nil, All-tail, All-take}}
use Rattle.std.{proofs.lemmas.List.Sums.{sum_by-append, sum_by-cons}, specs.Prelude.{◌≡◌, ◌+◌, ◌*◌, ◌/◌, ◌<◌, ◌≤◌, ◌==◌, ℕ, suc, true, false, List}}
use Rattle.std.specs.Prelude.{[], ◌++◌, ◌∷◌, All, Some, None, filter, find, if◌then◌else◌, length, map, nat_lt, not, sum_by, take}

-- objects that lie apart, from a page on
lie-spans :
    (page : ℕ) (objects : List (ℕ × ObjectRow)) → page ≤ page_end → All (λ (o : ℕ × ObjectRow). page ≤ page_of o.1) objects → AreApart objects → All (λ (o : ℕ × ObjectRow). IsObjectRow o.1) objects
    → LieFrom page (spans_in objects)
lie-spans page [] within low apart rows = within
lie-spans page (o ∷ objects) within low apart rows =
    let R : ℕ × ObjectRow → Type 0 = λ o. IsObjectRow o.1 in
    let row = All-head R o objects rows in
    let behind : All (λ (b : ℕ × ObjectRow). page_behind o.1 ≤ page_of b.1) objects = λ k d under. apart 0 (suc k) d (omega arith) (omega arith) in
    let rest : AreApart objects = λ i j d before under. apart (suc i) (suc j) d (omega arith) (omega arith) in
    let P : ℕ × ObjectRow → Type 0 = λ o. page ≤ page_of o.1 in
    (All-head P o objects low, row.place.some, lie-spans (page_behind o.1) objects row.place.high behind rest (All-tail R o objects rows))

pub taken-spans : (objects : List (ℕ × ObjectRow)) → length objects ≤ 4096 → AreApart objects → All (λ (o : ℕ × ObjectRow). IsObjectRow o.1) objects → AreTaken (spans_in objects)
taken-spans objects few apart rows = grind (arith, length-map, lie-spans)

-- how many pages they have
pub sum-spans : (objects : List (ℕ × ObjectRow)) → sum_by (λ (span : ℕ × ℕ). span.1) (spans_in objects) ≡ sum_by (λ (o : ℕ × ObjectRow). o.1.pages) objects
sum-spans [] = refl
sum-spans (o ∷ objects) =
    let a = sum_by-cons (λ (span : ℕ × ℕ). span.1) (page_of o.1, o.1.pages) (spans_in objects) in
    let b = sum_by-cons (λ (o : ℕ × ObjectRow). o.1.pages) o objects in
    let rest = sum-spans objects in
    omega arith

-- the pages of a state's objects with these rows
spans-rows : (objects : List Object) → spans_of objects ≡ map (λ (row : ObjectRow). (page_of row, row.pages)) (map (λ (object : Object). object.row) objects)
spans-rows [] = refl
spans-rows (object ∷ objects) = ap (λ spans. (page_of object.row, object.row.pages) ∷ spans) (spans-rows objects)

spans-placed : (rows : List (ℕ × ObjectRow)) → spans_in rows ≡ map (λ (row : ObjectRow). (page_of row, row.pages)) (map (λ (o : ℕ × ObjectRow). o.1) rows)
spans-placed [] = refl
spans-placed (o ∷ rows) = ap (λ spans. (page_of o.1, o.1.pages) ∷ spans) (spans-placed rows)

pub same-spans : (objects : List Object) (rows : List (ℕ × ObjectRow)) → AreRowsOf objects rows → spans_of objects ≡ spans_in rows
same-spans objects rows same = spans-rows objects ∙ ap (map (λ (row : ObjectRow). (page_of row, row.pages))) same ∙ sym (spans-placed rows)

-- a row in its place is between others
pub record Between (new : ℕ × ObjectRow) (without with_it : List (ℕ × ObjectRow)) : Type 0 where
  pub before : List (ℕ × ObjectRow)
  pub behind : List (ℕ × ObjectRow)
  pub without_is : without ≡ before ++ behind
  pub with_is : with_it ≡ before ++ new ∷ behind

pub between-cons : (new o : ℕ × ObjectRow) (without with_it : List (ℕ × ObjectRow)) → Between new without with_it → Between new (o ∷ without) (o ∷ with_it)
between-cons new o without with_it b = record { before = o ∷ b.before; behind = b.behind; without_is = ap (λ os. o ∷ os) b.without_is; with_is = ap (λ os. o ∷ os) b.with_is }

pub between-into : (new : ℕ × ObjectRow) (objects : List (ℕ × ObjectRow)) → Between new objects (into_place new objects)
between-into new [] = record { before = []; behind = []; without_is = refl; with_is = refl }
between-into new (o ∷ objects) = ⊎_elim here (later (between-into new objects)) (cases_Bool (nat_lt new.1.base o.1.base))
  where
    here : nat_lt new.1.base o.1.base ≡ true → Between new (o ∷ objects) (into_place new (o ∷ objects))
    here is = record { before = []; behind = o ∷ objects; without_is = refl; with_is = cond-true (nat_lt new.1.base o.1.base) (new ∷ o ∷ objects) (o ∷ into_place new objects) is }

    later : Between new objects (into_place new objects) → nat_lt new.1.base o.1.base ≡ false → Between new (o ∷ objects) (into_place new (o ∷ objects))
    later rest is = grind (arith, cond-false, between-cons)

-- objects after another have larger bases
pub bases-rise : (o : ℕ × ObjectRow) (objects : List (ℕ × ObjectRow)) → AreApart (o ∷ objects) → All (λ (x : ℕ × ObjectRow). IsObjectRow x.1) (o ∷ objects) → All (λ (x : ℕ × ObjectRow). o.1.base < x.1.base) objects
bases-rise o objects apart rows =
    λ k d under.
    let some = (rows 0 o (omega arith)).place.some in
    let b = apart 0 (suc k) d (omega arith) (omega arith) in
    let row = rows (suc k) d (omega arith) in
    omega (arith, row.place.aligned, (rows 0 o (omega arith)).place.aligned)

pub none-based : (base : ℕ) (objects : List (ℕ × ObjectRow)) → All (λ (o : ℕ × ObjectRow). base < o.1.base) objects → filter (λ (o : ℕ × ObjectRow). not (o.1.base == base)) objects ≡ objects
none-based base [] above = refl
none-based base (o ∷ objects) above =
    let P : ℕ × ObjectRow → Type 0 = λ o. base < o.1.base in
    let a = All-head P o objects above in
    let other : (o.1.base == base) ≡ false = ne_eqb o.1.base base (λ is. absurd (omega arith)) in
    cond-true (not (o.1.base == base)) (o ∷ filter (λ (o : ℕ × ObjectRow). not (o.1.base == base)) objects) (filter (λ (o : ℕ × ObjectRow). not (o.1.base == base)) objects) (ap not other)
    ∙ ap (λ os. o ∷ os) (none-based base objects (All-tail P o objects above))

pub between-without :
    (base : ℕ) (gone : ℕ × ObjectRow) (objects : List (ℕ × ObjectRow)) → AreApart objects → All (λ (o : ℕ × ObjectRow). IsObjectRow o.1) objects → find (λ (o : ℕ × ObjectRow). o.1.base == base) objects ≡ Some gone
    → Between gone (filter (λ (o : ℕ × ObjectRow). not (o.1.base == base)) objects) objects
between-without base gone [] apart rows found = absurd (none_some found)
  where
    none_some : None ≡ Some gone → ⊥
    none_some is = cc
between-without base gone (o ∷ objects) apart rows found = ⊎_elim here (later (between-without base gone objects rest (All-tail R o objects rows))) (cases_Bool (o.1.base == base))
  where
    R : ℕ × ObjectRow → Type 0
    R o = IsObjectRow o.1

    rest : AreApart objects
    rest i j d before under = apart (suc i) (suc j) d (omega arith) (omega arith)

    the_one : (x y : ℕ × ObjectRow) → Some x ≡ Some y → x ≡ y
    the_one x y is = cc

    here : (o.1.base == base) ≡ true → Between gone (filter (λ (o : ℕ × ObjectRow). not (o.1.base == base)) (o ∷ objects)) (o ∷ objects)
    here is =
        let same = the_one o gone (sym (cond-true (o.1.base == base) (Some o) (find (λ (o : ℕ × ObjectRow). o.1.base == base) objects) is) ∙ found) in
        let above : All (λ (x : ℕ × ObjectRow). base < x.1.base) objects = subst (λ (b : ℕ). All (λ (x : ℕ × ObjectRow). b < x.1.base) objects) (eqb-true o.1.base base is) (bases-rise o objects apart rows) in
        record {
          before = [];
          behind = objects;
          without_is = cond-false (not (o.1.base == base)) (o ∷ filter (λ (o : ℕ × ObjectRow). not (o.1.base == base)) objects) (filter (λ (o : ℕ × ObjectRow). not (o.1.base == base)) objects) (ap not is) ∙ none-based base objects above;
          with_is = ap (λ x. x ∷ objects) same;
        }

    later : (find (λ (o : ℕ × ObjectRow). o.1.base == base) objects ≡ Some gone → Between gone (filter (λ (o : ℕ × ObjectRow). not (o.1.base == base)) objects) objects) → (o.1.base == base) ≡ false
        → Between gone (filter (λ (o : ℕ × ObjectRow). not (o.1.base == base)) (o ∷ objects)) (o ∷ objects)
    later again is = grind (arith, cond-true, between-cons, cond-false)

-- the pages of objects between which one is
pub spans-between : (new : ℕ × ObjectRow) (without with_it : List (ℕ × ObjectRow)) (b : Between new without with_it)
    → (spans_in without ≡ spans_in b.before ++ spans_in b.behind) × (spans_in with_it ≡ spans_in b.before ++ (page_of new.1, new.1.pages) ∷ spans_in b.behind)
spans-between new without with_it b = grind (arith, map-append)

pub sum-between : (new : ℕ × ObjectRow) (without with_it : List (ℕ × ObjectRow)) → Between new without with_it
    → sum_by (λ (o : ℕ × ObjectRow). o.1.pages) with_it ≡ sum_by (λ (o : ℕ × ObjectRow). o.1.pages) without + new.1.pages
sum-between new without with_it b =
    let f : ℕ × ObjectRow → ℕ = λ o. o.1.pages in
    let x = ap (sum_by f) b.without_is in
    let y = ap (sum_by f) b.with_is in
    let p = sum_by-append f b.before b.behind in
    let q = sum_by-append f b.before (new ∷ b.behind) in
    let r = sum_by-cons f new b.behind in
    omega arith

-- another row with as many pages
pub spans-row : (row : ObjectRow) (objects : List (ℕ × ObjectRow)) → All (λ (o : ℕ × ObjectRow). o.1.base ≡ row.base → o.1.pages ≡ row.pages) objects → spans_in (with_row row objects) ≡ spans_in objects
spans-row row [] same = refl
spans-row row (o ∷ objects) same =
    let P : ℕ × ObjectRow → Type 0 = λ o. o.1.base ≡ row.base → o.1.pages ≡ row.pages in
    let rest = spans-row row objects (All-tail P o objects same) in
    let span : ℕ × ObjectRow → ℕ × ℕ = λ o. (page_of o.1, o.1.pages) in
    let here : span (if o.1.base == row.base then (o.0, row) else o) ≡ span o =
    ⊎_elim
    (λ is.
    let base = eqb-true o.1.base row.base is in
    ap span (cond-true (o.1.base == row.base) (o.0, row) o is) ∙ ap (λ b. (b / 4096, row.pages)) (sym base) ∙ ap (λ p. (page_of o.1, p)) (sym (All-head P o objects same base)))
    (λ is. ap span (cond-false (o.1.base == row.base) (o.0, row) o is)) (cases_Bool (o.1.base == row.base)) in
    ap (λ s. s ∷ spans_in (with_row row objects)) here ∙ ap (λ ss. span o ∷ ss) rest

-- a few objects have few pages
sum-few : (objects : List (ℕ × ObjectRow)) → All (λ (o : ℕ × ObjectRow). IsObjectRow o.1) objects → sum_by (λ (o : ℕ × ObjectRow). o.1.pages) objects ≤ 1024 * length objects
sum-few [] rows = omega arith
sum-few (o ∷ objects) rows =
    let R : ℕ × ObjectRow → Type 0 = λ o. IsObjectRow o.1 in
    let few = (All-head R o objects rows).place.few in
    let rest = sum-few objects (All-tail R o objects rows) in
    let c = sum_by-cons (λ (o : ℕ × ObjectRow). o.1.pages) o objects in
    omega arith

pub sum-fits : (objects : List (ℕ × ObjectRow)) → length objects ≤ 4096 → All (λ (o : ℕ × ObjectRow). IsObjectRow o.1) objects → sum_by (λ (o : ℕ × ObjectRow). o.1.pages) objects ≤ 4194304
sum-fits objects few rows = let s = sum-few objects rows in omega arith

-- one object more of the first ones
pub spans-more : (objects : List (ℕ × ObjectRow)) (i : ℕ) (d : ℕ × ObjectRow) (row : ObjectRow) → i < length objects → row ≡ (get_or objects i d).1 → spans_in (take (i + 1) objects) ≡ spans_in (take i objects) ++ (page_of row, row.pages) ∷ []
spans-more objects i d row under is =
    let f : ℕ × ObjectRow → ℕ × ℕ = λ o. (page_of o.1, o.1.pages) in
    ap spans_in (take_more objects i d under) ∙ map-append f (take i objects) (get_or objects i d ∷ []) ∙ ap (λ (r : ObjectRow). spans_in (take i objects) ++ (page_of r, r.pages) ∷ []) (sym is)

pub sum-more : (objects : List (ℕ × ObjectRow)) (i : ℕ) (d : ℕ × ObjectRow) (row : ObjectRow) → i < length objects → row ≡ (get_or objects i d).1
    → sum_by (λ (o : ℕ × ObjectRow). o.1.pages) (take (i + 1) objects) ≡ sum_by (λ (o : ℕ × ObjectRow). o.1.pages) (take i objects) + row.pages
sum-more objects i d row under is =
    let f : ℕ × ObjectRow → ℕ = λ o. o.1.pages in
    let a = ap (sum_by f) (take_more objects i d under) in
    let b = sum_by-append f (take i objects) (get_or objects i d ∷ []) in
    let c = sum_by-cons f (get_or objects i d) [] in
    let e = ap (λ (r : ObjectRow). r.pages) is in
    omega arith

pub sum-part : (objects : List (ℕ × ObjectRow)) (i : ℕ) → i ≤ length objects → length objects ≤ 4096 → All (λ (o : ℕ × ObjectRow). IsObjectRow o.1) objects → sum_by (λ (o : ℕ × ObjectRow). o.1.pages) (take i objects) ≤ 4194304
sum-part objects i within few rows = let l = length-take-le i objects within in sum-fits (take i objects) (omega arith) (All-take (λ (o : ℕ × ObjectRow). IsObjectRow o.1) i objects rows)

-- what holds of the pages holds of the objects
pub all-unmap : (P : ℕ × ℕ → Type 0) (objects : List (ℕ × ObjectRow)) → All P (spans_in objects) → All (λ (o : ℕ × ObjectRow). P (page_of o.1, o.1.pages)) objects
all-unmap P [] all = All-nil (λ (o : ℕ × ObjectRow). P (page_of o.1, o.1.pages))
all-unmap P (o ∷ objects) all =
    All-cons (λ (o : ℕ × ObjectRow). P (page_of o.1, o.1.pages)) o objects (All-head P (page_of o.1, o.1.pages) (spans_in objects) all) (all-unmap P objects (All-tail P (page_of o.1, o.1.pages) (spans_in objects) all))

pub has-room : (objects : List (ℕ × ObjectRow)) (gaps : List (ℕ × ℕ)) → AreGapsOf (spans_in objects) gaps → sum_by (λ (o : ℕ × ObjectRow). o.1.pages) objects ≤ 65536 → HasRoom gaps
has-room objects gaps leave few = let s = sum-spans objects in record { taken = spans_in objects; leave = leave; few = omega arith }

-- an object comes
module _ (new : ℕ × ObjectRow) (without with_it : List (ℕ × ObjectRow)) (b : Between new without with_it) (span : ℕ × ℕ) (is : span ≡ (page_of new.1, new.1.pages)) where
  with_span : spans_in with_it ≡ spans_in b.before ++ span ∷ spans_in b.behind
  with_span = (spans-between new without with_it b).1 ∙ ap (λ s. spans_in b.before ++ s ∷ spans_in b.behind) (sym is)

  without_span : spans_in without ≡ spans_in b.before ++ spans_in b.behind
  without_span = (spans-between new without with_it b).0

  gaps_without : (gaps : List (ℕ × ℕ)) → AreGapsOf (spans_in without) gaps → AreGapsOf (spans_in b.before ++ spans_in b.behind) gaps
  gaps_without gaps leave = subst (λ spans. AreGapsOf spans gaps) without_span leave

  gaps_with : (gaps : List (ℕ × ℕ)) → AreGapsOf (spans_in with_it) gaps → AreGapsOf (spans_in b.before ++ span ∷ spans_in b.behind) gaps
  gaps_with gaps leave = subst (λ spans. AreGapsOf spans gaps) with_span leave

  pub can-take : (gaps : List (ℕ × ℕ)) → AreGapsOf (spans_in without) gaps → AreTaken (spans_in with_it) → CanTake span.0 span.1 gaps
  can-take gaps leave taken = record { before = spans_in b.before; behind = spans_in b.behind; leave = gaps_without gaps leave; more = subst AreTaken with_span taken }

  pub taken-now : (gaps gaps' : List (ℕ × ℕ)) → AreGapsOf (spans_in without) gaps → AreTaken (spans_in with_it)
      → ((before behind : List (ℕ × ℕ)) → AreGapsOf (before ++ behind) gaps → AreTaken (before ++ (span.0, span.1) ∷ behind) → AreGapsOf (before ++ (span.0, span.1) ∷ behind) gaps')
      → AreGapsOf (spans_in with_it) gaps'
  taken-now gaps gaps' leave taken take = subst (λ spans. AreGapsOf spans gaps') (sym with_span) (take (spans_in b.before) (spans_in b.behind) (gaps_without gaps leave) (subst AreTaken with_span taken))

  -- and goes
  pub can-give : (gaps : List (ℕ × ℕ)) → AreGapsOf (spans_in with_it) gaps → CanGive span.0 span.1 gaps
  can-give gaps leave = record { before = spans_in b.before; behind = spans_in b.behind; leave = gaps_with gaps leave }

  pub given-now : (gaps gaps' : List (ℕ × ℕ)) → AreGapsOf (spans_in with_it) gaps
      → ((before behind : List (ℕ × ℕ)) → AreGapsOf (before ++ (span.0, span.1) ∷ behind) gaps → AreGapsOf (before ++ behind) gaps') → AreGapsOf (spans_in without) gaps'
  given-now gaps gaps' leave give = subst (λ spans. AreGapsOf spans gaps') (sym without_span) (give (spans_in b.before) (spans_in b.behind) (gaps_with gaps leave))
