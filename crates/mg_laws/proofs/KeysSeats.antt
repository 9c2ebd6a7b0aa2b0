-- Keys, and the one seat that each can have: which of some keys has a seat now.
use Rattle.mg_model.specs.{Kept.is_elsewhere, Keys.{Key, first_at, has_seat, is_key, seat_of}, Rights.right_number, declared.rights.Right.Right}
use Rattle.{mg_model.specs.declared.rights.Right.TheVariants.{R, W, X, D, P, O}, std.proofs.Common.{arith, ℕ, zero, suc, ◌≡◌, ◌||◌, Bool, true}}
use Rattle.std.proofs.{Common.{false, not, eqb, List, [], ◌∷◌, ◌++◌, Option, Some, None, refl, ap, ◌∙◌}, lemmas.Bool.{and_from, and_parts, cond_both}}
use Rattle.std.proofs.lemmas.{Bool.{eq-eqb, eqb-true, false≢true, not_from_false, or_right}, List.Folds.{find-append, list_all-append}}
use Rattle.std.specs.Option.{option_map_or, option_or}

-- the right with this number
abbrev right_at : ℕ → Right
right_at zero = R
right_at (suc zero) = W
right_at (suc (suc zero)) = X
right_at (suc (suc (suc zero))) = D
right_at (suc (suc (suc (suc zero)))) = P
right_at _ = O

number-right : (right : Right) → right_at (right_number right) ≡ right
number-right R = refl
number-right W = refl
number-right X = refl
number-right D = refl
number-right P = refl
number-right O = refl

same_parts : (a b c d : ℕ) (r s : Right) → a ≡ b → c ≡ d → r ≡ s
    → (let x : Key = record { thread = a; base = c; right = r } in x) ≡ record { thread = b; base = d; right = s }
same_parts a b c d r s t u v = cc

pub is_key-same : (key other : Key) → is_key key other ≡ true → key ≡ other
is_key-same key other is = grind (arith, and_parts, same_parts, eqb-true, number-right)

pub is_key-self : (key : Key) → is_key key key ≡ true
is_key-self key = grind (arith, and_from, eq-eqb)

-- the last key with a seat is this one
pub last_is : (key : Key) (o : Option Key) → option_map_or (λ last. is_key last key) o false ≡ true → o ≡ Some key
last_is key None is = absurd (false≢true is)
last_is key (Some last) is = ap (λ v. Some v) (is_key-same last key is)

pub is_last : (key : Key) (o : Option Key) → o ≡ Some key → option_map_or (λ last. is_key last key) o false ≡ true
is_last key o is = ap (λ v. option_map_or (λ last. is_key last key) v false) is ∙ is_key-self key

-- keys of which none has the seat
pub none-elsewhere : (key : Key) (keys : List Key) → first_at (seat_of key) keys ≡ None → is_elsewhere keys key ≡ true
none-elsewhere key [] none = refl
none-elsewhere key (x ∷ xs) none =
    cond_both (eqb (seat_of x) (seat_of key)) (Some x) (first_at (seat_of key) xs) (λ o. o ≡ None → is_elsewhere (x ∷ xs) key ≡ true)
    (λ _ some. absurd (cc))
    (λ other rest. and_from (not (eqb (seat_of x) (seat_of key))) (is_elsewhere xs key) (not_from_false (eqb (seat_of x) (seat_of key)) other) (none-elsewhere key xs rest))
    none

-- such keys leave the seat to the key
pub elsewhere-has_seat : (key : Key) (keys : List Key) → is_elsewhere keys key ≡ true → has_seat keys key ≡ true
elsewhere-has_seat key [] all = refl
elsewhere-has_seat key (x ∷ xs) all =
    let both = and_parts (not (eqb (seat_of x) (seat_of key))) (is_elsewhere xs key) all in
    and_from (is_key x key || not (eqb (seat_of x) (seat_of key))) (has_seat xs key) (or_right (is_key x key) (not (eqb (seat_of x) (seat_of key))) both.0) (elsewhere-has_seat key xs both.1)

pub has_seat-append : (key : Key) (new old : List Key) → has_seat (new ++ old) key ≡ true → (has_seat new key ≡ true) × (has_seat old key ≡ true)
has_seat-append key new old all = grind (arith, and_parts, list_all-append)

-- the key that has a seat is one of the new keys, or else one of the old
pub first-append : (seat : ℕ) (new old : List Key) → first_at seat (new ++ old) ≡ option_or (first_at seat new) (first_at seat old)
first-append seat new old = find-append (λ key. eqb (seat_of key) seat) new old

-- a key that has its seat now, before keys that leave the seat to it
pub seat-first : (key : Key) (new old : List Key) → has_seat new key ≡ true → first_at (seat_of key) old ≡ Some key → first_at (seat_of key) (new ++ old) ≡ Some key
seat-first key [] old leaves is = is
seat-first key (x ∷ xs) old leaves is =
    let both = and_parts (is_key x key || not (eqb (seat_of x) (seat_of key))) (has_seat xs key) leaves in
    cond_both (eqb (seat_of x) (seat_of key)) (Some x) (first_at (seat_of key) (xs ++ old)) (λ o. o ≡ Some key)
    (λ same. ap (λ v. Some v) (own x key same both.0))
    (λ _. seat-first key xs old both.1 is)
  where
    own : (x key : Key) → eqb (seat_of x) (seat_of key) ≡ true → (is_key x key || not (eqb (seat_of x) (seat_of key))) ≡ true → x ≡ key
    own x key same either = is_key-same x key (left (is_key x key) (eqb (seat_of x) (seat_of key)) same either)
      where
        left : (a b : Bool) → b ≡ true → (a || not b) ≡ true → a ≡ true
        left true b same either = refl
        left false true same either = absurd (false≢true either)
        left false false same either = absurd (false≢true same)

-- the keys before the key that has a seat leave the seat to it
pub record Splits (keys : List Key) (key : Key) : Type 0 where
  pub after : List Key
  pub before : List Key
  pub split : keys ≡ after ++ key ∷ before
  pub seat : has_seat after key ≡ true

pub first-splits : (key : Key) (keys : List Key) → first_at (seat_of key) keys ≡ Some key → Splits keys key
first-splits key [] is = absurd (cc)
first-splits key (x ∷ xs) is =
    cond_both (eqb (seat_of x) (seat_of key)) (Some x) (first_at (seat_of key) xs) (λ o. o ≡ Some key → Splits (x ∷ xs) key)
    (λ _ here. let own : x ≡ key = cc in record { after = []; before = xs; split = ap (λ v. v ∷ xs) own; seat = refl })
    (λ other rest. one_more x other (first-splits key xs rest))
    is
  where
    one_more : (x : Key) → eqb (seat_of x) (seat_of key) ≡ false → Splits xs key → Splits (x ∷ xs) key
    one_more x other s = record {
      after = x ∷ s.after;
      before = s.before;
      split = ap (λ v. x ∷ v) s.split;
      seat = and_from (is_key x key || not (eqb (seat_of x) (seat_of key))) (has_seat s.after key) (or_right (is_key x key) (not (eqb (seat_of x) (seat_of key))) (not_from_false (eqb (seat_of x) (seat_of key)) other)) s.seat;
    }

pub splits-first : (key : Key) (after before : List Key) → has_seat after key ≡ true → first_at (seat_of key) (after ++ key ∷ before) ≡ Some key
splits-first key after before leaves = grind (arith, seat-first, cond_both, eq-eqb)

-- Of new keys and old keys the last with a seat is kept, if new keys come and old keys stay.
pub last_is_kept : (new old : List Key) (kept kept' : Key → Bool) → ((key : Key) → kept key ≡ true → has_seat new key ≡ true → kept' key ≡ true)
    → ((key : Key) → first_at (seat_of key) new ≡ Some key → kept' key ≡ true) → ((key : Key) → first_at (seat_of key) old ≡ Some key → kept key ≡ true)
    → (key : Key) → first_at (seat_of key) (new ++ old) ≡ Some key → kept' key ≡ true
last_is_kept new old kept kept' stays comes were key is = grind (arith, first-append, elsewhere-has_seat, none-elsewhere)
