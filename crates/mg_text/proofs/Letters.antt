-- The rights of letters, one letter more.
use Rattle.mg_model.specs.{Rights.IsRights, StepwiseLemmas.{IsBit, rights_from, rights_of-from}, Words.{and_then, letter_weight, rights_of}}
use Rattle.std.proofs.Common.{◌≡◌, ℕ, ◌+◌, ◌/◌, ◌%◌, ◌<◌, ◌==◌, true, false, List, [], ◌∷◌, Option, Some, None, length, get_or, drop, if◌then◌else◌}
use Rattle.std.proofs.{Common.{refl, ap, sym, ◌∙◌, add-one, arith, drop-cons, inl, inr, ◌≤◌, ◌↔◌, IsSome, IfSome}, lemmas.Bool.Decides.nat_tests}
use Rattle.std.proofs.lemmas.List.{drop_all}

-- a bit that is free among the six
free_below : (bits bit : ℕ) → IsBit bit → bits < 64 → (bits / bit % 2 ≡ 1 → ⊥) → bits + bit < 64
free_below bits bit (inl e) few free = let f = rw e at free in rw e (omega (arith, f))
free_below bits bit (inr (inl e)) few free = let f = rw e at free in rw e (omega (arith, f))
free_below bits bit (inr (inr (inl e))) few free = let f = rw e at free in rw e (omega (arith, f))
free_below bits bit (inr (inr (inr (inl e)))) few free = let f = rw e at free in rw e (omega (arith, f))
free_below bits bit (inr (inr (inr (inr (inl e))))) few free = let f = rw e at free in rw e (omega (arith, f))
free_below bits bit (inr (inr (inr (inr (inr e))))) few free = let f = rw e at free in rw e (omega (arith, f))

pub bit-free : (bits bit : ℕ) → IsBit bit → bits < 64 → (bits / bit % 2 == 1) ≡ false → bits + bit < 64
bit-free bits bit is few free = free_below bits bit is few (grind (arith, nat_tests))

pub bit-some : (bit : ℕ) → IsBit bit → 0 < bit
bit-some bit is = grind arith

-- the next letter
rights_from-at : (bits i : ℕ) (w : List ℕ) → i < length w
    → rights_from bits (drop i w)
    ≡ and_then (letter_weight (get_or w i 0)) (λ bit. if bits / bit % 2 == 1 then None else rights_from (bits + bit) (drop (i + 1) w))
rights_from-at bits i w h = rw (add-one, drop-cons w i 0) refl

pub rights_from-none : (bits i : ℕ) (w : List ℕ) → i < length w → None ≡ letter_weight (get_or w i 0) → rights_from bits (drop i w) ≡ None
rights_from-none bits i w h e =
    rights_from-at bits i w h ∙ ap (λ o. and_then o (λ bit. if bits / bit % 2 == 1 then None else rights_from (bits + bit) (drop (i + 1) w))) (sym e)

some_letter : (bits i bit : ℕ) (w : List ℕ) → i < length w → Some bit ≡ letter_weight (get_or w i 0)
    → rights_from bits (drop i w) ≡ (if bits / bit % 2 == 1 then None else rights_from (bits + bit) (drop (i + 1) w))
some_letter bits i bit w h e =
    rights_from-at bits i w h ∙ ap (λ o. and_then o (λ v. if bits / v % 2 == 1 then None else rights_from (bits + v) (drop (i + 1) w))) (sym e)

pub rights_from-twice : (bits i bit : ℕ) (w : List ℕ) → i < length w → Some bit ≡ letter_weight (get_or w i 0) → (bits / bit % 2 == 1) ≡ true → rights_from bits (drop i w) ≡ None
rights_from-twice bits i bit w h e twice = some_letter bits i bit w h e ∙ ap (λ v. if v then None else rights_from (bits + bit) (drop (i + 1) w)) twice

pub rights_from-more : (bits i bit : ℕ) (w : List ℕ) → i < length w → Some bit ≡ letter_weight (get_or w i 0) → (bits / bit % 2 == 1) ≡ false
    → rights_from bits (drop i w) ≡ rights_from (bits + bit) (drop (i + 1) w)
rights_from-more bits i bit w h e once =
    some_letter bits i bit w h e ∙ ap (λ v. if v then None else rights_from (bits + bit) (drop (i + 1) w)) once

-- a word with a letter
pub rights_of-some : (i : ℕ) (w : List ℕ) → i < length w → rights_of w ≡ rights_from 0 w
rights_of-some i [] h = absurd (omega (arith, h))
rights_of-some i (b ∷ w) h = rights_of-from (b ∷ w)

-- the set of the bits that were read
made : (r : Option ℕ) (bits : ℕ) (w : List ℕ) → IfSome r (λ n. n ≡ bits) → (IsSome r ↔ IsRights bits) → rights_from 0 w ≡ Some bits → bits < 64 → length w ≤ bits
    → r ≡ rights_of w
made None bits [] given some read few letters = refl
made (Some n) bits [] given some read few letters =
    absurd (let h = some.0 refl in let none : 0 ≡ bits = cc in omega (arith, h.some, none))
made None bits (b ∷ w) given some read few letters =
    absurd (let h = some.1 (record { some = omega (arith, letters); six = omega (arith, few) }) in cc)
made (Some n) bits (b ∷ w) given some read few letters = ap (λ v. Some v) given ∙ sym read ∙ sym (rights_of-from (b ∷ w))

pub rights-made : (r : Option ℕ) (bits i : ℕ) (w : List ℕ) → IfSome r (λ n. n ≡ bits) → (IsSome r ↔ IsRights bits) → rights_from 0 w ≡ rights_from bits (drop i w)
    → length w ≤ i → bits < 64 → i ≤ bits → r ≡ rights_of w
rights-made r bits i w given some same over few letters =
    made r bits w given some (same ∙ ap (λ v. rights_from bits v) (drop_all i w over)) few (omega arith)
