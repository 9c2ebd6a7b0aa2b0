-- The rule of one access, from what was found.
use Rattle.{mg_access.specs.{Known.rows_know, Searching.allowed_row, WordLemmas.taken-none}, mg_model.specs.Access.{allowed, at, covers}}
use Rattle.mg_model.specs.{Kept.{Validates, access_limit, is_elsewhere}, Keys.{Key, is_key, seat_of}, Limits.search_limit, State.{Object, ObjectRow}}
use Rattle.{mg_model.specs.{State.State, declared.{rights.Right.Right, seats.Seat.Seat}}, mg_vcache.specs.Seats.{is_kept, key_in}}
use Rattle.std.proofs.Common.{ℕ, ◌≡◌, ◌≢◌, ◌≤◌, ◌+◌, ◌-◌, ◌==◌, Bool, not, true, false, List, [], ◌∷◌, if◌then◌else◌, Option, Some, None, refl, sym}
use Rattle.std.{proofs.{Common.{ap, subst, ◌∙◌, arith}, lemmas.{Bool.{and_parts, eq-eqb}, List.get_or-set_other}}, specs.Option.option_map_or}
use Rattle.std.specs.{Option.option_to_list, Prelude.{IfSome, find, option_map, slice_set}}

module _ (t a : ℕ) (right : Right) where
  -- the key of a row
  abbrev of : ObjectRow → Key
  of row = record { thread = t; base = row.base; right = right }

  taken-some : (v : Bool) (o : Option Object) (row : ObjectRow) → Some row ≡ (if v then option_map (λ (object : Object). object.row) o else None)
      → (if v then option_to_list (option_map (λ (object : Object). record { thread = t; base = object.row.base; right = right }) o) else []) ≡ of row ∷ []
  taken-some true (Some object) row h = let same : object.row ≡ row = cc in ap (λ (r : ObjectRow). of r ∷ []) same
  taken-some true None row h = cc
  taken-some false o row h = cc

  elsewhere : (one key : Key) → is_elsewhere (one ∷ []) key ≡ true → seat_of key ≢ seat_of one
  elsewhere one key is same =
      let apart = (and_parts (not (seat_of one == seat_of key)) true is).0 in
      let at_one = eq-eqb (seat_of one) (seat_of key) (sym same) in
      by_test (seat_of one == seat_of key) at_one apart
    where
      by_test : (v : Bool) → v ≡ true → not v ≡ true → ⊥
      by_test true is apart = cc
      by_test false is apart = cc

  -- an address is known if the right on its object is kept
  pub known-at : (rows : List ObjectRow) (seats : List (Option Seat)) (row : ObjectRow) (base : ℕ) → find (λ (r : ObjectRow). covers r a) rows ≡ Some row → base ≡ row.base
      → rows_know rows seats t a right ≡ is_kept seats (record { thread = t; base = base; right = right })
  known-at rows seats row base found same =
      ap (λ o. option_map_or (λ (r : ObjectRow). is_kept seats (of r)) o false) found ∙ ap (λ b. is_kept seats (record { thread = t; base = b; right = right })) (sym same)

  -- a seat that is filled leaves the keys of others as they were
  pub filled : (seats seats' : List (Option Seat)) (row : ObjectRow) (base via : ℕ) → base ≡ row.base
      → seats' ≡ slice_set seats (seat_of (record { thread = t; base = base; right = right })) (Some (record { thread = t; base = base; right = right; via = via }))
      → (key : Key) → seat_of key ≢ seat_of (of row) → is_kept seats' key ≡ is_kept seats key
  filled seats seats' row base via same put key far =
      let seat : Option Seat = Some (record { thread = t; base = base; right = right; via = via }) in
      let apart : seat_of key ≢ seat_of (record { thread = t; base = base; right = right }) = subst (λ b. seat_of key ≢ seat_of (record { thread = t; base = b; right = right })) (sym same) far in
      ap (λ s. is_kept s key) put
      ∙ ap (λ o. option_map_or (λ (s : Seat). is_key (key_in s) key) o false) (get_or-set_other seats (seat_of (record { thread = t; base = base; right = right })) (seat_of key) seat None apart)

  -- what one access keeps
  pub tried : (state : State) (seats seats' : List (Option Seat)) (steps steps' : ℕ) (o : Option ObjectRow) → o ≡ allowed_row state t a right → IfSome o (λ row. is_kept seats' (of row) ≡ true)
      → IfSome o (λ row. (key : Key) → seat_of key ≢ seat_of (of row) → is_kept seats' key ≡ is_kept seats key) → (o ≡ None → seats' ≡ seats)
      → steps' ≤ steps + access_limit (λ key. is_kept seats key) state (record { thread = t; address = a; right = right })
      → Validates state (record { thread = t; address = a; right = right }) (λ key. is_kept seats key) (λ key. is_kept seats' key) (steps' - steps)
  tried state seats seats' steps steps' (Some row) found kept others none limit =
      let is = taken-some (allowed state t a right) (at state.objects a) row found in
      record {
        own = λ key took. let same : of row ≡ key = cc in subst (λ k. is_kept seats' k ≡ true) same kept;
        others = λ key far. others key (elsewhere (of row) key (ap (λ keys. is_elsewhere keys key) (sym is) ∙ far));
        few = omega arith;
      }
  tried state seats seats' steps steps' None found kept others none limit =
      let is = taken-none t a right (allowed state t a right) (at state.objects a) found in
      record {
        own = λ key took. let no : [] ≡ key ∷ [] = cc in cc;
        others = λ key far. ap (λ s. is_kept s key) (none refl);
        few = omega arith;
      }

-- a bound on what was searched, if the key was not known
pub within : (v : Bool) (steps steps' : ℕ) → v ≡ false → steps' ≤ steps + search_limit → steps' ≤ steps + (if v then 0 else search_limit)
within v steps steps' unknown few = subst (λ known. steps' ≤ steps + (if known then 0 else search_limit)) (sym unknown) few
