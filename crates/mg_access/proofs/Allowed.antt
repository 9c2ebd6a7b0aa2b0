-- What is kept says whether an access is allowed, and what is found backs the seat that it fills.
use Rattle.mg_access.{proofs.{Apart.found-object, Reached.reached-some}, specs.{KnownLemmas.find-rows, Searching.{IsOpenedBy, IsSoughtAt}}}
use Rattle.{mg_access.specs.{Searching.{allowed_row, slot_opens}, declared.lists.Sought.Sought}, mg_disk.specs.Disk.Image}
use Rattle.{mg_laws.specs.Backing.{BackedAllows, OpeningBacks}, mg_model.specs.Access.{allowed, at, covers, domain_of, pairs_under, holds}}
use Rattle.mg_model.specs.{Backed.IsBacked, State.{Counters, Object, ObjectRow, State}, WellFormed.IsWellFormed, declared.rights.Right.Right}
use Rattle.{mg_model.specs.declared.seats.Seat.Seat, mg_vcache.specs.{SeatLemmas.kept_backed, Seats.{AllBacked, is_kept}}}
use Rattle.{mg_volume.specs.{Held.VolumeHeld, Meaning.{counters_in, now_of, objects_in}, RunLemmas.{told_period, told_rows}}, std.proofs.Common.ℕ}
use Rattle.std.proofs.Common.{◌≡◌, ◌==◌, ◌&&◌, Bool, true, false, List, if◌then◌else◌, Option, Some, None, refl, sym, ap, subst, ◌∙◌}
use Rattle.std.{proofs.lemmas.List.Folds.list_any-from_Any, specs.{List.list_any, Prelude.{Contains, find, map, option_map}}}

module _ (state : State) (t a : ℕ) (right : Right) where
  by_test : (v : Bool) (o : Option Object) (object : Object) (row : ObjectRow) → v ≡ true → o ≡ Some object → object.row ≡ row → Some row ≡ (if v then option_map (λ (x : Object). x.row) o else None)
  by_test true (Some x) object row may there same = let is : x ≡ object = cc in ap (λ (r : ObjectRow). Some r) (sym (ap (λ (y : Object). y.row) is ∙ same))
  by_test true None object row may there same = cc
  by_test false o object row may there same = cc

  -- when the key is kept, the row of the address is that of an allowed access
  pub kept-allowed : (row : ObjectRow) (seats : List (Option Seat)) → IsWellFormed state → BackedAllows allowed → find (λ (r : ObjectRow). covers r a) (map (λ (o : Object). o.row) state.objects) ≡ Some row → AllBacked state seats
      → is_kept seats (record { thread = t; base = row.base; right = right }) ≡ true → Some row ≡ allowed_row state t a right
  kept-allowed row seats formed allows found all kept =
      let (object, there, same) = found-object (at state.objects a) row (sym (find-rows (λ (r : ObjectRow). covers r a) state.objects) ∙ found) in
      let (via, backed) = kept_backed state seats (record { thread = t; base = row.base; right = right }) all kept in
      let seat : Seat = record { thread = t; base = row.base; right = right; via = via } in
      let may = allows state seat a object formed backed there (ap (λ (r : ObjectRow). r.base) same) in
      by_test (allowed state t a right) (at state.objects a) object row may there same

any-contains : {X : Type 0} (test : X → Bool) (xs : List X) (x : X) → Contains xs x → test x ≡ true → list_any test xs ≡ true
any-contains test xs x (k, within, is) passes = list_any-from_Any test xs (k, x, within, is, passes)

module _ (state : State) (t a : ℕ) (sought : Sought) (found : find (λ (r : ObjectRow). covers r a) (map (λ (o : Object). o.row) state.objects) ≡ Some sought.object) (period : state.counters.period ≡ sought.period) where
  -- a list that opens the object allows the access
  pub opened-allowed : (via : ℕ) → IsOpenedBy state sought (domain_of state t) via → Some sought.object ≡ allowed_row state t a sought.right
  opened-allowed via is =
      reached-some state (domain_of state t) a sought found period true (sym (any-contains (λ slot. slot_opens state sought slot) (domain_of state t) is.slot is.among is.opened))

  -- and none allows none
  pub unopened-allowed : list_any (λ slot. slot_opens state sought slot) (domain_of state t) ≡ false → None ≡ allowed_row state t a sought.right
  unopened-allowed none = reached-some state (domain_of state t) a sought found period false (sym none)

  -- such a list backs a seat for the object
  pub opened-backed : (via : ℕ) → IsWellFormed state → OpeningBacks → IsOpenedBy state sought (domain_of state t) via → IsBacked state (record { thread = t; base = sought.object.base; right = sought.right; via = via })
  opened-backed via formed backs is =
      let (object, there, same) = found-object (at state.objects a) sought.object (sym (find-rows (λ (r : ObjectRow). covers r a) state.objects) ∙ found) in
      let opens : list_any (λ (entry : ℕ × ℕ). entry.0 == object.row.base && holds state.counters.period object.row entry.1 sought.right) (pairs_under state.objects state.counters.period is.slot) ≡ true =
      ap (λ (r : ObjectRow). list_any (λ (entry : ℕ × ℕ). entry.0 == r.base && holds state.counters.period r entry.1 sought.right) (pairs_under state.objects state.counters.period is.slot)) same
      ∙ ap (λ p. list_any (λ (entry : ℕ × ℕ). entry.0 == sought.object.base && holds p sought.object entry.1 sought.right) (pairs_under state.objects p is.slot)) period
      ∙ is.opened in
      let backed = backs state t a sought.right object is.slot formed there is.among opens in
      subst (λ b. IsBacked state (record { thread = t; base = b; right = sought.right; via = via })) (ap (λ (r : ObjectRow). r.base) same)
      (subst (λ c. IsBacked state (record { thread = t; base = object.row.base; right = sought.right; via = c })) is.base backed)

-- what a volume gave is what is sought there
pub sought-there : (v : VolumeHeld) (a : ℕ) (sought : Sought) (counters : Counters) → Some sought.object ≡ find (λ (r : ObjectRow). covers r a) (objects_in v) → counters ≡ counters_in v → sought.period ≡ counters.period → IsSoughtAt v a sought
sought-there v a sought counters found told period = record { found = sym found; period = period ∙ ap (λ (k : Counters). k.period) told }

-- and the state has it
pub sought-row : (v : VolumeHeld) (image : Image) (a : ℕ) (sought : Sought) → IsSoughtAt v a sought → find (λ (r : ObjectRow). covers r a) (map (λ (o : Object). o.row) (now_of v image).objects) ≡ Some sought.object
sought-row v image a sought there = told_rows v image (λ (r : ObjectRow). covers r a) (Some sought.object) there.found

pub sought-period : (v : VolumeHeld) (image : Image) (a : ℕ) (sought : Sought) → IsSoughtAt v a sought → (now_of v image).counters.period ≡ sought.period
sought-period v image a sought there = told_period v image (counters_in v) refl ∙ sym there.period
