-- What slots reach, in terms of rows.
use Rattle.mg_access.{proofs.{Apart.{found-none, found-object}, Entries.reaches-at}, specs.{KnownLemmas.find-rows, Searching.{opens, reached_row}}}
use Rattle.{mg_access.specs.{Searching.{slot_opens, words_based}, declared.lists.Sought.Sought}, mg_model.specs.Access.{at, based_at, capabilities}}
use Rattle.mg_model.specs.{Access.{covers, pairs_of, holds, reaches}, State.{Object, ObjectRow, State}, declared.rights.Right.{Right, TheVariants.R}}
use Rattle.{mg_model.specs.declared.slots.Slot.Slot, std.proofs.Common.{ℕ, ◌≡◌, ◌==◌, ◌&&◌, Bool, true, false, List, [], if◌then◌else◌, Option, Some}}
use Rattle.std.{proofs.Common.{None, sym, ap, ◌∙◌}, specs.{List.list_any, Option.option_map_or, Prelude.{find, map, option_map}}}

-- a slot whose base has no object opens nothing
pub slot-none : (state : State) (sought : Sought) (slot : Slot) → find (λ (r : ObjectRow). r.base == slot.base) (map (λ (o : Object). o.row) state.objects) ≡ None → slot_opens state sought slot ≡ false
slot-none state sought slot none =
    let gone = found-none (based_at state.objects slot.base) (sym (find-rows (λ (r : ObjectRow). r.base == slot.base) state.objects) ∙ none) in
    ap (λ (o : Option Object). list_any (λ entry. opens sought entry) (option_map_or (λ (clist : Object). if holds sought.period clist.row slot.password R then pairs_of clist.words else []) o [])) gone

-- one whose base has one opens what the words of that one list, if it holds the slot's password with R
pub slot-some : (state : State) (sought : Sought) (slot : Slot) (row : ObjectRow) → find (λ (r : ObjectRow). r.base == slot.base) (map (λ (o : Object). o.row) state.objects) ≡ Some row
    → slot_opens state sought slot ≡ list_any (λ entry. opens sought entry) (if holds sought.period row slot.password R then pairs_of (words_based state.objects slot.base) else [])
slot-some state sought slot row found =
    let (object, is, same) = found-object (based_at state.objects slot.base) row (sym (find-rows (λ (r : ObjectRow). r.base == slot.base) state.objects) ∙ found) in
    ap (λ (o : Option Object). list_any (λ entry. opens sought entry) (option_map_or (λ (clist : Object). if holds sought.period clist.row slot.password R then pairs_of clist.words else []) o [])) is
    ∙ ap (λ (r : ObjectRow). list_any (λ entry. opens sought entry) (if holds sought.period r slot.password R then pairs_of object.words else [])) same
    ∙ ap (λ (o : Option Object). list_any (λ entry. opens sought entry) (if holds sought.period row slot.password R then pairs_of (option_map_or (λ (x : Object). x.words) o []) else [])) (sym is)

reaches-nowhere : (state : State) (slots : List Slot) (a : ℕ) (right : Right) → at state.objects a ≡ None → reaches state.objects state.counters.period slots a right ≡ false
reaches-nowhere state slots a right none =
    ap (λ found. option_map_or (λ (object : Object). list_any (λ (entry : ℕ × ℕ). entry.0 == object.row.base && holds state.counters.period object.row entry.1 right) (capabilities state.objects state.counters.period slots)) found false) none

-- an address that no object has is not reached
pub reached-none : (state : State) (slots : List Slot) (a : ℕ) (right : Right) → find (λ (r : ObjectRow). covers r a) (map (λ (o : Object). o.row) state.objects) ≡ None → None ≡ reached_row state slots a right
reached-none state slots a right none =
    let gone = found-none (at state.objects a) (sym (find-rows (λ (r : ObjectRow). covers r a) state.objects) ∙ none) in
    sym (ap (λ v. if v then option_map (λ (object : Object). object.row) (at state.objects a) else None) (reaches-nowhere state slots a right gone))

-- one that an object has is reached if a slot opens that one
pub reached-some : (state : State) (slots : List Slot) (a : ℕ) (sought : Sought) → find (λ (r : ObjectRow). covers r a) (map (λ (o : Object). o.row) state.objects) ≡ Some sought.object → state.counters.period ≡ sought.period
    → (v : Bool) → v ≡ list_any (λ slot. slot_opens state sought slot) slots → (if v then Some sought.object else None) ≡ reached_row state slots a sought.right
reached-some state slots a sought found period v is =
    let rows = find-rows (λ (r : ObjectRow). covers r a) state.objects in
    let (object, there, same) = found-object (at state.objects a) sought.object (sym rows ∙ found) in
    ap (λ b. if b then Some sought.object else None) (is ∙ sym (reaches-at state slots a sought object there same period))
    ∙ ap (λ o. if reaches state.objects state.counters.period slots a sought.right then o else None) (sym (sym rows ∙ found))

-- the base of what is reached
pub base-of : (v : Bool) (o : Option Object) (found : Option ObjectRow) → found ≡ (if v then option_map (λ (object : Object). object.row) o else None) → option_map (λ (row : ObjectRow). row.base) found ≡ (if v then option_map (λ (object : Object). object.row.base) o else None)
base-of true None found h = ap (option_map (λ (row : ObjectRow). row.base)) h
base-of true (Some object) found h = ap (option_map (λ (row : ObjectRow). row.base)) h
base-of false o found h = ap (option_map (λ (row : ObjectRow). row.base)) h
