-- The slots that a mask keeps, one after another.
use Rattle.{mg_model.specs.{Domains.kept_from, State.CallFrame, declared.slots.Slot.Slot}, std.proofs.Common.{arith, get_or, refl, subst, sym, ap}}
use Rattle.std.{proofs.{Common.◌∙◌, lemmas.List.{append_assoc, drop_more, length-append}}, specs.Prelude.{◌≡◌, ◌≤◌, ◌<◌, ◌+◌, ◌/◌, ◌%◌, ◌^◌, ◌==◌}}
use Rattle.std.specs.Prelude.{◌++◌, ◌∷◌, [], ℕ, Bool, true, false, if◌then◌else◌, List, length, drop}

-- the slots before place i are done: the frame has those of them that are kept, and the others are to come
pub record IsKeptTo (mask at i : ℕ) (slots : List Slot) (frame : CallFrame) : Type 0 where
  pub back : frame.back ≡ at
  pub few : length frame.slots ≤ i
  pub kept : frame.slots ++ kept_from mask i (drop i slots) ≡ kept_from mask 0 slots

-- one more is done
module _ (mask at i : ℕ) (slots : List Slot) (frame : CallFrame) (blank : Slot) (under : i < length slots) (so_far : IsKeptTo mask at i slots frame) where
  abbrev item : Slot
  item = get_or slots i blank

  abbrev more : CallFrame
  more = record frame { slots = frame.slots ++ item ∷ [] }

  abbrev next : List Slot
  next = kept_from mask (i + 1) (drop (i + 1) slots)

  of_test : (bit : Bool) → mask / 2 ^ i % 2 == 1 ≡ bit → frame.slots ++ (if bit then item ∷ next else next) ≡ kept_from mask 0 slots
  of_test bit is = ap (λ b. frame.slots ++ (if b then item ∷ next else next)) (sym is) ∙ ap (λ rest. frame.slots ++ kept_from mask i rest) (sym (drop_more slots i blank under)) ∙ so_far.kept

  by_test : (bit : Bool) → mask / 2 ^ i % 2 == 1 ≡ bit → IsKeptTo mask at (i + 1) slots (if bit then more else frame)
  by_test true is =
      let long = length-append frame.slots (item ∷ []) in
      let few = so_far.few in
      record { back = so_far.back; few = omega arith; kept = append_assoc frame.slots (item ∷ []) next ∙ of_test true is }
  by_test false is = let few = so_far.few in record { back = so_far.back; few = omega arith; kept = of_test false is }

  pub kept_more : (new : CallFrame) → new ≡ (if mask / 2 ^ i % 2 == 1 then record frame { slots = frame.slots ++ get_or slots i blank ∷ [] } else frame) → IsKeptTo mask at (i + 1) slots new
  kept_more new is = subst (IsKeptTo mask at (i + 1) slots) (sym is) (by_test (mask / 2 ^ i % 2 == 1) refl)
