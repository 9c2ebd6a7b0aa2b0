-- What a call on slots makes of its row, by why it is refused, and how a list of slots is shown.
use Rattle.{mg_access.specs.ThreadLemmas.slots-of, mg_apd.specs.Refusals.{dropping_refusal, pushing_refusal}}
use Rattle.mg_model.specs.{Abbreviations.unless_refused, Access.{last_slots, thread_of}, Domains.{apdadd, apddel, with_last_slots, with_slots}}
use Rattle.mg_model.specs.{Limits.slot_limit, Refused.first_refusal, State.{State, Thread, ThreadRow}, declared.replies.Refusal.Refusal}
use Rattle.mg_model.specs.declared.{replies.{Refusal.TheVariants.{NoSlot, SlotFull}, Reply.TheVariants.{Count, Done}}, slots.Slot.Slot}
use Rattle.std.proofs.{Common.{get_or, sym, ap, ◌∙◌, arith}, Math.Seq.set-append_seam, lemmas.List.{append_assoc, length-map, length-take-le}}
use Rattle.std.{proofs.lemmas.List.map_more, specs.Prelude.{◌≡◌, ◌≤◌, ◌<◌, ◌+◌, ◌-◌, ◌++◌, ◌∷◌, [], ℕ, suc, nat_le, List, drop, length, map}}
use Rattle.std.specs.Prelude.{option_map, replicate, slice_set, take, Option, Some}

-- other slots in the present frame
abbrev pub slotted : List Slot → ThreadRow → ThreadRow
slotted slots thread = record thread { frames = with_last_slots thread.frames slots }

module _ (state : State) (t : ℕ) (thread : ThreadRow) (there : option_map (λ (x : Thread). x.row) (thread_of state t) ≡ Some thread) where
  pub apdadd-is : (clist password : ℕ) (word : Option Refusal) → pushing_refusal thread ≡ word
      → apdadd state t clist password ≡ unless_refused word state (with_slots state t (last_slots thread.frames ++ record { base = clist; password = password } ∷ []), Count (length (last_slots thread.frames)))
  apdadd-is clist password word is =
      ap (λ (slots : List Slot). unless_refused (first_refusal ((nat_le slot_limit (length slots), SlotFull) ∷ [])) state (with_slots state t (slots ++ record { base = clist; password = password } ∷ []), Count (length slots))) (slots-of (thread_of state t) thread there)
      ∙ ap (λ w. unless_refused w state (with_slots state t (last_slots thread.frames ++ record { base = clist; password = password } ∷ []), Count (length (last_slots thread.frames)))) is

  pub apddel-is : (index : ℕ) (word : Option Refusal) → dropping_refusal thread index ≡ word
      → apddel state t index ≡ unless_refused word state (with_slots state t (take index (last_slots thread.frames) ++ drop (suc index) (last_slots thread.frames)), Done)
  apddel-is index word is =
      ap (λ (slots : List Slot). unless_refused (first_refusal ((nat_le (length slots) index, NoSlot) ∷ [])) state (with_slots state t (take index slots ++ drop (suc index) slots), Done)) (slots-of (thread_of state t) thread there)
      ∙ ap (λ w. unless_refused w state (with_slots state t (take index (last_slots thread.frames) ++ drop (suc index) (last_slots thread.frames)), Done)) is

-- the bases of the slots before a place are shown
abbrev pub AreShownTo : ℕ → List Slot → List ℕ → Type 0
AreShownTo i slots bases = bases ≡ map (λ (slot : Slot). slot.base) (take i slots) ++ replicate (8 - i) 0

pub shown_more : (i : ℕ) (slots : List Slot) (bases : List ℕ) (blank : Slot) → i < length slots → length slots ≤ 8 → AreShownTo i slots bases → AreShownTo (i + 1) slots (slice_set bases i (get_or slots i blank).base)
shown_more i slots bases blank under few shown =
    let done = map (λ (slot : Slot). slot.base) (take i slots) in
    let base = (get_or slots i blank).base in
    let left : 8 - i ≡ suc (8 - (i + 1)) = omega arith in
    let long : i ≡ length done = sym (length-map (take i slots) (λ (slot : Slot). slot.base) ∙ length-take-le i slots (omega arith)) in
    ap (λ b. slice_set b i base) (shown ∙ ap (λ n. done ++ replicate n 0) left)
    ∙ ap (λ n. slice_set (done ++ 0 ∷ replicate (8 - (i + 1)) 0) n base) long
    ∙ set-append_seam done 0 (replicate (8 - (i + 1)) 0) base
    ∙ sym (append_assoc done (base ∷ []) (replicate (8 - (i + 1)) 0))
    ∙ ap (λ b. b ++ replicate (8 - (i + 1)) 0) (sym (map_more (λ (slot : Slot). slot.base) slots i blank under))
