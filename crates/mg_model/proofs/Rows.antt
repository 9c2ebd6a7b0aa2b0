-- What rows keep as they change.
use Rattle.mg_model.specs.{ObjectCalls.is_entry, PasswordRows.IsPassword, Ranges.{IsCallFrame, IsEntryOf, IsObjectRow, IsSlot}, State.CallFrame}
use Rattle.{mg_model.specs.{State.ObjectRow, declared.slots.{Pw.Pw, Slot.Slot}}, std.proofs.Common.{◌≡◌, ◌≢◌, ◌≤◌, ◌<◌, ℕ, suc, Bool, false, List}}
use Rattle.std.proofs.Common.{[], ◌∷◌, ◌++◌, length, take, drop, filter, get_or, arith, sym, subst, ap, ◌∙◌, inl, inr, eq-eqb, length-append, rules}
use Rattle.std.proofs.{Math.{ListN.get_or-append, Seq.get_or-append_seam}, lemmas.{Bool.cases_lt, Grind.common_steps, List.Elements.All-take}}
use Rattle.std.proofs.lemmas.List.{Elements.{All-drop, All-append, All-filter}, Folds.list_any_at, Sums.{length-filter, count_by-le-length}}
use Rattle.std.specs.{List.list_any, Prelude.{AllPairs, ◌==◌}}

-- the `frame` is what contracts see of the two fields
pub IsCallFrame-remove : (back : ℕ) (slots left : List Slot) (frame : CallFrame) (place : ℕ) → IsCallFrame (record { back = back; slots = slots }) → record { back = back; slots = slots } ≡ frame
    → left ≡ take place slots ++ drop (suc place) slots → place < length frame.slots → IsCallFrame (record { back = back; slots = left })
IsCallFrame-remove back slots left frame place kept view e within =
    let few = kept.few in
    let short : place < length slots = subst (λ (v : CallFrame). place < length v.slots) (sym view) within in
    record {
      back = kept.back;
      aligned = kept.aligned;
      few = grind (arith, common_steps);
      slots = rw e (All-append IsSlot (take place slots) (drop (suc place) slots) (All-take IsSlot place slots kept.slots) (All-drop IsSlot (suc place) slots kept.slots));
    }

-- fewer passwords
pub IsObjectRow-filter : (row : ObjectRow) (stays : Pw → Bool) (left : List Pw) → IsObjectRow row → left ≡ filter stays row.passwords → IsObjectRow (record row { passwords = left })
IsObjectRow-filter row stays left kept e =
    let few = kept.few_passwords in
    let fewer : length left ≤ length row.passwords = rw (e, length-filter stays row.passwords) (count_by-le-length stays row.passwords) in
    record {
      place = kept.place;
      account_some = kept.account_some;
      account_few = kept.account_few;
      few_passwords = omega arith;
      passwords = rw e (All-filter stays IsPassword row.passwords kept.passwords);
      few_entries = kept.few_entries;
      entries = kept.entries;
      distinct = kept.distinct;
      extension = kept.extension;
    }

-- one more, that was not there
pub distinct-add : (entries : List ℕ) (a : ℕ) → AllPairs (λ x y. x ≢ y) entries → list_any (λ entry. entry == a) entries ≡ false → AllPairs (λ x y. x ≢ y) (entries ++ a ∷ [])
distinct-add entries a apart new i j d below within =
    let long = length-append entries (a ∷ []) in
    elim (cases_lt j (length entries)) [
      | inl h ↦ rw (get_or-append entries (a ∷ []) d i (omega arith), get_or-append entries (a ∷ []) d j h) (apart i j d below h)
      | inr h ↦
          let last : j ≡ length entries = omega arith in
          λ same.
          let found : get_or entries i d ≡ a =
          sym (get_or-append entries (a ∷ []) d i (omega arith)) ∙ same ∙ ap (λ v. get_or (entries ++ a ∷ []) v d) last ∙ get_or-append_seam entries a [] d in
          let there = list_any_at (λ entry. entry == a) entries i d (omega arith) (eq-eqb _ _ found) in
          cc
    ]

-- what an entry to be added meets
abbrev pub IsNewEntry : ℕ → ObjectRow → Type 0
IsNewEntry a row = (length row.entries < 16) × IsEntryOf row.base row.pages a × (is_entry row a ≡ false)

-- `seen` is what contracts see of the row's fields
pub IsObjectRow-entry : (row seen : ObjectRow) (a : ℕ) (more : List ℕ) → IsObjectRow row → row ≡ seen → more ≡ row.entries ++ a ∷ [] → IsNewEntry a seen → IsObjectRow (record row { entries = more })
IsObjectRow-entry row seen a more kept view e new =
    let (room, place, once) = subst (IsNewEntry a) (sym view) new in
    record {
      place = kept.place;
      account_some = kept.account_some;
      account_few = kept.account_few;
      few_passwords = kept.few_passwords;
      passwords = kept.passwords;
      few_entries = rw (e, length-append row.entries (a ∷ [])) (omega arith);
      entries = rw e (All-append (IsEntryOf row.base row.pages) row.entries (a ∷ []) kept.entries (search rules));
      distinct = rw e (distinct-add row.entries a kept.distinct once);
      extension = kept.extension;
    }
