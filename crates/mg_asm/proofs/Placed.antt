-- The places of labels, as items join.
use Rattle.mg_asm.specs.{Assembled.{behind, is_label, place_from, place_of, size, words_in}, Labels.{AreLabels, IsPlaced, KeepsLabel, place_in}}
use Rattle.{mg_asm.specs.{Reading.Reading, declared.{items.Item.Item, names.Name.Name}}, mg_model.specs.Words.same_bytes, std.proofs.Common.{◌≡◌, ℕ}}
use Rattle.std.proofs.Common.{◌+◌, Bool, true, false, List, [], ◌∷◌, ◌++◌, Option, Some, None, if◌then◌else◌, Result, Ok, Err, refl, sym, ap, ◌∙◌}
use Rattle.std.{proofs.Common.{subst, rules, arith}, specs.{Cmp.Lexicographic.bytes_decides, HashMap.HashMap, Prelude.OnOk}}
use Rattle.mg_asm.specs.declared.items.Item.TheVariants as item

-- the first of two, if there is one
abbrev or_else : Option ℕ → Option ℕ → Option ℕ
or_else None o = o
or_else (Some n) o = Some n

abbrev last_place : Name → ℕ → Item → Option ℕ
last_place name n it = if is_label name it then Some n else None

place-more : (n : ℕ) (name : Name) (items : List Item) (it : Item)
    → place_from n name (items ++ it ∷ []) ≡ or_else (place_from n name items) (last_place name (n + words_in items) it)
place-more n name [] it = let e : n + 0 ≡ n = omega arith in rw e refl
place-more n name (x ∷ items) it = by_test (place-more (n + size x) name items it) (is_label name x)
  where
    by_test : place_from (n + size x) name (items ++ it ∷ []) ≡ or_else (place_from (n + size x) name items) (last_place name ((n + size x) + words_in items) it)
        → (v : Bool) → (if v then Some n else place_from (n + size x) name (items ++ it ∷ []))
        ≡ or_else (if v then Some n else place_from (n + size x) name items) (last_place name (n + (size x + words_in items)) it)
    by_test ih true = refl
    by_test ih false = grind arith

-- the same bytes are the same name
place-same : (p q : Name) (items : List Item) → same_bytes p.bytes q.bytes ≡ true → place_of q items ≡ place_of p items
place-same p q items same = sym (ap (λ b. place_of (record { bytes = b }) items) ((bytes_decides p.bytes q.bytes).0 same))

-- a label that is placed was not there before
new_label : (before : List Item) (name : Name) (read : Reading) → Ok (item.Label name) ≡ behind before read → place_of name before ≡ None
new_label before name read e = search rules

-- an item that is no label leaves the places
kept-other : {S : Type 0} (labels : HashMap (List ℕ) ℕ S) (before : List Item) (it : Item) → ((name : Name) → is_label name it ≡ false)
    → AreLabels labels before → AreLabels labels (before ++ it ∷ [])
kept-other labels before it none kept name =
    kept name ∙ same (place_of name before) ∙ sym (place-more 0 name before it ∙ ap (λ v. or_else (place_of name before) (if v then Some (0 + words_in before) else None)) (none name))
  where
    same : (o : Option ℕ) → o ≡ or_else o None
    same None = refl
    same (Some n) = refl

-- a label that is new joins
kept-label : {S : Type 0} (old new : HashMap (List ℕ) ℕ S) (before : List Item) (known : Name) (place : ℕ) (read : Reading) → place ≡ words_in before
    → Ok (item.Label known) ≡ behind before read → IsPlaced old new known.bytes place → AreLabels old before → AreLabels new (before ++ item.Label known ∷ [])
kept-label old new before known place read counted is placed kept name =
    let none : words_in before ≡ 0 + words_in before = omega arith in
    placed name.bytes
    ∙ by_test (same_bytes known.bytes name.bytes) refl
    ∙ ap (λ k. or_else (place_of name before) (last_place name k (item.Label known))) none
    ∙ sym (place-more 0 name before (item.Label known))
  where
    by_test : (v : Bool) → same_bytes known.bytes name.bytes ≡ v → (if v then Some place else place_in old name) ≡ or_else (place_of name before) (if v then Some (words_in before) else None)
    by_test true same = grind (arith, place-same, new_label)
    by_test false same = kept name ∙ keeps (place_of name before)
      where
        keeps : (o : Option ℕ) → o ≡ or_else o None
        keeps None = refl
        keeps (Some n) = refl

pub keeps-label : {S : Type 0} (old new : HashMap (List ℕ) ℕ S) (it : Item) (known : Name) (place : ℕ) → it ≡ item.Label known
    → IsPlaced old new known.bytes place → KeepsLabel old new it place
keeps-label old new it known place e placed before read kept counted is =
    subst (λ v. AreLabels new (before ++ v ∷ [])) (sym e) (kept-label old new before known place read counted (ap (λ (v : Item). Ok v) (sym e) ∙ is) placed kept)

pub keeps-other : {S : Type 0} (labels : HashMap (List ℕ) ℕ S) (it : Item) (place : ℕ) → ((name : Name) → is_label name it ≡ false) → KeepsLabel labels labels it place
keeps-other labels it place none before read kept counted is = kept-other labels before it none kept

pub on_ok_map : {T E : Type 0} (r : Result T E) {P Q : Type 0} → (P → Q) → OnOk r P → OnOk r Q
on_ok_map (Ok x) f h = f h
on_ok_map (Err e) f h = tt
