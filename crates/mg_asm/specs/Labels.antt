-- A map of labels by their names.
use Rattle.std.specs.{HashMap.{HashMap, get_by}, Prelude.{◌≡◌, ℕ, List, [], ◌∷◌, ◌++◌, Option, Some, Ok, if◌then◌else◌}}
use Rattle.mg_asm.specs.{Assembled.{behind, place_of, words_in}, Reading.Reading, declared.items.Item.Item}
use Rattle.{mg_asm.specs.declared.names.Name.Name, mg_model.specs.Words.same_bytes}

module _ {S : Type 0} where
  -- the place that a map has for these bytes
  abbrev pub place_at : HashMap (List ℕ) ℕ S → List ℕ → Option ℕ
  place_at labels bytes = get_by (same_bytes bytes) labels

  abbrev pub place_in : HashMap (List ℕ) ℕ S → Name → Option ℕ
  place_in labels name = place_at labels name.bytes

  -- a map has the place of each label of these items
  abbrev pub AreLabels : HashMap (List ℕ) ℕ S → List Item → Type 0
  AreLabels labels items = (name : Name) → place_in labels name ≡ place_of name items

  -- a map has a place more
  abbrev pub IsPlaced : HashMap (List ℕ) ℕ S → HashMap (List ℕ) ℕ S → List ℕ → ℕ → Type 0
  IsPlaced old new bytes place = (q : List ℕ) → place_at new q ≡ (if same_bytes bytes q then Some place else place_at old q)

  -- a map that has the labels of some items has those of one more, which was read after them and begins at this place
  abbrev pub KeepsLabel : HashMap (List ℕ) ℕ S → HashMap (List ℕ) ℕ S → Item → ℕ → Type 0
  KeepsLabel old new it place =
      (before : List Item) (read : Reading) → AreLabels old before → place ≡ words_in before → Ok it ≡ behind before read → AreLabels new (before ++ it ∷ [])
