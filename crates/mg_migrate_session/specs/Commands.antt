-- The words of a migration.
use Rattle.std.specs.Prelude.{ℕ, ◌&&◌, Bool, false, not, List, [], ◌∷◌, codes}
use Rattle.mg_model.specs.Words.{same_bytes}

-- `VOLUME migrate OLD`, if VOLUME and OLD differ
abbrev pub migrate_words : List ℕ → List ℕ → List ℕ → Bool
migrate_words new word old = same_bytes word (codes "migrate") && not (same_bytes new old)

-- whether that is what the words after the program's name spell
abbrev pub is_migrate : List (List ℕ) → Bool
is_migrate (new ∷ word ∷ old ∷ []) = migrate_words new word old
is_migrate words = false
