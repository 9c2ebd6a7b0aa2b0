-- An object's parts make its fields, and the parts' rules its rule.
use Rattle.mg_model.specs.{Abbreviations.extension_at, Bytes.number_at, Spelling.object_fields, State.ObjectRow, Tests.is_object_row}
use Rattle.mg_rows.{proofs.ObjectLists.{none_tells, some_tells}, specs.ObjectParts.{are_entries, are_passwords, entries_in, is_extension, is_placed}}
use Rattle.{mg_rows.specs.ObjectParts.{passwords_in, placed_row, some_if}, std.proofs.Common.{◌≡◌, ◌&&◌, ℕ, List, [], Bool, true, false, Some, None}}
use Rattle.std.proofs.{Common.{sym, ap, ◌∙◌, arith}, lemmas.Bool.{and_from, and_left, and_right}}

module _ (bytes : List ℕ) where
  abbrev fields : ObjectRow
  fields = object_fields bytes

  abbrev t_1 : Bool
  t_1 = is_placed (placed_row bytes)

  abbrev t_2 : Bool
  t_2 = are_passwords (passwords_in bytes)

  abbrev t_3 : Bool
  t_3 = are_entries (number_at bytes 8) (number_at bytes 16) (entries_in bytes)

  abbrev t_4 : Bool
  t_4 = is_extension (extension_at bytes)

  none : is_object_row fields ≡ false → None ≡ some_if (is_object_row fields) fields
  none fails = sym (ap (λ b. some_if b fields) fails)

  pub not_placed : None ≡ some_if t_1 (placed_row bytes) → None ≡ some_if (is_object_row fields) fields
  not_placed read = none (and_left (t_1 && t_2 && t_3) t_4 (and_left (t_1 && t_2) t_3 (and_left t_1 t_2 (none_tells t_1 (placed_row bytes) read))))

  pub not_opened : false ≡ t_2 → None ≡ some_if (is_object_row fields) fields
  not_opened fails = none (and_left (t_1 && t_2 && t_3) t_4 (and_left (t_1 && t_2) t_3 (and_right t_1 t_2 (sym fails))))

  pub not_extended : false ≡ t_4 → None ≡ some_if (is_object_row fields) fields
  not_extended fails = none (and_right (t_1 && t_2 && t_3) t_4 (sym fails))

  module _ (placed opened : ObjectRow) (read : Some placed ≡ some_if t_1 (placed_row bytes)) (filled : opened ≡ record placed { passwords = passwords_in bytes }) where
    is_opened : opened ≡ record (placed_row bytes) { passwords = passwords_in bytes }
    is_opened = filled ∙ ap (λ (row : ObjectRow). record row { passwords = passwords_in bytes }) (some_tells t_1 (placed_row bytes) placed read).1

    pub bare_of_entries : opened.entries ≡ []
    bare_of_entries = ap (λ (row : ObjectRow). row.entries) is_opened

    same_test : are_entries opened.base opened.pages (entries_in bytes) ≡ t_3
    same_test = ap (λ (row : ObjectRow). are_entries row.base row.pages (entries_in bytes)) is_opened

    pub not_entered : false ≡ are_entries opened.base opened.pages (entries_in bytes) → None ≡ some_if (is_object_row fields) fields
    not_entered fails = none (and_left (t_1 && t_2 && t_3) t_4 (and_right (t_1 && t_2) t_3 (sym (fails ∙ same_test))))

    pub all_read : (entered last : ObjectRow) → true ≡ t_2 → true ≡ are_entries opened.base opened.pages (entries_in bytes) → entered ≡ record opened { entries = entries_in bytes }
        → true ≡ t_4 → last ≡ record entered { extension = extension_at bytes } → Some last ≡ some_if (is_object_row fields) fields
    all_read entered last two three e_entered four e_last =
        let one = (some_tells t_1 (placed_row bytes) placed read).0 in
        let all : is_object_row fields ≡ true = and_from _ _ (and_from _ _ (and_from _ _ one (sym two)) (sym (three ∙ same_test))) (sym four) in
        let is = is_opened in
        let whole : last ≡ fields = grind arith in
        ap Some whole ∙ sym (ap (λ b. some_if b fields) all)
