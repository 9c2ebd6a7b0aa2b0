-- The places of objects, and how their list changes.
use Rattle.std.specs.{List.{list_all, fold}, Option.option_map_or, Prelude.{ℕ, ◌+◌, ◌-◌, ◌*◌, ◌/◌, ◌==◌, ◌||◌, nat_le}}
use Rattle.std.specs.Prelude.{nat_lt, min, Bool, not, List, [], ◌∷◌, if◌then◌else◌, filter, map, replicate, slice_index}
use Rattle.std.specs.Prelude.{slice_set, None}
use Rattle.mg_model.specs.{Access.{covers, at}, State.{Object, ObjectRow}}
use Rattle.mg_model.specs.declared.limits.TheConstants.{ALL_RIGHTS as all_rights, FIRST_PAGE as first_page}
use Rattle.mg_model.specs.declared.limits.TheConstants.{NEVER as never, PAGE_END as page_end}

-- the page of a base, and the page right after an object
abbrev pub page_of : ObjectRow → ℕ
page_of row = row.base / 4096

abbrev pub page_behind : ObjectRow → ℕ
page_behind row = row.base / 4096 + row.pages

-- whether the n pages from this one on meet no object
abbrev pub is_free : List Object → ℕ → ℕ → Bool
is_free objects n page =
    list_all (λ (object : Object). nat_le (page + n) (page_of object.row) || nat_le (page_behind object.row) page) objects

-- The least page from `first_page` on at which n pages meet no object, and `page_end` if there is none below it. It is
-- `first_page` or a page right after an object, so the least is taken among those. That no lower page is free is the law
-- `free_pages_are_found`.
abbrev pub lowest_free : List Object → ℕ → ℕ
lowest_free objects n =
    fold min page_end
    (filter (λ page. is_free objects n page) (first_page ∷ map (λ (object : Object). page_behind object.row) objects))

-- the objects with one more, in its place in the order of the bases
abbrev pub with_object : Object → List Object → List Object
with_object new [] = new ∷ []
with_object new (object ∷ objects) =
    if nat_lt new.row.base object.row.base then new ∷ object ∷ objects else object ∷ with_object new objects

-- the objects without the object of this base
abbrev pub without_object : ℕ → List Object → List Object
without_object base objects = filter (λ (object : Object). not (object.row.base == base)) objects

-- the objects with a change of the object that has this base
abbrev pub with_row : ℕ → (ObjectRow → ObjectRow) → List Object → List Object
with_row base change objects =
    map
    (λ (object : Object). if object.row.base == base then record object { row = change object.row } else object) objects

-- the word at an address
abbrev pub word_at : List Object → ℕ → ℕ
word_at objects address =
    option_map_or (λ (object : Object). slice_index object.words ((address - object.row.base) / 8)) (at objects address) 0

-- the objects with another word at an address
abbrev pub with_word : List Object → ℕ → ℕ → List Object
with_word objects address value =
    map (λ (object : Object). if covers object.row address
    then record object { words = slice_set object.words ((address - object.row.base) / 8) value }
    else object) objects

-- a new object: all rights for its first password, and all words 0
abbrev pub new_object : ℕ → ℕ → ℕ → ℕ → Object
new_object base pages account password = record {
  row = record {
    base = base;
    pages = pages;
    account = account;
    passwords = record { password = password; rights = all_rights; until = never } ∷ [];
    entries = [];
    extension = None;
  };
  words = replicate (512 * pages) 0;
}
