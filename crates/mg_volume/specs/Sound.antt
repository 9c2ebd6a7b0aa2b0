-- What is coming of an image is the state, if accounts, objects and threads keep the rules between them.
use Rattle.std.proofs.{Common.{refl, sym, ap, subst, ◌∙◌, ⊎_elim, arith}, lemmas.Bool.{and_from, and_parts, cases_Bool}}
use Rattle.std.{proofs.lemmas.{Bool.eq-eqb, List.Sums.sum_by-cons}, specs.List.{list_all, list_any}}
use Rattle.std.specs.{Option.option_map_or, Prelude.{◌≡◌, ◌+◌, ◌==◌, ◌&&◌, ◌||◌, nat_le, ℕ, Bool, true, false, List}}
use Rattle.std.specs.Prelude.{[], ◌∷◌, if◌then◌else◌, drop, length, map, sum_by, Some}
use Rattle.{mg_disk.specs.Disk.Image, mg_model.specs.Abbreviations.{accounts_spelled, fitting, is_page_of, table_of}}
use Rattle.mg_model.specs.{Abbreviations.{threads_spelled, whole_table}, Bank.used, Bytes.are_zeros}
use Rattle.mg_model.specs.{Objects.{page_behind, page_of, with_object}, Settings.Settings, State.{Counters, Object}}
use Rattle.mg_model.specs.{State.{ObjectRow, State, Thread, ThreadRow}, Tests.all_distinct, Volume.{Damaged, Is, Rows}}
use Rattle.mg_model.specs.Volume.{accounts_fit, are_apart, bound_pages, has_no_gap, object_spelled, objects_fit}
use Rattle.mg_model.specs.Volume.{objects_spelled, replayed_volume, rows_of, state_fits, state_spelled, threads_fit}
use Rattle.mg_model.specs.{VolumeLemmas.{rows-read, rows_with}, declared.accounts.AccRow.AccRow}
use Rattle.{mg_objects.specs.Held.{by_base, into_place}, mg_rules.specs.RowsRead.placed_from}
use Rattle.mg_volume.specs.{Held.VolumeHeld, Meaning.{IsKept, Spelled, has_page, is_page_in, is_sound, now_of}}
use Rattle.mg_volume.specs.Meaning.{objects_in, rows_apart, threads_in}
use Rattle.mg_pages.specs.SpelledLemmas as laws
use Rattle.mg_pages.specs.Meaning as pages

-- objects in the order of their bases
abbrev pub all_spelled : Image → ℕ → List ℕ → List (ℕ × ObjectRow) → List Object
all_spelled r frames table os = map (λ (o : ℕ × ObjectRow). object_spelled r frames table o.1) os

-- the rules between objects, of their rows alone
abbrev pub rows_fit : ℕ → ℕ → List ObjectRow → Bool
rows_fit frames accounts rows =
    rows_apart rows
    && list_all (λ (row : ObjectRow). nat_le row.account accounts) rows
    && nat_le (sum_by (λ (row : ObjectRow). row.pages) rows) frames

-- whether a state is sound, of the rows that are held
abbrev pub are_sound : Settings → Counters → List (ℕ × ObjectRow) → List AccRow → List (ℕ × ThreadRow) → Bool
are_sound settings counters objects accounts threads =
    accounts_fit settings.credits counters.period accounts
    && rows_fit settings.frames (length accounts) (map (λ (o : ℕ × ObjectRow). o.1) objects)
    && threads_fit counters.births (map (λ (t : ℕ × ThreadRow). record { number = t.0; row = t.1 }) threads)

abbrev pub is_sound_held : VolumeHeld → Bool
is_sound_held v = are_sound v.settings v.counters v.objects v.accounts v.threads

-- what an image spells if it has a state
abbrev made : VolumeHeld → List Object → List AccRow → List Thread → State
made v objects accounts threads = record { settings = v.settings; counters = v.counters; objects = objects; accounts = accounts; threads = threads }

-- accounts in their places
pub accounts-placed : (i : ℕ) (accounts : List AccRow) → accounts_spelled (placed_from i accounts) ≡ accounts
accounts-placed i [] = refl
accounts-placed i (row ∷ rows) = ap (λ rest. row ∷ rest) (accounts-placed (i + 1) rows)

no-gap : (i : ℕ) (accounts : List AccRow) → has_no_gap i (placed_from i accounts) ≡ true
no-gap i [] = refl
no-gap i (row ∷ rows) = and_from (i == i) (has_no_gap (i + 1) (placed_from (i + 1) rows)) (eq-eqb i i refl) (no-gap (i + 1) rows)

-- threads with their numbers
pub threads-numbered : (rows : List (ℕ × ThreadRow)) → threads_spelled rows ≡ map (λ (t : ℕ × ThreadRow). record { number = t.0; row = t.1 }) (map (λ (t : ℕ × ThreadRow). (t.0 + 1, t.1)) rows)
threads-numbered [] = refl
threads-numbered (t ∷ rows) = ap (λ rest. record { number = t.0 + 1; row = t.1 } ∷ rest) (threads-numbered rows)

module _ (r : Image) (frames : ℕ) (table : List ℕ) where
  pub object-placed : (o : ℕ × ObjectRow) (os : List (ℕ × ObjectRow)) → with_object (object_spelled r frames table o.1) (all_spelled r frames table os) ≡ all_spelled r frames table (into_place o os)
  object-placed o [] = refl
  object-placed o (next ∷ os) = grind (arith, object-placed o os)

  pub objects-placed : (rows : List (ℕ × ObjectRow)) → objects_spelled r frames table rows ≡ all_spelled r frames table (by_base rows)
  objects-placed [] = refl
  objects-placed ((place, row) ∷ rows) = ap (with_object (object_spelled r frames table row)) (objects-placed rows) ∙ object-placed (place, row) (by_base rows)

  pub rows-spelled : (os : List (ℕ × ObjectRow)) → map (λ (object : Object). object.row) (all_spelled r frames table os) ≡ map (λ (o : ℕ × ObjectRow). o.1) os
  rows-spelled [] = refl
  rows-spelled (o ∷ os) = ap (λ (rows : List ObjectRow). o.1 ∷ rows) (rows-spelled os)

apart-rows : (objects : List Object) → are_apart objects ≡ rows_apart (map (λ (object : Object). object.row) objects)
apart-rows [] = refl
apart-rows (object ∷ []) = refl
apart-rows (object ∷ next ∷ objects) = ap (λ t. nat_le (page_behind object.row) (page_of next.row) && t) (apart-rows (next ∷ objects))

paid-rows : (accounts : ℕ) (objects : List Object) → list_all (λ (object : Object). nat_le object.row.account accounts) objects ≡ list_all (λ (row : ObjectRow). nat_le row.account accounts) (map (λ (object : Object). object.row) objects)
paid-rows accounts [] = refl
paid-rows accounts (object ∷ objects) = ap (λ t. nat_le object.row.account accounts && t) (paid-rows accounts objects)

pub used-rows : (objects : List Object) → used objects ≡ sum_by (λ (row : ObjectRow). row.pages) (map (λ (object : Object). object.row) objects)
used-rows [] = refl
used-rows (object ∷ objects) =
    sum_by-cons (λ (object : Object). object.row.pages) object objects
    ∙ ap (λ n. object.row.pages + n) (used-rows objects)
    ∙ sym (sum_by-cons (λ (row : ObjectRow). row.pages) object.row (map (λ (object : Object). object.row) objects))

pub objects-fit : (frames accounts : ℕ) (objects : List Object) → objects_fit frames accounts objects ≡ rows_fit frames accounts (map (λ (object : Object). object.row) objects)
objects-fit frames accounts objects = (let a = apart-rows objects in let p = paid-rows accounts objects in let u = used-rows objects in cc)

pub sound_is : (v : VolumeHeld) (image : Image) → is_sound (now_of v image) ≡ is_sound_held v
unfolding now_of threads_in
sound_is v image =
    let r = pages.coming v.pages image in
    let frames = v.settings.frames in
    let objects = all_spelled r frames (pages.table_in v.pages) v.objects in
    ap (λ t. accounts_fit v.settings.credits v.counters.period v.accounts && t && threads_fit v.counters.births (map (λ (t : ℕ × ThreadRow). record { number = t.0; row = t.1 }) v.threads))
    (objects-fit frames (length v.accounts) objects ∙ ap (rows_fit frames (length v.accounts)) (rows-spelled r frames (pages.table_in v.pages) v.objects))

-- each bound page lies in an object
pub in-object : (r : Image) (frames : ℕ) (table : List ℕ) (page : ℕ) (os : List (ℕ × ObjectRow)) → list_any (λ object. is_page_of page object) (all_spelled r frames table os) ≡ list_any (λ row. is_page_in page row) (map (λ (o : ℕ × ObjectRow). o.1) os)
in-object r frames table page [] = refl
in-object r frames table page (o ∷ os) = ap (λ t. is_page_in page o.1 || t) (in-object r frames table page os)

pub all-same : {X : Type 0} (p q : X → Bool) → ((x : X) → p x ≡ q x) → (xs : List X) → list_all p xs ≡ list_all q xs
all-same p q same [] = refl
all-same p q same (x ∷ xs) = ap (λ t. t && list_all p xs) (same x) ∙ ap (λ t. q x && t) (all-same p q same xs)

fitting-is : (rows : Rows) (state kept : State) → fitting rows state ≡ Is kept → state ≡ kept
fitting-is rows state kept fits = ⊎_elim fit unfit (cases_Bool (state_fits rows state))
  where
    fit : state_fits rows state ≡ true → state ≡ kept
    fit t = let e : Is state ≡ Is kept = sym (ap (λ b. if b then Is state else Damaged) t) ∙ fits in cc

    unfit : state_fits rows state ≡ false → state ≡ kept
    unfit t = let e : Damaged ≡ Is kept = sym (ap (λ b. if b then Is state else Damaged) t) ∙ fits in absurd (cc)

module _ (v : VolumeHeld) (image : Image) (s : Spelled v image) where
  table-is : table_of (pages.coming v.pages image) v.settings.frames ≡ pages.table_in v.pages
  table-is = subst (λ n. table_of (pages.coming v.pages image) n ≡ pages.table_in v.pages) s.frames (laws.table_spelled v.pages image s.fitting)

  rows-held : Rows
  rows-held = rows_with v.counters (placed_from 0 v.accounts) s.threads s.objects (pages.table_in v.pages)

  rows-are : rows_of (pages.coming v.pages image) v.settings.frames ≡ Some rows-held
  unfolding rows-held
  rows-are =
      rows-read (pages.coming v.pages image) v.settings.frames v.counters (placed_from 0 v.accounts) s.threads s.objects (whole_table (pages.coming v.pages image) v.settings.frames)
      (record {
        counters_are = s.counters_are;
        accounts_are = s.accounts_are;
        threads_are = s.threads_are;
        objects_are = s.objects_are;
        whole_is = refl;
        rest = subst (λ n. are_zeros (drop n (whole_table (pages.coming v.pages image) n)) ≡ true) s.frames (laws.past_spelled v.pages image s.fitting);
      })
      ∙ ap (λ table. Some (rows_with v.counters (placed_from 0 v.accounts) s.threads s.objects table)) table-is

  state-is : state_spelled (pages.coming v.pages image) v.settings rows-held ≡ now_of v image
  unfolding rows-held now_of threads_in
  state-is =
      let r = pages.coming v.pages image in
      let frames = v.settings.frames in
      let table = pages.table_in v.pages in
      ap (λ objects. made v objects (accounts_spelled (placed_from 0 v.accounts)) (threads_spelled s.threads)) (objects-placed r frames table s.objects ∙ ap (all_spelled r frames table) s.ordered)
      ∙ ap (λ accounts. made v (all_spelled r frames table v.objects) accounts (threads_spelled s.threads)) (accounts-placed 0 v.accounts)
      ∙ ap (λ threads. made v (all_spelled r frames table v.objects) v.accounts threads) (threads-numbered s.threads ∙ ap (map (λ (t : ℕ × ThreadRow). record { number = t.0; row = t.1 })) s.numbered)

  coming-fits : replayed_volume v.settings (pages.coming v.pages image) ≡ fitting rows-held (now_of v image)
  coming-fits =
      ap (λ rows. option_map_or (λ rows. fitting rows (state_spelled (pages.coming v.pages image) v.settings rows)) rows Damaged) rows-are
      ∙ ap (fitting rows-held) state-is

  -- what is coming spells the state, if it is sound
  pub coming_volume : IsKept v → is_sound (now_of v image) ≡ true → replayed_volume v.settings (pages.coming v.pages image) ≡ Is (now_of v image)
  unfolding rows-held now_of objects_in
  coming_volume kept sound = coming-fits ∙ ap (λ b. if b then Is (now_of v image) else Damaged) fits
    where
      fits : state_fits rows-held (now_of v image) ≡ true
      fits =
          let r = pages.coming v.pages image in
          let frames = v.settings.frames in
          let table = pages.table_in v.pages in
          let state = now_of v image in
          let g = has_no_gap 0 (placed_from 0 v.accounts) in
          let a = accounts_fit v.settings.credits v.counters.period v.accounts in
          let o = objects_fit frames (length v.accounts) state.objects in
          let t = threads_fit v.counters.births state.threads in
          let i = list_all (λ page. list_any (λ object. is_page_of page object) state.objects) (bound_pages table) in
          let d = all_distinct (bound_pages table) in
          let inside : i ≡ true = all-same (λ page. list_any (λ object. is_page_of page object) (all_spelled r frames table v.objects)) (λ page. has_page v page) (λ page. in-object r frames table page v.objects) (bound_pages table) ∙ kept.inside in
          let both = and_parts (a && o) t sound in
          let each = and_parts a o both.0 in
          and_from (g && a && o && t) (i && d)
          (and_from (g && a && o) t (and_from (g && a) o (and_from g a (no-gap 0 v.accounts) each.0) each.1) both.1)
          (and_from i d inside (laws.no_page_twice v.pages image s.fitting))

  -- what is coming spells the state, if it spells any
  pub coming_kept : (kept : State) → replayed_volume v.settings (pages.coming v.pages image) ≡ Is kept → now_of v image ≡ kept
  coming_kept kept spelled = fitting-is rows-held (now_of v image) kept (sym coming-fits ∙ spelled)
