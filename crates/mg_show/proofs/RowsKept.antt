-- What rows keep that were read of a volume, and the parts of the state that they spell.
use Rattle.mg_model.specs.{KeptListLemmas.{AllPairs-head, AllPairs-nil}, Objects.{with_object, page_behind, page_of}, State.{Object, ObjectRow}}
use Rattle.mg_model.specs.{Tests.all_distinct, Volume.{objects_spelled, accounts_fit, are_apart, bound_pages, object_spelled}}
use Rattle.{mg_model.specs.declared.accounts.AccRow.AccRow, mg_objects.specs.Held.{by_base, into_place, live_from, IsBefore, AreApart, objects_in}}
use Rattle.{mg_rules.specs.{RowsRead.{AreKept, placed_from, state_in}, declared.volume_rows.VolumeRows.VolumeRows}, std.proofs.Common.{None, Some}}
use Rattle.std.proofs.{Common.{◌≡◌, ℕ, ◌+◌, List, [], ◌∷◌, map, refl, sym, ap, ◌∙◌, arith}, lemmas.Bool.{cases_Bool, and_parts, leb-true}}
use Rattle.std.{proofs.lemmas.{Bool.Decides.nat_tests, List.{Elements.{All-cons, All-nil, All-weaker}, Kept.AllPairs-cons}}, specs.Prelude.Option}
use Rattle.std.specs.Prelude.{nat_le, true, sum_by}
use Rattle.mg_rules.specs.RowsRead as rows

-- accounts without their places
pub accounts-placed : (i : ℕ) (rows : List AccRow) → map (λ (r : ℕ × AccRow). r.1) (placed_from i rows) ≡ rows
accounts-placed i [] = refl
accounts-placed i (row ∷ rows) = ap (λ rest. row ∷ rest) (accounts-placed (i + 1) rows)

-- the rows that are there, in either words
pub live-same : {R : Type 0} (i : ℕ) (items : List (Option R)) → rows.live_from i items ≡ live_from i items
live-same i [] = refl
live-same i (None ∷ items) = live-same (i + 1) items
live-same i (Some row ∷ items) = ap (λ rest. (i, row) ∷ rest) (live-same (i + 1) items)

module _ (image : List (List ℕ)) (frames : ℕ) (table : List ℕ) where
  abbrev spelled : ℕ × ObjectRow → Object
  spelled o = object_spelled image frames table o.1

  inserted : (new : ℕ × ObjectRow) (os : List (ℕ × ObjectRow)) → with_object (spelled new) (map spelled os) ≡ map spelled (into_place new os)
  inserted new [] = refl
  inserted new (o ∷ os) = grind (arith, (inserted new os), cases_Bool)

  ordered : (os : List (ℕ × ObjectRow)) → objects_spelled image frames table os ≡ map spelled (by_base os)
  ordered [] = refl
  ordered (o ∷ os) = ap (with_object (spelled o)) (ordered os) ∙ inserted o (by_base os)

  -- the objects that the rows of a volume spell are those of its table
  pub objects-in-order : (items : List (Option ObjectRow)) → objects_spelled image frames table (rows.live_from 0 items) ≡ map (λ (o : ℕ × ObjectRow). object_spelled image frames table o.1) (objects_in items)
  objects-in-order items = ap (objects_spelled image frames table) (live-same 0 items) ∙ ordered (live_from 0 items)

-- of objects in their order each lies apart from those behind it
apart-pairs : (image : List (List ℕ)) (frames : ℕ) (table : List ℕ) (os : List (ℕ × ObjectRow)) → are_apart (map (λ (o : ℕ × ObjectRow). object_spelled image frames table o.1) os) ≡ true → AreApart os
apart-pairs image frames table [] apart = AllPairs-nil IsBefore
apart-pairs image frames table (o ∷ []) apart = AllPairs-cons IsBefore o [] (All-nil (IsBefore o)) (AllPairs-nil IsBefore)
apart-pairs image frames table (o ∷ x ∷ os) apart =
    let parts = and_parts (nat_le (page_behind o.1) (page_of x.1)) (are_apart (map (λ (o : ℕ × ObjectRow). object_spelled image frames table o.1) (x ∷ os))) apart in
    let here = leb-true (page_behind o.1) (page_of x.1) parts.0 in
    let rest = apart-pairs image frames table (x ∷ os) parts.1 in
    AllPairs-cons IsBefore o (x ∷ os) (All-cons (IsBefore o) x os here (All-weaker (IsBefore x) (IsBefore o) (λ y more. omega arith) os (AllPairs-head IsBefore x os rest))) rest

module _ (rows : VolumeRows) (kept : AreKept rows) where
  -- the rules between rows, one by one
  record AreFit : Type 0 where
    pub accounts : accounts_fit rows.params.credits rows.globals.period (state_in rows []).accounts ≡ true
    pub objects : are_apart (state_in rows []).objects ≡ true
    pub distinct : all_distinct (bound_pages rows.table.items) ≡ true

  fit : AreFit
  fit = record {
    accounts = grind (arith, kept.fit [], and_parts);
    objects = grind (arith, kept.fit [], and_parts);
    distinct = grind (arith, kept.fit [], and_parts);
  }

  -- no page stands twice in the frame table, and no two objects share one
  pub distinct_kept : all_distinct (bound_pages rows.table.items) ≡ true
  distinct_kept = fit.distinct

  pub apart_kept : AreApart (objects_in rows.objects.items)
  apart_kept =
      apart-pairs [] rows.params.frames rows.table.items (objects_in rows.objects.items)
      (ap are_apart (sym (objects-in-order [] rows.params.frames rows.table.items rows.objects.items)) ∙ fit.objects)

  -- the accounts have the credits of the volume together
  pub credits_kept : sum_by (λ (row : AccRow). row.balance) rows.accounts.items ≡ rows.params.credits
  credits_kept = grind (arith, nat_tests, ap (accounts_fit rows.params.credits rows.globals.period) (sym (accounts-placed 0 rows.accounts.items)) ∙ fit.accounts, and_parts)
