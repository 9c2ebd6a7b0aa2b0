-- The rent is collected.
use Rattle.{mg_bank.specs.Bank.pages_at, mg_disk.specs.Disk.Image, mg_model.specs.Bank.{all_charged, all_paid, credited, rate_now, rate_of}}
use Rattle.mg_model.specs.{Bank.{rent_accounts, rent_paid, used}, KeptListLemmas.sum_by-filter-le, State.{Object, ObjectRow}}
use Rattle.{mg_model.specs.declared.accounts.AccRow.AccRow, mg_rent.specs.{Charging.ArePagesOf, PaidLemmas.{paid-through, row_pages}}}
use Rattle.{mg_space.specs.Space.{ArePaid, AreRowsOf}, mg_volume.specs.{Held.VolumeHeld, Meaning.{accounts_in, now_of, objects_in, settings_in}}}
use Rattle.{mg_volume.specs.{Sound.used-rows, StateLemmas.{now_accounts, now_rows, now_settings}}, std.proofs.Common.{sym, ap, ◌∙◌, arith}}
use Rattle.std.specs.Prelude.{◌≡◌, ◌≤◌, ℕ, List, sum_by}

pub rate_is : (v : VolumeHeld) (image : Image) (n : ℕ) → n ≡ sum_by (λ (row : ObjectRow). row.pages) (objects_in v) → rate_of (settings_in v).tariff n ≡ rate_now (now_of v image)
rate_is v image n is =
    ap (rate_of (settings_in v).tariff) (is ∙ ap (sum_by (λ (row : ObjectRow). row.pages)) (sym (now_rows v image)) ∙ sym (used-rows (now_of v image).objects))
    ∙ ap (λ settings. rate_of settings.tariff (used (now_of v image).objects)) (sym (now_settings v image))

-- what is known of the objects of a state, and of its accounts
pub objects_are : (v : VolumeHeld) (image : Image) → AreRowsOf (now_of v image).objects v.objects
unfolding objects_in
objects_are v image = now_rows v image

-- the pages that a bank keeps are those of such objects
pub pages-are : (objects : List Object) (rows : List (ℕ × ObjectRow)) (paid : List ℕ) → AreRowsOf objects rows → ArePaid paid rows → ArePagesOf objects paid
pages-are objects rows paid same are n =
    are n ∙ sym (paid-through (λ (object : Object). object.row) objects n ∙ ap (λ (bare : List ObjectRow). row_pages bare n) same ∙ sym (paid-through (λ (o : ℕ × ObjectRow). o.1) rows n))

-- and no more than all objects have
pub few-pages : (rows : List (ℕ × ObjectRow)) (paid : List ℕ) → ArePaid paid rows → sum_by (λ (o : ℕ × ObjectRow). o.1.pages) rows ≤ 65536 → (n : ℕ) → pages_at paid n ≤ 65536
few-pages rows paid are few n = grind (arith, sum_by-filter-le)

accounts-are : (v : VolumeHeld) (image : Image) → v.accounts ≡ (now_of v image).accounts
unfolding accounts_in
accounts-are v image = sym (now_accounts v image)

-- the accounts that were charged at the rate of the state are those after its rent
pub rented : (v : VolumeHeld) (rows : List AccRow) (rate : ℕ) (image : Image) → rate ≡ rate_now (now_of v image)
    → ((objects : List Object) → AreRowsOf objects v.objects → rows ≡ credited (all_charged objects rate 1 v.accounts) 1 (all_paid objects rate 1 v.accounts)) → rows ≡ rent_accounts (now_of v image)
rented v rows rate image rate_is told =
    let state = now_of v image in
    let charged : ℕ → List AccRow → List AccRow = λ r accounts. credited (all_charged state.objects r 1 accounts) 1 (all_paid state.objects r 1 accounts) in
    told state.objects (objects_are v image) ∙ ap (charged rate) (accounts-are v image) ∙ ap (λ r. charged r state.accounts) rate_is

-- and what they paid is the rent
pub rent_is : (v : VolumeHeld) (paid rate : ℕ) (image : Image) → rate ≡ rate_now (now_of v image)
    → ((objects : List Object) → AreRowsOf objects v.objects → paid ≡ all_paid objects rate 1 v.accounts) → paid ≡ rent_paid (now_of v image)
rent_is v paid rate image rate_is told = grind (arith, objects_are, accounts-are)
