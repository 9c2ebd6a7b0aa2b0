-- The state of a volume that is held is the one that its rows spell, and its text.
use Rattle.{mg_bank.specs.Bank.pages_at, mg_disk.specs.Disk.Image, mg_model.specs.{State.{ObjectRow, ThreadRow}, declared.accounts.AccRow.AccRow}}
use Rattle.{mg_objects.specs.Held.objects_in, mg_rules.specs.{RowsRead.state_in, declared.volume_rows.VolumeRows.VolumeRows}}
use Rattle.mg_show.{proofs.RowsKept.{objects-in-order, accounts-placed}, specs.{Shown.{numbered, state_shown}, StateText.{pages_paid, accounts_text}}}
use Rattle.mg_show.specs.{StateText.{object_text, thread_text, account_text, counters_text, settings_text, state_text}, WordText.rows_text}
use Rattle.{mg_show.specs.{WordText.row_text, declared.held.Shown.Shown}, mg_space.specs.Space.{paid_by, ArePaid}, std.proofs.Common.{◌+◌, ◌<◌, List}}
use Rattle.std.proofs.Common.{[], ◌∷◌, get_or, take, ap, refl, append_assoc, append-nil, ◌≡◌, ℕ, ◌++◌, flat_map, length, map, sym, ◌∙◌, arith}
use Rattle.std.proofs.{Math.Path.fun_ext, lemmas.{List.{length-take-le, take_more, Folds.flat_map-map, Sums.sum_by-cons}, Simd.map-map}}
use Rattle.std.specs.Prelude.{◌==◌, true, false, filter, sum_by, Bool, if◌then◌else◌}

pub state-told : (rows : VolumeRows) (r : Image) (shown : Shown) → shown.params ≡ rows.params → shown.counters ≡ rows.globals
    → shown.threads.items ≡ rows.threads.items
    → shown.objects ≡ objects_in rows.objects.items → shown.bank.accounts ≡ rows.accounts.items → shown.frames ≡ rows.table.items
    → length rows.table.items ≡ rows.params.frames
    → state_shown shown r ≡ state_in rows r
state-told rows r shown params counters threads objects accounts frames entries = λ i. record {
  settings = params i;
  counters = counters i;
  objects = objects-same i;
  accounts = (accounts ∙ sym (accounts-placed 0 rows.accounts.items)) i;
  threads = map numbered (threads i);
}
  where
    objects-same : (state_shown shown r).objects ≡ (state_in rows r).objects
    objects-same = grind (arith, objects-in-order)

accounts-append : (paid : ℕ → ℕ) (n m : ℕ) (xs ys : List AccRow) → m ≡ n + length xs → accounts_text paid n (xs ++ ys) ≡ accounts_text paid n xs ++ accounts_text paid m ys
accounts-append paid n m [] ys e = ap (λ k. accounts_text paid k ys) (omega arith)
accounts-append paid n m (x ∷ xs) ys e = grind (arith, (accounts-append paid (n + 1) m xs ys (omega arith)), append_assoc)

-- account m, the one at place i, more
pub accounts-next : (paid : ℕ → ℕ) (m : ℕ) (xs : List AccRow) (i : ℕ) (d : AccRow) (rows : List AccRow) (pages : ℕ) → m ≡ i + 1 → i < length xs
    → rows ≡ xs → pages ≡ paid m → accounts_text paid 1 (take i xs) ++ account_text m (get_or rows i d) pages ≡ accounts_text paid 1 (take (i + 1) xs)
accounts-next paid m xs i d rows pages e h same paying =
    let long = length-take-le i xs (omega arith) in
    grind (arith, append-nil, take_more xs i d h, accounts-append paid 1 m (take i xs) (get_or xs i d ∷ []) (omega arith))

-- the pages of objects with their places are those of the objects
pub paid-rows : (n : ℕ) (objects : List (ℕ × ObjectRow)) → paid_by n objects ≡ pages_paid (map (λ (o : ℕ × ObjectRow). o.1) objects) n
paid-rows n [] = refl
paid-rows n (o ∷ objects) =
    by (o.1.account == n) (filter (λ (o : ℕ × ObjectRow). o.1.account == n) objects)
    (filter (λ (row : ObjectRow). row.account == n) (map (λ (o : ℕ × ObjectRow). o.1) objects)) (paid-rows n objects)
  where
    by : (v : Bool) (os : List (ℕ × ObjectRow)) (rows : List ObjectRow)
        → sum_by (λ (o : ℕ × ObjectRow). o.1.pages) os ≡ sum_by (λ (row : ObjectRow). row.pages) rows
        → sum_by (λ (o : ℕ × ObjectRow). o.1.pages) (if v then o ∷ os else os)
        ≡ sum_by (λ (row : ObjectRow). row.pages) (if v then o.1 ∷ rows else rows)
    by true os rows rest =
        let a = sum_by-cons (λ (o : ℕ × ObjectRow). o.1.pages) o os in
        let b = sum_by-cons (λ (row : ObjectRow). row.pages) o.1 rows in
        omega arith
    by false os rows rest = rest

-- the text of the state, table by table
pub text-told : (shown : Shown) (r : Image) → ArePaid shown.bank.pages shown.objects
    → settings_text shown.params
    ++ counters_text shown.counters
    ++ accounts_text (pages_at shown.bank.pages) 1 shown.bank.accounts
    ++ flat_map (λ (o : ℕ × ObjectRow). object_text o.1) shown.objects
    ++ flat_map (λ (t : ℕ × ThreadRow). thread_text (numbered t)) shown.threads.items
    ++ rows_text r (length shown.frames) shown.frames shown.objects
    ≡ state_text (state_shown shown r)
unfolding row_text
text-told shown r paid = grind (arith, fun_ext, paid-rows, map-map, flat_map-map)
