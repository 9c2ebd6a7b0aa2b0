-- What `create` makes of its row, by its tests.
use Rattle.{mg_calls_obj.specs.Creating.{creating_refusal, used_in}, mg_disk.specs.Disk.Image, mg_model.specs.Abbreviations.unless_refused}
use Rattle.mg_model.specs.{Bank.{opens, owed_by, used}, Limits.{draw_limit, object_limit, object_page_limit}, ObjectCalls.{create, drawn}}
use Rattle.mg_model.specs.{ObjectCalls.next_password, Objects.{lowest_free, new_object, with_object}, Refused.{Answer, first_refusal}}
use Rattle.mg_model.specs.{Settings.Settings, State.{Counters, Object, ObjectRow, State}, declared.{accounts.AccRow.AccRow, replies.Refusal.Refusal}}
use Rattle.mg_model.specs.declared.replies.{Refusal.TheVariants.{Account, Debt, Full, Limit, Size}, Reply.TheVariants.Made}
use Rattle.mg_volume.specs.{Held.VolumeHeld, Meaning.{accounts_in, counters_in, now_of, objects_in, settings_in}, Staging.blank}
use Rattle.{mg_volume.specs.StateLemmas.{now_accounts, now_counters, now_rows, now_settings}, std.proofs.Common.{refl, sym, ap, arith, ◌∙◌}}
use Rattle.std.{proofs.lemmas.List.{length-map, Sums.sum_by-cons}, specs.Prelude.{◌≡◌, ◌+◌, ◌*◌, ◌==◌, ◌||◌, ◌∷◌, [], ℕ, nat_le, nat_lt, not, List}}
use Rattle.std.specs.Prelude.{Option, length, map, sum_by}

-- the tests, of what they look at
abbrev refusal_of : ℕ → ℕ → ℕ → List AccRow → ℕ → Counters → Settings → ℕ → Option Refusal
refusal_of n account password accounts count counters settings pages =
    first_refusal (
    (n == 0 || nat_lt object_page_limit n, Size)
    ∷ (not (opens accounts account password), Account)
    ∷ (nat_lt 0 (owed_by accounts account), Debt)
    ∷ (nat_le object_limit count || nat_le draw_limit counters.draws, Limit)
    ∷ (nat_lt settings.frames (pages + n), Full)
    ∷ [])

used-rows : (objects : List Object) → used objects ≡ sum_by (λ (row : ObjectRow). row.pages) (map (λ (object : Object). object.row) objects)
used-rows [] = refl
used-rows (object ∷ objects) =
    let a = sum_by-cons (λ (o : Object). o.row.pages) object objects in
    let b = sum_by-cons (λ (row : ObjectRow). row.pages) object.row (map (λ (o : Object). o.row) objects) in
    let rest = used-rows objects in
    omega arith

abbrev pub done_of : State → ℕ → ℕ → Answer
done_of state n account =
    (record (drawn state) { objects = with_object (new_object (4096 * lowest_free state.objects n) n account (next_password state)) state.objects }, Made (4096 * lowest_free state.objects n) (next_password state))

module _ (v : VolumeHeld) (image : Image) (n account password : ℕ) where
  same-refusal :
      refusal_of n account password (now_of v image).accounts (length (now_of v image).objects) (now_of v image).counters (now_of v image).settings (used (now_of v image).objects) ≡ creating_refusal v n account password
  same-refusal =
      let state = now_of v image in
      let rows = now_rows v image in
      let count : length state.objects ≡ length (objects_in v) = sym (length-map state.objects (λ (o : Object). o.row)) ∙ ap length rows in
      let pages : used state.objects ≡ used_in v = used-rows state.objects ∙ ap (sum_by (λ (row : ObjectRow). row.pages)) rows in
      ap (λ a. refusal_of n account password a (length state.objects) state.counters state.settings (used state.objects)) (now_accounts v image)
      ∙ ap (λ c. refusal_of n account password (accounts_in v) c state.counters state.settings (used state.objects)) count
      ∙ ap (λ k. refusal_of n account password (accounts_in v) (length (objects_in v)) k state.settings (used state.objects)) (now_counters v image)
      ∙ ap (λ s. refusal_of n account password (accounts_in v) (length (objects_in v)) (counters_in v) s (used state.objects)) (now_settings v image)
      ∙ ap (λ p. refusal_of n account password (accounts_in v) (length (objects_in v)) (counters_in v) (settings_in v) p) pages

  pub create-is : (word : Option Refusal) → word ≡ creating_refusal v n account password → create (now_of v image) n account password ≡ unless_refused word (now_of v image) (done_of (now_of v image) n account)
  create-is word is = ap (λ r. unless_refused r (now_of v image) (done_of (now_of v image) n account)) (same-refusal ∙ sym is)

-- what is staged is the state after it
pub created :
    (state mid new : State) (n account base page fresh : ℕ) (row : ObjectRow) → base ≡ 4096 * page → page ≡ lowest_free state.objects n → fresh ≡ next_password state → row ≡ (new_object base n account fresh).row
    → mid ≡ drawn state → new ≡ record mid { objects = with_object (blank row) mid.objects } → done_of state n account ≡ (new, Made base fresh)
created state mid new n account base page fresh row base_is page_is fresh_is row_is mid_is new_is =
    let at : 4096 * lowest_free state.objects n ≡ base = ap (λ p. 4096 * p) (sym page_is) ∙ sym base_is in
    ap (λ b. (record (drawn state) { objects = with_object (new_object b n account (next_password state)) state.objects }, Made b (next_password state))) at
    ∙ ap (λ f. (record (drawn state) { objects = with_object (new_object base n account f) state.objects }, Made base f)) (sym fresh_is)
    ∙ ap (λ (r : ObjectRow). (record (drawn state) { objects = with_object (blank r) state.objects }, Made base fresh)) (sym row_is)
    ∙ ap (λ (s : State). (record s { objects = with_object (blank row) s.objects }, Made base fresh)) (sym mid_is)
    ∙ ap (λ s. (s, Made base fresh)) (sym new_is)
