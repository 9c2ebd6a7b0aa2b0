-- `create` keeps the state well formed: its pages are there, and its object is one.
use Rattle.mg_laws.proofs.{Keeps.unless_refused-keeps, KeepsObjects.{drawn-keeps, objects-keep}, KeptAccounts.opens-number}
use Rattle.mg_laws.{proofs.{KeptObjects.AreObjects-with_object, Lowest.lowest_free-exists, Passed.unrefused}, specs.Laws.IsLowest}
use Rattle.mg_model.specs.{Bank.{opens, owed_by, used}, DrawnLemmas.drawn-IsWord, KeptListLemmas.AllPairs-nil, Limits.object_limit}
use Rattle.mg_model.specs.{Limits.{object_page_limit, first_page, page_end}, ObjectCalls.{all_drawn, create, drawn, next_password}, Objects.is_free}
use Rattle.mg_model.specs.{Objects.{lowest_free, new_object, with_object}, Ranges.IsWord, Settings.Settings, State.{Object, State}}
use Rattle.{mg_model.specs.WellFormed.{IsObject, IsSettings, IsWellFormed}, std.proofs.Common.{◌≡◌, ℕ, ◌+◌, ◌*◌, ◌/◌, ◌<◌, ◌≤◌, ◌==◌, nat_le, nat_lt}}
use Rattle.std.proofs.{Common.{◌||◌, true, false, not, length, subst, sym, arith}, lemmas.Bool.{and_parts, eqb-false, leb-false, leb-true, ltb-false}}
use Rattle.std.proofs.lemmas.{Bool.{not-false, or_parts}, List.{length-replicate, Elements.{All-nil, All-push, All-replicate}}}

-- there are at most 65,536 frames
pub frames-few : (settings : Settings) → IsSettings settings → settings.frames ≤ 65536
frames-few settings is = grind (arith, and_parts, leb-true)

-- what a new object needs
record HasPlace (page n : ℕ) : Type 0 where
  low : first_page ≤ page
  high : page + n ≤ page_end
  some : 1 ≤ n
  few : n ≤ 1024

new_page : (page : ℕ) → 4096 * page / 4096 ≡ page
new_page page = omega arith

new_object-formed : (page n account password : ℕ) → HasPlace page n → 1 ≤ account → account ≤ 1024 → IsWord password → IsObject (new_object (4096 * page) n account password)
new_object-formed page n account password place some few word =
    let same = new_page page in
    let low = place.low in
    let high = place.high in
    record {
      row = grind (arith, All-push, All-nil, AllPairs-nil);
      long = length-replicate (512 * n) 0;
      words = All-replicate IsWord (512 * n) 0 (omega arith);
    }

created : (state : State) (n account : ℕ) → IsWellFormed state → 1 ≤ n → n ≤ 1024 → 1 ≤ account → account ≤ length state.accounts → length state.objects < 4096 → all_drawn state ≡ false → used state.objects + n ≤ state.settings.frames
    → IsWellFormed (record (drawn state) { objects = with_object (new_object (4096 * lowest_free state.objects n) n account (next_password state)) state.objects })
created state n account formed some few account_some there room left fit =
    let page = lowest_free state.objects n in
    let new : Object = new_object (4096 * lowest_free state.objects n) n account (next_password state) in
    let accounts = formed.accounts.few in
    let lowest : IsLowest state.objects n (lowest_free state.objects n) = lowest_free-exists state.settings.frames (length state.accounts) state.objects n formed.objects (frames-few state.settings formed.settings) some few in
    let object : IsObject new =
    new_object-formed (lowest_free state.objects n) n account (next_password state) (record { low = lowest.low; high = lowest.high; some = some; few = few }) account_some (omega arith) (drawn-IsWord state.settings.seed state.counters.draws) in
    objects-keep (drawn state) (with_object new state.objects) (drawn-keeps state formed left)
    (AreObjects-with_object state.settings.frames (length state.accounts) new state.objects formed.objects room object there fit
    (subst (λ (p : ℕ). is_free state.objects n p ≡ true) (sym (new_page (lowest_free state.objects n))) lowest.free))

pub create-keeps : (state : State) (n account password : ℕ) → IsWellFormed state → IsWellFormed (create state n account password).0
create-keeps state n account password formed =
    unless_refused-keeps _ state _ formed (λ none.
    let size = unrefused (n == 0 || nat_lt object_page_limit n) _ _ none in
    let closed = unrefused (not (opens state.accounts account password)) _ _ size.1 in
    let debt = unrefused (nat_lt 0 (owed_by state.accounts account)) _ _ closed.1 in
    let limit = unrefused (nat_le object_limit (length state.objects) || all_drawn state) _ _ debt.1 in
    let full = unrefused (nat_lt state.settings.frames (used state.objects + n)) _ _ limit.1 in
    let sizes = or_parts (n == 0) (nat_lt object_page_limit n) size.0 in
    let limits = or_parts (nat_le object_limit (length state.objects)) (all_drawn state) limit.0 in
    let number = opens-number state.accounts account password (not-false (opens state.accounts account password) closed.0) in
    created state n account formed (positive n (eqb-false n 0 sizes.0)) (ltb-false object_page_limit n sizes.1) number.0 number.1 (leb-false object_limit (length state.objects) limits.0) limits.1 (ltb-false state.settings.frames (used state.objects + n) full.0))
  where
    positive : (k : ℕ) → (k ≡ 0 → ⊥) → 1 ≤ k
    positive k differs = omega arith
