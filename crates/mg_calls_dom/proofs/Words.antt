-- The word of a load or a store, and what a store leaves of the seats.
use Rattle.mg_access.specs.{FoundLemmas.{found-any, found-passes}, ReachedLemmas.reached_lives, Searching.{access_refusal, allowed_row}}
use Rattle.{mg_laws.specs.Backing.{CallsKeepBacked, EndsOneList}, mg_model.specs.{Access.{allowed, at, covers}, Accesses.{Access, word_under}}}
use Rattle.mg_model.specs.{Backed.{KeepsBacked, by_given, by_list, by_none, by_word}, Kept.KeepsKeys, Keys.Key, Limits.page_size}
use Rattle.mg_model.specs.{ObjectCalls.{is_aligned, store}, Refused.{Answer, first_refusal}, State.{Object, ObjectRow, State}, Step.step}
use Rattle.mg_model.specs.{Threads.is_thread, Turn.thread_call, Warmth.{in_first_page, is_disturbing, is_ok}, WellFormed.IsWellFormed}
use Rattle.mg_model.specs.declared.{calls.Line.Line, replies.{Refusal.{Refusal, TheVariants.{Align, Denied, NoThread}}, Reply.TheVariants.{Done, No}}}
use Rattle.{mg_model.specs.declared.{rights.Right.{Right, TheVariants.W}, seats.Seat.Seat}, mg_vcache.specs.SeatLemmas.{backed_still, backed_without}}
use Rattle.{mg_vcache.specs.Seats.{AllBacked, is_kept, without}, std.proofs.Common.{ℕ, ◌≡◌, ◌+◌, ◌*◌, ◌/◌, ◌%◌, ◌&&◌, Bool, not, true, false, List}}
use Rattle.std.proofs.{Common.{[], ◌∷◌, if◌then◌else◌, Option, Some, None, refl, sym, ap, subst, ◌∙◌, arith}, lemmas.Bool.{and_from, and_parts}}
use Rattle.std.specs.Prelude.{nat_le, nat_lt, option_map}
use Rattle.mg_model.specs.declared.calls.Call.TheVariants as call

module _ (state : State) (t a : ℕ) (right : Right) where
  own-when : (v on may : Bool) → v ≡ true → first_refusal ((not on, Align) ∷ (not may, Denied) ∷ []) ≡ None → (let n : ℕ = if v then (if on && may then 1 else 0) else 0 in n) ≡ 1
  own-when true true true is none = refl
  own-when true true false is none = cc
  own-when true false may is none = cc
  own-when false on may is none = cc

  none-when : (v on may : Bool) (word : Refusal) → first_refusal ((not on, Align) ∷ (not may, Denied) ∷ []) ≡ Some word → (let n : ℕ = if v then (if on && may then 1 else 0) else 0 in n) ≡ 0
  none-when true true true word some = cc
  none-when true true false word some = refl
  none-when true false may word some = refl
  none-when false on may word some = refl

  -- its own word is one if it is not refused, and none if it is
  pub own-word : (row : ObjectRow) → Some row ≡ allowed_row state t a right → access_refusal state t a right ≡ None → (if is_thread state t then word_under state t a right else 0) ≡ 1
  own-word row found none = own-when (is_thread state t) (is_aligned a) (allowed state t a right) (reached_lives state t a right row found) none

  pub no-word : (word : Refusal) → access_refusal state t a right ≡ Some word → (if is_thread state t then word_under state t a right else 0) ≡ 0
  no-word word some = none-when (is_thread state t) (is_aligned a) (allowed state t a right) word some

  -- the object after a row that is reached
  pub reached-object : (row : ObjectRow) → Some row ≡ allowed_row state t a right → (object : Object) × (at state.objects a ≡ Some object) × (object.row ≡ row)
  reached-object row found = by_test (allowed state t a right) (at state.objects a) found
    where
      by_test : (v : Bool) (o : Option Object) → Some row ≡ (if v then option_map (λ (x : Object). x.row) o else None) → (object : Object) × (o ≡ Some object) × (object.row ≡ row)
      by_test true (Some object) h = let same : object.row ≡ row = cc in (object, refl, same)
      by_test true None h = cc
      by_test false o h = cc

-- the address of a word, from its page and its place there
pub word-address : (a page index : ℕ) → page ≡ a / 4096 → index ≡ a % 4096 / 8 → a % 8 ≡ 0 → 4096 * page + 8 * index ≡ a
word-address a page index p i aligned = omega arith

-- the call of a thread that lives is answered by its row
pub lives-ok : (state : State) (v : Bool) (answer : Answer) → v ≡ true → is_ok answer.1 ≡ true → is_ok (if v then answer else (state, No NoThread)).1 ≡ true
lives-ok state true answer is ok = ok
lives-ok state false answer is ok = cc

-- what a store drops, by the base of its object and by its row
pub dropped-at : (a : ℕ) (seats seats' : List (Option Seat)) (base : ℕ) (row : ObjectRow) → base ≡ row.base → seats' ≡ (if nat_lt a (base + page_size) then without (by_given base) seats else seats)
    → seats' ≡ (if nat_lt a (row.base + page_size) then without (by_given row.base) seats else seats)
dropped-at a seats seats' base row is dropped = subst (λ b. seats' ≡ (if nat_lt a (b + page_size) then without (by_given b) seats else seats)) is dropped

-- a store, and what it leaves of the seats
module _ (state : State) (t a value : ℕ) (row : ObjectRow) (found : Some row ≡ allowed_row state t a W) where
  abbrev line : Line
  line = record { thread = t; call = call.Store a value }

  -- one into the first page of its object disturbs
  first-page : nat_lt a (row.base + page_size) ≡ true → in_first_page state.objects a ≡ true
  first-page below =
      let (object, there, same) = reached-object state t a W row found in
      let inside = found-passes (λ (o : Object). covers o.row a) state.objects object there in
      let above = (and_parts (nat_le object.row.base a) (nat_lt a (object.row.base + 4096 * object.row.pages)) inside).0 in
      found-any (λ (o : Object). covers o.row a) (λ (o : Object). nat_le o.row.base a && nat_lt a (o.row.base + page_size)) state.objects object there
      (and_from (nat_le object.row.base a) (nat_lt a (object.row.base + page_size)) above (ap (λ (r : ObjectRow). nat_lt a (r.base + page_size)) same ∙ below))

  pub first-disturbs : (new : State) → store state t a value ≡ (new, Done) → nat_lt a (row.base + page_size) ≡ true → is_disturbing state line ≡ true
  first-disturbs new done below =
      and_from (is_ok (step state line).1) (in_first_page state.objects a)
      (lives-ok state (is_thread state t) (store state t a value) (reached_lives state t a W row found) (ap (λ (answer : Answer). is_ok answer.1) done)) (first-page below)

  -- a line that does not disturb drops nothing
  pub dropped-keys : (new : State) (made : List Access) (kept : Key → Bool) (seats seats' : List (Option Seat)) → store state t a value ≡ (new, Done) → seats' ≡ (if nat_lt a (row.base + page_size) then without (by_given row.base) seats else seats)
      → KeepsKeys state made kept (λ key. is_kept seats key) → is_disturbing state line ≡ false → KeepsKeys state made kept (λ key. is_kept seats' key)
  dropped-keys new made kept seats seats' done dropped keys quiet = by_place (nat_lt a (row.base + page_size)) refl dropped
    where
      by_place : (v : Bool) → nat_lt a (row.base + page_size) ≡ v → seats' ≡ (if v then without (by_given row.base) seats else seats) → KeepsKeys state made kept (λ key. is_kept seats' key)
      by_place true is drops = let loud = first-disturbs new done is in cc
      by_place false is same = subst (λ s. KeepsKeys state made kept (λ key. is_kept s key)) (sym same) keys

  -- and one that was done leaves each seat backed, once these are dropped
  pub stored-backed : (new : State) (seats seats' : List (Option Seat)) → IsWellFormed state → CallsKeepBacked (λ state t made. (thread_call state t made).0) → EndsOneList → store state t a value ≡ (new, Done)
      → seats' ≡ (if nat_lt a (row.base + page_size) then without (by_given row.base) seats else seats) → AllBacked state seats → AllBacked new seats'
  stored-backed new seats seats' formed keeps ends done dropped all =
      let (object, there, same) = reached-object state t a W row found in
      let kept : KeepsBacked (by_word a) state new = subst (λ (answer : Answer). KeepsBacked (by_word a) state answer.0) done (keeps state t (call.Store a value) formed) in
      let ended : KeepsBacked (by_list row.base a) state new = subst (λ (r : ObjectRow). KeepsBacked (by_list r.base a) state new) same (ends state new a object formed there kept) in
      by_place (nat_lt a (row.base + page_size)) dropped ended
    where
      by_place : (v : Bool) → seats' ≡ (if v then without (by_given row.base) seats else seats) → KeepsBacked (if v then by_given row.base else by_none) state new → AllBacked new seats'
      by_place true drops ended = subst (λ s. AllBacked new s) (sym drops) (backed_without (by_given row.base) state new seats ended all)
      by_place false drops ended = subst (λ s. AllBacked new s) (sym drops) (backed_still state new seats ended all)
