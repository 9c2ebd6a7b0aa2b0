-- The values of each reply to a thread are numbers of 64 bits, so they fit its registers.
use Rattle.mg_laws.proofs.{KeepsDomains.{domain_of-formed, find-All}, KeepsRows.thread-formed, KeepsThreads.free_number-free}
use Rattle.{mg_laws.proofs.{KeptRegisters.word-in_list, Passed.unrefused}, mg_model.specs.Abbreviations.{free_number, least, no_row, unless_refused}}
use Rattle.mg_model.specs.{Access.{allowed, at, covers, domain_of, thread_of}, Bank.{balance_of, owed_by, pages_of}, BankCalls.balance}
use Rattle.mg_model.specs.{Domains.frames_of, DrawnLemmas.drawn-IsWord, KeptListLemmas.sum_by-filter-le, Limits.{first_page, page_end}}
use Rattle.mg_model.specs.{ObjectCalls.{about, create, entry, info, is_aligned, next_password, row_at}, Objects.{is_free, lowest_free, page_behind}}
use Rattle.mg_model.specs.{Objects.word_at, Ranges.IsWord, Refused.Answer, State.{Object, ObjectRow, State, Thread}, Threads.make_thread}
use Rattle.mg_model.specs.{Turn.{thread_call, values_of}, WellFormed.{AreAccounts, IsAccount, IsObject, IsWellFormed}}
use Rattle.mg_model.specs.declared.{accounts.AccRow.AccRow, calls.Call.Call, replies.{Refusal.Refusal, Reply.{Reply, TheVariants.{Count, Done}}}}
use Rattle.{mg_model.specs.declared.{replies.Reply.TheVariants.{Funds, Made, Opened, Value}, rights.Right.TheVariants.O}, std.proofs.Common.{ℕ, zero}}
use Rattle.std.proofs.Common.{suc, ◌+◌, ◌-◌, ◌*◌, ◌/◌, ◌^◌, ◌<◌, ◌≤◌, ◌≡◌, not, leb, ◌||◌, List, [], ◌∷◌, length, get_or, filter, map, min, Option}
use Rattle.std.proofs.{Common.{Some, None, refl, ap, subst, arith, All}, lemmas.Bool.{and_parts, cond_both, leb-false, leb-true, or_parts}}
use Rattle.std.proofs.lemmas.{List.{Elements.{All-cons, All-nil}, Sums.get_or-le-sum_by}, Option.{get_or_from_slice_get, slice_get_within}}
use Rattle.std.specs.{Option.option_map_or, Prelude.slice_get}
use Rattle.mg_model.specs.declared.calls.Call.TheVariants as call

-- the values of a reply are words
pub record HasWords (answer : Reply) : Type 0 where
  pub words : All IsWord (values_of answer)

unless_refused-words : (refused : Option Refusal) (state : State) (done : Answer) → (refused ≡ None → HasWords done.1) → HasWords (unless_refused refused state done).1
unless_refused-words None state done words = words refl
unless_refused-words (Some word) state done words = record { words = All-nil IsWord }

none-words : All IsWord []
none-words = All-nil IsWord

done-words : HasWords Done
done-words = record { words = none-words }

one-word : (a : ℕ) → IsWord a → All IsWord (a ∷ [])
one-word a is = All-cons IsWord a [] is none-words

two-words : (a b : ℕ) → IsWord a → IsWord b → All IsWord (a ∷ b ∷ [])
two-words a b first second = All-cons IsWord a (b ∷ []) first (one-word b second)

three-words : (a b c : ℕ) → IsWord a → IsWord b → IsWord c → All IsWord (a ∷ b ∷ c ∷ [])
three-words a b c first second third = All-cons IsWord a (b ∷ c ∷ []) first (two-words b c second third)

six-words : (a b c d e f : ℕ) → IsWord a → IsWord b → IsWord c → IsWord d → IsWord e → IsWord f → All IsWord (a ∷ b ∷ c ∷ d ∷ e ∷ f ∷ [])
six-words a b c d e f first second third fourth fifth sixth = grind (arith, All-cons, three-words)

-- the word at an address
word_of_object : (objects : List Object) (a : ℕ) (o : Option Object) → All IsObject objects → at objects a ≡ o → IsWord (option_map_or (λ (object : Object). get_or object.words ((a - object.row.base) / 8) 0) o 0)
word_of_object objects a None all is = omega arith
word_of_object objects a (Some object) all is =
    word-in_list object.words ((a - object.row.base) / 8) (find-All IsObject (λ (x : Object). covers x.row a) objects object all is).words

pub word_at-word : (state : State) (a : ℕ) → IsWellFormed state → IsWord (word_at state.objects a)
word_at-word state a formed = word_of_object state.objects a (at state.objects a) formed.objects.each refl

-- the numbers of a row
pub record IsSmallRow (row : ObjectRow) : Type 0 where
  pub end : row.base + 4096 * row.pages ≤ 2 ^ 52
  pub account : row.account ≤ 1024
  pub passwords : length row.passwords ≤ 32
  pub entries : length row.entries ≤ 16

row_of_object : (objects : List Object) (a : ℕ) (o : Option Object) → All IsObject objects → at objects a ≡ o → IsSmallRow (option_map_or (λ (object : Object). object.row) o no_row)
row_of_object objects a None all is = record { end = omega arith; account = omega arith; passwords = omega arith; entries = omega arith }
row_of_object objects a (Some object) all is =
    let there : IsObject object = find-All IsObject (λ (x : Object). covers x.row a) objects object all is in
    let place = there.row.place in
    record { end = omega arith; account = there.row.account_few; passwords = there.row.few_passwords; entries = there.row.few_entries }

pub row_at-small : (state : State) (a : ℕ) → IsWellFormed state → IsSmallRow (row_at state a)
row_at-small state a formed = row_of_object state.objects a (at state.objects a) formed.objects.each refl

-- the lowest free pages
least-le : (n : ℕ) (ms : List ℕ) → least n ms ≤ n
least-le n [] = omega arith
least-le n (m ∷ ms) = let rest : least (min n m) ms ≤ min n m = least-le (min n m) ms in omega arith

lowest_free-le : (objects : List Object) (n : ℕ) → lowest_free objects n ≤ 2 ^ 40
lowest_free-le objects n = least-le page_end (filter (λ page. is_free objects n page) (first_page ∷ map (λ (object : Object). page_behind object.row) objects))

next_password-word : (state : State) → IsWord (next_password state)
next_password-word state = drawn-IsWord state.settings.seed state.counters.draws

-- accounts
balance_of_account : (credits period : ℕ) (accounts : List AccRow) (place : ℕ) (o : Option AccRow) → AreAccounts credits period accounts → slice_get accounts place ≡ o → option_map_or (λ (row : AccRow). row.balance) o 0 ≤ credits
balance_of_account credits period accounts place None are is = omega arith
balance_of_account credits period accounts place (Some row) are is =
    let part = get_or-le-sum_by (λ (x : AccRow). x.balance) accounts place row (slice_get_within accounts place row is) in
    let there = ap (λ (x : AccRow). x.balance) (get_or_from_slice_get accounts place row row is) in
    omega (arith, are.sum)

pub balance_of-le : (credits period : ℕ) (accounts : List AccRow) (number : ℕ) → AreAccounts credits period accounts → balance_of accounts number ≤ credits
balance_of-le credits period accounts zero are = omega arith
balance_of-le credits period accounts (suc place) are = balance_of_account credits period accounts place (slice_get accounts place) are refl

owed_by_account : (credits period : ℕ) (accounts : List AccRow) (place : ℕ) (o : Option AccRow) → AreAccounts credits period accounts → slice_get accounts place ≡ o → option_map_or (λ (row : AccRow). row.owed) o 0 ≤ period * 2 ^ 36
owed_by_account credits period accounts place None are is = omega arith
owed_by_account credits period accounts place (Some row) are is =
    (subst (IsAccount period) (get_or_from_slice_get accounts place row row is) (are.each place row (slice_get_within accounts place row is))).owed

pub owed_by-le : (credits period : ℕ) (accounts : List AccRow) (number : ℕ) → AreAccounts credits period accounts → owed_by accounts number ≤ period * 2 ^ 36
owed_by-le credits period accounts zero are = omega arith
owed_by-le credits period accounts (suc place) are = owed_by_account credits period accounts place (slice_get accounts place) are refl

-- what settings allow
pub record HasLimits (state : State) : Type 0 where
  pub frames : state.settings.frames ≤ 65536
  pub credits : state.settings.credits ≤ 2 ^ 62

pub settings-limits : (state : State) → IsWellFormed state → HasLimits state
settings-limits state formed = grind (arith, and_parts, leb-true)

balance_of-word : (state : State) (number : ℕ) → IsWellFormed state → IsWord (balance_of state.accounts number)
balance_of-word state number formed =
    let limits : HasLimits state = settings-limits state formed in
    let within : balance_of state.accounts number ≤ state.settings.credits = balance_of-le state.settings.credits state.counters.period state.accounts number formed.accounts in
    omega arith

owed_by-word : (state : State) (number : ℕ) → IsWellFormed state → IsWord (owed_by state.accounts number)
owed_by-word state number formed =
    let within : owed_by state.accounts number ≤ state.counters.period * 2 ^ 36 = owed_by-le state.settings.credits state.counters.period state.accounts number formed.accounts in
    let period : state.counters.period ≤ 2 ^ 24 - 1 = formed.counters.period in
    omega arith

pages_of-word : (state : State) (number : ℕ) → IsWellFormed state → IsWord (pages_of state.objects number)
pages_of-word state number formed = grind (arith, settings-limits, sum_by-filter-le)

-- frames of a thread
frames_of_thread : (state : State) (t : ℕ) (o : Option Thread) → IsWellFormed state → thread_of state t ≡ o → length (option_map_or (λ (thread : Thread). thread.row.frames) o []) ≤ 16
frames_of_thread state t None formed is = omega arith
frames_of_thread state t (Some thread) formed is = (thread-formed state.counters.births state.threads t thread formed.threads is).row.few_frames

pub frames_of-few : (state : State) (t : ℕ) → IsWellFormed state → length (frames_of state t) ≤ 16
frames_of-few state t formed = frames_of_thread state t (thread_of state t) formed refl

module _ (state : State) (t : ℕ) (formed : IsWellFormed state) where
  created-words : (n : ℕ) → HasWords (Made (4096 * lowest_free state.objects n) (next_password state))
  created-words n = grind (arith, lowest_free-le, two-words, next_password-word)

  about-words : (b : ℕ) → HasWords (about (row_at state b))
  about-words b = grind (arith, row_at-small, cond_both, six-words)

  entry-words : (b off : ℕ) → off < 4096 * (row_at state b).pages → HasWords (Value ((row_at state b).base + off))
  entry-words b off below = grind (arith, row_at-small, one-word)

  slots-words : HasWords (Count (length (domain_of state t)))
  slots-words = let few = (domain_of-formed state t formed).few in record { words = one-word _ (omega arith) }

  more_frames-words : HasWords (Count (length (frames_of state t) + 1))
  more_frames-words = let few : length (frames_of state t) ≤ 16 = frames_of-few state t formed in record { words = one-word _ (omega arith) }

  fewer_frames-words : HasWords (Count (length (frames_of state t) - 1))
  fewer_frames-words = let few : length (frames_of state t) ≤ 16 = frames_of-few state t formed in record { words = one-word _ (omega arith) }

  made-words : length state.threads < 256 → HasWords (Count (free_number state.threads))
  made-words few =
      let high : free_number state.threads ≤ 1 + length state.threads = (free_number-free state.counters.births state.threads formed.threads).high in
      record { words = one-word _ (omega arith) }

  opened-words : HasWords (Opened (length state.accounts + 1) (next_password state))
  opened-words = let few : length state.accounts ≤ 1024 = formed.accounts.few in record { words = two-words _ _ (omega arith) (next_password-word state) }

  value-words : (w : ℕ) → IsWord w → HasWords (Value w)
  value-words w is = record { words = one-word w is }

  funds-words : (account : ℕ) → HasWords (Funds (balance_of state.accounts account) (owed_by state.accounts account) (pages_of state.objects account))
  funds-words account = record { words = three-words _ _ _ (balance_of-word state account formed) (owed_by-word state account formed) (pages_of-word state account formed) }

  create-words : (n account password : ℕ) → HasWords (create state n account password).1
  create-words n account password = unless_refused-words _ state _ (λ _. created-words n)

  info-words : (b : ℕ) → HasWords (info state t b).1
  info-words b = unless_refused-words _ state _ (λ _. about-words b)

  entry_call-words : (b off : ℕ) → HasWords (entry state t b off).1
  entry_call-words b off =
      unless_refused-words _ state _ (λ none.
      let to_range = unrefused (not (allowed state t b O)) _ _ none in
      let to_limit = unrefused (not (is_aligned off) || leb (4096 * (row_at state b).pages) off) _ _ to_range.1 in
      entry-words b off (leb-false _ _ (or_parts _ _ to_limit.0).1))

  make_thread-words : (pc : ℕ) → HasWords (make_thread state t pc).1
  make_thread-words pc = grind (arith, unless_refused-words, unrefused, made-words, leb-false, or_parts)

  balance-words : (account password : ℕ) → HasWords (balance state account password).1
  balance-words account password = unless_refused-words _ state _ (λ _. funds-words account)

pub thread_call-words : (state : State) (t : ℕ) (made : Call) → IsWellFormed state → HasWords (thread_call state t made).1
thread_call-words state t (call.Load a) formed = unless_refused-words _ state _ (λ _. value-words state t formed _ (word_at-word state a formed))
thread_call-words state t (call.Store a value) formed = unless_refused-words _ state _ (λ _. done-words)
thread_call-words state t (call.Create n account password) formed = create-words state t formed n account password
thread_call-words state t (call.Delete b) formed = unless_refused-words _ state _ (λ _. done-words)
thread_call-words state t (call.Info b) formed = info-words state t formed b
thread_call-words state t (call.Pwadd b rights until) formed = unless_refused-words _ state _ (λ _. value-words state t formed _ (next_password-word state))
thread_call-words state t (call.Pwdel b password) formed = unless_refused-words _ state _ (λ _. done-words)
thread_call-words state t (call.Entry b off) formed = entry_call-words state t formed b off
thread_call-words state t (call.Ext b clist password) formed = unless_refused-words _ state _ (λ _. done-words)
thread_call-words state t (call.Recharge b account password) formed = unless_refused-words _ state _ (λ _. done-words)
thread_call-words state t (call.Apdadd clist password) formed = unless_refused-words _ state _ (λ _. slots-words state t formed)
thread_call-words state t (call.Apddel index) formed = unless_refused-words _ state _ (λ _. done-words)
thread_call-words state t call.Apdlist formed = record { words = none-words }
thread_call-words state t (call.Pdx a mask) formed = unless_refused-words _ state _ (λ _. more_frames-words state t formed)
thread_call-words state t call.Ret formed = unless_refused-words _ state _ (λ _. fewer_frames-words state t formed)
thread_call-words state t (call.Thread pc) formed = make_thread-words state t formed pc
thread_call-words state t (call.End i) formed = unless_refused-words _ state _ (λ _. done-words)
thread_call-words state t (call.Resume i) formed = unless_refused-words _ state _ (λ _. done-words)
thread_call-words state t (call.Account account password amount) formed = unless_refused-words _ state _ (λ _. opened-words state t formed)
thread_call-words state t (call.Pay account password to amount) formed = unless_refused-words _ state _ (λ _. done-words)
thread_call-words state t (call.Balance account password) formed = balance-words state t formed account password
thread_call-words state t call.Turn formed = record { words = none-words }
thread_call-words state t call.Next formed = record { words = none-words }
thread_call-words state t call.Rent formed = record { words = none-words }
thread_call-words state t call.Bad formed = record { words = none-words }
