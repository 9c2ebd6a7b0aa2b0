-- All accounts that are charged, one after another.
use Rattle.mg_bank.specs.{AccountLemmas.{account_of-at, with_account-credits}, Bank.{credits_of, pages_at}}
use Rattle.mg_model.specs.{Abbreviations.with_account, AccountLemmas.account_of-row, Bank.{account_of, all_charged, all_paid, charged, credited}}
use Rattle.mg_model.specs.{Bank.{owed_by, paid, pages_of, used}, Limits.{debt_limit, step_limit}, State.Object, declared.accounts.AccRow.AccRow}
use Rattle.mg_rent.{proofs.Mixed.{length-mixed, mixed, mixed-all, mixed-at, mixed-set}, specs.Charging.{ArePagesOf, OweAtMost, charged_at, paid_at}}
use Rattle.std.proofs.Common.{◌≡◌, ℕ, zero, suc, ◌+◌, ◌-◌, ◌*◌, ◌^◌, ◌<◌, ◌≤◌, ◌==◌, Bool, true, false, cond, if◌then◌else◌, List, [], ◌∷◌, Option}
use Rattle.std.proofs.{Common.{Some, None, filter, length, get_or, set, take, refl, ap, sym, subst, ◌∙◌, arith}, Math.Seq.take-length}
use Rattle.std.proofs.lemmas.{Bool.{cond-false, cond-true, eq-eqb, ne_eqb}, List.Elements.{All-cons, All-head, All-nil, All-set, All-tail}}
use Rattle.std.{proofs.lemmas.{List.Sums.sum_by-cons, Nat.mul-le}, specs.Option.option_map_or}

-- an object for each number from k on, of as many pages as the list says, which pays for it
abbrev pub bare_from : ℕ → List ℕ → List Object
bare_from k [] = []
bare_from k (pages ∷ more) = record { row = record { base = 0; pages = pages; account = k; passwords = []; entries = []; extension = None }; words = [] } ∷ bare_from (k + 1) more

abbrev pub bare : List ℕ → List Object
bare pages = bare_from 0 pages

pages-cons : (object : Object) (objects : List Object) (n : ℕ) → pages_of (object ∷ objects) n ≡ (if object.row.account == n then object.row.pages else 0) + pages_of objects n
pages-cons object objects n = at (object.row.account == n)
  where
    at : (b : Bool) → used (cond b (object ∷ filter (λ (o : Object). o.row.account == n) objects) (filter (λ (o : Object). o.row.account == n) objects)) ≡ cond b object.row.pages 0 + pages_of objects n
    at true = sum_by-cons (λ (o : Object). o.row.pages) object (filter (λ (o : Object). o.row.account == n) objects)
    at false = omega arith

none-below : (k : ℕ) (pages : List ℕ) (n : ℕ) → n < k → pages_of (bare_from k pages) n ≡ 0
none-below k [] n below = refl
none-below k (p ∷ pages) n below =
    let first = pages-cons (record { row = record { base = 0; pages = p; account = k; passwords = []; entries = []; extension = None }; words = [] }) (bare_from (k + 1) pages) n in
    let other = cond-false (k == n) p 0 (ne_eqb k n (λ is. omega arith)) in
    let rest = none-below (k + 1) pages n (omega arith) in
    omega arith

bare-at : (k : ℕ) (pages : List ℕ) (j : ℕ) → pages_of (bare_from k pages) (k + j) ≡ pages_at pages j
bare-at k [] j = refl
bare-at k (p ∷ pages) zero =
    let first = pages-cons (record { row = record { base = 0; pages = p; account = k; passwords = []; entries = []; extension = None }; words = [] }) (bare_from (k + 1) pages) (k + zero) in
    let own = cond-true (k == k + zero) p 0 (eq-eqb k (k + zero) (omega arith)) in
    let rest = none-below (k + 1) pages (k + zero) (omega arith) in
    omega arith
bare-at k (p ∷ pages) (suc j) =
    let first = pages-cons (record { row = record { base = 0; pages = p; account = k; passwords = []; entries = []; extension = None }; words = [] }) (bare_from (k + 1) pages) (k + suc j) in
    let other = cond-false (k == k + suc j) p 0 (ne_eqb k (k + suc j) (λ is. omega arith)) in
    let e : k + suc j ≡ k + 1 + j = omega arith in
    let at = ap (pages_of (bare_from (k + 1) pages)) e in
    let rest = bare-at (k + 1) pages j in
    omega arith

pub bare-pages : (pages : List ℕ) (n : ℕ) → pages_of (bare pages) n ≡ pages_at pages n
bare-pages pages n = let e : n ≡ 0 + n = omega arith in ap (pages_of (bare pages)) e ∙ bare-at 0 pages n

-- what is due rests on the pages alone
pub all_charged-same : (a b : List Object) (rate : ℕ) → ((number : ℕ) → pages_of a number ≡ pages_of b number) → (number : ℕ) (rows : List AccRow) → all_charged a rate number rows ≡ all_charged b rate number rows
all_charged-same a b rate same number [] = refl
all_charged-same a b rate same number (row ∷ rows) =
    ap (λ pages. charged row (rate * pages) ∷ all_charged a rate (number + 1) rows) (same number) ∙ ap (λ (more : List AccRow). charged row (rate * pages_of b number) ∷ more) (all_charged-same a b rate same (number + 1) rows)

pub all_paid-same : (a b : List Object) (rate : ℕ) → ((number : ℕ) → pages_of a number ≡ pages_of b number) → (number : ℕ) (rows : List AccRow) → all_paid a rate number rows ≡ all_paid b rate number rows
all_paid-same a b rate same number [] = refl
all_paid-same a b rate same number (row ∷ rows) =
    ap (λ pages. paid row (rate * pages) + all_paid a rate (number + 1) rows) (same number) ∙ ap (λ more. paid row (rate * pages_of b number) + more) (all_paid-same a b rate same (number + 1) rows)

pub length-charged : (objects : List Object) (rate number : ℕ) (rows : List AccRow) → length (all_charged objects rate number rows) ≡ length rows
length-charged objects rate number [] = refl
length-charged objects rate number (row ∷ rows) = ap suc (length-charged objects rate (number + 1) rows)

-- the account in place i
pub charged-at : (objects : List Object) (rate number : ℕ) (rows : List AccRow) (i : ℕ) (d : AccRow) → i < length rows → get_or (all_charged objects rate number rows) i d ≡ charged (get_or rows i d) (rate * pages_of objects (number + i))
charged-at objects rate number [] i d within = absurd (omega arith)
charged-at objects rate number (row ∷ rows) zero d within = let e : number ≡ number + zero = omega arith in ap (λ n. charged row (rate * pages_of objects n)) e
charged-at objects rate number (row ∷ rows) (suc i) d within =
    let e : number + 1 + i ≡ number + suc i = omega arith in
    charged-at objects rate (number + 1) rows i d (omega arith) ∙ ap (λ n. charged (get_or rows i d) (rate * pages_of objects n)) e

-- and what the accounts up to it pay
pub paid-more : (objects : List Object) (rate number : ℕ) (rows : List AccRow) (i : ℕ) (d : AccRow) → i < length rows → all_paid objects rate number (take (suc i) rows) ≡ all_paid objects rate number (take i rows) + paid (get_or rows i d) (rate * pages_of objects (number + i))
paid-more objects rate number [] i d within = absurd (omega arith)
paid-more objects rate number (row ∷ rows) zero d within =
    let e : number ≡ number + zero = omega arith in
    let one = ap (λ n. paid row (rate * pages_of objects n)) e in
    omega arith
paid-more objects rate number (row ∷ rows) (suc i) d within =
    let e : number + 1 + i ≡ number + suc i = omega arith in
    let more = paid-more objects rate (number + 1) rows i d (omega arith) in
    let at = ap (λ n. paid (get_or rows i d) (rate * pages_of objects n)) e in
    omega arith

-- The first i accounts are charged, and have paid so much.
pub record AreCharged (objects : List Object) (rate : ℕ) (old now : List AccRow) (sum i : ℕ) : Type 0 where
  pub accounts : now ≡ mixed (all_charged objects rate 1 old) old i
  pub paid_is : sum ≡ all_paid objects rate 1 (take i old)
  pub credits : credits_of now + sum ≡ credits_of old

pub charged-long : (objects : List Object) (rate : ℕ) (old now : List AccRow) (sum i : ℕ) → AreCharged objects rate old now sum i → length now ≡ length old
charged-long objects rate old now sum i are = ap length are.accounts ∙ length-mixed (all_charged objects rate 1 old) old i (length-charged objects rate 1 old)

-- the next account is still as it was
pub next-is : (objects : List Object) (rate : ℕ) (old now : List AccRow) (sum i : ℕ) (d : AccRow) → i < length old → AreCharged objects rate old now sum i → account_of now (i + 1) ≡ Some (get_or old i d)
next-is objects rate old now sum i d within are =
    let long = charged-long objects rate old now sum i are in
    let e : i + 1 - 1 ≡ i = omega arith in
    account_of-at now (i + 1) d (omega arith) (omega arith)
    ∙ ap (λ k. Some (get_or now k d)) e
    ∙ ap (λ (rows : List AccRow). Some (get_or rows i d)) are.accounts
    ∙ ap Some (mixed-at (all_charged objects rate 1 old) old i d (length-charged objects rate 1 old) within)

pub next-owes : (objects : List Object) (rate : ℕ) (old now : List AccRow) (sum i most : ℕ) → i < length old → OweAtMost most old → AreCharged objects rate old now sum i → owed_by now (i + 1) ≤ most
next-owes objects rate old now sum i most within owed are =
    let d : AccRow = record { password = 0; balance = 0; owed = 0 } in
    let is = ap (λ (o : Option AccRow). option_map_or (λ (r : AccRow). r.owed) o 0) (next-is objects rate old now sum i d within are) in
    let few = owed i d within in
    omega arith

pub charged-more : (objects : List Object) (rate : ℕ) (old now after : List AccRow) (sum pays due i : ℕ) → i < length old → due ≡ rate * pages_of objects (i + 1) → AreCharged objects rate old now sum i
    → after ≡ charged_at now (i + 1) due → pays ≡ paid_at now (i + 1) due → credits_of after + pays ≡ credits_of now → AreCharged objects rate old after (sum + pays) (i + 1)
charged-more objects rate old now after sum pays due i within due_is are after_is pays_is moved =
    let d : AccRow = record { password = 0; balance = 0; owed = 0 } in
    let all = all_charged objects rate 1 old in
    let long = length-charged objects rate 1 old in
    let row = get_or old i d in
    let found = next-is objects rate old now sum i d within are in
    let e : i + 1 - 1 ≡ i = omega arith in
    let n : 1 + i ≡ i + 1 = omega arith in
    let s : suc i ≡ i + 1 = omega arith in
    let due_at : rate * pages_of objects (1 + i) ≡ due = ap (λ k. rate * pages_of objects k) n ∙ sym due_is in
    let put : after ≡ set now i (charged row due) =
    after_is ∙ ap (λ (o : Option AccRow). option_map_or (λ (r : AccRow). with_account now (i + 1) (charged r due)) o now) found ∙ ap (λ k. set now k (charged row due)) e in
    let at : charged row due ≡ get_or all i d = sym (charged-at objects rate 1 old i d within ∙ ap (λ k. charged row k) due_at) in
    let more = paid-more objects rate 1 old i d within in
    let pays_row : pays ≡ paid row due = pays_is ∙ ap (λ (o : Option AccRow). option_map_or (λ (r : AccRow). paid r due) o 0) found in
    let paid_at_row = ap (λ k. paid row k) due_at in
    let before = are.paid_is in
    let credits = are.credits in
    record {
      accounts = put ∙ ap (λ (rows : List AccRow). set rows i (charged row due)) are.accounts ∙ ap (λ (r : AccRow). set (mixed all old i) i r) at ∙ mixed-set all old i d long within ∙ ap (mixed all old) s;
      paid_is = cc (more, pays_row, paid_at_row, before, ap (λ k. all_paid objects rate 1 (take k old)) s);
      credits = omega arith;
    }

-- the charges of all
pub record AllCharged (objects : List Object) (rate : ℕ) (old now : List AccRow) (sum : ℕ) : Type 0 where
  pub accounts : now ≡ all_charged objects rate 1 old
  pub paid_is : sum ≡ all_paid objects rate 1 old
  pub credits : credits_of now + sum ≡ credits_of old

pub charged-all : (objects : List Object) (rate : ℕ) (old now : List AccRow) (sum i : ℕ) → i ≡ length old → AreCharged objects rate old now sum i → AllCharged objects rate old now sum
charged-all objects rate old now sum i end are = record {
  accounts = are.accounts ∙ ap (mixed (all_charged objects rate 1 old) old) end ∙ mixed-all (all_charged objects rate 1 old) old (length-charged objects rate 1 old);
  paid_is = are.paid_is ∙ ap (λ k. all_paid objects rate 1 (take k old)) end ∙ ap (all_paid objects rate 1) (take-length old);
  credits = are.credits;
}

-- for all objects that have these pages
pub charged-of : (objects : List Object) (pages : List ℕ) (rate : ℕ) (old now : List AccRow) (sum : ℕ) → ArePagesOf objects pages → AllCharged (bare pages) rate old now sum → AllCharged objects rate old now sum
charged-of objects pages rate old now sum are all =
    let same : (number : ℕ) → pages_of (bare pages) number ≡ pages_of objects number = λ number. bare-pages pages number ∙ are number in
    record {
      accounts = all.accounts ∙ all_charged-same (bare pages) objects rate same 1 old;
      paid_is = all.paid_is ∙ all_paid-same (bare pages) objects rate same 1 old;
      credits = all.credits;
    }

pub received : (objects : List Object) (rate : ℕ) (old now after : List AccRow) (sum : ℕ) → AllCharged objects rate old now sum → after ≡ credited now 1 sum → after ≡ credited (all_charged objects rate 1 old) 1 (all_paid objects rate 1 old)
received objects rate old now after sum all given = given ∙ ap (λ (rows : List AccRow). credited rows 1 sum) all.accounts ∙ ap (credited (all_charged objects rate 1 old) 1) all.paid_is

-- what is due for a period
pub due-few : (rate pages : ℕ) → pages ≤ 65536 → rate ≤ step_limit → rate * pages ≤ 2 ^ 36
due-few rate pages few low =
    let product = mul-le rate pages step_limit 65536 low few in
    omega arith

-- when the pages that are kept are those of before
pub kept-at : (kept now : List ℕ) (pages n : ℕ) → now ≡ kept → pages ≡ pages_at now n → pages ≡ pages_at kept n
kept-at kept now pages n same is = is ∙ ap (λ (those : List ℕ). pages_at those n) same

pub due-at : (kept now : List ℕ) (rate pages n : ℕ) → ((k : ℕ) → pages_at kept k ≤ 65536) → rate ≤ step_limit → now ≡ kept → pages ≡ pages_at now n → rate * pages ≤ 2 ^ 36
due-at kept now rate pages n few low same is =
    let at = kept-at kept now pages n same is in
    let most = few n in
    due-few rate pages (omega arith) low

-- so no debt grows by more
charged-owes : (most due : ℕ) (row : AccRow) → due ≤ 2 ^ 36 → row.owed ≤ most → (charged row due).owed ≤ most + 2 ^ 36
charged-owes most due row few owed = omega arith

all-owe : (objects : List Object) (rate most : ℕ) → ((number : ℕ) → rate * pages_of objects number ≤ 2 ^ 36) → (number : ℕ) (rows : List AccRow) → OweAtMost most rows → OweAtMost (most + 2 ^ 36) (all_charged objects rate number rows)
all-owe objects rate most few number [] owed = All-nil (λ (row : AccRow). row.owed ≤ most + 2 ^ 36)
all-owe objects rate most few number (row ∷ rows) owed =
    All-cons (λ (r : AccRow). r.owed ≤ most + 2 ^ 36) (charged row (rate * pages_of objects number)) (all_charged objects rate (number + 1) rows)
    (charged-owes most (rate * pages_of objects number) row (few number) (All-head (λ (r : AccRow). r.owed ≤ most) row rows owed))
    (all-owe objects rate most few (number + 1) rows (All-tail (λ (r : AccRow). r.owed ≤ most) row rows owed))

-- who is given credits owes what it owed
given-owe : (most number amount : ℕ) (rows : List AccRow) → OweAtMost most rows → OweAtMost most (credited rows number amount)
given-owe most number amount rows owed = at (account_of rows number) refl
  where
    at : (o : Option AccRow) → account_of rows number ≡ o → OweAtMost most (option_map_or (λ (r : AccRow). with_account rows number (record r { balance = r.balance + amount })) o rows)
    at None is = owed
    at (Some row) is =
        let found = account_of-row rows number row is in
        let some = found.some in
        let within = found.within in
        let there : (get_or rows (number - 1) row).owed ≡ row.owed = ap (λ (r : AccRow). r.owed) (found.there row) in
        let one : (get_or rows (number - 1) row).owed ≤ most = owed (number - 1) row (omega arith) in
        All-set (λ (r : AccRow). r.owed ≤ most) rows (number - 1) (record row { balance = row.balance + amount }) (omega arith) owed

pub debts-grow : (pages : List ℕ) (rate period : ℕ) (old now after : List AccRow) (sum : ℕ) → ((n : ℕ) → pages_at pages n ≤ 65536) → rate ≤ step_limit → AllCharged (bare pages) rate old now sum → after ≡ credited now 1 sum
    → OweAtMost (debt_limit period) old → OweAtMost (debt_limit (period + 1)) after
debts-grow pages rate period old now after sum few low all given owed =
    let next : debt_limit period + 2 ^ 36 ≡ debt_limit (period + 1) = omega arith in
    let due : (number : ℕ) → rate * pages_of (bare pages) number ≤ 2 ^ 36 = λ number. subst (λ p. rate * p ≤ 2 ^ 36) (sym (bare-pages pages number)) (due-few rate (pages_at pages number) (few number) low) in
    let charged_owe = all-owe (bare pages) rate (debt_limit period) due 1 old owed in
    let P : List AccRow → Type 0 = OweAtMost (debt_limit period + 2 ^ 36) in
    let at_last = subst P (sym given) (given-owe (debt_limit period + 2 ^ 36) 1 sum now (subst P (sym all.accounts) charged_owe)) in
    subst (λ most. OweAtMost most after) next at_last

-- what an account has is no more than what all have
pub balance-le : (accounts : List AccRow) (number : ℕ) (row : AccRow) → account_of accounts number ≡ Some row → row.balance ≤ credits_of accounts
balance-le accounts number row is =
    let moved = with_account-credits accounts number row (record row { balance = 0 }) (account_of-row accounts number row is) in
    omega arith

-- when all that is due could be added, the account is charged that
module _ (accounts : List AccRow) (number due : ℕ) (row : AccRow) where
  owed-all : account_of accounts number ≡ Some row → owed_by accounts number + due < 2 ^ 64 → row.owed + due < 2 ^ 64
  owed-all is few =
      let owed = ap (λ (o : Option AccRow). option_map_or (λ (r : AccRow). r.owed) o 0) is in
      omega arith

  pub charged-where : (new : AccRow) (pays : ℕ) → account_of accounts number ≡ Some row → (row.owed + due < 2 ^ 64 → ◌≡◌ {A = AccRow × ℕ} (new, pays) (charged row due, paid row due)) → owed_by accounts number + due < 2 ^ 64 → with_account accounts number new ≡ charged_at accounts number due
  charged-where new pays is all few =
      ap (λ (both : AccRow × ℕ). with_account accounts number both.0) (all (owed-all is few)) ∙ sym (ap (λ (o : Option AccRow). option_map_or (λ (r : AccRow). with_account accounts number (charged r due)) o accounts) is)

  pub paid-where : (new : AccRow) (pays : ℕ) → account_of accounts number ≡ Some row → (row.owed + due < 2 ^ 64 → ◌≡◌ {A = AccRow × ℕ} (new, pays) (charged row due, paid row due)) → owed_by accounts number + due < 2 ^ 64 → pays ≡ paid_at accounts number due
  paid-where new pays is all few = ap (λ (both : AccRow × ℕ). both.1) (all (owed-all is few)) ∙ sym (ap (λ (o : Option AccRow). option_map_or (λ (r : AccRow). paid r due) o 0) is)

-- an account that pays has as much less
pub charge-moves : (accounts : List AccRow) (number pays : ℕ) (row new : AccRow) → account_of accounts number ≡ Some row → new.balance + pays ≡ row.balance → credits_of (with_account accounts number new) + pays ≡ credits_of accounts
charge-moves accounts number pays row new is balance =
    let moved = with_account-credits accounts number row new (account_of-row accounts number row is) in
    omega arith

pub give-moves : (accounts : List AccRow) (number amount : ℕ) (row : AccRow) → account_of accounts number ≡ Some row → credits_of (with_account accounts number (record row { balance = row.balance + amount })) ≡ credits_of accounts + amount
give-moves accounts number amount row is =
    let moved = with_account-credits accounts number row (record row { balance = row.balance + amount }) (account_of-row accounts number row is) in
    omega arith
