-- Each kind of line spells its call.
use Rattle.mg_gen.proofs.{Numbers.{IsWord, decimal-word, hex-word}, Passwords.password-fits, Spelled.{Spells, call-spells}}
use Rattle.mg_gen.specs.Asked.{LinesAreCalls, address_of, asked, drawn_line, entry_value, kind_line, kind_of, line_asked, prepared_line, thread_of}
use Rattle.mg_gen.specs.{Asked.value_of, Generated.{call_text, drawn_text, drawn_word, entry_text, kind_text, line_text, prepared_text}}
use Rattle.{mg_gen.specs.Generated.{run_object_base, generated_password, stored}, mg_model.specs.{Fresh.root_base, Lines.{exactly, line_with}}}
use Rattle.mg_model.specs.{Lines.pwadd_of, Print.hex_text, Words.{and_then, is_some_word, number_of, numbers_of, rights_of}, declared.calls.Line.Line}
use Rattle.{mg_text.specs.NumberLemmas.{High, number_of-back, number_of-hex}, std.proofs.Common.{◌≡◌, ℕ, ◌+◌, ◌-◌, ◌*◌, ◌/◌, ◌%◌, ◌^◌, ◌<◌, ◌==◌}}
use Rattle.std.proofs.Common.{◌&&◌, nat_le, nat_lt, Bool, true, false, List, [], ◌∷◌, length, Some, None, if◌then◌else◌, codes, slice_index, refl, ap}
use Rattle.std.{proofs.{Common.{◌∙◌, arith}, lemmas.Bool.{and_parts, leb-true, ltb-true}}, specs.{Fmt.decimal, Option.option_map_or}}
use Rattle.mg_model.specs.declared.calls.Call.TheVariants as call

-- call words
abbrev all_high : List ℕ → Bool
all_high [] = true
all_high (b ∷ bytes) = nat_le 45 b && all_high bytes

high_by : (xs : List ℕ) → all_high xs ≡ true → High xs
high_by [] e = tt
high_by (b ∷ xs) e = let p = and_parts (nat_le 45 b) (all_high xs) e in (let low = leb-true 45 b p.0 in omega (arith, low), high_by xs p.1)

letters : (xs : List ℕ) → is_some_word xs ≡ true → all_high xs ≡ true → nat_le (length xs) 20 ≡ true → IsWord xs
letters xs some high few = record { some = some; high = high_by xs high; few = leb-true (length xs) 20 few }

-- the numbers of arguments
numbers-cons : (word : List ℕ) (more : List (List ℕ)) (n : ℕ) (ns : List ℕ) → number_of word ≡ Some n → numbers_of more ≡ Some ns → numbers_of (word ∷ more) ≡ Some (n ∷ ns)
numbers-cons word more n ns e f =
    ap (λ o. and_then o (λ m. and_then (numbers_of more) (λ ms. Some (m ∷ ms)))) e ∙ ap (λ o. and_then o (λ ms. Some (n ∷ ms))) f

numbers-one : (a : ℕ) → a < 2 ^ 64 → numbers_of (hex_text a ∷ []) ≡ Some (a ∷ [])
numbers-one a fits = numbers-cons (hex_text a) [] a [] (number_of-hex a fits) refl

load-spells : (t a : ℕ) → t < 2 ^ 64 → a < 2 ^ 64 → Spells (call_text t (codes "load") (hex_text a ∷ [])) (asked t (call.Load a))
load-spells t a ft fa =
    call-spells t (codes "load") (hex_text a ∷ []) (asked t (call.Load a)) ft (letters (codes "load") refl refl refl) (hex-word a, tt) (omega arith) refl
    (ap (λ o. line_with t (option_map_or (λ numbers. call.Load (slice_index numbers 0)) (exactly 1 o) call.Bad)) (numbers-one a fa))

info-spells : (t a : ℕ) → t < 2 ^ 64 → a < 2 ^ 64 → Spells (call_text t (codes "info") (hex_text a ∷ [])) (asked t (call.Info a))
info-spells t a ft fa =
    call-spells t (codes "info") (hex_text a ∷ []) (asked t (call.Info a)) ft (letters (codes "info") refl refl refl) (hex-word a, tt) (omega arith) refl
    (ap (λ o. line_with t (option_map_or (λ numbers. call.Info (slice_index numbers 0)) (exactly 1 o) call.Bad)) (numbers-one a fa))

thread-spells : (t a : ℕ) → t < 2 ^ 64 → a < 2 ^ 64 → Spells (call_text t (codes "thread") (hex_text a ∷ [])) (asked t (call.Thread a))
thread-spells t a ft fa =
    call-spells t (codes "thread") (hex_text a ∷ []) (asked t (call.Thread a)) ft (letters (codes "thread") refl refl refl) (hex-word a, tt) (omega arith) refl
    (ap (λ o. line_with t (option_map_or (λ numbers. call.Thread (slice_index numbers 0)) (exactly 1 o) call.Bad)) (numbers-one a fa))

-- the value in either form
store-spells : (t a v : ℕ) (value : List ℕ) → t < 2 ^ 64 → a < 2 ^ 64 → IsWord value → number_of value ≡ Some v
    → Spells (call_text t (codes "store") (hex_text a ∷ value ∷ [])) (asked t (call.Store a v))
store-spells t a v value ft fa is read =
    call-spells t (codes "store") (hex_text a ∷ value ∷ []) (asked t (call.Store a v)) ft (letters (codes "store") refl refl refl) (hex-word a, (is, tt)) (omega arith) refl
    (ap (λ o. line_with t (option_map_or (λ numbers. call.Store (slice_index numbers 0) (slice_index numbers 1)) (exactly 2 o) call.Bad)) (numbers-cons (hex_text a) (value ∷ []) a (v ∷ []) (number_of-hex a fa) (numbers-cons value [] v [] read refl)))

balance-spells : (t n a : ℕ) → t < 2 ^ 64 → n < 2 ^ 64 → a < 2 ^ 64 → Spells (call_text t (codes "balance") (decimal n ∷ hex_text a ∷ [])) (asked t (call.Balance n a))
balance-spells t n a ft fn fa =
    call-spells t (codes "balance") (decimal n ∷ hex_text a ∷ []) (asked t (call.Balance n a)) ft (letters (codes "balance") refl refl refl) (decimal-word n fn, (hex-word a, tt)) (omega arith) refl
    (ap (λ o. line_with t (option_map_or (λ numbers. call.Balance (slice_index numbers 0) (slice_index numbers 1)) (exactly 2 o) call.Bad)) (numbers-cons (decimal n) (hex_text a ∷ []) n (a ∷ []) (number_of-back n fn) (numbers-one a fa)))

create-spells : (t pages n a : ℕ) → t < 2 ^ 64 → pages < 2 ^ 64 → n < 2 ^ 64 → a < 2 ^ 64
    → Spells (call_text t (codes "create") (decimal pages ∷ decimal n ∷ hex_text a ∷ [])) (asked t (call.Create pages n a))
create-spells t pages n a ft fp fn fa =
    call-spells t (codes "create") (decimal pages ∷ decimal n ∷ hex_text a ∷ []) (asked t (call.Create pages n a)) ft (letters (codes "create") refl refl refl)
    (decimal-word pages fp, (decimal-word n fn, (hex-word a, tt))) (omega arith) refl
    (ap (λ o. line_with t (option_map_or (λ numbers. call.Create (slice_index numbers 0) (slice_index numbers 1) (slice_index numbers 2)) (exactly 3 o) call.Bad))
    (numbers-cons (decimal pages) (decimal n ∷ hex_text a ∷ []) pages (n ∷ a ∷ []) (number_of-back pages fp)
    (numbers-cons (decimal n) (hex_text a ∷ []) n (a ∷ []) (number_of-back n fn) (numbers-one a fa))))

pwadd-spells : (t a : ℕ) → t < 2 ^ 64 → a < 2 ^ 64 → Spells (call_text t (codes "pwadd") (hex_text a ∷ codes "R" ∷ [])) (asked t (call.Pwadd a 1 None))
pwadd-spells t a ft fa =
    call-spells t (codes "pwadd") (hex_text a ∷ codes "R" ∷ []) (asked t (call.Pwadd a 1 None)) ft (letters (codes "pwadd") refl refl refl)
    (hex-word a, (letters (codes "R") refl refl refl, tt)) (omega arith) refl
    (ap (λ o. line_with t (pwadd_of o (rights_of (codes "R")) (Some None))) (number_of-hex a fa))

treasury-fits : generated_password 1 < 2 ^ 64
treasury-fits = password-fits 1 (omega arith) (omega arith)

-- by a test of the table
by_test : (b : Bool) (x y : List ℕ) (p q : Line) → (b ≡ true → Spells x p) → (b ≡ false → Spells y q) → Spells (if b then x else y) (if b then p else q)
by_test true x y p q holds fails = holds refl
by_test false x y p q holds fails = fails refl

kind-spells : (kind t a v : ℕ) → t < 2 ^ 64 → a < 2 ^ 64 → v < 2 ^ 64 → Spells (kind_text kind t a v) (kind_line kind t a v)
kind-spells kind t a v ft fa fv =
    by_test (nat_lt kind 6) _ _ _ _ (λ _. load-spells t a ft fa) (λ _.
    by_test (nat_lt kind 11) _ _ _ _ (λ _. store-spells t a v (decimal v) ft fa (decimal-word v fv) (number_of-back v fv)) (λ _.
    by_test (kind == 11) _ _ _ _ (λ _. info-spells t a ft fa) (λ _.
    by_test (kind == 12) _ _ _ _ (λ _. balance-spells t 1 (generated_password 1) ft (omega arith) treasury-fits) (λ _.
    by_test (kind == 13) _ _ _ _ (λ _. record { is = refl }) (λ _.
    by_test (kind == 14) _ _ _ _ (λ _. record { is = refl }) (λ _.
    pwadd-spells t a ft fa))))))

drawn-spells : (x : ℕ) → Spells (drawn_text x) (drawn_line x)
drawn-spells x = kind-spells (kind_of x) (thread_of x) (address_of x) (value_of x) (omega arith) (omega arith) (omega arith)

stored-spells : (a v : ℕ) → a < 2 ^ 64 → v < 2 ^ 64 → Spells (stored a v) (asked 1 (call.Store a v))
stored-spells a v fa fv = store-spells 1 a v (hex_text v) (omega arith) fa (hex-word v) (number_of-hex v fv)

value-by : (b : Bool) (x y : ℕ) → (b ≡ true → x < 2 ^ 64) → (b ≡ false → y < 2 ^ 64) → (if b then x else y) < 2 ^ 64
value-by true x y holds fails = holds refl
value-by false x y holds fails = fails refl

value-fits : (m : ℕ) → m < 8 → entry_value m < 2 ^ 64
value-fits m few = value-by (m % 2 == 0) (run_object_base (1 + m / 2)) (generated_password (2 + m / 2)) (λ _. omega (arith, few)) (λ _. password-fits (2 + m / 2) (omega arith) (omega (arith, few)))

entry-spells : (m : ℕ) → m < 8 → Spells (entry_text m) (asked 1 (call.Store (root_base + 8 * (4 + m)) (entry_value m)))
entry-spells m few = stored-spells (root_base + 8 * (4 + m)) (entry_value m) (omega (arith, few)) (value-fits m few)

prepared-spells : (k : ℕ) → Spells (prepared_text k) (prepared_line k)
prepared-spells k =
    by_test (nat_lt k 31) _ _ _ _ (λ _. thread-spells 1 root_base (omega arith) (omega arith)) (λ _.
    by_test (nat_lt k 35) _ _ _ _ (λ _. create-spells 1 16 1 (generated_password 1) (omega arith) (omega arith) (omega arith) treasury-fits) (λ _.
    by_test (nat_lt k 43) _ _ _ _ (λ e. entry-spells (k - 35) (let h = ltb-true k 43 e in omega (arith, h))) (λ _.
    stored-spells root_base 5 (omega arith) (omega arith))))

line-spells : (number k : ℕ) → Spells (line_text number k) (line_asked number k)
line-spells number k = by_test (nat_lt k 44) _ _ _ _ (λ _. prepared-spells k) (λ _. drawn-spells (drawn_word number k))

pub lines-are-calls : LinesAreCalls
lines-are-calls number k = (line-spells number k).is
