-- How replies add up, and that each is one line.
use Rattle.mg_model.specs.{Print.{after_text, answered, hex_digit, hex_digits, hex_text, ok_text, reply_line, reply_text, spaced}, Words.is_newline}
use Rattle.mg_model.specs.declared.{replies.{Refusal.Refusal, Reply.Reply}, threads.After.{After, TheVariants.{Ended, Faulted, Ready, Stopped}}}
use Rattle.std.{proofs.{Common.{refl, ap, ◌∙◌, arith}, lemmas.{Grind.common_steps, List.Sums.sum_by-append}}, specs.Fmt.{decimal, digit_glyph}}
use Rattle.std.specs.{Fmt.{digits, digits_onto}, Prelude.{ℕ, zero, suc, ◌+◌, ◌≡◌, ◌==◌, ◌/◌, ◌%◌, Bool, true, false, List, [], ◌∷◌, ◌++◌}}
use Rattle.std.specs.Prelude.{if◌then◌else◌, cond, map, take}
use Rattle.mg_model.specs.declared.replies.Refusal.TheVariants as refusal
use Rattle.mg_model.specs.declared.replies.Reply.TheVariants as reply
use Rattle.mg_model.specs.declared.threads.Fault.TheVariants as fault

pub answered-append : (xs ys : List ℕ) → answered (xs ++ ys) ≡ answered xs + answered ys
answered-append xs ys = sum_by-append (λ x. cond (is_newline x) 1 0) xs ys

hex_digit_no_newline : (d : ℕ) → is_newline (hex_digit d) ≡ false
hex_digit_no_newline d = grind (arith, common_steps)

hex_digits_no_newline : (n w : ℕ) → answered (hex_digits n w) ≡ 0
hex_digits_no_newline zero w = refl
hex_digits_no_newline (suc n) w = grind (arith, (hex_digits_no_newline n (w / 16)), answered-append, hex_digit_no_newline)

pub hex_text_no_newline : (w : ℕ) → answered (hex_text w) ≡ 0
unfolding hex_text
hex_text_no_newline w = hex_digits_no_newline 16 w

glyph_no_newline : (d : ℕ) → is_newline (digit_glyph false d) ≡ false
glyph_no_newline d = grind (arith, common_steps)

digits_no_newline : (k n : ℕ) (tail : List ℕ) → answered tail ≡ 0 → answered (digits_onto k 10 false n tail) ≡ 0
digits_no_newline zero n tail none = none
digits_no_newline (suc k) n tail none =
    let alone : answered (digit_glyph false (n % 10) ∷ []) ≡ 0 = ap (λ v. 0 + cond v 1 0) (glyph_no_newline (n % 10)) in
    let one : answered (digit_glyph false (n % 10) ∷ tail) ≡ 0 = omega (arith, answered-append (digit_glyph false (n % 10) ∷ []) tail) in
    by_test (n / 10 == 0) one (digits_no_newline k (n / 10) (digit_glyph false (n % 10) ∷ tail) one)
  where
    by_test : (v : Bool) → answered (digit_glyph false (n % 10) ∷ tail) ≡ 0 → answered (digits_onto k 10 false (n / 10) (digit_glyph false (n % 10) ∷ tail)) ≡ 0
        → answered (if v then digit_glyph false (n % 10) ∷ tail else digits_onto k 10 false (n / 10) (digit_glyph false (n % 10) ∷ tail)) ≡ 0
    by_test true one more = one
    by_test false one more = more

pub decimal_no_newline : (n : ℕ) → answered (decimal n) ≡ 0
unfolding digits
decimal_no_newline n = digits_no_newline 64 n [] refl

-- texts without a newline
abbrev Quiet : List (List ℕ) → Type 0
Quiet [] = Unit {0}
Quiet (one ∷ texts) = (answered one ≡ 0) × Quiet texts

spaced_quiet : (texts : List (List ℕ)) → Quiet texts → answered (spaced texts) ≡ 0
spaced_quiet [] q = refl
spaced_quiet (one ∷ texts) q = grind (arith, (spaced_quiet texts q.1), answered-append)

ok_quiet : (texts : List (List ℕ)) → Quiet texts → answered (ok_text texts) ≡ 0
ok_quiet texts q = spaced_quiet texts q

hexes_quiet : (ws : List ℕ) → Quiet (map hex_text ws)
hexes_quiet [] = tt
hexes_quiet (w ∷ ws) = (hex_text_no_newline w, hexes_quiet ws)

after_quiet : (left : After) → answered (after_text left) ≡ 0
after_quiet Ready = refl
after_quiet Stopped = refl
after_quiet (Faulted fault.Align) = refl
after_quiet (Faulted fault.Denied) = refl
after_quiet (Faulted fault.Opcode) = refl
after_quiet Ended = refl

refusal_quiet : (word : Refusal) → answered (reply_text (reply.No word)) ≡ 0
refusal_quiet refusal.Syntax = refl
refusal_quiet refusal.NoThread = refl
refusal_quiet refusal.Align = refl
refusal_quiet refusal.Denied = refl
refusal_quiet refusal.Size = refl
refusal_quiet refusal.Account = refl
refusal_quiet refusal.Debt = refl
refusal_quiet refusal.Limit = refl
refusal_quiet refusal.Full = refl
refusal_quiet refusal.NoPassword = refl
refusal_quiet refusal.Range = refl
refusal_quiet refusal.SlotFull = refl
refusal_quiet refusal.NoSlot = refl
refusal_quiet refusal.NoEntry = refl
refusal_quiet refusal.Depth = refl
refusal_quiet refusal.NoFrame = refl
refusal_quiet refusal.NotYours = refl
refusal_quiet refusal.NotReady = refl
refusal_quiet refusal.Idle = refl
refusal_quiet refusal.Credit = refl
refusal_quiet refusal.Calendar = refl
refusal_quiet refusal.Past = refl

pub reply_no_newline : (answer : Reply) → answered (reply_text answer) ≡ 0
reply_no_newline (reply.No word) = refusal_quiet word
reply_no_newline reply.Done = refl
reply_no_newline (reply.Value w) = ok_quiet (hex_text w ∷ []) (hex_text_no_newline w, tt)
reply_no_newline (reply.Count n) = ok_quiet (decimal n ∷ []) (decimal_no_newline n, tt)
reply_no_newline (reply.Made base password) = ok_quiet (hex_text base ∷ hex_text password ∷ []) (hex_text_no_newline base, (hex_text_no_newline password, tt))
reply_no_newline (reply.Opened number password) = ok_quiet (decimal number ∷ hex_text password ∷ []) (decimal_no_newline number, (hex_text_no_newline password, tt))
reply_no_newline (reply.About base pages account passwords entries extension) =
    ok_quiet (hex_text base ∷ decimal pages ∷ decimal account ∷ decimal passwords ∷ decimal entries ∷ decimal extension ∷ [])
    (hex_text_no_newline base, (decimal_no_newline pages, (decimal_no_newline account, (decimal_no_newline passwords, (decimal_no_newline entries, (decimal_no_newline extension, tt))))))
reply_no_newline (reply.Slots count bases) = ok_quiet (decimal count ∷ map hex_text (take count bases)) (decimal_no_newline count, hexes_quiet (take count bases))
reply_no_newline (reply.Turned state) = ok_quiet (after_text state ∷ []) (after_quiet state, tt)
reply_no_newline (reply.Ran number state) = ok_quiet (decimal number ∷ after_text state ∷ []) (decimal_no_newline number, (after_quiet state, tt))
reply_no_newline (reply.Funds balance owed pages) =
    ok_quiet (decimal balance ∷ decimal owed ∷ decimal pages ∷ []) (decimal_no_newline balance, (decimal_no_newline owed, (decimal_no_newline pages, tt)))
reply_no_newline (reply.Collected period rate paid) =
    ok_quiet (decimal period ∷ decimal rate ∷ decimal paid ∷ []) (decimal_no_newline period, (decimal_no_newline rate, (decimal_no_newline paid, tt)))

-- a reply is one line
pub reply_answers : (answer : Reply) → answered (reply_line answer) ≡ 1
reply_answers answer = answered-append (reply_text answer) (10 ∷ []) ∙ ap (λ v. v + 1) (reply_no_newline answer)
