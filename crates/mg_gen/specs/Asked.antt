-- The calls that the lines of a generated run make, and the numbers that they are drawn from.
use Rattle.std.specs.Prelude.{◌≡◌, ℕ, ◌+◌, ◌-◌, ◌*◌, ◌/◌, ◌%◌, ◌^◌, ◌==◌, nat_lt, [], ◌∷◌, if◌then◌else◌, Some, None}
use Rattle.std.specs.Prelude.{map}
use Rattle.mg_gen.specs.Generated.{drawn_word, line_text, run_object_base, generated_password}
use Rattle.mg_model.specs.{Fresh.root_base, Lines.line_of, declared.calls.{Call.Call, Line.Line}}
use Rattle.mg_model.specs.declared.calls.Call.TheVariants as call

-- what the word x says of its line: the kind, the thread, the address and the value
abbrev pub kind_of : ℕ → ℕ
kind_of x = x / 2 ^ 5 % 16

abbrev pub thread_of : ℕ → ℕ
thread_of x = 1 + x % 32

abbrev pub address_of : ℕ → ℕ
address_of x = run_object_base (1 + x / 2 ^ 9 % 4) + 8 * (x / 2 ^ 11 % 8192)

abbrev pub value_of : ℕ → ℕ
value_of x = x / 2 ^ 24 % 65536

-- the generator's state after k + 1 steps
abbrev pub generator_state : ℕ → ℕ → ℕ
generator_state number k = (number + (k + 1) * 0x9e3779b97f4a7c15) % 2 ^ 64

-- what is stored at place m of the entries
abbrev pub entry_value : ℕ → ℕ
entry_value m = if m % 2 == 0 then run_object_base (1 + m / 2) else generated_password (2 + m / 2)

-- the passwords, as numbers
abbrev pub password_number : ℕ → ℕ
password_number k =
    if k == 1 then 0x28bd8653e56a5d40
    else if k == 2 then 0x1aed8da0b819d2bd
    else if k == 3 then 0xc70d778bccef36a8
    else if k == 4 then 0x8d4857517c5941da
    else 0x374ad8b83fe02477

abbrev pub asked : ℕ → Call → Line
asked thread made = record { thread = thread; call = made }

abbrev pub kind_line : ℕ → ℕ → ℕ → ℕ → Line
kind_line kind thread a value =
    if nat_lt kind 6 then asked thread (call.Load a)
    else if nat_lt kind 11 then asked thread (call.Store a value)
    else if kind == 11 then asked thread (call.Info a)
    else if kind == 12 then asked thread (call.Balance 1 (generated_password 1))
    else if kind == 13 then asked 0 call.Rent
    else if kind == 14 then asked 0 call.Next
    else asked thread (call.Pwadd a 1 None)

abbrev pub prepared_line : ℕ → Line
prepared_line k =
    if nat_lt k 31 then asked 1 (call.Thread root_base)
    else if nat_lt k 35 then asked 1 (call.Create 16 1 (generated_password 1))
    else if nat_lt k 43 then asked 1 (call.Store (root_base + 8 * (4 + (k - 35))) (entry_value (k - 35)))
    else asked 1 (call.Store root_base 5)

abbrev pub drawn_line : ℕ → Line
drawn_line x = kind_line (kind_of x) (thread_of x) (address_of x) (value_of x)

-- the call that line k makes, and its thread
abbrev pub line_asked : ℕ → ℕ → Line
line_asked number k = if nat_lt k 44 then prepared_line k else drawn_line (drawn_word number k)

-- every line spells the call that is named for it, and so is answered; none is Bad
abbrev pub LinesAreCalls : Type 0
LinesAreCalls = (number k : ℕ) → line_of (line_text number k) ≡ Some (line_asked number k)

-- the passwords that the seed draws are these numbers
abbrev pub PasswordsAreDrawn : Type 0
PasswordsAreDrawn = map password_number (1 ∷ 2 ∷ 3 ∷ 4 ∷ 5 ∷ []) ≡ map generated_password (1 ∷ 2 ∷ 3 ∷ 4 ∷ 5 ∷ [])
