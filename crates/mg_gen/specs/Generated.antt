-- The lines of a generated run: the line of a place k, from 0, in the run of a number.
use Rattle.std.specs.{Fmt.decimal, Prelude.{ℕ, ◌+◌, ◌-◌, ◌*◌, ◌/◌, ◌%◌, ◌^◌, ◌==◌, nat_lt, List, [], ◌∷◌, ◌++◌}}
use Rattle.std.specs.Prelude.{if◌then◌else◌, codes, bit_xor, replicate}
use Rattle.mg_model.specs.{Draw.password_drawn, Fresh.root_base, Print.{hex_text, spaced}, Settings.Settings}
use Rattle.mg_model.specs.Tariff.{usual_tariff}

-- The machine that the run is made for is a fresh one with these settings, among them the zero seed.
abbrev pub generated_settings : Settings
generated_settings = record { frames = 4096; seed = replicate 32 0; credits = 2 ^ 40; tariff = usual_tariff 4096 }

-- Its root object has one page. The four objects that the run makes come after it, 16 pages each: the first address of
-- object j, from 1 to 4.
abbrev pub run_object_base : ℕ → ℕ
run_object_base j = root_base + 4096 + (j - 1) * (16 * 4096)

-- The passwords are those that the zero seed draws: password 1 is the treasury's, and from 2 on they are the objects'.
unfoldable pub generated_password : ℕ → ℕ
generated_password k = password_drawn generated_settings.seed k

-- a call of a thread: its number, the call word, and then the arguments, with single spaces
abbrev pub call_text : ℕ → List ℕ → List (List ℕ) → List ℕ
call_text thread word args = decimal thread ++ spaced (word ∷ args)

-- thread 1 stores a value
abbrev pub stored : ℕ → ℕ → List ℕ
stored a value = call_text 1 (codes "store") (hex_text a ∷ hex_text value ∷ [])

-- The root object's page is the capability list of thread 1, whose first entry is the root itself: entry j names object j.
-- Base and password of each of the four are stored one after the other, m from 0 to 7.
abbrev pub entry_text : ℕ → List ℕ
entry_text m = stored (root_base + 8 * (4 + m)) (if m % 2 == 0 then run_object_base (1 + m / 2) else generated_password (2 + m / 2))

-- the exclusive or of a word and of the same word shifted to the right
abbrev pub shifted_in : ℕ → ℕ → ℕ
shifted_in shift a = bit_xor a (a / 2 ^ shift)

-- this, times a factor, as a word
abbrev pub mixed : ℕ → ℕ → ℕ → ℕ
mixed shift factor a = shifted_in shift a * factor % 2 ^ 64

-- The word x that a line is drawn from is that of the generator SplitMix64, k + 1 steps after the run's number.
unfoldable pub drawn_word : ℕ → ℕ → ℕ
drawn_word number k =
    shifted_in 31 (mixed 27 0x94d049bb133111eb (mixed 30 0xbf58476d1ce4e5b9 ((number + (k + 1) * 0x9e3779b97f4a7c15) % 2 ^ 64)))

-- the line of a kind from 0 to 15
abbrev pub kind_text : ℕ → ℕ → ℕ → ℕ → List ℕ
kind_text kind thread a value =
    if nat_lt kind 6 then call_text thread (codes "load") (hex_text a ∷ [])
    else if nat_lt kind 11 then call_text thread (codes "store") (hex_text a ∷ decimal value ∷ [])
    else if kind == 11 then call_text thread (codes "info") (hex_text a ∷ [])
    else if kind == 12 then call_text thread (codes "balance") (decimal 1 ∷ hex_text (generated_password 1) ∷ [])
    else if kind == 13 then codes "rent"
    else if kind == 14 then codes "next"
    else call_text thread (codes "pwadd") (hex_text a ∷ codes "R" ∷ [])

-- what the word x says of its line: the kind, the thread, the address and the value
abbrev pub drawn_text : ℕ → List ℕ
drawn_text x = kind_text (x / 2 ^ 5 % 16) (1 + x % 32) (run_object_base (1 + x / 2 ^ 9 % 4) + 8 * (x / 2 ^ 11 % 8192)) (x / 2 ^ 24 % 65536)

-- The first 44 lines make 31 threads more and the four objects, enter these in the list, and store the root's first word: it is the
-- first instruction of each thread.
abbrev pub prepared_text : ℕ → List ℕ
prepared_text k =
    if nat_lt k 31 then call_text 1 (codes "thread") (hex_text root_base ∷ [])
    else if nat_lt k 35 then call_text 1 (codes "create") (decimal 16 ∷ decimal 1 ∷ hex_text (generated_password 1) ∷ [])
    else if nat_lt k 43 then entry_text (k - 35)
    else stored root_base 5

-- line k of a run, without its newline
abbrev pub line_text : ℕ → ℕ → List ℕ
line_text number k = if nat_lt k 44 then prepared_text k else drawn_text (drawn_word number k)
