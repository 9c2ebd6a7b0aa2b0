-- A state as text: a line for each thing in it, in a fixed order.
use Rattle.std.specs.{Fmt.decimal, Prelude.{ℕ, ◌+◌, ◌/◌, ◌%◌, ◌==◌, List, [], ◌∷◌, ◌++◌, codes, filter, flat_map}}
use Rattle.std.specs.Prelude.{if◌then◌else◌, map, None, Option, Some, sum_by}
use Rattle.mg_model.specs.{Print.{hex_digits, hex_text, spaced}, Rights.{has_right, letters}, Settings.Settings}
use Rattle.mg_model.specs.State.{CallFrame, Counters, Object, ObjectRow, State, Thread, ThreadRow, state_row}
use Rattle.mg_model.specs.declared.{accounts.AccRow.AccRow, limits.TheConstants.NEVER as never, rights.Right.Right}
use Rattle.mg_model.specs.declared.slots.{Pw.Pw, Slot.Slot}

-- a line: its first word, the others, each behind a space, and a newline
abbrev pub line : List ℕ → List (List ℕ) → List ℕ
line head words = head ++ spaced words ++ 10 ∷ []

-- the letters of a set of rights, out of RWXDPO in this order
abbrev pub rights_text : ℕ → List ℕ
rights_text rights = map (λ (l : ℕ × Right). l.0) (filter (λ (l : ℕ × Right). has_right rights l.1) letters)

-- the first period at which a password is current no more
abbrev pub until_text : ℕ → List ℕ
until_text until = if until == never then codes "never" else decimal until

-- What the volume was made with, and its counters

-- a step of the tariff, as `format` reads it
abbrev pub step_text : ℕ × ℕ → List ℕ
step_text step = decimal step.0 ++ 58 ∷ decimal step.1

abbrev pub seed_text : List ℕ → List ℕ
seed_text seed = flat_map (λ byte. hex_digits 2 byte) seed

-- the settings before the tariff
abbrev pub made_text : Settings → List ℕ
made_text settings =
    line (codes "frames") (decimal settings.frames ∷ [])
    ++ line (codes "seed") (seed_text settings.seed ∷ [])
    ++ line (codes "credits") (decimal settings.credits ∷ [])

abbrev pub settings_text : Settings → List ℕ
settings_text settings = made_text settings ++ line (codes "tariff") (map step_text settings.tariff)

abbrev pub counters_text : Counters → List ℕ
counters_text counters =
    line (codes "draws") (decimal counters.draws ∷ [])
    ++ line (codes "period") (decimal counters.period ∷ [])
    ++ line (codes "cursor") (decimal counters.cursor ∷ [])
    ++ line (codes "births") (decimal counters.births ∷ [])

-- Accounts

-- for how many pages an account pays
abbrev pub pages_paid : List ObjectRow → ℕ → ℕ
pages_paid rows n = sum_by (λ (row : ObjectRow). row.pages) (filter (λ (row : ObjectRow). row.account == n) rows)

abbrev pub account_text : ℕ → AccRow → ℕ → List ℕ
account_text n row pages =
    line (codes "account") (decimal n ∷ hex_text row.password ∷ decimal row.balance ∷ decimal row.owed ∷ decimal pages ∷ [])

-- the accounts from number n on, each with the pages that its number pays for
abbrev pub accounts_text : (ℕ → ℕ) → ℕ → List AccRow → List ℕ
accounts_text paid n [] = []
accounts_text paid n (row ∷ more) = account_text n row (paid n) ++ accounts_text paid (n + 1) more

-- Objects, each with its passwords, entries and extension

abbrev pub password_text : Pw → List ℕ
password_text pw = line (codes "password") (hex_text pw.password ∷ rights_text pw.rights ∷ until_text pw.until ∷ [])

abbrev pub entry_text : ℕ → List ℕ
entry_text address = line (codes "entry") (hex_text address ∷ [])

abbrev pub slot_text : List ℕ → Slot → List ℕ
slot_text head slot = line head (hex_text slot.base ∷ hex_text slot.password ∷ [])

abbrev pub extension_text : Option Slot → List ℕ
extension_text None = []
extension_text (Some slot) = slot_text (codes "extension") slot

abbrev pub object_line : ObjectRow → List ℕ
object_line row = line (codes "object") (hex_text row.base ∷ decimal row.pages ∷ decimal row.account ∷ [])

abbrev pub object_text : ObjectRow → List ℕ
object_text row = object_line row ++ flat_map password_text row.passwords ++ flat_map entry_text row.entries ++ extension_text row.extension

-- Threads, each with its frames and their slots

abbrev pub frame_text : CallFrame → List ℕ
frame_text frame = line (codes "frame") (hex_text frame.back ∷ []) ++ flat_map (slot_text (codes "slot")) frame.slots

-- the line of a thread up to its registers, and the rest of that line
abbrev pub thread_head : ℕ → ThreadRow → List ℕ
thread_head number row =
    codes "thread"
    ++ spaced (decimal number ∷ decimal row.birth ∷ decimal row.creator ∷ hex_text row.pc ∷ (state_row row.state).1 ∷ [])

abbrev pub registers_text : List ℕ → List ℕ
registers_text regs = spaced (map hex_text regs) ++ 10 ∷ []

abbrev pub thread_text : Thread → List ℕ
thread_text thread = thread_head thread.number thread.row ++ registers_text thread.row.regs ++ flat_map frame_text thread.row.frames

-- Words that are not 0

-- the words from an address on
abbrev pub words_text : ℕ → List ℕ → List ℕ
words_text address [] = []
words_text address (word ∷ words) =
    (if word == 0 then [] else line (codes "word") (hex_text address ∷ hex_text word ∷ []))
    ++ words_text (address + 8) words

-- All of it

abbrev pub rows_in : State → List ObjectRow
rows_in state = map (λ (object : Object). object.row) state.objects

abbrev pub state_text : State → List ℕ
state_text state =
    settings_text state.settings
    ++ counters_text state.counters
    ++ accounts_text (pages_paid (rows_in state)) 1 state.accounts
    ++ flat_map (λ (object : Object). object_text object.row) state.objects
    ++ flat_map thread_text state.threads
    ++ flat_map (λ (object : Object). words_text object.row.base object.words) state.objects
