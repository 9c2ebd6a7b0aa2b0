-- Replies as text.
use Rattle.std.specs.{Fmt.decimal, Prelude.{ℕ, zero, suc, ◌+◌, ◌/◌, ◌%◌, nat_lt, List, [], ◌∷◌, ◌++◌, if◌then◌else◌}}
use Rattle.std.specs.Prelude.{codes, count_by, map, take, flat_map}
use Rattle.mg_model.specs.{Refused.refusal_row, State.{State, state_row}, Step.step, Words.is_newline}
use Rattle.mg_model.specs.declared.{calls.Line.Line, replies.Reply.Reply, threads.After.After}
use Rattle.mg_model.specs.declared.threads.ThrState.TheVariants.{Ready, Stopped, Faulted}
use Rattle.mg_model.specs.declared.threads.After.TheVariants as after_turn
use Rattle.mg_model.specs.declared.replies.Reply.TheVariants as reply

-- a hexadecimal digit in lower case
abbrev pub hex_digit : ℕ → ℕ
hex_digit d = if nat_lt d 10 then 48 + d else 87 + d

-- the last n hexadecimal digits of a number
abbrev pub hex_digits : ℕ → ℕ → List ℕ
hex_digits zero w = []
hex_digits (suc n) w = hex_digits n (w / 16) ++ hex_digit (w % 16) ∷ []

-- an address, a password or a word: 0x and 16 digits
unfoldable pub hex_text : ℕ → List ℕ
hex_text w = codes "0x" ++ hex_digits 16 w

-- what a thread is after its turn; a state has one text
abbrev pub after_text : After → List ℕ
after_text after_turn.Ready = (state_row Ready).1
after_text after_turn.Stopped = (state_row Stopped).1
after_text (after_turn.Faulted kind) = (state_row (Faulted kind)).1
after_text after_turn.Ended = codes "Ended"

-- each text after one space
abbrev pub spaced : List (List ℕ) → List ℕ
spaced texts = flat_map (λ bytes. 32 ∷ bytes) texts

-- ok and its values
abbrev pub ok_text : List (List ℕ) → List ℕ
ok_text values = codes "ok" ++ spaced values

-- a reply, without its newline
abbrev pub reply_text : Reply → List ℕ
reply_text (reply.No word) = codes "no " ++ (refusal_row word).1
reply_text reply.Done = ok_text []
reply_text (reply.Value w) = ok_text (hex_text w ∷ [])
reply_text (reply.Count n) = ok_text (decimal n ∷ [])
reply_text (reply.Made base password) = ok_text (hex_text base ∷ hex_text password ∷ [])
reply_text (reply.Opened number password) = ok_text (decimal number ∷ hex_text password ∷ [])
reply_text (reply.About base pages account passwords entries extension) =
    ok_text (hex_text base ∷ decimal pages ∷ decimal account ∷ decimal passwords ∷ decimal entries ∷ decimal extension ∷ [])
reply_text (reply.Slots count bases) = ok_text (decimal count ∷ map hex_text (take count bases))
reply_text (reply.Turned left) = ok_text (after_text left ∷ [])
reply_text (reply.Ran number left) = ok_text (decimal number ∷ after_text left ∷ [])
reply_text (reply.Funds balance owed pages) = ok_text (decimal balance ∷ decimal owed ∷ decimal pages ∷ [])
reply_text (reply.Collected period rate paid) = ok_text (decimal period ∷ decimal rate ∷ decimal paid ∷ [])

-- a reply as it is written: ended by a newline
abbrev pub reply_line : Reply → List ℕ
reply_line answer = reply_text answer ++ 10 ∷ []

-- the replies to these lines, a line each
abbrev pub replies_text : State → List Line → List ℕ
replies_text state [] = []
replies_text state (line ∷ more) = reply_line (step state line).1 ++ replies_text (step state line).0 more

-- how many whole replies these bytes hold: the number of newlines
abbrev pub answered : List ℕ → ℕ
answered bytes = count_by is_newline bytes
