-- What a worked session is: lines, each with the reply that it gets.
use Rattle.std.specs.Prelude.{◌≡◌, ℕ, ◌+◌, List, [], ◌∷◌, ◌++◌, codes}
use Rattle.mg_model.specs.{Lines.lines, Print.{hex_text, replies_text}, Settings.Settings, State.State}
use Rattle.{mg_model.specs.Tariff.usual_tariff, mg_worked.specs.Drawn.zero_seed}

abbrev pub Session : Type 0
Session = List (List ℕ × List ℕ)

-- the lines, each ended by a newline, and the replies
abbrev pub input : Session → List ℕ
input [] = []
input ((line, reply) ∷ more) = (line ++ 10 ∷ []) ++ input more

abbrev pub output : Session → List ℕ
output [] = []
output ((line, reply) ∷ more) = (reply ++ 10 ∷ []) ++ output more

-- from this state the lines get these replies
abbrev pub IsAnswered : State → Session → Type 0
IsAnswered state session = replies_text state (lines (input session)) ≡ output session

-- the settings of most sessions: 64 frames, the zero seed, 1000 credits and the usual tariff
abbrev pub small : Settings
small = record { frames = 64; seed = zero_seed; credits = 1000; tariff = usual_tariff 64 }

-- lines that store these words, 8 bytes apart from an address on
abbrev pub stores : ℕ → List ℕ → Session
stores address [] = []
stores address (value ∷ values) = (codes "1 store " ++ hex_text address ++ 32 ∷ hex_text value, codes "ok") ∷ stores (address + 8) values

-- an object of two pages is made, and its password is stored in the root's list
abbrev pub linked : Session
linked =
    (codes "1 create 2 1 0x28bd8653e56a5d40", codes "ok 0x0000000100001000 0x1aed8da0b819d2bd")
    ∷ (codes "1 store 0x100000020 0x100001000", codes "ok")
    ∷ (codes "1 store 0x100000028 0x1aed8da0b819d2bd", codes "ok")
    ∷ (codes "1 store 0x100000000 2", codes "ok")
    ∷ []
