-- Worked sessions: refusals, and limits at their edge.
use Rattle.std.specs.Prelude.{ℕ, zero, suc, ◌+◌, List, [], ◌∷◌, ◌++◌, codes, map, replicate}
use Rattle.mg_model.specs.{Fresh.{first_thread, fresh}, State.{Object, State, Thread}}
use Rattle.mg_worked.specs.Sessions.{Session, small}

-- a fresh state with other counters
abbrev pub counted : ℕ → ℕ → State
counted draws period = record (fresh small) { counters = record { draws = draws; period = period; cursor = 0; births = 1 } }

-- a state whose root has n more passwords
abbrev pub full_root : ℕ → State
full_root n = record (fresh small) { objects = map (λ (object : Object). record object { row = record object.row { passwords = object.row.passwords ++ replicate n (record { password = 5; rights = 1; until = 1 }) } }) (fresh small).objects }

-- a state with n more accounts
abbrev pub more_accounts : ℕ → State
more_accounts n = record (fresh small) { accounts = (fresh small).accounts ++ replicate n (record { password = 0; balance = 0; owed = 0 }) }

-- a state with n more threads, all with the row of the first
abbrev pub numbered : ℕ → ℕ → List Thread
numbered first zero = []
numbered first (suc n) = record { number = first; row = (first_thread 0).row } ∷ numbered (first + 1) n

abbrev pub many_threads : ℕ → State
many_threads n = record (fresh small) { threads = (fresh small).threads ++ numbered 2 n }

-- each refusal leaves the state as it was, so these lines can follow one another
abbrev pub refusals : Session
refusals =
    (codes "1 create 0 1 0x28bd8653e56a5d40", codes "no Size")
    ∷ (codes "1 create 1025 1 0x28bd8653e56a5d40", codes "no Size")
    ∷ (codes "1 create 1 1 0", codes "no Account")
    ∷ (codes "1 pwdel 0x0000000100000000 5", codes "no NoPassword")
    ∷ (codes "1 entry 0x0000000100000000 4096", codes "no Range")
    ∷ (codes "1 entry 0x0000000100000000 4", codes "no Range")
    ∷ (codes "1 apddel 1", codes "no NoSlot")
    ∷ (codes "1 pdx 0x0000000100000000 1", codes "no NoEntry")
    ∷ (codes "1 end 1", codes "no NotYours")
    ∷ (codes "1 end 7", codes "no NoThread")
    ∷ (codes "7 ret", codes "no NoThread")
    ∷ (codes "1 turn", codes "no NotReady")
    ∷ (codes "next", codes "no Idle")
    ∷ (codes "1 account 1 0x28bd8653e56a5d40 1001", codes "no Credit")
    ∷ (codes "1 pay 1 0x28bd8653e56a5d40 2 1", codes "no Account")
    ∷ (codes "1 rent", codes "no Syntax")
    ∷ (codes "1 create 64 1 0x28bd8653e56a5d40", codes "no Full")
    ∷ (codes "1 next", codes "no Syntax")
    ∷ (codes "next 5", codes "no Syntax")
    ∷ (codes "1 info 0x0000000100000000", codes "ok 0x0000000100000000 1 1 1 0 0")
    ∷ (codes "rent", codes "ok 1 1 1")
    ∷ []

-- no period comes after the last
abbrev pub last_period : Session
last_period =
    (codes "rent", codes "ok 16777215 1 1")
    ∷ (codes "rent", codes "no Calendar")
    ∷ []

-- no password comes after the last
abbrev pub last_password : Session
last_password =
    (codes "1 pwadd 0x0000000100000000 R", codes "ok 0x238c84e8061ed4c7")
    ∷ (codes "1 pwadd 0x0000000100000000 R", codes "no Limit")
    ∷ []

-- 32 password rows and no more
abbrev pub thirty_two_passwords : Session
thirty_two_passwords =
    (codes "1 pwadd 0x0000000100000000 R", codes "ok 0x1aed8da0b819d2bd")
    ∷ (codes "1 pwadd 0x0000000100000000 R", codes "no Limit")
    ∷ []

-- 1024 accounts and no more
abbrev pub many_accounts : Session
many_accounts =
    (codes "1 account 1 0x28bd8653e56a5d40 0", codes "ok 1024 0x1aed8da0b819d2bd")
    ∷ (codes "1 account 1 0x28bd8653e56a5d40 0", codes "no Limit")
    ∷ []

-- 256 threads and no more
abbrev pub many_threads_live : Session
many_threads_live =
    (codes "1 thread 0x0000000100000000", codes "ok 256")
    ∷ (codes "1 thread 0x0000000100000000", codes "no Limit")
    ∷ []
