-- Worked sessions: accounts, rent and passwords that end.
use Rattle.std.specs.Prelude.{[], ◌∷◌, ◌++◌, codes}
use Rattle.mg_worked.specs.Sessions.{Session, linked}

-- rent takes what the account has, and the account owes the rest
abbrev pub rent_takes_what_is_there : Session
rent_takes_what_is_there =
    (codes "1 account 1 0x28bd8653e56a5d40 10", codes "ok 2 0x1aed8da0b819d2bd")
    ∷ (codes "1 create 3 2 0x1aed8da0b819d2bd", codes "ok 0x0000000100001000 0xc70d778bccef36a8")
    ∷ (codes "rent", codes "ok 1 1 4")
    ∷ (codes "1 balance 2 0x1aed8da0b819d2bd", codes "ok 7 0 3")
    ∷ (codes "rent", codes "ok 2 1 4")
    ∷ (codes "1 balance 2 0x1aed8da0b819d2bd", codes "ok 4 0 3")
    ∷ (codes "rent", codes "ok 3 1 4")
    ∷ (codes "1 balance 2 0x1aed8da0b819d2bd", codes "ok 1 0 3")
    ∷ (codes "rent", codes "ok 4 1 2")
    ∷ (codes "1 balance 2 0x1aed8da0b819d2bd", codes "ok 0 2 3")
    ∷ (codes "1 create 1 2 0x1aed8da0b819d2bd", codes "no Debt")
    ∷ (codes "1 balance 1 0x28bd8653e56a5d40", codes "ok 1000 0 1")
    ∷ []

-- another account pays for an object; credits move and their sum stays
abbrev pub object_is_recharged : Session
object_is_recharged =
    (codes "1 create 2 1 0x28bd8653e56a5d40", codes "ok 0x0000000100001000 0x1aed8da0b819d2bd")
    ∷ (codes "1 account 1 0x28bd8653e56a5d40 10", codes "ok 2 0xc70d778bccef36a8")
    ∷ (codes "1 store 0x100000020 0x100001000", codes "ok")
    ∷ (codes "1 store 0x100000028 0x1aed8da0b819d2bd", codes "ok")
    ∷ (codes "1 store 0x100000000 2", codes "ok")
    ∷ (codes "1 recharge 0x100001000 2 0xc70d778bccef36a8", codes "ok")
    ∷ (codes "1 balance 2 0xc70d778bccef36a8", codes "ok 10 0 2")
    ∷ (codes "rent", codes "ok 1 1 3")
    ∷ (codes "1 balance 2 0xc70d778bccef36a8", codes "ok 8 0 2")
    ∷ (codes "1 balance 1 0x28bd8653e56a5d40", codes "ok 992 0 1")
    ∷ (codes "1 pay 2 0xc70d778bccef36a8 1 9", codes "no Credit")
    ∷ (codes "1 pay 2 0xc70d778bccef36a8 2 8", codes "ok")
    ∷ (codes "1 balance 2 0xc70d778bccef36a8", codes "ok 8 0 2")
    ∷ []

-- a password ends with its until, stays in the list, and is removed by hand
abbrev pub password_ends : Session
password_ends =
    linked
    ++ (codes "1 pwadd 0x100001000 R 1", codes "ok 0xc70d778bccef36a8")
    ∷ (codes "1 store 0x100000028 0xc70d778bccef36a8", codes "ok")
    ∷ (codes "1 load 0x100001000", codes "ok 0x0000000000000000")
    ∷ (codes "rent", codes "ok 1 1 3")
    ∷ (codes "1 load 0x100001000", codes "no Denied")
    ∷ (codes "1 store 0x100000028 0x1aed8da0b819d2bd", codes "ok")
    ∷ (codes "1 info 0x100001000", codes "ok 0x0000000100001000 2 1 2 0 0")
    ∷ (codes "1 pwadd 0x100001000 R 1", codes "no Past")
    ∷ (codes "1 pwadd 0x100001000 R 16777216", codes "no Past")
    ∷ (codes "1 pwdel 0x100001000 0xc70d778bccef36a8", codes "ok")
    ∷ []
