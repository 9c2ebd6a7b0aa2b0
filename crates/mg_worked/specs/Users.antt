-- Worked sessions: what a user does with documents, code and accounts.
use Rattle.std.specs.Prelude.{[], ◌∷◌, ◌++◌, codes}
use Rattle.mg_worked.specs.Sessions.{Session, stores}

-- A user's document, and code that reads it and that other threads enter. The reader and the sender run under the user's
-- list alone, which reads the document, and runs and enters the code object. The mailbox writes the document by its
-- extension, for the length of the call.
abbrev pub documents_and_mailbox : Session
documents_and_mailbox =
    ((codes "1 account 1 0x28bd8653e56a5d40 200", codes "ok 2 0x1aed8da0b819d2bd")
    ∷ (codes "1 create 1 2 0x1aed8da0b819d2bd", codes "ok 0x0000000100001000 0xc70d778bccef36a8")
    ∷ (codes "1 store 0x100000020 0x100001000", codes "ok")
    ∷ (codes "1 store 0x100000028 0xc70d778bccef36a8", codes "ok")
    ∷ (codes "1 store 0x100000000 2", codes "ok")
    ∷ (codes "1 create 4 2 0x1aed8da0b819d2bd", codes "ok 0x0000000100002000 0x8d4857517c5941da")
    ∷ (codes "1 store 0x100000030 0x100002000", codes "ok")
    ∷ (codes "1 store 0x100000038 0x8d4857517c5941da", codes "ok")
    ∷ (codes "1 store 0x100000000 3", codes "ok")
    ∷ (codes "1 store 0x100002000 42", codes "ok")
    ∷ (codes "1 pwadd 0x100002000 R", codes "ok 0x374ad8b83fe02477")
    ∷ (codes "1 create 1 2 0x1aed8da0b819d2bd", codes "ok 0x0000000100006000 0x1ca11815f4b8436a")
    ∷ (codes "1 store 0x100000040 0x100006000", codes "ok")
    ∷ (codes "1 store 0x100000048 0x1ca11815f4b8436a", codes "ok")
    ∷ (codes "1 store 0x100000000 4", codes "ok")
    ∷ (codes "1 pwadd 0x100006000 XP", codes "ok 0x8665eeb269b687c3")
    ∷ (codes "1 store 0x100001010 0x100002000", codes "ok")
    ∷ (codes "1 store 0x100001018 0x374ad8b83fe02477", codes "ok")
    ∷ (codes "1 store 0x100001020 0x100006000", codes "ok")
    ∷ (codes "1 store 0x100001028 0x8665eeb269b687c3", codes "ok")
    ∷ (codes "1 store 0x100001000 2", codes "ok")
    ∷ [])
    ++ stores 0x100006000 (
    -- the reader
    0x200000000101 ∷ 0x100000102 ∷ 0x10206 ∷ 0x0 ∷
    [])
    ++ stores 0x100006100 (
    -- the mailbox
    0x200800000101 ∷ 0x100000102 ∷ 0x700000201 ∷ 0x10207 ∷ 0xc ∷
    [])
    ++ stores 0x100006200 (
    -- the sender
    0x610000000301 ∷ 0x100000302 ∷ 0x4030b ∷ 0x0 ∷
    [])
    ++ (codes "1 entry 0x100006000 0x100", codes "ok 0x0000000100006100")
    ∷ (codes "1 ext 0x100006000 0x100000000 0x903df1a0ade0b876", codes "ok")
    ∷ (codes "1 apdadd 0x100001000 0xc70d778bccef36a8", codes "ok 1")
    ∷ (codes "1 apddel 0", codes "ok")
    ∷ (codes "1 thread 0x100006000", codes "ok 2")
    ∷ (codes "1 thread 0x100006200", codes "ok 3")
    ∷ (codes "1 apdadd 0x100000000 0x903df1a0ade0b876", codes "ok 1")
    ∷ (codes "1 apddel 0", codes "ok")
    ∷ (codes "next", codes "ok 2 Ready")
    ∷ (codes "next", codes "ok 3 Ready")
    ∷ (codes "next", codes "ok 2 Ready")
    ∷ (codes "next", codes "ok 3 Ready")
    ∷ (codes "next", codes "ok 2 Ready")
    ∷ (codes "next", codes "ok 3 Ready")
    ∷ (codes "next", codes "ok 2 Stopped")
    ∷ (codes "next", codes "ok 3 Ready")
    ∷ (codes "next", codes "ok 3 Ready")
    ∷ (codes "next", codes "ok 3 Ready")
    ∷ (codes "next", codes "ok 3 Ready")
    ∷ (codes "next", codes "ok 3 Ready")
    ∷ (codes "next", codes "ok 3 Stopped")
    ∷ (codes "1 load 0x100002008", codes "ok 0x0000000000000007")
    ∷ (codes "rent", codes "ok 1 1 7")
    ∷ (codes "rent", codes "ok 2 1 7")
    ∷ (codes "rent", codes "ok 3 1 7")
    ∷ (codes "rent", codes "ok 4 1 7")
    ∷ (codes "rent", codes "ok 5 1 7")
    ∷ (codes "1 balance 2 0x1aed8da0b819d2bd", codes "ok 170 0 6")
    ∷ (codes "1 balance 1 0x28bd8653e56a5d40", codes "ok 830 0 1")
    ∷ []
