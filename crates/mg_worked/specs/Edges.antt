-- Worked sessions: rows of the table of calls at their edges.
use Rattle.std.specs.Prelude.{◌++◌, ℕ, [], ◌∷◌, codes, replicate}
use Rattle.mg_model.specs.{Draw.password_drawn, Fresh.{fresh, root_object}, State.State}
use Rattle.mg_worked.specs.{Drawn.zero_seed, Sessions.{Session, small, stores}}

-- a fresh state with this number of objects, all like the root
abbrev pub with_objects : ℕ → State
with_objects n = record (fresh small) { objects = replicate n (root_object (password_drawn zero_seed 0)) }

-- a fresh state in which this number of threads were born
abbrev pub with_births : ℕ → State
with_births n = record (fresh small) { counters = record (fresh small).counters { births = n } }

-- Slots are added last, those of a mask's bits are kept in order, and the extension comes after them: 8 slots, and no more.
abbrev pub slots_in_order : Session
slots_in_order =
    (codes "1 apdadd 1 0", codes "ok 1")
    ∷ (codes "1 apdadd 2 0", codes "ok 2")
    ∷ (codes "1 apdadd 3 0", codes "ok 3")
    ∷ (codes "1 apdadd 4 0", codes "ok 4")
    ∷ (codes "1 apdadd 5 0", codes "ok 5")
    ∷ (codes "1 apdadd 6 0", codes "ok 6")
    ∷ (codes "1 apdadd 7 0", codes "ok 7")
    ∷ (codes "1 apdlist", codes "ok 8 0x0000000100000000 0x0000000000000001 0x0000000000000002 0x0000000000000003 0x0000000000000004 0x0000000000000005 0x0000000000000006 0x0000000000000007")
    ∷ (codes "1 entry 0x100000000 0", codes "ok 0x0000000100000000")
    ∷ (codes "1 pdx 0x100000000 255", codes "ok 2")
    ∷ (codes "1 ret", codes "ok 1")
    ∷ (codes "1 ext 0x100000000 0x100000000 0x903df1a0ade0b876", codes "ok")
    ∷ (codes "1 pdx 0x100000000 255", codes "no SlotFull")
    ∷ (codes "1 pdx 0x100000000 256", codes "no Syntax")
    ∷ (codes "1 pdx 0x100000000 127", codes "ok 2")
    ∷ (codes "1 apdlist", codes "ok 8 0x0000000100000000 0x0000000000000001 0x0000000000000002 0x0000000000000003 0x0000000000000004 0x0000000000000005 0x0000000000000006 0x0000000100000000")
    ∷ (codes "1 ret", codes "ok 1")
    ∷ (codes "1 pdx 0x100000000 0x85", codes "ok 2")
    ∷ (codes "1 apdlist", codes "ok 4 0x0000000100000000 0x0000000000000002 0x0000000000000007 0x0000000100000000")
    ∷ (codes "1 ret", codes "ok 1")
    ∷ (codes "1 apddel 3", codes "ok")
    ∷ (codes "1 apddel 0", codes "ok")
    ∷ (codes "1 apdlist", codes "ok 6 0x0000000000000001 0x0000000000000002 0x0000000000000004 0x0000000000000005 0x0000000000000006 0x0000000000000007")
    ∷ (codes "1 apddel 6", codes "no NoSlot")
    ∷ (codes "1 load 0x100000000", codes "no Denied")
    ∷ []

-- Sixteen entries and no more; a call for an entry that is already there is answered ok again.
abbrev pub sixteen_entries : Session
sixteen_entries =
    (codes "1 entry 0x100000000 0", codes "ok 0x0000000100000000")
    ∷ (codes "1 entry 0x100000000 8", codes "ok 0x0000000100000008")
    ∷ (codes "1 entry 0x100000000 16", codes "ok 0x0000000100000010")
    ∷ (codes "1 entry 0x100000000 24", codes "ok 0x0000000100000018")
    ∷ (codes "1 entry 0x100000000 32", codes "ok 0x0000000100000020")
    ∷ (codes "1 entry 0x100000000 40", codes "ok 0x0000000100000028")
    ∷ (codes "1 entry 0x100000000 48", codes "ok 0x0000000100000030")
    ∷ (codes "1 entry 0x100000000 56", codes "ok 0x0000000100000038")
    ∷ (codes "1 entry 0x100000000 64", codes "ok 0x0000000100000040")
    ∷ (codes "1 entry 0x100000000 72", codes "ok 0x0000000100000048")
    ∷ (codes "1 entry 0x100000000 80", codes "ok 0x0000000100000050")
    ∷ (codes "1 entry 0x100000000 88", codes "ok 0x0000000100000058")
    ∷ (codes "1 entry 0x100000000 96", codes "ok 0x0000000100000060")
    ∷ (codes "1 entry 0x100000000 104", codes "ok 0x0000000100000068")
    ∷ (codes "1 entry 0x100000000 112", codes "ok 0x0000000100000070")
    ∷ (codes "1 entry 0x100000000 120", codes "ok 0x0000000100000078")
    ∷ (codes "1 entry 0x100000000 128", codes "no Limit")
    ∷ (codes "1 entry 0x100000ff8 0", codes "ok 0x0000000100000000")
    ∷ (codes "1 entry 0x100000000 4088", codes "no Limit")
    ∷ (codes "1 info 0x100000000", codes "ok 0x0000000100000000 1 1 1 16 0")
    ∷ []

-- The refusals if no object has the address, or if it is not the address of a word.
abbrev pub what_is_denied : Session
what_is_denied =
    (codes "1 store 0x100000004 1", codes "no Align")
    ∷ (codes "1 store 0x200000000 1", codes "no Denied")
    ∷ (codes "1 delete 0x200000000", codes "no Denied")
    ∷ (codes "1 info 0x200000000", codes "no Denied")
    ∷ (codes "1 pwadd 0x200000000 R", codes "no Denied")
    ∷ (codes "1 pwdel 0x200000000 0", codes "no Denied")
    ∷ (codes "1 entry 0x200000000 0", codes "no Denied")
    ∷ (codes "1 ext 0x200000000 0 0", codes "no Denied")
    ∷ (codes "1 recharge 0x200000000 1 0x28bd8653e56a5d40", codes "no Denied")
    ∷ (codes "1 pdx 0x100000004 0", codes "no Align")
    ∷ (codes "1 pdx 0x200000000 0", codes "no Denied")
    ∷ (codes "1 thread 0x100000004", codes "no Align")
    ∷ (codes "1 thread 0x200000000", codes "no Denied")
    ∷ (codes "1 balance 1 0", codes "no Account")
    ∷ (codes "1 balance 0 0", codes "no Account")
    ∷ (codes "1 account 2 0x28bd8653e56a5d40 0", codes "no Account")
    ∷ (codes "1 pay 1 0x903df1a0ade0b876 1 0", codes "no Account")
    ∷ (codes "1 resume 7", codes "no NoThread")
    ∷ (codes "1 resume 1", codes "ok")
    ∷ (codes "next", codes "ok 1 Faulted Denied")
    ∷ (codes "next", codes "no Idle")
    ∷ (codes "1 load 0x100000000", codes "ok 0x0000000000000001")
    ∷ (codes "1 ext 0x100000000 0x5000 7", codes "ok")
    ∷ (codes "1 info 0x100000000", codes "ok 0x0000000100000000 1 1 1 0 1")
    ∷ (codes "1 ext 0x100000000 0 7", codes "ok")
    ∷ (codes "1 info 0x100000000", codes "ok 0x0000000100000000 1 1 1 0 0")
    ∷ (codes "1 pwadd 0x100000000 R 16777215", codes "ok 0x1aed8da0b819d2bd")
    ∷ (codes "1 pwadd 0x100000000 RR", codes "no Syntax")
    ∷ (codes "1 pwadd 0x100000000 OPDXWR", codes "ok 0xc70d778bccef36a8")
    ∷ (codes "1 info 0x100000000", codes "ok 0x0000000100000000 1 1 3 0 0")
    ∷ []

-- Another account pays for an object only if it is there, its password is right and it owes nothing. The next rent takes
-- what an account owes, once it has credits.
abbrev pub who_pays : Session
who_pays =
    (codes "1 recharge 0x100000000 1 0", codes "no Account")
    ∷ (codes "1 recharge 0x100000000 2 0x28bd8653e56a5d40", codes "no Account")
    ∷ (codes "1 account 1 0x28bd8653e56a5d40 0", codes "ok 2 0x1aed8da0b819d2bd")
    ∷ (codes "1 create 1 2 0x1aed8da0b819d2bd", codes "ok 0x0000000100001000 0xc70d778bccef36a8")
    ∷ (codes "rent", codes "ok 1 1 1")
    ∷ (codes "1 balance 2 0x1aed8da0b819d2bd", codes "ok 0 1 1")
    ∷ (codes "1 recharge 0x100000000 2 0x1aed8da0b819d2bd", codes "no Debt")
    ∷ (codes "1 create 1 2 0x1aed8da0b819d2bd", codes "no Debt")
    ∷ (codes "1 pay 1 0x28bd8653e56a5d40 2 5", codes "ok")
    ∷ (codes "1 balance 2 0x1aed8da0b819d2bd", codes "ok 5 1 1")
    ∷ (codes "1 balance 1 0x28bd8653e56a5d40", codes "ok 995 0 1")
    ∷ (codes "1 pay 2 0x1aed8da0b819d2bd 1 6", codes "no Credit")
    ∷ (codes "rent", codes "ok 2 1 3")
    ∷ (codes "1 balance 2 0x1aed8da0b819d2bd", codes "ok 3 0 1")
    ∷ (codes "1 balance 1 0x28bd8653e56a5d40", codes "ok 997 0 1")
    ∷ (codes "1 recharge 0x100000000 2 0x1aed8da0b819d2bd", codes "ok")
    ∷ (codes "1 balance 2 0x1aed8da0b819d2bd", codes "ok 3 0 2")
    ∷ (codes "1 balance 1 0x28bd8653e56a5d40", codes "ok 997 0 0")
    ∷ []

-- The rate is that of the last step that the pages in use reach: 1, from 16 pages on 2, from 32 on 4, and from 48 on 8.
abbrev pub steps_of_the_tariff : Session
steps_of_the_tariff =
    (codes "1 create 14 1 0x28bd8653e56a5d40", codes "ok 0x0000000100001000 0x1aed8da0b819d2bd")
    ∷ (codes "rent", codes "ok 1 1 15")
    ∷ (codes "1 create 1 1 0x28bd8653e56a5d40", codes "ok 0x000000010000f000 0xc70d778bccef36a8")
    ∷ (codes "rent", codes "ok 2 2 32")
    ∷ (codes "1 create 15 1 0x28bd8653e56a5d40", codes "ok 0x0000000100010000 0x8d4857517c5941da")
    ∷ (codes "rent", codes "ok 3 2 62")
    ∷ (codes "1 create 1 1 0x28bd8653e56a5d40", codes "ok 0x000000010001f000 0x374ad8b83fe02477")
    ∷ (codes "rent", codes "ok 4 4 128")
    ∷ (codes "1 create 15 1 0x28bd8653e56a5d40", codes "ok 0x0000000100020000 0x1ca11815f4b8436a")
    ∷ (codes "rent", codes "ok 5 4 188")
    ∷ (codes "1 create 1 1 0x28bd8653e56a5d40", codes "ok 0x000000010002f000 0x8665eeb269b687c3")
    ∷ (codes "rent", codes "ok 6 8 384")
    ∷ (codes "1 create 17 1 0x28bd8653e56a5d40", codes "no Full")
    ∷ (codes "1 balance 1 0x28bd8653e56a5d40", codes "ok 1000 0 48")
    ∷ []

-- From the last period but one: a password until the last period reaches the root until the period comes.
abbrev pub last_until : Session
last_until =
    (codes "1 pwadd 0x100000000 RWXDPO 16777214", codes "no Past")
    ∷ (codes "1 pwadd 0x100000000 RWXDPO 16777215", codes "ok 0x1aed8da0b819d2bd")
    ∷ (codes "1 store 0x100000018 0x1aed8da0b819d2bd", codes "ok")
    ∷ (codes "1 load 0x100000000", codes "ok 0x0000000000000001")
    ∷ (codes "rent", codes "ok 16777215 1 1")
    ∷ (codes "1 load 0x100000000", codes "no Denied")
    ∷ (codes "1 info 0x100000000", codes "no Denied")
    ∷ []

-- No password is left to draw.
abbrev pub no_more_passwords : Session
no_more_passwords =
    (codes "1 create 0 1 0x28bd8653e56a5d40", codes "no Size")
    ∷ (codes "1 create 1 1 0", codes "no Account")
    ∷ (codes "1 create 1 1 0x28bd8653e56a5d40", codes "no Limit")
    ∷ (codes "1 create 64 1 0x28bd8653e56a5d40", codes "no Limit")
    ∷ (codes "1 pwadd 0x100000000 R", codes "no Limit")
    ∷ (codes "1 pwadd 0x100000000 R 0", codes "no Past")
    ∷ (codes "1 account 1 0x28bd8653e56a5d40 1001", codes "no Credit")
    ∷ (codes "1 account 1 0x28bd8653e56a5d40 0", codes "no Limit")
    ∷ []

-- As many objects as there may be; and then one object less, with too many pages.
abbrev pub no_more_objects : Session
no_more_objects =
    (codes "1 create 1 1 0x28bd8653e56a5d40", codes "no Limit")
    ∷ []

abbrev pub too_many_pages : Session
too_many_pages =
    (codes "1 create 1 1 0x28bd8653e56a5d40", codes "no Full")
    ∷ []

-- No birth number is left; the last but one is given.
abbrev pub no_more_births : Session
no_more_births =
    (codes "1 thread 0x100000000", codes "ok 2")
    ∷ (codes "1 thread 0x100000000", codes "no Limit")
    ∷ []

-- From the last period but one: passwords without an until, of `create` and of `pwadd`, still reach at the last.
abbrev pub without_until : Session
without_until =
    (codes "1 create 1 1 0x28bd8653e56a5d40", codes "ok 0x0000000100001000 0x1aed8da0b819d2bd")
    ∷ (codes "1 store 0x100000020 0x100001000", codes "ok")
    ∷ (codes "1 store 0x100000028 0x1aed8da0b819d2bd", codes "ok")
    ∷ (codes "1 store 0x100000000 2", codes "ok")
    ∷ (codes "1 pwadd 0x100001000 R", codes "ok 0xc70d778bccef36a8")
    ∷ (codes "rent", codes "ok 16777215 1 2")
    ∷ (codes "1 load 0x100001000", codes "ok 0x0000000000000000")
    ∷ (codes "1 store 0x100000028 0xc70d778bccef36a8", codes "ok")
    ∷ (codes "1 load 0x100001000", codes "ok 0x0000000000000000")
    ∷ (codes "1 store 0x100001000 1", codes "no Denied")
    ∷ (codes "rent", codes "no Calendar")
    ∷ []

-- A thread that ends itself in its turn; the cursor keeps its number, and the next thread gets that number again.
abbrev pub ended_in_its_turn : Session
ended_in_its_turn =
    stores 0x100000200 (0xe00000001 ∷ 0x200000101 ∷ 0xe ∷ [])
    ++ (codes "1 thread 0x100000200", codes "ok 2")
    ∷ (codes "2 ret", codes "no NoFrame")
    ∷ (codes "next", codes "ok 2 Ready")
    ∷ (codes "next", codes "ok 2 Ready")
    ∷ (codes "next", codes "ok 2 Ended")
    ∷ (codes "next", codes "no Idle")
    ∷ (codes "1 thread 0x100000200", codes "ok 2")
    ∷ (codes "1 thread 0x100000200", codes "ok 3")
    ∷ (codes "next", codes "ok 3 Ready")
    ∷ (codes "next", codes "ok 2 Ready")
    ∷ (codes "next", codes "ok 3 Ready")
    ∷ (codes "1 end 2", codes "ok")
    ∷ (codes "next", codes "ok 3 Ready")
    ∷ []
