-- Worked sessions: calls that scripts make. Each word of a script is beside what it does.
use Rattle.std.specs.Prelude.{[], ◌∷◌, ◌++◌, codes, replicate}
use Rattle.mg_worked.specs.Sessions.{Session, stores}

-- A script makes each call that it can, by its number, and stores the replies' values from 0x100000800 on. Register 7 is 2^32.
abbrev pub calls_by_number : Session
calls_by_number =
    stores 0x100000400 (
    -- 1, load: word 0 of the root is 1
    0x100000702 ∷ 0x100000102 ∷ 0x100000001 ∷ 0xe ∷ 0x80000070107 ∷
    -- 2, store: 77 to 0x100000808
    0x200000001 ∷ 0x80800000101 ∷ 0x100000102 ∷ 0x4d00000201 ∷ 0xe ∷
    -- 3, create: two pages, paid by account 1
    0x300000001 ∷ 0x200000101 ∷ 0x100000201 ∷ 0xe56a5d4000000301 ∷ 0x28bd865300000302 ∷ 0xe ∷ 0x81000070107 ∷ 0x81800070207 ∷
    -- the new object joins the list
    0x2000070107 ∷ 0x2800070207 ∷ 0x200000301 ∷ 0x70307 ∷
    -- 5, info: two pages and one password row
    0x500000001 ∷ 0xe ∷ 0x82000070207 ∷ 0x82800070407 ∷
    -- 6, pwadd: rights R and O
    0x600000001 ∷ 0x2100000201 ∷ 0xe ∷ 0x83000070107 ∷
    -- 7, pwdel: that password
    0x700000001 ∷ 0x83000070206 ∷ 0x100000000101 ∷ 0x100000102 ∷ 0xe ∷
    -- 8, entry: offset 8
    0x800000001 ∷ 0x800000201 ∷ 0xe ∷ 0x83800070107 ∷
    -- 9, ext: the slot (0x1000, 5)
    0x900000001 ∷ 0x100000000201 ∷ 0x500000301 ∷ 0xe ∷
    -- 16, account: 100 credits of account 1
    0x1000000001 ∷ 0x100000101 ∷ 0x102 ∷ 0xe56a5d4000000201 ∷ 0x28bd865300000202 ∷ 0x6400000301 ∷ 0xe ∷ 0x84000070107 ∷ 0x84800070207 ∷
    -- 10, recharge: account 2 pays
    0xa00000001 ∷ 0x100000000101 ∷ 0x100000102 ∷ 0x200000201 ∷ 0x202 ∷ 0x84800070306 ∷ 0xe ∷
    -- 17, pay: 50 from account 1 to account 2
    0x1100000001 ∷ 0x100000101 ∷ 0x102 ∷ 0xe56a5d4000000201 ∷ 0x28bd865300000202 ∷ 0x200000301 ∷ 0x302 ∷ 0x3200000401 ∷ 0xe ∷
    -- 18, balance: of account 2
    0x1200000001 ∷ 0x200000101 ∷ 0x84800070206 ∷ 0xe ∷ 0x85000070107 ∷ 0x85800070307 ∷
    -- 11, apdadd: slot 1
    0xb00000001 ∷ 0x100000000101 ∷ 0x900000201 ∷ 0xe ∷ 0x86000070107 ∷
    -- 12, apddel: that slot
    0xc00000001 ∷ 0xe ∷
    -- 13, thread: at 0x100000400
    0xd00000001 ∷ 0x40000000101 ∷ 0x100000102 ∷ 0xe ∷ 0x86800070107 ∷
    -- 15, resume, and 14, end: that thread
    0xf00000001 ∷ 0xe ∷ 0xe00000001 ∷ 0xe ∷
    -- 19, pwadd with an until of 5, on the root
    0x1300000001 ∷ 0x101 ∷ 0x100000102 ∷ 0x100000201 ∷ 0x500000301 ∷ 0x302 ∷ 0xe ∷ 0x87000070107 ∷
    -- 5, info: account 2, one password row, one entry and an extension
    0x500000001 ∷ 0x100000000101 ∷ 0x100000102 ∷ 0xe ∷ 0x87800070307 ∷ 0x88000070407 ∷ 0x88800070507 ∷ 0x89000070607 ∷
    -- 4, delete; then info is denied: 4
    0x400000001 ∷ 0xe ∷ 0x500000001 ∷ 0xe ∷ 0x89800070007 ∷
    0x0 ∷
    [])
    ++ ((codes "1 thread 0x100000400", codes "ok 2")
    ∷ [])
    ++ replicate 111 (codes "2 turn", codes "ok Ready")
    ++ (codes "2 turn", codes "ok Stopped")
    ∷ (codes "1 load 0x100000800", codes "ok 0x0000000000000001")
    ∷ (codes "1 load 0x100000808", codes "ok 0x000000000000004d")
    ∷ (codes "1 load 0x100000810", codes "ok 0x0000000100001000")
    ∷ (codes "1 load 0x100000818", codes "ok 0x1aed8da0b819d2bd")
    ∷ (codes "1 load 0x100000820", codes "ok 0x0000000000000002")
    ∷ (codes "1 load 0x100000828", codes "ok 0x0000000000000001")
    ∷ (codes "1 load 0x100000830", codes "ok 0xc70d778bccef36a8")
    ∷ (codes "1 load 0x100000838", codes "ok 0x0000000100001008")
    ∷ (codes "1 load 0x100000840", codes "ok 0x0000000000000002")
    ∷ (codes "1 load 0x100000848", codes "ok 0x8d4857517c5941da")
    ∷ (codes "1 load 0x100000850", codes "ok 0x0000000000000096")
    ∷ (codes "1 load 0x100000858", codes "ok 0x0000000000000002")
    ∷ (codes "1 load 0x100000860", codes "ok 0x0000000000000001")
    ∷ (codes "1 load 0x100000868", codes "ok 0x0000000000000003")
    ∷ (codes "1 load 0x100000870", codes "ok 0x374ad8b83fe02477")
    ∷ (codes "1 load 0x100000878", codes "ok 0x0000000000000002")
    ∷ (codes "1 load 0x100000880", codes "ok 0x0000000000000001")
    ∷ (codes "1 load 0x100000888", codes "ok 0x0000000000000001")
    ∷ (codes "1 load 0x100000890", codes "ok 0x0000000000000001")
    ∷ (codes "1 load 0x100000898", codes "ok 0x0000000000000004")
    ∷ (codes "1 info 0x100000000", codes "ok 0x0000000100000000 1 1 2 0 0")
    ∷ (codes "1 info 0x100001000", codes "no Denied")
    ∷ (codes "1 balance 1 0x28bd8653e56a5d40", codes "ok 850 0 1")
    ∷ (codes "1 balance 2 0x8d4857517c5941da", codes "ok 150 0 0")
    ∷ (codes "2 apdlist", codes "ok 1 0x0000000100000000")
    ∷ (codes "3 apdlist", codes "no NoThread")
    ∷ []

-- What a script can't make is refused with Syntax, 1: a number that is no call's, rights that are none, and rights above 63.
-- An until that is not above the period, or is above the last, is Past, 22.
abbrev pub calls_that_are_none : Session
calls_that_are_none =
    stores 0x100000400 (
    -- r7 = r1 = 2^32
    0x100000702 ∷ 0x100000102 ∷
    -- 19, pwadd with until 5: no rights, and rights of 64
    0x500000301 ∷ 0x1300000001 ∷ 0xe ∷ 0x80000070007 ∷ 0x4000000201 ∷ 0x1300000001 ∷ 0xe ∷ 0x80800070007 ∷
    -- 6, pwadd: rights of 64, and none
    0x600000001 ∷ 0xe ∷ 0x81000070007 ∷ 0x201 ∷ 0x600000001 ∷ 0xe ∷ 0x81800070007 ∷
    -- 0 and 20
    0x1 ∷ 0xe ∷ 0x82000070007 ∷ 0x1400000001 ∷ 0xe ∷ 0x82800070007 ∷
    -- 19: until 0, and until 2^24
    0x3f00000201 ∷ 0x301 ∷ 0x1300000001 ∷ 0xe ∷ 0x83000070007 ∷ 0x100000000000301 ∷ 0x1300000001 ∷ 0xe ∷ 0x83800070007 ∷
    -- 19: until 2^24 - 1
    0xffffff00000301 ∷ 0x1300000001 ∷ 0xe ∷ 0x84000070007 ∷ 0x84800070107 ∷
    0x0 ∷
    [])
    ++ ((codes "1 thread 0x100000400", codes "ok 2")
    ∷ [])
    ++ replicate 37 (codes "2 turn", codes "ok Ready")
    ++ (codes "2 turn", codes "ok Stopped")
    ∷ (codes "1 load 0x100000800", codes "ok 0x0000000000000001")
    ∷ (codes "1 load 0x100000808", codes "ok 0x0000000000000001")
    ∷ (codes "1 load 0x100000810", codes "ok 0x0000000000000001")
    ∷ (codes "1 load 0x100000818", codes "ok 0x0000000000000001")
    ∷ (codes "1 load 0x100000820", codes "ok 0x0000000000000001")
    ∷ (codes "1 load 0x100000828", codes "ok 0x0000000000000001")
    ∷ (codes "1 load 0x100000830", codes "ok 0x0000000000000016")
    ∷ (codes "1 load 0x100000838", codes "ok 0x0000000000000016")
    ∷ (codes "1 load 0x100000840", codes "ok 0x0000000000000000")
    ∷ (codes "1 load 0x100000848", codes "ok 0x1aed8da0b819d2bd")
    ∷ (codes "1 info 0x100000000", codes "ok 0x0000000100000000 1 1 2 0 0")
    ∷ []

-- A script sees refusals by their numbers. Before the session the root has 32 passwords. The sessions of scripts and of
-- instructions have 1, 3, 4, 13, 14, 16 and 22; those of calls that no script makes are 18, 19 and 21.
abbrev pub refusals_by_number : Session
refusals_by_number =
    ((codes "1 account 1 0x28bd8653e56a5d40 0", codes "ok 2 0x1aed8da0b819d2bd")
    ∷ (codes "1 create 1 2 0x1aed8da0b819d2bd", codes "ok 0x0000000100001000 0xc70d778bccef36a8")
    ∷ (codes "rent", codes "ok 1 1 1")
    ∷ (codes "1 apdadd 1 0", codes "ok 1")
    ∷ (codes "1 apdadd 2 0", codes "ok 2")
    ∷ (codes "1 apdadd 3 0", codes "ok 3")
    ∷ (codes "1 apdadd 4 0", codes "ok 4")
    ∷ (codes "1 apdadd 5 0", codes "ok 5")
    ∷ (codes "1 apdadd 6 0", codes "ok 6")
    ∷ (codes "1 apdadd 7 0", codes "ok 7")
    ∷ [])
    ++ stores 0x100000400 (
    -- 2, no thread 9
    0x100000702 ∷ 0xf00000001 ∷ 0x900000101 ∷ 0xe ∷ 0x80000070007 ∷
    -- 5, a size of 0
    0x300000001 ∷ 0x101 ∷ 0xe ∷ 0x80800070007 ∷
    -- 6, no account 9
    0x1200000001 ∷ 0x900000101 ∷ 0xe ∷ 0x81000070007 ∷
    -- 20, 1001 credits of account 1
    0x1000000001 ∷ 0x100000101 ∷ 0xe56a5d4000000201 ∷ 0x28bd865300000202 ∷ 0x3e900000301 ∷ 0xe ∷ 0x81800070007 ∷
    -- 9, 64 pages
    0x300000001 ∷ 0x4000000101 ∷ 0x100000201 ∷ 0xe56a5d4000000301 ∷ 0x28bd865300000302 ∷ 0xe ∷ 0x82000070007 ∷
    -- 7, account 2 owes
    0x300000001 ∷ 0x100000101 ∷ 0x200000201 ∷ 0xb819d2bd00000301 ∷ 0x1aed8da000000302 ∷ 0xe ∷ 0x82800070007 ∷
    -- 10, no password 1
    0x700000001 ∷ 0x101 ∷ 0x100000102 ∷ 0x100000201 ∷ 0xe ∷ 0x83000070007 ∷
    -- 11, an offset of 4
    0x800000001 ∷ 0x400000201 ∷ 0xe ∷ 0x83800070007 ∷
    -- 8, a 33rd password
    0x600000001 ∷ 0x100000201 ∷ 0xe ∷ 0x84000070007 ∷
    -- 17, thread 1
    0xe00000001 ∷ 0x100000101 ∷ 0xe ∷ 0x84800070007 ∷
    -- 12, a ninth slot
    0xb00000001 ∷ 0xe ∷ 0x85000070007 ∷
    0x0 ∷
    [])
    ++ stores 0x100000a00 (
    -- 15, a seventeenth frame
    0xa0000000101 ∷ 0x100000102 ∷ 0x100000201 ∷ 0x2010b ∷ 0x85800070007 ∷ 0x0 ∷
    [])
    ++ ((codes "1 thread 0x100000400", codes "ok 2")
    ∷ [])
    ++ replicate 55 (codes "2 turn", codes "ok Ready")
    ++ ((codes "2 turn", codes "ok Stopped")
    ∷ (codes "1 entry 0x100000000 0xa00", codes "ok 0x0000000100000a00")
    ∷ (codes "2 pdx 0x100000a00 1", codes "ok 2")
    ∷ (codes "2 pdx 0x100000a00 1", codes "ok 3")
    ∷ (codes "2 pdx 0x100000a00 1", codes "ok 4")
    ∷ (codes "2 pdx 0x100000a00 1", codes "ok 5")
    ∷ (codes "2 pdx 0x100000a00 1", codes "ok 6")
    ∷ (codes "2 pdx 0x100000a00 1", codes "ok 7")
    ∷ (codes "2 pdx 0x100000a00 1", codes "ok 8")
    ∷ (codes "2 pdx 0x100000a00 1", codes "ok 9")
    ∷ (codes "2 pdx 0x100000a00 1", codes "ok 10")
    ∷ (codes "2 pdx 0x100000a00 1", codes "ok 11")
    ∷ (codes "2 pdx 0x100000a00 1", codes "ok 12")
    ∷ (codes "2 pdx 0x100000a00 1", codes "ok 13")
    ∷ (codes "2 pdx 0x100000a00 1", codes "ok 14")
    ∷ (codes "2 pdx 0x100000a00 1", codes "ok 15")
    ∷ (codes "2 pdx 0x100000a00 1", codes "ok 16")
    ∷ (codes "1 resume 2", codes "ok")
    ∷ [])
    ++ replicate 5 (codes "2 turn", codes "ok Ready")
    ++ (codes "2 turn", codes "ok Stopped")
    ∷ (codes "1 load 0x100000800", codes "ok 0x0000000000000002")
    ∷ (codes "1 load 0x100000808", codes "ok 0x0000000000000005")
    ∷ (codes "1 load 0x100000810", codes "ok 0x0000000000000006")
    ∷ (codes "1 load 0x100000818", codes "ok 0x0000000000000014")
    ∷ (codes "1 load 0x100000820", codes "ok 0x0000000000000009")
    ∷ (codes "1 load 0x100000828", codes "ok 0x0000000000000007")
    ∷ (codes "1 load 0x100000830", codes "ok 0x000000000000000a")
    ∷ (codes "1 load 0x100000838", codes "ok 0x000000000000000b")
    ∷ (codes "1 load 0x100000840", codes "ok 0x0000000000000008")
    ∷ (codes "1 load 0x100000848", codes "ok 0x0000000000000011")
    ∷ (codes "1 load 0x100000850", codes "ok 0x000000000000000c")
    ∷ (codes "1 load 0x100000858", codes "ok 0x000000000000000f")
    ∷ []
