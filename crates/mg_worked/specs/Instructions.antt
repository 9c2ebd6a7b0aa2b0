-- Worked sessions: instructions of scripts. Each word of a script is beside what it does.
use Rattle.std.specs.Prelude.{[], ◌∷◌, ◌++◌, codes, replicate}
use Rattle.mg_worked.specs.Sessions.{Session, stores}

-- Sums, differences, jumps that are taken and that are not, a word that is stored and loaded, and a thread that ends itself.
-- Then a word that is no instruction, and an address that is no word's. A thread that faulted stays at its pc.
abbrev pub arithmetic_and_jumps : Session
arithmetic_and_jumps =
    stores 0x100000200 (
    -- r1 = 3; r2 = r0 - r1, 3 below 2^64; r3 = 1, since r1 is below r2
    0x300000101 ∷ 0x1000204 ∷ 0x2010305 ∷
    -- the jump on r3 = 0 is not taken, since r3 is 1; the jump on r3 not 0 goes over the halt
    0x500000309 ∷ 0x20000030a ∷ 0x0 ∷
    -- r4 = r2 + r1; r6 = 2^32
    0x1020403 ∷ 0x100000602 ∷
    -- r2 to 0x100000300, from there to r7, and r7 to 0x100000308
    0x30000060207 ∷ 0x30000060706 ∷ 0x30800060707 ∷
    -- the call `end 2`
    0xe00000001 ∷ 0x200000101 ∷ 0xe ∷
    [])
    ++ ((codes "1 thread 0x100000200", codes "ok 2")
    ∷ [])
    ++ replicate 12 (codes "2 turn", codes "ok Ready")
    ++ (codes "2 turn", codes "ok Ended")
    ∷ (codes "1 load 0x100000300", codes "ok 0xfffffffffffffffd")
    ∷ (codes "1 load 0x100000308", codes "ok 0xfffffffffffffffd")
    ∷ (codes "2 turn", codes "no NoThread")
    ∷ (codes "1 store 0x100000400 0xff", codes "ok")
    ∷ (codes "1 thread 0x100000400", codes "ok 2")
    ∷ (codes "2 turn", codes "ok Faulted Opcode")
    ∷ (codes "1 resume 2", codes "ok")
    ∷ (codes "2 turn", codes "ok Faulted Opcode")
    ∷ (codes "2 resume 1", codes "no NotYours")
    ∷ (codes "1 resume 7", codes "no NoThread")
    ∷ (codes "1 store 0x100000400 0x400010106", codes "ok")
    ∷ (codes "2 turn", codes "no NotReady")
    ∷ (codes "1 resume 2", codes "ok")
    ∷ (codes "2 turn", codes "ok Faulted Align")
    ∷ (codes "1 store 0x100000400 0x800010106", codes "ok")
    ∷ (codes "1 resume 2", codes "ok")
    ∷ (codes "2 turn", codes "ok Faulted Denied")
    ∷ (codes "1 store 0x100000400 0", codes "ok")
    ∷ (codes "1 resume 2", codes "ok")
    ∷ (codes "2 turn", codes "ok Stopped")
    ∷ (codes "1 resume 2", codes "ok")
    ∷ (codes "next", codes "ok 2 Stopped")
    ∷ (codes "next", codes "no Idle")
    ∷ []

-- A sum above the last word begins again at 0. A jump on 0 is taken, and a jump on another number is not. If a number is not
-- below another, the result is 0.
abbrev pub sums_wrap : Session
sums_wrap =
    stores 0x100000200 (
    -- r1 = 2^64 - 1; r2 = 5; r3 = r1 + r2 = 4
    0xffffffff00000101 ∷ 0xffffffff00000102 ∷ 0x500000201 ∷ 0x2010303 ∷
    -- r3 to 0x100000300
    0x100000602 ∷ 0x30000060307 ∷
    -- r0 is 0: a jump over the halt, and then none
    0x200000009 ∷ 0x0 ∷ 0x50000000a ∷
    -- r2 = 0, since r1 is not below r2; r5 = r2 - r3, 4 below 2^64
    0x2010205 ∷ 0x3020504 ∷ 0x30800060507 ∷
    -- r1 = 7 in its upper half, the lower one as it was
    0x700000102 ∷ 0x31000060107 ∷
    -- back by 14 words, to the first
    0xfffffff200000008 ∷
    [])
    ++ ((codes "1 thread 0x100000200", codes "ok 2")
    ∷ [])
    ++ replicate 14 (codes "2 turn", codes "ok Ready")
    ++ (codes "1 load 0x100000300", codes "ok 0x0000000000000004")
    ∷ (codes "1 load 0x100000308", codes "ok 0xfffffffffffffffc")
    ∷ (codes "1 load 0x100000310", codes "ok 0x00000007ffffffff")
    ∷ (codes "1 store 0x100000200 0", codes "ok")
    ∷ (codes "2 turn", codes "ok Stopped")
    ∷ []

-- A script enters an object and comes back. The number of each refusal is in register 0: no frame is left to return from, a
-- mask above 255, an address that is no word's, an address that is no entry, and an entry without the right.
abbrev pub scripts_enter_and_return : Session
scripts_enter_and_return =
    stores 0x100000200 (
    -- r1 = 0x100000400, the entry; r2 = 1, the mask; r6 = 2^32
    0x40000000101 ∷ 0x100000102 ∷ 0x100000201 ∷ 0x100000602 ∷
    -- r0 = 9 until the call sets it to 0
    0x900000001 ∷ 0x2010b ∷
    -- no frame: 16
    0xc ∷ 0x30800060007 ∷
    -- a mask of 256: 1
    0x10000000201 ∷ 0x2010b ∷ 0x31000060007 ∷
    -- 0x100000404: 3
    0x100000201 ∷ 0x40400000101 ∷ 0x100000102 ∷ 0x2010b ∷ 0x31800060007 ∷
    -- 0x100000408: 14
    0x40800000101 ∷ 0x100000102 ∷ 0x2010b ∷ 0x32000060007 ∷
    -- 8: 4
    0x800000101 ∷ 0x102 ∷ 0x2010b ∷ 0x32800060007 ∷
    0x0 ∷
    [])
    ++ stores 0x100000400 (
    -- r3 = r1 + r0, to 0x100000300; and back
    0x10303 ∷ 0x30000060307 ∷ 0xc ∷
    [])
    ++ ((codes "1 entry 0x100000000 0x400", codes "ok 0x0000000100000400")
    ∷ (codes "1 thread 0x100000200", codes "ok 2")
    ∷ [])
    ++ replicate 27 (codes "2 turn", codes "ok Ready")
    ++ (codes "2 turn", codes "ok Stopped")
    ∷ (codes "1 load 0x100000300", codes "ok 0x0000000100000400")
    ∷ (codes "1 load 0x100000308", codes "ok 0x0000000000000010")
    ∷ (codes "1 load 0x100000310", codes "ok 0x0000000000000001")
    ∷ (codes "1 load 0x100000318", codes "ok 0x0000000000000003")
    ∷ (codes "1 load 0x100000320", codes "ok 0x000000000000000e")
    ∷ (codes "1 load 0x100000328", codes "ok 0x0000000000000004")
    ∷ []

-- Words that are no instruction: a register above 7, a field that is not in use and not 0, and an op above 14.
abbrev pub each_field_is_looked_at : Session
each_field_is_looked_at =
    (codes "1 store 0x100000200 0x100", codes "ok")
    ∷ (codes "1 thread 0x100000200", codes "ok 2")
    ∷ (codes "2 turn", codes "ok Faulted Opcode")
    ∷ (codes "1 store 0x100000200 0x801", codes "ok")
    ∷ (codes "1 resume 2", codes "ok")
    ∷ (codes "2 turn", codes "ok Faulted Opcode")
    ∷ (codes "1 store 0x100000200 0x10001", codes "ok")
    ∷ (codes "1 resume 2", codes "ok")
    ∷ (codes "2 turn", codes "ok Faulted Opcode")
    ∷ (codes "1 store 0x100000200 0x1000002", codes "ok")
    ∷ (codes "1 resume 2", codes "ok")
    ∷ (codes "2 turn", codes "ok Faulted Opcode")
    ∷ (codes "1 store 0x100000200 0x8000003", codes "ok")
    ∷ (codes "1 resume 2", codes "ok")
    ∷ (codes "2 turn", codes "ok Faulted Opcode")
    ∷ (codes "1 store 0x100000200 0x100000004", codes "ok")
    ∷ (codes "1 resume 2", codes "ok")
    ∷ (codes "2 turn", codes "ok Faulted Opcode")
    ∷ (codes "1 store 0x100000200 0x80005", codes "ok")
    ∷ (codes "1 resume 2", codes "ok")
    ∷ (codes "2 turn", codes "ok Faulted Opcode")
    ∷ (codes "1 store 0x100000200 0x1000006", codes "ok")
    ∷ (codes "1 resume 2", codes "ok")
    ∷ (codes "2 turn", codes "ok Faulted Opcode")
    ∷ (codes "1 store 0x100000200 0x1010007", codes "ok")
    ∷ (codes "1 resume 2", codes "ok")
    ∷ (codes "2 turn", codes "ok Faulted Opcode")
    ∷ (codes "1 store 0x100000200 0x108", codes "ok")
    ∷ (codes "1 resume 2", codes "ok")
    ∷ (codes "2 turn", codes "ok Faulted Opcode")
    ∷ (codes "1 store 0x100000200 0x10009", codes "ok")
    ∷ (codes "1 resume 2", codes "ok")
    ∷ (codes "2 turn", codes "ok Faulted Opcode")
    ∷ (codes "1 store 0x100000200 0x100000a", codes "ok")
    ∷ (codes "1 resume 2", codes "ok")
    ∷ (codes "2 turn", codes "ok Faulted Opcode")
    ∷ (codes "1 store 0x100000200 0x8000b", codes "ok")
    ∷ (codes "1 resume 2", codes "ok")
    ∷ (codes "2 turn", codes "ok Faulted Opcode")
    ∷ (codes "1 store 0x100000200 0x10c", codes "ok")
    ∷ (codes "1 resume 2", codes "ok")
    ∷ (codes "2 turn", codes "ok Faulted Opcode")
    ∷ (codes "1 store 0x100000200 0x10000000d", codes "ok")
    ∷ (codes "1 resume 2", codes "ok")
    ∷ (codes "2 turn", codes "ok Faulted Opcode")
    ∷ (codes "1 store 0x100000200 0x1000e", codes "ok")
    ∷ (codes "1 resume 2", codes "ok")
    ∷ (codes "2 turn", codes "ok Faulted Opcode")
    ∷ (codes "1 store 0x100000200 0xf", codes "ok")
    ∷ (codes "1 resume 2", codes "ok")
    ∷ (codes "2 turn", codes "ok Faulted Opcode")
    ∷ []
