-- Worked sessions: threads and their scripts.
use Rattle.std.specs.Prelude.{[], ◌∷◌, codes}
use Rattle.mg_worked.specs.Sessions.{Session}

-- a script's store empties the list under which two threads run
abbrev pub store_into_a_list : Session
store_into_a_list =
    (codes "1 create 1 1 0x28bd8653e56a5d40", codes "ok 0x0000000100001000 0x1aed8da0b819d2bd")
    ∷ (codes "1 store 0x100000020 0x100001000", codes "ok")
    ∷ (codes "1 store 0x100000028 0x1aed8da0b819d2bd", codes "ok")
    ∷ (codes "1 store 0x100000000 2", codes "ok")
    ∷ (codes "1 store 0x100001000 0xd", codes "ok")
    ∷ (codes "1 store 0x100001008 0xffffffff00000008", codes "ok")
    ∷ (codes "1 store 0x100001040 0x0000000100000102", codes "ok")
    ∷ (codes "1 store 0x100001048 0x10007", codes "ok")
    ∷ (codes "1 thread 0x100001000", codes "ok 2")
    ∷ (codes "1 thread 0x100001040", codes "ok 3")
    ∷ (codes "next", codes "ok 2 Ready")
    ∷ (codes "next", codes "ok 3 Ready")
    ∷ (codes "next", codes "ok 2 Ready")
    ∷ (codes "next", codes "ok 3 Ready")
    ∷ (codes "next", codes "ok 2 Faulted Denied")
    ∷ (codes "next", codes "ok 3 Faulted Denied")
    ∷ (codes "next", codes "no Idle")
    ∷ []

-- a thread's creator is known by its birth, not by its number
abbrev pub creators_are_births : Session
creators_are_births =
    (codes "1 thread 0x0000000100000000", codes "ok 2")
    ∷ (codes "2 thread 0x0000000100000000", codes "ok 3")
    ∷ (codes "2 end 2", codes "ok")
    ∷ (codes "1 thread 0x0000000100000000", codes "ok 2")
    ∷ (codes "2 end 3", codes "no NotYours")
    ∷ (codes "1 end 3", codes "no NotYours")
    ∷ (codes "3 end 3", codes "ok")
    ∷ []

-- a script calls `balance` and stores the values of the reply
abbrev pub script_asks_for_a_balance : Session
script_asks_for_a_balance =
    (codes "1 store 0x100000200 0x0000001200000001", codes "ok")
    ∷ (codes "1 store 0x100000208 0x0000000100000101", codes "ok")
    ∷ (codes "1 store 0x100000210 0xe56a5d4000000201", codes "ok")
    ∷ (codes "1 store 0x100000218 0x28bd865300000202", codes "ok")
    ∷ (codes "1 store 0x100000220 0xe", codes "ok")
    ∷ (codes "1 store 0x100000228 0x0000000100000502", codes "ok")
    ∷ (codes "1 store 0x100000230 0x0000030000050107", codes "ok")
    ∷ (codes "1 store 0x100000238 0", codes "ok")
    ∷ (codes "1 thread 0x100000200", codes "ok 2")
    ∷ (codes "2 turn", codes "ok Ready")
    ∷ (codes "2 turn", codes "ok Ready")
    ∷ (codes "2 turn", codes "ok Ready")
    ∷ (codes "2 turn", codes "ok Ready")
    ∷ (codes "2 turn", codes "ok Ready")
    ∷ (codes "2 turn", codes "ok Ready")
    ∷ (codes "2 turn", codes "ok Ready")
    ∷ (codes "2 turn", codes "ok Stopped")
    ∷ (codes "1 load 0x100000300", codes "ok 0x00000000000003e8")
    ∷ []

-- a script sees the number of a refusal
abbrev pub script_sees_a_refusal : Session
script_sees_a_refusal =
    (codes "1 store 0x100000200 0x0000000c00000001", codes "ok")
    ∷ (codes "1 store 0x100000208 0x0000000500000101", codes "ok")
    ∷ (codes "1 store 0x100000210 0xe", codes "ok")
    ∷ (codes "1 store 0x100000218 0x0000000100000202", codes "ok")
    ∷ (codes "1 store 0x100000220 0x0000030000020007", codes "ok")
    ∷ (codes "1 thread 0x100000200", codes "ok 2")
    ∷ (codes "2 turn", codes "ok Ready")
    ∷ (codes "2 turn", codes "ok Ready")
    ∷ (codes "2 turn", codes "ok Ready")
    ∷ (codes "2 turn", codes "ok Ready")
    ∷ (codes "2 turn", codes "ok Ready")
    ∷ (codes "2 turn", codes "ok Stopped")
    ∷ (codes "1 load 0x100000300", codes "ok 0x000000000000000d")
    ∷ []
