-- Worked sessions: protection domains and their extension.
use Rattle.std.specs.Prelude.{[], ◌∷◌, codes}
use Rattle.mg_worked.specs.Sessions.{Session}

-- sixteen frames and no more; a mask of 0 keeps the extension alone
abbrev pub sixteen_frames : Session
sixteen_frames =
    (codes "1 entry 0x0000000100000000 0", codes "ok 0x0000000100000000")
    ∷ (codes "1 pdx 0x0000000100000000 1", codes "ok 2")
    ∷ (codes "1 pdx 0x0000000100000000 1", codes "ok 3")
    ∷ (codes "1 pdx 0x0000000100000000 1", codes "ok 4")
    ∷ (codes "1 pdx 0x0000000100000000 1", codes "ok 5")
    ∷ (codes "1 pdx 0x0000000100000000 1", codes "ok 6")
    ∷ (codes "1 pdx 0x0000000100000000 1", codes "ok 7")
    ∷ (codes "1 pdx 0x0000000100000000 1", codes "ok 8")
    ∷ (codes "1 pdx 0x0000000100000000 1", codes "ok 9")
    ∷ (codes "1 pdx 0x0000000100000000 1", codes "ok 10")
    ∷ (codes "1 pdx 0x0000000100000000 1", codes "ok 11")
    ∷ (codes "1 pdx 0x0000000100000000 1", codes "ok 12")
    ∷ (codes "1 pdx 0x0000000100000000 1", codes "ok 13")
    ∷ (codes "1 pdx 0x0000000100000000 1", codes "ok 14")
    ∷ (codes "1 pdx 0x0000000100000000 1", codes "ok 15")
    ∷ (codes "1 pdx 0x0000000100000000 1", codes "ok 16")
    ∷ (codes "1 pdx 0x0000000100000000 1", codes "no Depth")
    ∷ (codes "1 ret", codes "ok 15")
    ∷ (codes "1 ret", codes "ok 14")
    ∷ (codes "1 ret", codes "ok 13")
    ∷ (codes "1 ret", codes "ok 12")
    ∷ (codes "1 ret", codes "ok 11")
    ∷ (codes "1 ret", codes "ok 10")
    ∷ (codes "1 ret", codes "ok 9")
    ∷ (codes "1 ret", codes "ok 8")
    ∷ (codes "1 ret", codes "ok 7")
    ∷ (codes "1 ret", codes "ok 6")
    ∷ (codes "1 ret", codes "ok 5")
    ∷ (codes "1 ret", codes "ok 4")
    ∷ (codes "1 ret", codes "ok 3")
    ∷ (codes "1 ret", codes "ok 2")
    ∷ (codes "1 ret", codes "ok 1")
    ∷ (codes "1 ret", codes "no NoFrame")
    ∷ (codes "1 ext 0x0000000100000000 0x0000000100000000 0x903df1a0ade0b876", codes "ok")
    ∷ (codes "1 pdx 0x0000000100000000 0", codes "ok 2")
    ∷ (codes "1 apdlist", codes "ok 1 0x0000000100000000")
    ∷ []

-- an entry is there once; a frame without slots reaches nothing
abbrev pub entry_is_there_once : Session
entry_is_there_once =
    (codes "1 entry 0x0000000100000000 8", codes "ok 0x0000000100000008")
    ∷ (codes "1 entry 0x0000000100000000 8", codes "ok 0x0000000100000008")
    ∷ (codes "1 info 0x0000000100000000", codes "ok 0x0000000100000000 1 1 1 1 0")
    ∷ (codes "1 pdx 0x100000008 0", codes "ok 2")
    ∷ (codes "1 apdlist", codes "ok 0")
    ∷ (codes "1 load 0x0000000100000000", codes "no Denied")
    ∷ (codes "1 ret", codes "ok 1")
    ∷ (codes "1 load 0x0000000100000000", codes "ok 0x0000000000000001")
    ∷ []

-- a domain ends with its frame
abbrev pub domain_ends_with_its_frame : Session
domain_ends_with_its_frame =
    (codes "1 load 0x0000000100000000", codes "ok 0x0000000000000001")
    ∷ (codes "1 entry 0x0000000100000000 0", codes "ok 0x0000000100000000")
    ∷ (codes "1 pdx 0x0000000100000000 0", codes "ok 2")
    ∷ (codes "1 load 0x0000000100000000", codes "no Denied")
    ∷ (codes "1 ret", codes "ok 1")
    ∷ (codes "1 load 0x0000000100000000", codes "ok 0x0000000000000001")
    ∷ []

-- eight slots and no more
abbrev pub eight_slots : Session
eight_slots =
    (codes "1 apdadd 0x0000000100000000 0x903df1a0ade0b876", codes "ok 1")
    ∷ (codes "1 apdadd 0x0000000100000000 0x903df1a0ade0b876", codes "ok 2")
    ∷ (codes "1 apdadd 0x0000000100000000 0x903df1a0ade0b876", codes "ok 3")
    ∷ (codes "1 apdadd 0x0000000100000000 0x903df1a0ade0b876", codes "ok 4")
    ∷ (codes "1 apdadd 0x0000000100000000 0x903df1a0ade0b876", codes "ok 5")
    ∷ (codes "1 apdadd 0x0000000100000000 0x903df1a0ade0b876", codes "ok 6")
    ∷ (codes "1 apdadd 0x0000000100000000 0x903df1a0ade0b876", codes "ok 7")
    ∷ (codes "1 apdadd 0x0000000100000000 0x903df1a0ade0b876", codes "no SlotFull")
    ∷ []
