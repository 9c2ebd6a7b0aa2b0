-- Worked sessions: which right lets a thread do what, and which addresses an object has.
use Rattle.std.specs.Prelude.{[], ◌∷◌, ◌++◌, codes, replicate}
use Rattle.mg_worked.specs.Sessions.{Session, linked, stores}

-- Passwords that lack one right each: what needs the right is denied, and the rest is not.
abbrev pub each_right_is_needed : Session
each_right_is_needed =
    linked
    ++ (codes "1 pwadd 0x100001000 WXDPO", codes "ok 0xc70d778bccef36a8")
    ∷ (codes "1 pwadd 0x100001000 RXDPO", codes "ok 0x8d4857517c5941da")
    ∷ (codes "1 pwadd 0x100001000 RWDPO", codes "ok 0x374ad8b83fe02477")
    ∷ (codes "1 pwadd 0x100001000 RWXPO", codes "ok 0x1ca11815f4b8436a")
    ∷ (codes "1 pwadd 0x100001000 RWXDO", codes "ok 0x8665eeb269b687c3")
    ∷ (codes "1 pwadd 0x100001000 RWXDP", codes "ok 0x7a385155bee7079f")
    ∷ (codes "1 entry 0x100001000 0", codes "ok 0x0000000100001000")
    ∷ (codes "1 store 0x100000028 0xc70d778bccef36a8", codes "ok")
    ∷ (codes "1 load 0x100001000", codes "no Denied")
    ∷ (codes "1 store 0x100001000 0xd", codes "ok")
    ∷ (codes "1 thread 0x100001000", codes "ok 2")
    ∷ (codes "1 pdx 0x100001000 1", codes "ok 2")
    ∷ (codes "1 ret", codes "ok 1")
    ∷ (codes "1 ext 0x100001000 0 0", codes "ok")
    ∷ (codes "1 store 0x100000028 0x8d4857517c5941da", codes "ok")
    ∷ (codes "1 store 0x100001000 0", codes "no Denied")
    ∷ (codes "1 load 0x100001000", codes "ok 0x000000000000000d")
    ∷ (codes "2 turn", codes "ok Ready")
    ∷ (codes "1 store 0x100000028 0x374ad8b83fe02477", codes "ok")
    ∷ (codes "1 thread 0x100001000", codes "no Denied")
    ∷ (codes "2 turn", codes "ok Faulted Denied")
    ∷ (codes "1 resume 2", codes "ok")
    ∷ (codes "1 load 0x100001000", codes "ok 0x000000000000000d")
    ∷ (codes "1 store 0x100000028 0x1ca11815f4b8436a", codes "ok")
    ∷ (codes "2 turn", codes "ok Stopped")
    ∷ (codes "1 delete 0x100001000", codes "no Denied")
    ∷ (codes "1 store 0x100001008 0", codes "ok")
    ∷ (codes "1 store 0x100000028 0x8665eeb269b687c3", codes "ok")
    ∷ (codes "1 pdx 0x100001000 1", codes "no Denied")
    ∷ (codes "1 ext 0x100001000 0 0", codes "ok")
    ∷ (codes "1 store 0x100000028 0x7a385155bee7079f", codes "ok")
    ∷ (codes "1 pwadd 0x100001000 R", codes "no Denied")
    ∷ (codes "1 pwdel 0x100001000 0xc70d778bccef36a8", codes "no Denied")
    ∷ (codes "1 entry 0x100001000 8", codes "no Denied")
    ∷ (codes "1 ext 0x100001000 0 0", codes "no Denied")
    ∷ (codes "1 recharge 0x100001000 1 0x28bd8653e56a5d40", codes "no Denied")
    ∷ (codes "1 pdx 0x100001000 1", codes "ok 2")
    ∷ (codes "1 ret", codes "ok 1")
    ∷ (codes "1 info 0x100001000", codes "ok 0x0000000100001000 2 1 7 1 0")
    ∷ (codes "1 delete 0x100001000", codes "ok")
    ∷ []

-- Passwords that give one right each: a call that needs another right is denied. Each is enough for `info`.
abbrev pub each_right_alone : Session
each_right_alone =
    linked
    ++ (codes "1 pwadd 0x100001000 R", codes "ok 0xc70d778bccef36a8")
    ∷ (codes "1 pwadd 0x100001000 W", codes "ok 0x8d4857517c5941da")
    ∷ (codes "1 pwadd 0x100001000 X", codes "ok 0x374ad8b83fe02477")
    ∷ (codes "1 pwadd 0x100001000 D", codes "ok 0x1ca11815f4b8436a")
    ∷ (codes "1 pwadd 0x100001000 P", codes "ok 0x8665eeb269b687c3")
    ∷ (codes "1 pwadd 0x100001000 O", codes "ok 0x7a385155bee7079f")
    ∷ (codes "1 store 0x100000028 0xc70d778bccef36a8", codes "ok")
    ∷ (codes "1 info 0x100001000", codes "ok 0x0000000100001000 2 1 7 0 0")
    ∷ (codes "1 load 0x100001000", codes "ok 0x0000000000000000")
    ∷ (codes "1 store 0x100001000 0", codes "no Denied")
    ∷ (codes "1 thread 0x100001000", codes "no Denied")
    ∷ (codes "1 delete 0x100001000", codes "no Denied")
    ∷ (codes "1 pdx 0x100001000 1", codes "no Denied")
    ∷ (codes "1 ext 0x100001000 0 0", codes "no Denied")
    ∷ (codes "1 store 0x100000028 0x8d4857517c5941da", codes "ok")
    ∷ (codes "1 info 0x100001000", codes "ok 0x0000000100001000 2 1 7 0 0")
    ∷ (codes "1 load 0x100001000", codes "no Denied")
    ∷ (codes "1 store 0x100001000 5", codes "ok")
    ∷ (codes "1 store 0x100000028 0x374ad8b83fe02477", codes "ok")
    ∷ (codes "1 info 0x100001000", codes "ok 0x0000000100001000 2 1 7 0 0")
    ∷ (codes "1 store 0x100001000 6", codes "no Denied")
    ∷ (codes "1 thread 0x100001000", codes "ok 2")
    ∷ (codes "1 store 0x100000028 0x8665eeb269b687c3", codes "ok")
    ∷ (codes "1 info 0x100001000", codes "ok 0x0000000100001000 2 1 7 0 0")
    ∷ (codes "1 thread 0x100001000", codes "no Denied")
    ∷ (codes "1 pdx 0x100001000 1", codes "no NoEntry")
    ∷ (codes "1 store 0x100000028 0x7a385155bee7079f", codes "ok")
    ∷ (codes "1 info 0x100001000", codes "ok 0x0000000100001000 2 1 7 0 0")
    ∷ (codes "1 pdx 0x100001000 1", codes "no Denied")
    ∷ (codes "1 ext 0x100001000 0 0", codes "ok")
    ∷ (codes "1 store 0x100000028 0x1ca11815f4b8436a", codes "ok")
    ∷ (codes "1 info 0x100001000", codes "ok 0x0000000100001000 2 1 7 0 0")
    ∷ (codes "1 ext 0x100001000 0 0", codes "no Denied")
    ∷ (codes "1 delete 0x100001000", codes "ok")
    ∷ (codes "1 info 0x100001000", codes "no Denied")
    ∷ []

-- A script gives W, D and O as 2 + 8 + 32; then a line gives R, X and P.
abbrev pub rights_by_their_bits : Session
rights_by_their_bits =
    linked
    ++ stores 0x100000400 (
    -- 6, pwadd, at 0x100001000
    0x600000001 ∷ 0x100000000101 ∷ 0x100000102 ∷ 0x2a00000201 ∷ 0xe ∷ 0x0 ∷
    [])
    ++ ((codes "1 thread 0x100000400", codes "ok 2")
    ∷ [])
    ++ replicate 5 (codes "2 turn", codes "ok Ready")
    ++ (codes "2 turn", codes "ok Stopped")
    ∷ (codes "1 store 0x100000028 0xc70d778bccef36a8", codes "ok")
    ∷ (codes "1 load 0x100001000", codes "no Denied")
    ∷ (codes "1 store 0x100001000 0", codes "ok")
    ∷ (codes "1 thread 0x100001000", codes "no Denied")
    ∷ (codes "1 pdx 0x100001000 1", codes "no Denied")
    ∷ (codes "1 ext 0x100001000 0 0", codes "ok")
    ∷ (codes "1 pwadd 0x100001000 XRP", codes "ok 0x8d4857517c5941da")
    ∷ (codes "1 store 0x100000028 0x8d4857517c5941da", codes "ok")
    ∷ (codes "1 load 0x100001000", codes "ok 0x0000000000000000")
    ∷ (codes "1 store 0x100001000 0", codes "no Denied")
    ∷ (codes "1 thread 0x100001000", codes "ok 3")
    ∷ (codes "1 pdx 0x100001000 1", codes "no NoEntry")
    ∷ (codes "1 ext 0x100001000 0 0", codes "no Denied")
    ∷ (codes "1 delete 0x100001000", codes "no Denied")
    ∷ (codes "1 store 0x100000028 0xc70d778bccef36a8", codes "ok")
    ∷ (codes "1 delete 0x100001000", codes "ok")
    ∷ []

-- The first and the last word of an object, and the words beside it; any address of an object names it.
abbrev pub edges_of_an_object : Session
edges_of_an_object =
    linked
    ++ (codes "1 load 0x100000ff8", codes "ok 0x0000000000000000")
    ∷ (codes "1 load 0xfffffff8", codes "no Denied")
    ∷ (codes "1 store 0x100002ff8 5", codes "ok")
    ∷ (codes "1 load 0x100002ff8", codes "ok 0x0000000000000005")
    ∷ (codes "1 load 0x100001000", codes "ok 0x0000000000000000")
    ∷ (codes "1 load 0x100003000", codes "no Denied")
    ∷ (codes "1 info 0x100002fff", codes "ok 0x0000000100001000 2 1 1 0 0")
    ∷ (codes "1 info 0x100003000", codes "no Denied")
    ∷ (codes "1 info 0xffffffff", codes "no Denied")
    ∷ (codes "1 entry 0x100002fff 0x1ff8", codes "ok 0x0000000100002ff8")
    ∷ (codes "1 entry 0x100002fff 0x2000", codes "no Range")
    ∷ []

-- The pages of all objects may be as many as the frames, and no more.
abbrev pub all_frames_are_taken : Session
all_frames_are_taken =
    (codes "1 create 1024 1 0x28bd8653e56a5d40", codes "no Full")
    ∷ (codes "1 create 64 1 0x28bd8653e56a5d40", codes "no Full")
    ∷ (codes "1 create 63 1 0x28bd8653e56a5d40", codes "ok 0x0000000100001000 0x1aed8da0b819d2bd")
    ∷ (codes "1 create 1 1 0x28bd8653e56a5d40", codes "no Full")
    ∷ (codes "1 store 0x100000020 0x100001000", codes "ok")
    ∷ (codes "1 store 0x100000028 0x1aed8da0b819d2bd", codes "ok")
    ∷ (codes "1 store 0x100000000 2", codes "ok")
    ∷ (codes "1 store 0x10003fff8 9", codes "ok")
    ∷ (codes "1 load 0x10003fff8", codes "ok 0x0000000000000009")
    ∷ (codes "1 load 0x100040000", codes "no Denied")
    ∷ []
