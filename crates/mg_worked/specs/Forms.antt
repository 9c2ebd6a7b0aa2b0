-- Worked sessions: how lines are spelled.
use Rattle.std.specs.Prelude.{ℕ, List, [], ◌∷◌, ◌++◌, codes, replicate}
use Rattle.mg_worked.specs.Sessions.{Session, input, output}

-- How numbers are spelled: 1 to 20 decimal digits, or 0x and 1 to 16 hexadecimal ones, below 2^64.
abbrev pub numbers : Session
numbers =
    (codes "1 load 4294967296", codes "ok 0x0000000000000001")
    ∷ (codes "1 load 00000000004294967296", codes "ok 0x0000000000000001")
    ∷ (codes "1 load 000000000004294967296", codes "no Syntax")
    ∷ (codes "1 load 0x100000000", codes "ok 0x0000000000000001")
    ∷ (codes "1 load 0x0000000100000000", codes "ok 0x0000000000000001")
    ∷ (codes "1 load 0x00000000100000000", codes "no Syntax")
    ∷ (codes "1 load 0X100000000", codes "no Syntax")
    ∷ (codes "1 load 0x", codes "no Syntax")
    ∷ (codes "1 load x", codes "no Syntax")
    ∷ (codes "1 load 0xg", codes "no Syntax")
    ∷ (codes "1 load 0xFFFFFFFFFFFFFFF8", codes "no Denied")
    ∷ (codes "1 load 0xabcdefABCDEF0009", codes "no Align")
    ∷ (codes "1 load 18446744073709551615", codes "no Align")
    ∷ (codes "1 load 18446744073709551616", codes "no Syntax")
    ∷ (codes "1 load 99999999999999999999", codes "no Syntax")
    ∷ (codes "1 load -8", codes "no Syntax")
    ∷ (codes "1 load 8a", codes "no Syntax")
    ∷ (codes "0 ret", codes "no NoThread")
    ∷ (codes "2 ret", codes "no NoThread")
    ∷ (codes "0x1 ret", codes "no NoFrame")
    ∷ (codes "18446744073709551615 ret", codes "no NoThread")
    ∷ (codes "18446744073709551616 ret", codes "no Syntax")
    ∷ (codes "1 pdx 0 255", codes "no Denied")
    ∷ (codes "1 pdx 0 256", codes "no Syntax")
    ∷ []

-- Words in their places, as many as a call has, and in lower case.
abbrev pub forms : Session
forms =
    (codes "1 LOAD 8", codes "no Syntax")
    ∷ (codes "1 load", codes "no Syntax")
    ∷ (codes "1 load 8 8", codes "no Syntax")
    ∷ (codes "load 8", codes "no Syntax")
    ∷ (codes "1", codes "no Syntax")
    ∷ (codes "x ret", codes "no Syntax")
    ∷ (codes "1 1 ret", codes "no Syntax")
    ∷ (codes "1 loads 8", codes "no Syntax")
    ∷ (codes "1 store 8", codes "no Syntax")
    ∷ (codes "1 create 1 1", codes "no Syntax")
    ∷ (codes "1 pay 1 1 1", codes "no Syntax")
    ∷ (codes "1 pwadd 0x100000000", codes "no Syntax")
    ∷ (codes "1 pwadd 0x100000000 r", codes "no Syntax")
    ∷ (codes "1 pwadd 0x100000000 RWXDPOR", codes "no Syntax")
    ∷ (codes "1 pwadd 0x100000000 Q", codes "no Syntax")
    ∷ (codes "1 pwadd 0x100000000 R 5 5", codes "no Syntax")
    ∷ (codes "1 apdlist 1", codes "no Syntax")
    ∷ (codes "1 ret 1", codes "no Syntax")
    ∷ (codes "1 turn 1", codes "no Syntax")
    ∷ (codes "turn", codes "no Syntax")
    ∷ (codes "next 1", codes "no Syntax")
    ∷ (codes "1 next", codes "no Syntax")
    ∷ (codes "1 rent", codes "no Syntax")
    ∷ (codes "next", codes "no Idle")
    ∷ (codes "rent", codes "ok 1 1 1")
    ∷ []

-- Blanks are spaces, tabs and carriage returns; a line has up to 256 bytes.
abbrev pub blanks : Session
blanks =
    (32 ∷ 9 ∷ codes "1" ++ 9 ∷ 32 ∷ codes "load" ++ 13 ∷ codes "0x100000000" ++ 13 ∷ [], codes "ok 0x0000000000000001")
    ∷ (codes "1 load 0x100000000" ++ replicate 238 32, codes "ok 0x0000000000000001")
    ∷ (codes "1 load 0x100000000" ++ replicate 239 32, codes "no Syntax")
    ∷ (replicate 257 35, codes "no Syntax")
    ∷ (replicate 257 32, codes "no Syntax")
    ∷ []

-- Lines without words and lines that begin with # are passed over, and the last line needs no newline: two replies.
abbrev pub notes : List ℕ
notes = codes "# a note" ++ 10 ∷ 10 ∷ 32 ∷ 9 ∷ 13 ∷ 10 ∷ codes "1 ret" ++ 10 ∷ codes " #1 ret" ++ 10 ∷ replicate 256 35 ++ 10 ∷ codes "1 ret # 5"

abbrev pub notes_replies : List ℕ
notes_replies = codes "no NoFrame" ++ 10 ∷ codes "no Syntax" ++ 10 ∷ []
