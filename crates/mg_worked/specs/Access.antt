-- Worked sessions: objects, capabilities and revocation.
use Rattle.std.specs.Prelude.{[], ◌∷◌, ◌++◌, codes}
use Rattle.mg_worked.specs.Sessions.{Session, linked}

-- the root's count, read by its own entry
abbrev pub first_line : Session
first_line =
    (codes "1 load 0x0000000100000000", codes "ok 0x0000000000000001")
    ∷ []

-- whoever makes an object has no capability for it until its password is stored
abbrev pub creator_has_no_capability : Session
creator_has_no_capability =
    (codes "1 create 2 1 0x28bd8653e56a5d40", codes "ok 0x0000000100001000 0x1aed8da0b819d2bd")
    ∷ (codes "1 load 0x100001000", codes "no Denied")
    ∷ []

-- once it is stored, the new object reads as zeros
abbrev pub stored_capability_reads : Session
stored_capability_reads =
    linked
    ++ (codes "1 load 0x100001000", codes "ok 0x0000000000000000")
    ∷ []

-- a count above 255 is read as 255, so the root still reads its own entry
abbrev pub large_count_is_cut : Session
large_count_is_cut =
    (codes "1 store 0x0000000100000000 0xffffffffffffffff", codes "ok")
    ∷ (codes "1 load 0x0000000100000000", codes "ok 0xffffffffffffffff")
    ∷ []

-- a domain can lock itself out
abbrev pub domain_locks_itself_out : Session
domain_locks_itself_out =
    (codes "1 store 0x100000000 0", codes "ok")
    ∷ (codes "1 load 0x100000000", codes "no Denied")
    ∷ (codes "1 store 0x100000000 1", codes "no Denied")
    ∷ []

-- alignment is tested before the right
abbrev pub alignment_first : Session
alignment_first =
    (codes "1 load 0x0000000100000004", codes "no Align")
    ∷ (codes "1 load 0xfffffffffffffff8", codes "no Denied")
    ∷ []

-- a password that is removed gives nothing to any thread from the next access on
abbrev pub revocation_acts_at_once : Session
revocation_acts_at_once =
    linked
    ++ (codes "1 thread 0x100000000", codes "ok 2")
    ∷ (codes "2 load 0x100001000", codes "ok 0x0000000000000000")
    ∷ (codes "1 pwdel 0x100001000 0x1aed8da0b819d2bd", codes "ok")
    ∷ (codes "2 load 0x100001000", codes "no Denied")
    ∷ []

-- a slot counts only while its password gives R
abbrev pub slot_needs_its_right : Session
slot_needs_its_right =
    linked
    ++ (codes "1 create 1 1 0x28bd8653e56a5d40", codes "ok 0x0000000100003000 0xc70d778bccef36a8")
    ∷ (codes "1 store 0x100001000 1", codes "ok")
    ∷ (codes "1 store 0x100001010 0x100003000", codes "ok")
    ∷ (codes "1 store 0x100001018 0xc70d778bccef36a8", codes "ok")
    ∷ (codes "1 pwadd 0x100001000 R", codes "ok 0x8d4857517c5941da")
    ∷ (codes "1 apdadd 0x100001000 0x8d4857517c5941da", codes "ok 1")
    ∷ (codes "1 load 0x100003000", codes "ok 0x0000000000000000")
    ∷ (codes "1 pwdel 0x100001000 0x8d4857517c5941da", codes "ok")
    ∷ (codes "1 load 0x100003000", codes "no Denied")
    ∷ []

-- a new object at a used base reads as zeros, and old passwords do not reach it
abbrev pub new_object_reads_zeros : Session
new_object_reads_zeros =
    linked
    ++ (codes "1 store 0x100001000 7", codes "ok")
    ∷ (codes "1 delete 0x100001000", codes "ok")
    ∷ (codes "1 create 2 1 0x28bd8653e56a5d40", codes "ok 0x0000000100001000 0xc70d778bccef36a8")
    ∷ (codes "1 load 0x100001000", codes "no Denied")
    ∷ (codes "1 store 0x100000028 0xc70d778bccef36a8", codes "ok")
    ∷ (codes "1 load 0x100001000", codes "ok 0x0000000000000000")
    ∷ []

-- any covered address names an object, and freed pages are used again
abbrev pub lowest_pages_are_taken : Session
lowest_pages_are_taken =
    linked
    ++ (codes "1 delete 0x100001ff8", codes "ok")
    ∷ (codes "1 delete 0x100001000", codes "no Denied")
    ∷ (codes "1 create 1 1 0x28bd8653e56a5d40", codes "ok 0x0000000100001000 0xc70d778bccef36a8")
    ∷ (codes "1 create 2 1 0x28bd8653e56a5d40", codes "ok 0x0000000100002000 0x8d4857517c5941da")
    ∷ []
