-- Worked costs: what the lines of a session may cost, from a fresh state or after an earlier session. A whole search costs
-- 4,088 words.
use Rattle.std.specs.{Fmt.decimal, Prelude.{◌≡◌, ℕ, zero, suc, ◌+◌, List, [], ◌∷◌, ◌++◌, codes, replicate}}
use Rattle.mg_model.specs.{Fresh.fresh, Lines.lines, State.State, Step.after, Tariff.usual_tariff, Warmth.cost}
use Rattle.mg_worked.specs.{Drawn.zero_seed, Sessions.{IsAnswered, Session, input, linked, small, stores}}

-- from this state the lines get these replies, and this number of words is the most that they may cost
pub record IsPaid (state : State) (session : Session) (words : ℕ) : Type 0 where
  pub answered : IsAnswered state session
  pub paid : cost state (lines (input session)) ≡ words

-- a fresh state after an earlier session
abbrev pub behind : Session → State
behind session = after (fresh small) (lines (input session))

-- thread 1 makes threads with these numbers
abbrev pub made_threads : ℕ → ℕ → Session
made_threads first zero = []
made_threads first (suc n) = (codes "1 thread 0x100000000", codes "ok " ++ decimal first) ∷ made_threads (first + 1) n

-- one search for two words of an object
abbrev pub words_of_one_object : Session
words_of_one_object =
    (codes "1 load 0x100000000", codes "ok 0x0000000000000001")
    ∷ (codes "1 load 0x100000008", codes "ok 0x0000000000000000")
    ∷ []

-- a store into a list makes every right cold
abbrev pub store_between_loads : Session
store_between_loads =
    (codes "1 load 0x100000000", codes "ok 0x0000000000000001")
    ∷ (codes "1 store 0x100000020 5", codes "ok")
    ∷ (codes "1 load 0x100000000", codes "ok 0x0000000000000001")
    ∷ []

-- of six rights the first is allowed, and no word is loaded
abbrev pub info_twice : Session
info_twice =
    (codes "1 info 0x100000000", codes "ok 0x0000000100000000 1 1 1 0 0")
    ∷ (codes "1 info 0x100000000", codes "ok 0x0000000100000000 1 1 1 0 0")
    ∷ []

-- A refused line disturbs nothing. An address of no object is searched for, and an address of no word is not. A thread that
-- does not live makes no access.
abbrev pub refused_between_loads : Session
refused_between_loads =
    (codes "1 load 0x100000000", codes "ok 0x0000000000000001")
    ∷ (codes "1 load 0x200000000", codes "no Denied")
    ∷ (codes "1 load 0x100000001", codes "no Align")
    ∷ (codes "7 load 0x100000000", codes "no NoThread")
    ∷ (codes "1 load 0x100000000", codes "ok 0x0000000000000001")
    ∷ []

-- a script of one instruction, and a thread that is to run it
abbrev pub short_script : Session
short_script =
    (codes "1 store 0x100000040 0x0000000500000001", codes "ok")
    ∷ (codes "1 thread 0x100000040", codes "ok 2")
    ∷ []

-- two fetches from one object, and a turn of a thread that has stopped
abbrev pub turns_of_a_script : Session
turns_of_a_script =
    (codes "2 turn", codes "ok Ready")
    ∷ (codes "2 turn", codes "ok Stopped")
    ∷ (codes "2 turn", codes "no NotReady")
    ∷ []

-- an object of two pages, and threads 2 to 38
abbrev pub linked_threads : Session
linked_threads = linked ++ made_threads 2 37

-- thread 1 in the second object and thread 38 in the first have the same seat
abbrev pub one_seat : Session
one_seat =
    (codes "1 load 0x100001000", codes "ok 0x0000000000000000")
    ∷ (codes "38 load 0x100000000", codes "ok 0x0000000000000002")
    ∷ (codes "1 load 0x100001000", codes "ok 0x0000000000000000")
    ∷ []

-- thread 37 has another seat
abbrev pub two_seats : Session
two_seats =
    (codes "1 load 0x100001000", codes "ok 0x0000000000000000")
    ∷ (codes "37 load 0x100000000", codes "ok 0x0000000000000002")
    ∷ (codes "1 load 0x100001000", codes "ok 0x0000000000000000")
    ∷ []

-- calls that report rights, slots or an account leave every right warm
abbrev pub calls_that_only_tell : Session
calls_that_only_tell =
    (codes "1 load 0x100000000", codes "ok 0x0000000000000001")
    ∷ (codes "1 apdlist", codes "ok 1 0x0000000100000000")
    ∷ (codes "1 balance 1 0x28bd8653e56a5d40", codes "ok 1000 0 1")
    ∷ (codes "1 info 0x100000000", codes "ok 0x0000000100000000 1 1 1 0 0")
    ∷ (codes "1 load 0x100000008", codes "ok 0x0000000000000000")
    ∷ []

-- only a first page is read as a list
abbrev pub stores_into_both_pages : Session
stores_into_both_pages =
    (codes "1 load 0x100001000", codes "ok 0x0000000000000000")
    ∷ (codes "1 store 0x100002000 5", codes "ok")
    ∷ (codes "1 load 0x100001000", codes "ok 0x0000000000000000")
    ∷ (codes "1 store 0x100001ff8 6", codes "ok")
    ∷ (codes "1 load 0x100001ff8", codes "ok 0x0000000000000006")
    ∷ []

-- a right that is denied is searched for each time
abbrev pub denied_twice : Session
denied_twice =
    (codes "1 create 2 1 0x28bd8653e56a5d40", codes "ok 0x0000000100001000 0x1aed8da0b819d2bd")
    ∷ (codes "1 load 0x100001000", codes "no Denied")
    ∷ (codes "1 load 0x100001000", codes "no Denied")
    ∷ []

-- a call that would change rights changes none if it is refused
abbrev pub refused_calls : Session
refused_calls =
    (codes "1 load 0x100000000", codes "ok 0x0000000000000001")
    ∷ (codes "1 pdx 0x100000000 0", codes "no NoEntry")
    ∷ (codes "1 create 0 1 0x28bd8653e56a5d40", codes "no Size")
    ∷ (codes "1 load 0x100000000", codes "ok 0x0000000000000001")
    ∷ []

-- a domain that is left for a while
abbrev pub domain_and_back : Session
domain_and_back =
    (codes "1 load 0x100000000", codes "ok 0x0000000000000001")
    ∷ (codes "1 entry 0x100000000 0", codes "ok 0x0000000100000000")
    ∷ (codes "1 pdx 0x100000000 0", codes "ok 2")
    ∷ (codes "1 load 0x100000000", codes "no Denied")
    ∷ (codes "1 ret", codes "ok 1")
    ∷ (codes "1 load 0x100000000", codes "ok 0x0000000000000001")
    ∷ []

-- a script that makes a call, which is refused, and then stores a word
abbrev pub calling_script : Session
calling_script =
    stores 0x100000200 (0xc00000001 ∷ 0x500000101 ∷ 0xe ∷ 0x100000202 ∷ 0x30000020007 ∷ []) ++ (codes "1 thread 0x100000200", codes "ok 2") ∷ []

-- `sys` disturbs whatever the call is answered, and so does a store into a first page
abbrev pub turns_that_disturb : Session
turns_that_disturb =
    replicate 5 (codes "2 turn", codes "ok Ready")
    ++ (codes "2 turn", codes "ok Stopped")
    ∷ (codes "1 load 0x100000300", codes "ok 0x000000000000000d")
    ∷ []

-- a script that loads one word twice
abbrev pub loading_script : Session
loading_script = stores 0x100000200 (0x100000102 ∷ 0x10206 ∷ 0x10206 ∷ []) ++ (codes "1 thread 0x100000200", codes "ok 2") ∷ []

-- a turn by `next` fetches and loads
abbrev pub turns_that_load : Session
turns_that_load =
    replicate 3 (codes "next", codes "ok 2 Ready")
    ++ (codes "next", codes "ok 2 Stopped")
    ∷ (codes "next", codes "no Idle")
    ∷ (codes "2 load 0x100000008", codes "ok 0x0000000000000000")
    ∷ []

-- a script that makes a thread which begins in the root object
abbrev pub making_script : Session
making_script = stores 0x100000200 (0xd00000001 ∷ 0x100000102 ∷ 0xe ∷ []) ++ (codes "1 thread 0x100000200", codes "ok 2") ∷ []

-- if its line begins cold, a key that it tests twice is searched for twice
abbrev pub one_key_twice : Session
one_key_twice =
    (codes "2 turn", codes "ok Ready")
    ∷ (codes "2 turn", codes "ok Ready")
    ∷ (codes "1 store 0x100000020 5", codes "ok")
    ∷ (codes "2 turn", codes "ok Ready")
    ∷ []

-- each call on an object tests one right there
abbrev pub calls_on_an_object : Session
calls_on_an_object =
    (codes "1 pwadd 0x100001000 R", codes "ok 0xc70d778bccef36a8")
    ∷ (codes "1 pwdel 0x100001000 0xc70d778bccef36a8", codes "ok")
    ∷ (codes "1 ext 0x100001000 0x100000000 0x903df1a0ade0b876", codes "ok")
    ∷ (codes "1 recharge 0x100001000 1 0x28bd8653e56a5d40", codes "ok")
    ∷ (codes "1 thread 0x100001000", codes "ok 2")
    ∷ (codes "1 delete 0x100001000", codes "ok")
    ∷ []

-- A line after others that leave all rights to an object warm but D and X. A refused call tests its right all the same,
-- unless its address is not that of a word.
abbrev pub behind_four_rights : List ℕ × List ℕ → Session
behind_four_rights line =
    (codes "1 load 0x100001000", codes "ok 0x0000000000000000")
    ∷ (codes "1 store 0x100002000 5", codes "ok")
    ∷ (codes "1 pdx 0x100001000 0", codes "no NoEntry")
    ∷ (codes "1 entry 0x100001000 4", codes "no Range")
    ∷ (codes "1 pwdel 0x100001000 5", codes "no NoPassword")
    ∷ (codes "1 recharge 0x100001000 1 5", codes "no Account")
    ∷ (codes "1 pdx 0x100001000 0", codes "no NoEntry")
    ∷ (codes "1 load 0x100001008", codes "ok 0x0000000000000000")
    ∷ (codes "1 store 0x100002008 5", codes "ok")
    ∷ (codes "1 pdx 0x100001001 0", codes "no Align")
    ∷ (codes "1 thread 0x100001001", codes "no Align")
    ∷ (codes "1 store 0x100001001 5", codes "no Align")
    ∷ line
    ∷ []

abbrev pub delete_then : Session
delete_then = behind_four_rights (codes "1 delete 0x100001000", codes "ok")

abbrev pub thread_then : Session
thread_then = behind_four_rights (codes "1 thread 0x100001000", codes "ok 2")

abbrev pub pwadd_then : Session
pwadd_then = behind_four_rights (codes "1 pwadd 0x100001000 R", codes "ok 0xc70d778bccef36a8")

abbrev pub ext_then : Session
ext_then = behind_four_rights (codes "1 ext 0x100001000 0x100000000 0x903df1a0ade0b876", codes "ok")

-- a script that makes a `pdx` with a mask above 255, and a `pdx` to a domain that it then leaves
abbrev pub entering_script : Session
entering_script =
    stores 0x100000200 (0xa0000000101 ∷ 0x100000102 ∷ 0x10000000201 ∷ 0x2010b ∷ 0x100000201 ∷ 0x2010b ∷ 0 ∷ [])
    ++ (codes "1 store 0x100000a00 0xc", codes "ok")
    ∷ (codes "1 entry 0x100000000 0xa00", codes "ok 0x0000000100000a00")
    ∷ (codes "1 thread 0x100000200", codes "ok 2")
    ∷ []

-- `pdx` and `ret` disturb, also the `pdx` with the wide mask, which tests no right
abbrev pub turns_that_enter : Session
turns_that_enter = replicate 7 (codes "2 turn", codes "ok Ready") ++ (codes "2 turn", codes "ok Stopped") ∷ []

-- Four scripts: a jump out of the object, a word that is no instruction, and two stores into first pages, one to an address
-- that is no word's and one into an object on which the script has no right.
abbrev pub faulting_scripts : Session
faulting_scripts =
    (codes "1 create 2 1 0x28bd8653e56a5d40", codes "ok 0x0000000100001000 0x1aed8da0b819d2bd")
    ∷ stores 0x100000200 (0x40000000008 ∷ [])
    ++ stores 0x100000300 (0x100 ∷ [])
    ++ stores 0x100000400 (0x100000102 ∷ 0x400010007 ∷ [])
    ++ stores 0x100000500 (0x100000102 ∷ 0x100000010007 ∷ [])
    ++ (codes "1 thread 0x100000200", codes "ok 2")
    ∷ (codes "1 thread 0x100000300", codes "ok 3")
    ∷ (codes "1 thread 0x100000400", codes "ok 4")
    ∷ (codes "1 thread 0x100000500", codes "ok 5")
    ∷ []

-- a fetch that is denied counts no word, a fetch of a word that is no instruction counts that word, and a store that faults
-- disturbs nothing
abbrev pub turns_that_fault : Session
turns_that_fault =
    (codes "1 load 0x100000000", codes "ok 0x0000000000000001")
    ∷ (codes "2 turn", codes "ok Ready")
    ∷ (codes "2 turn", codes "ok Faulted Denied")
    ∷ (codes "3 turn", codes "ok Faulted Opcode")
    ∷ (codes "4 turn", codes "ok Ready")
    ∷ (codes "4 turn", codes "ok Faulted Align")
    ∷ (codes "5 turn", codes "ok Ready")
    ∷ (codes "5 turn", codes "ok Faulted Denied")
    ∷ (codes "1 load 0x100000000", codes "ok 0x0000000000000001")
    ∷ []

-- a script that stores twice into a second page
abbrev pub storing_script : Session
storing_script =
    linked ++ stores 0x100000200 (0x100000102 ∷ 0x200000010007 ∷ 0x200000010007 ∷ []) ++ (codes "1 thread 0x100000200", codes "ok 2") ∷ []

abbrev pub turns_that_store : Session
turns_that_store =
    replicate 3 (codes "2 turn", codes "ok Ready")
    ++ (codes "2 turn", codes "ok Stopped")
    ∷ (codes "2 store 0x100002008 5", codes "ok")
    ∷ []

-- a script that stores a word by a call, and loads it by another
abbrev pub script_of_calls : Session
script_of_calls =
    linked ++ stores 0x100000200 (0x200000001 ∷ 0x200000000101 ∷ 0x100000102 ∷ 0xe ∷ 0x100000001 ∷ 0xe ∷ []) ++ (codes "1 thread 0x100000200", codes "ok 2") ∷ []

abbrev pub turns_that_call : Session
turns_that_call = replicate 6 (codes "2 turn", codes "ok Ready") ++ (codes "2 turn", codes "ok Stopped") ∷ []

-- thread 1 has the right O alone on the second object, and there are threads 2 to 31
abbrev pub owner_alone : Session
owner_alone =
    linked
    ++ (codes "1 pwadd 0x100001000 O", codes "ok 0xc70d778bccef36a8")
    ∷ (codes "1 store 0x100000028 0xc70d778bccef36a8", codes "ok")
    ∷ made_threads 2 30

-- it tests six rights in turn, of which the last is allowed; thread 31 in the root object has the seat of that right
abbrev pub six_rights_in_turn : Session
six_rights_in_turn =
    (codes "1 info 0x100001000", codes "ok 0x0000000100001000 2 1 2 0 0")
    ∷ (codes "31 load 0x100000000", codes "ok 0x0000000000000002")
    ∷ (codes "1 info 0x100001000", codes "ok 0x0000000100001000 2 1 2 0 0")
    ∷ []

-- thread 30 has another seat
abbrev pub sixth_right_is_kept : Session
sixth_right_is_kept =
    (codes "1 info 0x100001000", codes "ok 0x0000000100001000 2 1 2 0 0")
    ∷ (codes "30 load 0x100000000", codes "ok 0x0000000000000002")
    ∷ (codes "1 info 0x100001000", codes "ok 0x0000000100001000 2 1 2 0 0")
    ∷ []

-- 128 frames, an object after the first 65 pages, and a script that stores into its second page
abbrev pub far_object : State
far_object = after (fresh record { frames = 128; seed = zero_seed; credits = 1000; tariff = usual_tariff 128 }) (lines (input far_lines))
  where
    far_lines : Session
    far_lines =
        (codes "1 create 64 1 0x28bd8653e56a5d40", codes "ok 0x0000000100001000 0x1aed8da0b819d2bd")
        ∷ (codes "1 create 2 1 0x28bd8653e56a5d40", codes "ok 0x0000000100041000 0xc70d778bccef36a8")
        ∷ (codes "1 store 0x100000020 0x100041000", codes "ok")
        ∷ (codes "1 store 0x100000028 0xc70d778bccef36a8", codes "ok")
        ∷ (codes "1 store 0x100000000 2", codes "ok")
        ∷ stores 0x100000200 (0x100000102 ∷ 0x4200000010007 ∷ 0x4200000010007 ∷ []) ++ (codes "1 thread 0x100000200", codes "ok 2") ∷ []

-- the fetch and the store of a turn have the same seat, so each takes it from the other
abbrev pub one_seat_in_a_turn : Session
one_seat_in_a_turn = replicate 3 (codes "2 turn", codes "ok Ready") ++ (codes "2 turn", codes "ok Stopped") ∷ []
