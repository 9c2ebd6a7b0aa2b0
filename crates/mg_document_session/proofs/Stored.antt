-- What is at an address and after it when words were stored there, each answered ok; and what loads give of it.
use Rattle.{mg_asm.specs.Stored.store_calls, mg_document.specs.Asked.load_calls, mg_document_session.specs.Trips.{AllOk, IsOk}}
use Rattle.mg_model.specs.{Abbreviations.word_in, Access.{allowed, at, covers}, ObjectCalls.is_aligned, Objects.{with_word, word_at}}
use Rattle.mg_model.specs.{Print.{replies_text, reply_line}, Refused.{Answer, checked}, State.{Object, ObjectRow, State}, Step.{after, step}}
use Rattle.mg_model.specs.{Threads.is_thread, declared.{calls.Line.Line, replies.Refusal.TheVariants.{Align, Denied, NoThread}}}
use Rattle.{mg_model.specs.declared.{replies.Reply.TheVariants.{Done, No, Value}, rights.Right.{Right, TheVariants.{R, W}}}, std.proofs.Common.◌≡◌}
use Rattle.std.proofs.Common.{◌≢◌, ℕ, ◌+◌, ◌-◌, ◌*◌, ◌/◌, ◌%◌, ◌<◌, ◌≤◌, Bool, true, false, not, if◌then◌else◌, List, [], ◌∷◌, ◌++◌, length}
use Rattle.std.proofs.{Common.{slice_set, All, Option, Some, None, is_some, option_map, refl, ap, sym, ◌∙◌, subst, arith}, lemmas.Bool.and_parts}
use Rattle.std.proofs.lemmas.{Bool.{eqb-true, leb-true, ltb-true}, List.{get_or-set_other, get_or-set_same, length-set, Elements.All-cons}}
use Rattle.std.{proofs.lemmas.{List.Elements.{All-head, All-nil, All-tail}, Option.same_Some}, specs.Option.option_map_or}
use Rattle.mg_model.specs.declared.calls.Call.TheVariants as call

-- an object begins at a word, and has a word for each eight bytes
pub record IsRoomy (object : Object) : Type 0 where
  pub aligned : object.row.base % 8 ≡ 0
  pub long : length object.words ≡ 512 * object.row.pages

-- an object with another word at an address, if this test says that it has the address
abbrev put_in : Bool → ℕ → ℕ → Object → Object
put_in here a value object = if here then record object { words = slice_set object.words ((a - object.row.base) / 8) value } else object

put_in-row : (here : Bool) (a value : ℕ) (object : Object) → (put_in here a value object).row ≡ object.row
put_in-row true a value object = refl
put_in-row false a value object = refl

put_in-roomy : (here : Bool) (a value : ℕ) (object : Object) → IsRoomy object → IsRoomy (put_in here a value object)
put_in-roomy true a value object roomy = record {
  aligned = roomy.aligned;
  long = length-set object.words ((a - object.row.base) / 8) value ∙ roomy.long;
}
put_in-roomy false a value object roomy = roomy

pub with_word-roomy : (objects : List Object) (a value : ℕ) → All IsRoomy objects → All IsRoomy (with_word objects a value)
with_word-roomy [] a value roomy = All-nil IsRoomy
with_word-roomy (object ∷ objects) a value roomy =
    All-cons IsRoomy (put_in (covers object.row a) a value object) (with_word objects a value)
    (put_in-roomy (covers object.row a) a value object (All-head IsRoomy object objects roomy))
    (with_word-roomy objects a value (All-tail IsRoomy object objects roomy))

-- the object that has an address is the same one after a store, with the word
at-stored : (objects : List Object) (a value b : ℕ) → at (with_word objects a value) b ≡ option_map (λ (object : Object). put_in (covers object.row a) a value object) (at objects b)
at-stored [] a value b = refl
at-stored (object ∷ objects) a value b =
    ap (λ (row : ObjectRow). if covers row b then Some (put_in (covers object.row a) a value object) else at (with_word objects a value) b) (put_in-row (covers object.row a) a value object)
    ∙ by_test (covers object.row b) (at-stored objects a value b)
  where
    by_test : (t : Bool) → at (with_word objects a value) b ≡ option_map (λ (o : Object). put_in (covers o.row a) a value o) (at objects b)
        → (if t then Some (put_in (covers object.row a) a value object) else at (with_word objects a value) b) ≡ option_map (λ (o : Object). put_in (covers o.row a) a value o) (if t then Some object else at objects b)
    by_test true ih = refl
    by_test false ih = ih

-- what is found has the address, and is one of the objects
pub record IsFound (b : ℕ) (object : Object) : Type 0 where
  pub has : covers object.row b ≡ true
  pub roomy : IsRoomy object

at-found : (objects : List Object) (b : ℕ) (object : Object) → All IsRoomy objects → at objects b ≡ Some object → IsFound b object
at-found [] b object roomy is = absurd (cc)
at-found (first ∷ objects) b object roomy is = by_test (covers first.row b) refl (λ there. at-found objects b object (All-tail IsRoomy first objects roomy) there) is
  where
    by_test : (t : Bool) → covers first.row b ≡ t → (at objects b ≡ Some object → IsFound b object) → (if t then Some first else at objects b) ≡ Some object → IsFound b object
    by_test true here rest there =
        let same : first ≡ object = same_Some first object there in
        subst (λ (o : Object). IsFound b o) same (record { has = here; roomy = All-head IsRoomy first objects roomy })
    by_test false here rest there = rest there

-- an address that an object has lies in it
pub record LiesIn (b : ℕ) (object : Object) : Type 0 where
  pub above : object.row.base ≤ b
  pub below : b < object.row.base + 4096 * object.row.pages

covers-lies : (b : ℕ) (object : Object) → covers object.row b ≡ true → LiesIn b object
covers-lies b object is =
    let both = and_parts _ _ is in
    record { above = leb-true object.row.base b both.0; below = ltb-true b (object.row.base + 4096 * object.row.pages) both.1 }

-- the word that was stored, and another one
put_in-same : (a value : ℕ) (object : Object) → a % 8 ≡ 0 → IsFound a object → word_in (put_in (covers object.row a) a value object) a ≡ value
put_in-same a value object aligned found =
    let lies = covers-lies a object found.has in
    let roomy = found.roomy in
    let within : (a - object.row.base) / 8 < length object.words = omega (arith, lies.above, lies.below, roomy.long) in
    ap (λ t. word_in (put_in t a value object) a) found.has ∙ get_or-set_same object.words ((a - object.row.base) / 8) value 0 within

put_in-other : (a value b : ℕ) (object : Object) → a % 8 ≡ 0 → b % 8 ≡ 0 → b < a → IsFound b object → word_in (put_in (covers object.row a) a value object) b ≡ word_in object b
put_in-other a value b object here there before found = by_test (covers object.row a) refl
  where
    by_test : (t : Bool) → covers object.row a ≡ t → word_in (put_in t a value object) b ≡ word_in object b
    by_test true is =
        let one = covers-lies a object is in
        let two = covers-lies b object found.has in
        let base = found.roomy.aligned in
        let apart : (b - object.row.base) / 8 ≢ (a - object.row.base) / 8 = omega (arith, one.above, two.above, base) in
        get_or-set_other object.words ((a - object.row.base) / 8) ((b - object.row.base) / 8) value 0 apart
    by_test false is = refl

-- the word at an object that was found, or 0
abbrev word_of : ℕ → Option Object → ℕ
word_of b o = option_map_or (λ object. word_in object b) o 0

stored-same : (objects : List Object) (a value : ℕ) → All IsRoomy objects → a % 8 ≡ 0 → is_some (at objects a) ≡ true → word_at (with_word objects a value) a ≡ value
stored-same objects a value roomy aligned some =
    ap (word_of a) (at-stored objects a value a) ∙ by_found (at objects a) refl some
  where
    by_found : (o : Option Object) → at objects a ≡ o → is_some o ≡ true → word_of a (option_map (λ (object : Object). put_in (covers object.row a) a value object) o) ≡ value
    by_found None is some = absurd (cc)
    by_found (Some object) is some = put_in-same a value object aligned (at-found objects a object roomy is)

stored-other : (objects : List Object) (a value b : ℕ) → All IsRoomy objects → a % 8 ≡ 0 → b % 8 ≡ 0 → b < a → word_at (with_word objects a value) b ≡ word_at objects b
stored-other objects a value b roomy here there before =
    ap (word_of b) (at-stored objects a value b) ∙ by_found (at objects b) refl
  where
    by_found : (o : Option Object) → at objects b ≡ o → word_of b (option_map (λ (object : Object). put_in (covers object.row a) a value object) o) ≡ word_of b o
    by_found None is = refl
    by_found (Some object) is = put_in-other a value b object here there before (at-found objects b object roomy is)

-- an access that is allowed is one of an object
allowed-found : (state : State) (t a : ℕ) (right : Right) → allowed state t a right ≡ true → is_some (at state.objects a) ≡ true
allowed-found state t a right may =
    by_found (λ (object : Object). _) (at state.objects a) may
  where
    by_found : (f : Object → Bool) (o : Option Object) → option_map_or f o false ≡ true → is_some o ≡ true
    by_found f None is = absurd (cc)
    by_found f (Some object) is = refl

-- a line of a thread that requires one right at a word
abbrev answer_by : Bool → Bool → Bool → State → Answer → Answer
answer_by lives aligned may state done = if lives then checked state ((not aligned, Align) ∷ (not may, Denied) ∷ []) done else (state, No NoThread)

pub record WasDone (is_at_word is_allowed : Bool) (answer done : Answer) : Type 0 where
  pub aligned : is_at_word ≡ true
  pub may : is_allowed ≡ true
  pub is : answer ≡ done

ok-done : (lives aligned may : Bool) (state : State) (done : Answer) → IsOk (answer_by lives aligned may state done).1 → WasDone aligned may (answer_by lives aligned may state done) done
ok-done true true true state done ok = record { aligned = refl; may = refl; is = refl }
ok-done true true false state done ok = absurd ok
ok-done true false true state done ok = absurd ok
ok-done true false false state done ok = absurd ok
ok-done false aligned may state done ok = absurd ok

abbrev store_line : ℕ → ℕ → ℕ → Line
store_line t a value = record { thread = t; call = call.Store a value }

abbrev load_line : ℕ → ℕ → Line
load_line t a = record { thread = t; call = call.Load a }

-- a store that was answered ok
pub record WasStored (state : State) (t a value : ℕ) : Type 0 where
  pub aligned : a % 8 ≡ 0
  pub some : is_some (at state.objects a) ≡ true
  pub state_is : (step state (store_line t a value)).0 ≡ record state { objects = with_word state.objects a value }

ok-stored : (state : State) (t a value : ℕ) → IsOk (step state (store_line t a value)).1 → WasStored state t a value
ok-stored state t a value ok =
    let done = ok-done (is_thread state t) (is_aligned a) (allowed state t a W) state (record state { objects = with_word state.objects a value }, Done) ok in
    record {
      aligned = eqb-true (a % 8) 0 done.aligned;
      some = allowed-found state t a W done.may;
      state_is = ap (λ (x : Answer). x.0) done.is;
    }

ok-loaded : (state : State) (t a : ℕ) → IsOk (step state (load_line t a)).1 → step state (load_line t a) ≡ (state, Value (word_at state.objects a))
ok-loaded state t a ok = (ok-done (is_thread state t) (is_aligned a) (allowed state t a R) state (state, Value (word_at state.objects a)) ok).is

-- these words are at an address and after it
abbrev pub HasWords : List Object → ℕ → List ℕ → Type 0
HasWords objects a [] = Unit {0}
HasWords objects a (w ∷ ws) = (word_at objects a ≡ w) × HasWords objects (a + 8) ws

-- a store, and what it leaves
pub record Leaves (state : State) (t a value : ℕ) : Type 0 where
  pub stored : WasStored state t a value
  pub roomy : All IsRoomy (step state (store_line t a value)).0.objects
  pub same : word_at (step state (store_line t a value)).0.objects a ≡ value
  pub others : (b : ℕ) → b % 8 ≡ 0 → b < a → word_at (step state (store_line t a value)).0.objects b ≡ word_at state.objects b

store-leaves : (state : State) (t a value : ℕ) → All IsRoomy state.objects → IsOk (step state (store_line t a value)).1 → Leaves state t a value
store-leaves state t a value roomy ok =
    let stored = ok-stored state t a value ok in
    let objects : (step state (store_line t a value)).0.objects ≡ with_word state.objects a value = ap (λ (s : State). s.objects) stored.state_is in
    record {
      stored = stored;
      roomy = subst (λ (os : List Object). All IsRoomy os) (sym objects) (with_word-roomy state.objects a value roomy);
      same = ap (λ (os : List Object). word_at os a) objects ∙ stored-same state.objects a value roomy stored.aligned stored.some;
      others = λ b there before. ap (λ (os : List Object). word_at os b) objects ∙ stored-other state.objects a value b roomy stored.aligned there before;
    }

-- words before those that are stored stay
stores-keep : (state : State) (t a : ℕ) (ws : List ℕ) (b : ℕ) → All IsRoomy state.objects → AllOk state (store_calls t a ws) → b % 8 ≡ 0 → b < a
    → word_at (after state (store_calls t a ws)).objects b ≡ word_at state.objects b
stores-keep state t a [] b roomy ok there before = refl
stores-keep state t a (w ∷ ws) b roomy ok there before =
    let leaves = store-leaves state t a w roomy ok.0 in
    stores-keep (step state (store_line t a w)).0 t (a + 8) ws b leaves.roomy ok.1 there (omega arith)
    ∙ leaves.others b there before

pub stores-hold : (state : State) (t a : ℕ) (ws : List ℕ) → All IsRoomy state.objects → AllOk state (store_calls t a ws) → HasWords (after state (store_calls t a ws)).objects a ws
stores-hold state t a [] roomy ok = tt
stores-hold state t a (w ∷ ws) roomy ok =
    let leaves = store-leaves state t a w roomy ok.0 in (
      stores-keep (step state (store_line t a w)).0 t (a + 8) ws a leaves.roomy ok.1 leaves.stored.aligned (omega arith) ∙ leaves.same,
      stores-hold (step state (store_line t a w)).0 t (a + 8) ws leaves.roomy ok.1,
    )

-- the replies with these words
abbrev pub value_lines : List ℕ → List ℕ
value_lines [] = []
value_lines (w ∷ ws) = reply_line (Value w) ++ value_lines ws

pub loads-tell : (state : State) (t a : ℕ) (ws : List ℕ) → HasWords state.objects a ws → AllOk state (load_calls t a (length ws)) → replies_text state (load_calls t a (length ws)) ≡ value_lines ws
loads-tell state t a [] has ok = refl
loads-tell state t a (w ∷ ws) has ok =
    let loaded = ok-loaded state t a ok.0 in
    let rest = load_calls t (a + 8) (length ws) in
    ap (λ (x : Answer). reply_line x.1 ++ replies_text x.0 rest) loaded
    ∙ ap (λ v. reply_line (Value v) ++ replies_text state rest) has.0
    ∙ ap (λ v. reply_line (Value w) ++ v) (loads-tell state t (a + 8) ws has.1 (subst (λ (s : State). AllOk s rest) (ap (λ (x : Answer). x.0) loaded) ok.1))
