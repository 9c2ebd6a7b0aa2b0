-- Two well-formed states with one text: their settings, counters, accounts, rows of objects, threads and words are told one after another.
use Rattle.mg_show_laws.proofs.{Cutting.{flat_map-over, level, list-level, list-told}, Names.{flat_map, ◌≡◌, ℕ, ◌<◌, List, ◌++◌, ap, sym, ◌∙◌, arith}}
use Rattle.mg_show_laws.proofs.Names.{append_assoc, All, All-map, All-weaker, IsObjectRow, Object, State, IsObject, IsWellFormed, accounts_text}
use Rattle.mg_show_laws.proofs.{Names.{counters_text, object_text, pages_paid, rows_in, settings_text, state_text, thread_text}, ObjectsTold.IsFunds}
use Rattle.mg_show_laws.proofs.{ObjectsTold.{accounts-told, object-at, object-told}, SettingsTold.{counters-told, settings-told, within-fits}}
use Rattle.mg_show_laws.proofs.{ThreadsTold.{IsNumbered, thread-at, thread-told}, WordsTold.{object_words, objects-level, objects-told}}
use Rattle.{mg_show_laws.specs.TextLaws.TellsState, std.proofs.lemmas.List.Sums.get_or-le-sum_by}

-- no account has more than the credits, and none owes more than its limit by the last period
funds-fit : (state : State) → IsWellFormed state → All IsFunds state.accounts
funds-fit state ok k d within = grind (arith, within-fits, get_or-le-sum_by)

rows-fit : (state : State) → IsWellFormed state → All IsObjectRow (rows_in state)
rows-fit state ok =
    All-map IsObjectRow (λ (object : Object). object.row) state.objects
    (All-weaker IsObject (λ (object : Object). IsObjectRow object.row) (λ object is. is.row) state.objects ok.objects.each)

threads-fit : (state : State) → IsWellFormed state → All IsNumbered state.threads
threads-fit state ok = grind (arith, All-weaker)

-- The text of a state in its parts, each with all that stands behind it

abbrev all_words : State → List ℕ
all_words state = flat_map object_words state.objects

abbrev from_threads : State → List ℕ
from_threads state = flat_map thread_text state.threads ++ all_words state

abbrev from_objects : State → List ℕ
from_objects state = flat_map (λ (object : Object). object_text object.row) state.objects ++ from_threads state

abbrev from_accounts : State → List ℕ
from_accounts state = accounts_text (pages_paid (rows_in state)) 1 state.accounts ++ from_objects state

six_apart : (a b c d e w : List ℕ) → ((((a ++ b) ++ c) ++ d) ++ e) ++ w ≡ a ++ (b ++ (c ++ (d ++ (e ++ w))))
six_apart a b c d e w = simp append_assoc

state-apart : (state : State) → state_text state ≡ settings_text state.settings ++ (counters_text state.counters ++ from_accounts state)
state-apart state = grind (arith, six_apart)

rows-apart : (state : State) → flat_map object_text (rows_in state) ++ from_threads state ≡ from_objects state
rows-apart state = ap (λ text. text ++ from_threads state) (sym (flat_map-over object_text (λ (object : Object). object.row) state.objects))

threads-level : (state : State) → level (from_threads state) < 4
threads-level state =
    let low = objects-level state.objects in
    list-level 1 4 thread_text state.threads (all_words state) thread-at (omega arith) (omega arith)

objects-behind : (state : State) → level (from_objects state) < 8
objects-behind state =
    let low = threads-level state in
    let at = λ (object : Object) (r : List ℕ). object-at object.row r in
    list-level 4 8 (λ (object : Object). object_text object.row) state.objects (from_threads state) at (omega arith) (omega arith)

pub text-told : TellsState state_text
text-told x y ok ok' e =
    let settings = settings-told x.settings y.settings _ _ ok.settings ok'.settings (sym (state-apart x) ∙ e ∙ state-apart y) in
    let counters = counters-told x.counters y.counters _ _ ok.counters ok'.counters settings.1 in
    let paid = pages_paid (rows_in x) in
    let paid' = pages_paid (rows_in y) in
    let funds = funds-fit x ok in
    let funds' = funds-fit y ok' in
    let accounts = accounts-told paid paid' 1 x.accounts y.accounts _ _ funds funds' (objects-behind x) (objects-behind y) counters.1 in
    let by_rows = rows-apart x ∙ accounts.1 ∙ sym (rows-apart y) in
    let rows = list-told IsObjectRow 4 object_text object-at object-told (rows_in x) (rows_in y) _ _ (rows-fit x ok) (rows-fit y ok')
    (threads-level x) (threads-level y) by_rows in
    let threads = list-told IsNumbered 1 thread_text thread-at thread-told x.threads y.threads _ _ (threads-fit x ok) (threads-fit y ok')
    (objects-level x.objects) (objects-level y.objects) rows.1 in
    let objects = objects-told x.objects y.objects ok.objects.each ok'.objects.each ok.objects.apart ok'.objects.apart rows.0 threads.1 in
    λ i. record { settings = settings.0 i; counters = counters.0 i; objects = objects i; accounts = accounts.0 i; threads = threads.0 i }
