-- A state as a graph in Graphviz's language: its threads and objects, and an arrow for each slot of a present frame and each entry of a list.
use Rattle.std.specs.{Fmt.decimal, List.list_any, Option.option_map_or, Prelude.{ℕ, ◌==◌, ◌&&◌, Bool, false, List, []}}
use Rattle.std.specs.Prelude.{◌∷◌, ◌++◌, codes, flat_map, if◌then◌else◌}
use Rattle.mg_model.specs.{Access.{based_at, pairs_of, holds, last_slots}, Print.hex_text, Rights.letters, State.Object}
use Rattle.mg_model.specs.{State.{ObjectRow, State, Thread}, declared.rights.Right.{Right, TheVariants.R}}
use Rattle.{mg_model.specs.declared.slots.Slot.Slot, mg_show.specs.ReachText.letters_by}

-- text between quotes
abbrev pub quoted : List ℕ → List ℕ
quoted text = 34 ∷ text ++ 34 ∷ []

-- a line of the graph
abbrev pub graph_line : List ℕ → List ℕ
graph_line text = codes "  " ++ text ++ 10 ∷ []

abbrev pub thread_name : ℕ → List ℕ
thread_name number = quoted (codes "thread " ++ decimal number)

abbrev pub object_name : ℕ → List ℕ
object_name base = quoted (hex_text base)

abbrev pub thread_node : ℕ → List ℕ
thread_node number = graph_line (thread_name number ++ codes " [shape=ellipse style=solid]")

-- an object with its pages and the account that pays for them, on three lines (92, 110 is the line break of a label)
abbrev pub object_label : ObjectRow → List ℕ
object_label row =
    hex_text row.base ++ 92 ∷ 110 ∷ decimal row.pages ++ codes " pages" ++ 92 ∷ 110 ∷ codes "account " ++ decimal row.account

abbrev pub object_node : List ℕ → ObjectRow → List ℕ
object_node shape row =
    graph_line (object_name row.base ++ codes " [shape=" ++ shape
    ++ codes " style=solid label=" ++ quoted (object_label row) ++ codes "]")

-- an arrow with the letters of rights, dashed where it counts for nothing
abbrev pub arrow : List ℕ → List ℕ → List ℕ → Bool → List ℕ
arrow from to rights counts =
    graph_line (from ++ codes " -> " ++ to ++ codes " [label=" ++ quoted rights
    ++ (if counts then [] else codes " style=dashed") ++ codes "]")

-- whether the object with this base now holds the password with the right
abbrev pub holds_now : State → ℕ → ℕ → Right → Bool
holds_now state base password right =
    option_map_or (λ (object : Object). holds state.counters.period object.row password right)
    (based_at state.objects base) false

-- a slot counts where its list may be read by it
abbrev pub slot_arrow : State → ℕ → Slot → List ℕ
slot_arrow state t slot =
    arrow (thread_name t) (object_name slot.base) (letters_by (holds_now state slot.base slot.password))
    (holds_now state slot.base slot.password R)

-- an entry counts where its password gives some right; one with base 0, at which no object lies, is an empty place
abbrev pub entry_arrow : State → ℕ → ℕ × ℕ → List ℕ
entry_arrow state list entry =
    if entry.0 == 0 then []
    else arrow (object_name list) (object_name entry.0) (letters_by (holds_now state entry.0 entry.1))
    (list_any (λ (l : ℕ × Right). holds_now state entry.0 entry.1 l.1) letters)

-- whether some thread now reads the object as a capability list
abbrev pub is_list : State → ObjectRow → Bool
is_list state row =
    list_any (λ (thread : Thread).
    list_any (λ (slot : Slot). slot.base == row.base && holds state.counters.period row slot.password R) (last_slots thread.row.frames))
    state.threads

abbrev pub list_arrows : State → Object → List ℕ
list_arrows state object =
    if is_list state object.row then flat_map (entry_arrow state object.row.base) (pairs_of object.words) else []

-- what no line of its own declares is drawn dashed: a slot or an entry names it, and it is no object
abbrev pub dot_text : State → List ℕ
dot_text state =
    codes "digraph volume {" ++ 10 ∷ []
    ++ graph_line (codes "rankdir=LR")
    ++ graph_line (codes "node [shape=box style=dashed]")
    ++ flat_map (λ (thread : Thread). thread_node thread.number) state.threads
    ++ flat_map (λ (object : Object).
    object_node
    (if is_list state object.row then codes "folder" else codes "box") object.row) state.objects
    ++ flat_map (λ (thread : Thread). flat_map (slot_arrow state thread.number) (last_slots thread.row.frames)) state.threads
    ++ flat_map (list_arrows state) state.objects
    ++ codes "}" ++ 10 ∷ []
