-- The graph of a volume that is held, by the byte and the rank of each object.
use Rattle.std.specs.Prelude.{ℕ, ◌+◌, ◌%◌, ◌==◌, ◌&&◌, Bool, List, [], ◌∷◌, ◌++◌, codes, flat_map, if◌then◌else◌, map}
use Rattle.std.specs.Prelude.{not, slice_index}
use Rattle.{mg_disk.specs.Disk.Image, mg_model.specs.{Access.last_slots, Rights.has_right, State.ObjectRow}}
use Rattle.mg_model.specs.{State.ThreadRow, declared.{rights.Right.TheVariants.R, slots.Slot.Slot}}
use Rattle.mg_show.specs.DotText.{arrow, entry_arrow, graph_line, object_name, object_node, quoted, slot_arrow}
use Rattle.mg_show.specs.{DotText.{thread_name, thread_node}, Marking.is_within, Reached.{by_place, listed}, Shown.bare}
use Rattle.mg_show.specs.{StateText.rights_text, declared.held.Shown.Shown}

abbrev pub graph_head : List ℕ
graph_head = codes "digraph volume {" ++ 10 ∷ [] ++ graph_line (codes "rankdir=LR") ++ graph_line (codes "node [shape=box style=dashed]")

abbrev pub graph_end : List ℕ
graph_end = codes "}" ++ 10 ∷ []

abbrev pub threads_drawn : List (ℕ × ThreadRow) → List ℕ
threads_drawn threads = flat_map (λ (t : ℕ × ThreadRow). thread_node (t.0 + 1)) threads

abbrev pub shape : Bool → List ℕ
shape is_list = if is_list then codes "folder" else codes "box"

-- an object, if it is shown
abbrev pub node_if : Bool → Bool → ObjectRow → List ℕ
node_if is_shown is_list row = if is_shown then object_node (shape is_list) row else []

abbrev pub dash : Bool → List ℕ
dash counts = if counts then [] else codes " style=dashed"

-- an arrow behind the node that it leaves
abbrev pub arrow_end : List ℕ → List ℕ → Bool → List ℕ
arrow_end to rights counts = codes " -> " ++ to ++ codes " [label=" ++ quoted rights ++ dash counts ++ codes "]" ++ 10 ∷ []

-- the arrows of a slot and of an entry, with the rights whose bits these are
abbrev pub slot_bits : ℕ → ℕ → ℕ → List ℕ
slot_bits t base bits = arrow (thread_name t) (object_name base) (rights_text bits) (has_right bits R)

abbrev pub entry_bits : ℕ → ℕ → ℕ → List ℕ
entry_bits list base bits = arrow (object_name list) (object_name base) (rights_text bits) (not (bits % 64 == 0))

-- the arrows of the present frames of threads, and of a list
abbrev pub domains_drawn : Shown → List (ℕ × ThreadRow) → List ℕ
domains_drawn shown drawn = flat_map (λ (t : ℕ × ThreadRow). flat_map (slot_arrow (bare shown) (t.0 + 1)) (last_slots t.1.frames)) drawn

abbrev pub entries_drawn : Shown → ℕ → List (ℕ × ℕ) → List ℕ
entries_drawn shown list entries = flat_map (entry_arrow (bare shown) list) entries

-- the objects that are reached in at most n steps, and the lists that are reached in fewer, by their ranks
abbrev pub nodes_ranked : ℕ → List ℕ → List ℕ → List (ℕ × ObjectRow) → List ℕ
nodes_ranked n bytes ranks objects =
    by_place (λ i row. node_if (is_within (slice_index ranks i) (n + 1)) (has_right (slice_index bytes i) R) row) 0 objects

abbrev pub lists_ranked : Shown → Image → ℕ → List ℕ → List ℕ → List (ℕ × ObjectRow) → List ℕ
lists_ranked shown r n bytes ranks objects =
    by_place (λ i row. if is_within (slice_index ranks i) n && has_right (slice_index bytes i) R
    then entries_drawn shown row.base (listed shown r row) else []) 0 objects

-- with the nodes and the slots of these threads
abbrev pub part_ranked : Shown → Image → ℕ → List ℕ → List ℕ → List (ℕ × ThreadRow) → List ℕ
part_ranked shown r n bytes ranks drawn =
    graph_head
    ++ threads_drawn drawn
    ++ nodes_ranked n bytes ranks shown.objects
    ++ domains_drawn shown drawn
    ++ lists_ranked shown r n bytes ranks shown.objects
    ++ graph_end

-- the bases that slots name
abbrev pub bases_of : List Slot → List ℕ
bases_of slots = map (λ (slot : Slot). slot.base) slots
