-- The part of the graph that one thread or one object reaches in a number of steps. A step goes along an arrow.
use Rattle.std.specs.{List.list_any, Option.option_map_or, Prelude.{ℕ, zero, suc, ◌-◌, ◌==◌, ◌&&◌, Bool, List, [], ◌∷◌}}
use Rattle.std.specs.Prelude.{◌++◌, codes, flat_map, if◌then◌else◌, map}
use Rattle.mg_model.specs.{Access.{domain_of, pairs_of, last_slots, thread_of}, State.{Object, State, Thread}}
use Rattle.{mg_model.specs.declared.slots.Slot.Slot, mg_show.specs.DotText.{graph_line, is_list, list_arrows}}
use Rattle.mg_show.specs.DotText.{object_node, slot_arrow, thread_node}

abbrev pub is_among : List ℕ → ℕ → Bool
is_among bases base = list_any (λ (b : ℕ). b == base) bases

-- the bases that the entries of those of these objects name which some thread reads as a list; an empty place names base 0, at which no object begins
abbrev pub named_from : State → List ℕ → List ℕ
named_from state bases =
    flat_map
    (λ (object : Object). if is_among bases object.row.base && is_list state object.row
    then map (λ (entry : ℕ × ℕ). entry.0) (pairs_of object.words) else [])
    state.objects

-- the bases that are reached from these in fewer than n steps
abbrev pub reached : State → List ℕ → ℕ → List ℕ
reached state bases zero = []
reached state bases (suc n) = bases ++ named_from state (reached state bases n)

-- these threads, the objects that are reached from these bases in at most n steps, and the arrows that lead there
abbrev pub part_text : State → List Thread → List ℕ → ℕ → List ℕ
part_text state threads bases n =
    codes "digraph volume {" ++ 10 ∷ []
    ++ graph_line (codes "rankdir=LR")
    ++ graph_line (codes "node [shape=box style=dashed]")
    ++ flat_map (λ (thread : Thread). thread_node thread.number) threads
    ++ flat_map
    (λ (object : Object). if is_among (reached state bases (suc n)) object.row.base
    then object_node (if is_list state object.row then codes "folder" else codes "box") object.row else []) state.objects
    ++ flat_map (λ (thread : Thread). flat_map (slot_arrow state thread.number) (last_slots thread.row.frames)) threads
    ++ flat_map
    (λ (object : Object). if is_among (reached state bases n) object.row.base then list_arrows state object else []) state.objects
    ++ codes "}" ++ 10 ∷ []

-- from a thread: the first step goes along a slot of its present frame
abbrev pub thread_part : State → ℕ → ℕ → List ℕ
thread_part state number steps =
    part_text state
    (option_map_or (λ (thread : Thread). thread ∷ []) (thread_of state number) [])
    (map (λ (slot : Slot). slot.base) (domain_of state number)) (steps - 1)

-- from an object
abbrev pub object_part : State → ℕ → ℕ → List ℕ
object_part state base steps = part_text state [] (base ∷ []) steps
