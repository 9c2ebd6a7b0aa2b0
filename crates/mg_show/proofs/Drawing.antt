-- The graph by the bytes and the ranks of objects is that of the state.
use Rattle.{mg_disk.specs.Disk.Image, mg_model.specs.{Access.{holds, last_slots}, Rights.{has_right, letters}, State.{CallFrame, State, Object}}}
use Rattle.mg_model.specs.{State.{ObjectRow, Thread, ThreadRow}, declared.{rights.Right.{Right, TheVariants.R}, slots.Slot.Slot}}
use Rattle.mg_show.{proofs.{ByPlaces.places-same, Letters.{any-right, rights-letters}, Listing.held-bare}, specs.DotFrom.{is_among, part_text}}
use Rattle.mg_show.specs.{DotFrom.{reached, thread_part}, DotText.{holds_now, is_list, object_name, slot_arrow, thread_node, arrow, dot_text}}
use Rattle.mg_show.specs.{DotText.{entry_arrow, list_arrows, thread_name}, Drawn.{bases_of, domains_drawn, entries_drawn, graph_end, graph_head}}
use Rattle.mg_show.specs.{Drawn.{lists_ranked, node_if, nodes_ranked, threads_drawn, entry_bits, part_ranked, slot_bits}, Marking.{given, is_within}}
use Rattle.mg_show.specs.{Marking.named_by, ReachText.letters_by, Reached.listed, Shown.{bare, numbered, object_in, state_shown}, Walked.AreOpened}
use Rattle.{mg_show.specs.{Walked.AreRanked, WritingLemmas.flat_more, declared.held.Shown.Shown}, std.proofs.Common.{◌≡◌, ℕ, suc, ◌+◌, ◌-◌, ◌<◌}}
use Rattle.std.proofs.Common.{◌||◌, List, [], ◌∷◌, ◌++◌, codes, flat_map, if◌then◌else◌, length, map, None, Some, slice_index, take, refl, sym, ap}
use Rattle.std.proofs.{Common.{◌∙◌, append_assoc, arith, get_or}, Math.Path.fun_ext, lemmas.{Bool.eq-eqb, List.Elements.{All-head, All-tail}}}
use Rattle.std.{proofs.lemmas.List.Folds.{flat_map-map, list_any-append}, specs.{List.list_any, Option.{option_map, option_map_or}, Prelude.◌==◌}}
use Rattle.std.specs.Prelude.{◌&&◌, Bool, true, false, find, Option, slice_index_or, All, slice_get}

-- bits that have the rights that pass
module _ (s : State) (base password bits : ℕ) (same : (right : Right) → has_right bits right ≡ holds_now s base password right) where
  pub slot-drawn : (t : ℕ) → slot_bits t base bits ≡ slot_arrow s t (record { base = base; password = password })
  slot-drawn t = λ i. arrow (thread_name t) (object_name base) ((rights-letters bits ∙ ap letters_by (fun_ext same)) i) (same R i)

  pub entry-drawn : (list : ℕ) → (base == 0) ≡ false → entry_bits list base bits ≡ entry_arrow s list (base, password)
  entry-drawn list some = grind (arith, rights-letters, fun_ext, any-right)

-- the arrow of an empty place
pub entry-none : (s : State) (base password list : ℕ) → base ≡ 0 → [] ≡ entry_arrow s list (base, password)
entry-none s base password list none = grind (arith, eq-eqb)

-- the slots of the present frame
pub slots-last : (frames : List CallFrame) (last : CallFrame) (slots : List Slot) → slice_get frames (length frames - 1) ≡ Some last → slots ≡ last.slots → slots ≡ last_slots frames
slots-last frames last slots is are = are ∙ sym (ap (λ (f : Option CallFrame). option_map_or (λ (f : CallFrame). f.slots) f []) is)

-- what slots give on an object, with R
named-given : (period : ℕ) (row : ObjectRow) (slots : List Slot)
    → given (holds period) (named_by slots) row R
    ≡ list_any (λ (slot : Slot). slot.base == row.base && holds period row slot.password R) slots
named-given period row [] = refl
named-given period row (slot ∷ slots) = grind (arith, (named-given period row slots))

pub all-given : (period : ℕ) (row : ObjectRow) (threads : List (ℕ × ThreadRow))
    → given (holds period) (flat_map (λ (t : ℕ × ThreadRow). named_by (last_slots t.1.frames)) threads) row R
    ≡ list_any (λ (thread : Thread). list_any (λ (slot : Slot). slot.base == row.base && holds period row slot.password R)
    (last_slots thread.row.frames)) (map numbered threads)
all-given period row [] = refl
all-given period row (t ∷ threads) =
    list_any-append (λ (entry : ℕ × ℕ). entry.0 == row.base && holds period row entry.1 R) (named_by (last_slots t.1.frames))
    (flat_map (λ (t : ℕ × ThreadRow). named_by (last_slots t.1.frames)) threads)
    ∙ (λ i. named-given period row (last_slots t.1.frames) i || all-given period row threads i)

-- an arrow by the rights that an object holds
abbrev entry_by : (ℕ → ℕ → Right → Bool) → ℕ → ℕ × ℕ → List ℕ
entry_by has list entry =
    if entry.0 == 0 then []
    else arrow (object_name list) (object_name entry.0) (letters_by (has entry.0 entry.1))
    (list_any (λ (l : ℕ × Right). has entry.0 entry.1 l.1) letters)

-- the entries of a list, one more
pub entries-more : (shown : Shown) (list : ℕ) (slots : List Slot) (i : ℕ) (d : Slot) (text : List ℕ) → i < length slots
    → text ≡ entry_arrow (bare shown) list ((get_or slots i d).base, (get_or slots i d).password)
    → entries_drawn shown list (named_by (take i slots)) ++ text ≡ entries_drawn shown list (named_by (take (i + 1) slots))
entries-more shown list slots i d text below is =
    let arrow = entry_arrow (bare shown) list in
    let slot : Slot → ℕ × ℕ = λ (slot : Slot). (slot.base, slot.password) in
    (λ k. flat_map-map arrow slot (take i slots) k ++ is k)
    ∙ flat_more (λ (s : Slot). arrow (slot s)) slots i d below
    ∙ sym (flat_map-map arrow slot (take (i + 1) slots))

-- two tests
if-both : (v w : Bool) (text : List ℕ) → (if v then (if w then text else []) else []) ≡ (if v && w then text else [])
if-both true w text = refl
if-both false w text = refl

module _ (shown : Shown) (r : Image) (drawn : List (ℕ × ThreadRow)) (bytes ranks : List ℕ) (opens : AreOpened shown bytes) where
  abbrev s : State
  s = state_shown shown r

  -- the nodes of objects, the arrows of threads and those of lists
  abbrev nodes_of : (ℕ → Bool) → List ℕ
  nodes_of nodes = flat_map (λ (object : Object). node_if (nodes object.row.base) (is_list s object.row) object.row) s.objects

  abbrev slots_of : List Thread → List ℕ
  slots_of threads = flat_map (λ (thread : Thread). flat_map (slot_arrow s thread.number) (last_slots thread.row.frames)) threads

  abbrev arrows_of : (ℕ → Bool) → List ℕ
  arrows_of lists = flat_map (λ (object : Object). if lists object.row.base then list_arrows s object else []) s.objects

  -- some threads, objects and lists of a graph
  abbrev graph : List Thread → (ℕ → Bool) → (ℕ → Bool) → List ℕ
  graph threads nodes lists =
      graph_head ++ flat_map (λ (thread : Thread). thread_node thread.number) threads ++ nodes_of nodes ++ slots_of threads ++ arrows_of lists
      ++ codes "}" ++ 10 ∷ []

  told : (n : ℕ) (nodes lists : ℕ → Bool)
      → ((i : ℕ) → i < length shown.objects → (d : ℕ × ObjectRow)
      → is_within (slice_index ranks i) (n + 1) ≡ nodes (slice_index_or shown.objects i d).1.base)
      → ((i : ℕ) → i < length shown.objects → (d : ℕ × ObjectRow)
      → is_within (slice_index ranks i) n ≡ lists (slice_index_or shown.objects i d).1.base)
      → part_ranked shown r n bytes ranks drawn ≡ graph (map numbered drawn) nodes lists
  told n nodes lists shows leaves =
      (λ i. graph_head ++ threads-same i ++ nodes-same i ++ domains-same i ++ lists-same i ++ graph_end)
      ∙ grind (arith, append_assoc)
    where
      threads-same : threads_drawn drawn ≡ flat_map (λ (thread : Thread). thread_node thread.number) (map numbered drawn)
      threads-same = sym (flat_map-map (λ (thread : Thread). thread_node thread.number) numbered drawn)

      domains-same : domains_drawn shown drawn ≡ slots_of (map numbered drawn)
      domains-same =
          sym (
          flat_map-map (λ (thread : Thread). flat_map (slot_arrow s thread.number) (last_slots thread.row.frames)) numbered drawn
          ∙ ap (λ (has : ℕ → ℕ → Right → Bool). flat_map (λ (t : ℕ × ThreadRow). flat_map (λ (slot : Slot).
          arrow (thread_name (t.0 + 1)) (object_name slot.base) (letters_by (has slot.base slot.password)) (has slot.base slot.password R))
          (last_slots t.1.frames)) drawn) (held-bare shown r)
          )

      nodes-same : nodes_ranked n bytes ranks shown.objects ≡ nodes_of nodes
      nodes-same =
          places-same (λ i row. node_if (is_within (slice_index ranks i) (n + 1)) (has_right (slice_index bytes i) R) row)
          (λ row. node_if (nodes row.base) (is_list s row) row) shown.objects
          (λ i below d. λ k. node_if (shows i below d k) (opens i below d k) (slice_index_or shown.objects i d).1)
          ∙ sym (flat_map-map (λ (object : Object). node_if (nodes object.row.base) (is_list s object.row) object.row)
          (object_in shown r) shown.objects)

      lists-same : lists_ranked shown r n bytes ranks shown.objects ≡ arrows_of lists
      lists-same =
          places-same (λ i row. if is_within (slice_index ranks i) n && has_right (slice_index bytes i) R
          then entries_drawn shown row.base (listed shown r row) else [])
          (λ row. if lists row.base then (if is_list s row then flat_map (entry_arrow s row.base) (listed shown r row) else []) else [])
          shown.objects
          (λ i below d.
          let row = (slice_index_or shown.objects i d).1 in
          (λ k. if leaves i below d k && opens i below d k
          then flat_map (λ (entry : ℕ × ℕ). entry_by (sym (held-bare shown r) k) row.base entry) (listed shown r row) else [])
          ∙ sym (if-both (lists row.base) (is_list s row) (flat_map (entry_arrow s row.base) (listed shown r row))))
          ∙ sym (flat_map-map (λ (object : Object). if lists object.row.base then list_arrows s object else [])
          (object_in shown r) shown.objects)

  -- all of it
  pub dot-told : ((i : ℕ) → i < length shown.objects → slice_index ranks i ≡ 1) → drawn ≡ shown.threads.items
      → part_ranked shown r 1 bytes ranks drawn ≡ dot_text s
  dot-told ones all =
      told 1 (λ base. true) (λ base. true) (λ i below d. ap (λ n. is_within n 2) (ones i below))
      (λ i below d. ap (λ n. is_within n 1) (ones i below))
      ∙ ap (λ (threads : List (ℕ × ThreadRow)). graph (map numbered threads) (λ base. true) (λ base. true)) all

  -- a part
  pub part-told : (bases : List ℕ) (n : ℕ) → AreRanked shown r bases (n + 1) ranks
      → part_ranked shown r n bytes ranks drawn ≡ part_text s (map numbered drawn) bases n
  part-told bases n are =
      told n (is_among (reached s bases (suc n))) (is_among (reached s bases n))
      (λ i below d. grind (arith, are.is i below d (n + 1) (omega arith))) (λ i below d. are.is i below d n (omega arith))

-- the part from a thread
found-same : (number : ℕ) (threads : List (ℕ × ThreadRow))
    → find (λ (thread : Thread). thread.number == number) (map numbered threads)
    ≡ option_map numbered (find (λ (t : ℕ × ThreadRow). t.0 + 1 == number) threads)
found-same number [] = refl
found-same number (t ∷ threads) = grind (arith, (found-same number threads))

-- what holds of all threads holds of the one that is found
pub found-all : {A : Type 0} (P : A → Type 0) (test : A → Bool) (xs : List A) (x : A) → All P xs → Some x ≡ find test xs → P x
found-all P test [] x all is = absurd (cc)
found-all P test (y ∷ xs) x all is = grind (arith, All-head P y xs all, found-all P test xs x (All-tail P y xs all))

pub thread-told : (shown : Shown) (r : Image) (number steps : ℕ) (found : Option (ℕ × ThreadRow))
    → found ≡ find (λ (t : ℕ × ThreadRow). t.0 + 1 == number) shown.threads.items
    → part_text (state_shown shown r) (map numbered (option_map_or (λ (t : ℕ × ThreadRow). t ∷ []) found []))
    (bases_of (option_map_or (λ (t : ℕ × ThreadRow). last_slots t.1.frames) found [])) (steps - 1)
    ≡ thread_part (state_shown shown r) number steps
thread-told shown r number steps None is = grind (arith, found-same number shown.threads.items)
thread-told shown r number steps (Some t) is = grind (arith, found-same number shown.threads.items)
