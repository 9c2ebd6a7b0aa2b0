-- The rights that lists of capabilities give, object by object, and their text.
use Rattle.std.specs.{Fmt.decimal, Prelude.{ℕ, ◌+◌, ◌%◌, ◌==◌, Bool, List, [], ◌∷◌, ◌++◌, codes, flat_map}}
use Rattle.std.specs.Prelude.{if◌then◌else◌, length, slice_index}
use Rattle.{mg_disk.specs.Disk.Image, mg_model.specs.{Abbreviations.pages_words, Access.{capabilities, pairs_of}}}
use Rattle.mg_model.specs.{Access.{holds, last_slots}, Objects.page_of, Print.hex_text, Rights.has_right}
use Rattle.mg_model.specs.{State.{ObjectRow, ThreadRow}, declared.rights.Right.{Right, TheVariants.P}}
use Rattle.mg_show.specs.{Marking.given, ReachText.{letters_by, reach_line}, Shown.state_shown, StateText.line}
use Rattle.mg_show.specs.{StateText.rights_text, declared.held.Shown.Shown}

-- the line of an object on which a thread has the rights with these bits; none where it has none
abbrev pub bits_line : ℕ → ℕ → ℕ → List ℕ
bits_line t base bits = if bits % 64 == 0 then [] else line (codes "reach") (decimal t ∷ hex_text base ∷ rights_text bits ∷ [])

abbrev pub enter_line : ℕ → ℕ → List ℕ
enter_line t address = line (codes "enter") (decimal t ∷ hex_text address ∷ [])

-- the lines of the entries of an object, where the thread may enter
abbrev pub doors : ℕ → (Right → Bool) → ObjectRow → List ℕ
doors t has row = if has P then flat_map (enter_line t) row.entries else []

-- what a thread with these rights on the object reaches of it
abbrev pub row_reach : ℕ → (Right → Bool) → ObjectRow → List ℕ
row_reach t has row = reach_line t row.base (letters_by has) ++ doors t has row

-- what belongs to objects, in their order, each by its place; the first has place i
abbrev pub by_place : {A : Type 0} → (ℕ → ObjectRow → List A) → ℕ → List (ℕ × ObjectRow) → List A
by_place text i [] = []
by_place text i (o ∷ objects) = text i o.1 ++ by_place text (i + 1) objects

-- what a thread reaches, where the byte of each object has the rights on it
abbrev pub marked_reach : ℕ → List ℕ → List (ℕ × ObjectRow) → List ℕ
marked_reach t bytes objects = by_place (λ i row. row_reach t (has_right (slice_index bytes i)) row) 0 objects

-- the capabilities of the list that lies in an object, and of those that slots open
abbrev pub listed : Shown → Image → ObjectRow → List (ℕ × ℕ)
listed shown r row = pairs_of (pages_words r (length shown.frames) shown.frames (page_of row) row.pages)

abbrev pub reached_by : Shown → Image → ℕ × ThreadRow → List (ℕ × ℕ)
reached_by shown r thread = capabilities (state_shown shown r).objects shown.counters.period (last_slots thread.1.frames)

-- what a thread reaches that is held with its place
abbrev pub thread_reached : Shown → Image → ℕ × ThreadRow → List ℕ
thread_reached shown r thread =
    flat_map (λ (o : ℕ × ObjectRow). row_reach (thread.0 + 1) (given (holds shown.counters.period) (reached_by shown r thread) o.1) o.1)
    shown.objects
