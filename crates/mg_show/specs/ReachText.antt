-- Who may reach what, as text: for each thread and object the rights of the moment, exactly as an access is judged.
use Rattle.std.specs.{Fmt.decimal, Prelude.{ℕ, Bool, List, [], ◌∷◌, ◌++◌, codes, filter, flat_map, map}}
use Rattle.mg_model.specs.{Access.allowed, Print.hex_text, Rights.letters, State.{Object, State, Thread}}
use Rattle.{mg_model.specs.declared.rights.Right.{Right, TheVariants.P}, mg_show.specs.StateText.line}

-- the letters of the rights that pass
abbrev pub letters_by : (Right → Bool) → List ℕ
letters_by has = map (λ (l : ℕ × Right). l.0) (filter (λ (l : ℕ × Right). has l.1) letters)

-- the letters of the rights that a thread has now on the object with this base
abbrev pub rights_now : State → ℕ → ℕ → List ℕ
rights_now state t base = map (λ (l : ℕ × Right). l.0) (filter (λ (l : ℕ × Right). allowed state t base l.1) letters)

-- the line of an object that a thread reaches; none where it has no right on it
abbrev pub reach_line : ℕ → ℕ → List ℕ → List ℕ
reach_line t base [] = []
reach_line t base (letter ∷ more) = line (codes "reach") (decimal t ∷ hex_text base ∷ (letter ∷ more) ∷ [])

-- the entries of an object at which a thread may enter now
abbrev pub enter_lines : State → ℕ → List ℕ → List ℕ
enter_lines state t entries =
    flat_map (λ address. line (codes "enter") (decimal t ∷ hex_text address ∷ []))
    (filter (λ address. allowed state t address P) entries)

-- what one thread reaches, object by object in the order of their bases
abbrev pub thread_reach : State → ℕ → List ℕ
thread_reach state t =
    flat_map (λ (object : Object). reach_line t object.row.base (rights_now state t object.row.base)
    ++ enter_lines state t object.row.entries) state.objects

abbrev pub reach_text : State → List ℕ
reach_text state = flat_map (λ (thread : Thread). thread_reach state thread.number) state.threads
