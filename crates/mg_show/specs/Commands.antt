-- What the words of the command line ask for.
use Rattle.std.specs.Prelude.{ℕ, ◌&&◌, nat_le, List, [], ◌∷◌, codes, if◌then◌else◌, None, Option, Some}
use Rattle.{mg_model.specs.{State.State, Words.{and_then, number_of, same_bytes}}, mg_show.specs.DotFrom.object_part}
use Rattle.mg_show.specs.{DotFrom.thread_part, DotText.dot_text, ReachText.reach_text, StateText.state_text}
use Rattle.mg_show.specs.declared.command.Text.{Text}
use Rattle.mg_show.specs.declared.command.Text.TheVariants as texts

-- the text with this name
abbrev pub named : List ℕ → Option Text
named word =
    if same_bytes word (codes "state") then Some texts.State
    else if same_bytes word (codes "reach") then Some texts.Reach
    else if same_bytes word (codes "dot") then Some texts.Dot else None

-- a number of steps: 1 to 4096
abbrev pub within_steps : ℕ → Option ℕ
within_steps steps = if nat_le 1 steps && nat_le steps 4096 then Some steps else None

-- the part of the graph that begins at a thread or at an object
abbrev pub part_from : List ℕ → ℕ → ℕ → Option Text
part_from start number steps =
    if same_bytes start (codes "thread") then Some (texts.DotThread number steps)
    else if same_bytes start (codes "object") then Some (texts.DotObject number steps) else None

-- `dot thread NUMBER STEPS` and `dot object BASE STEPS`
abbrev pub part_named : List ℕ → List ℕ → List ℕ → List ℕ → Option Text
part_named word start number steps =
    if same_bytes word (codes "dot")
    then and_then (number_of number) (λ n. and_then (and_then (number_of steps) within_steps) (λ s. part_from start n s))
    else None

-- what the words of the command line ask for: `VOLUME`, `VOLUME` and the name of a text, or `VOLUME` and a part of the graph
abbrev pub spelled : List (List ℕ) → Option Text
spelled (volume ∷ []) = Some texts.State
spelled (volume ∷ word ∷ []) = named word
spelled (volume ∷ word ∷ start ∷ number ∷ steps ∷ []) = part_named word start number steps
spelled words = None

-- the text of a state
abbrev pub text_of : Text → State → List ℕ
text_of texts.State s = state_text s
text_of texts.Reach s = reach_text s
text_of texts.Dot s = dot_text s
text_of (texts.DotThread number steps) s = thread_part s number steps
text_of (texts.DotObject base steps) s = object_part s base steps
