-- The frames of a thread that entered an object, with the last one returning a word further on.
use Rattle.{mg_model.specs.{Access.last_slots, Domains.last_back, Script.word_end, State.CallFrame}, mg_script.specs.Effects.returning_on}
use Rattle.std.proofs.{Common.{◌+◌, ◌-◌, ◌%◌, ◌≤◌, ◌≡◌, ◌++◌, List, [], ◌∷◌, length, Some, ap, ◌∙◌, arith}, Math.Seq.get_or-append_seam}
use Rattle.std.proofs.{Math.Seq.take-append_seam, lemmas.{Bool.{cond_both, cond-false, Decides.nat_tests}, List.length-append}}
use Rattle.std.{proofs.lemmas.Option.slice_get-get_or, specs.{Option.option_map_or, Prelude.slice_get}}

below_last : (frames : List CallFrame) (frame : CallFrame) → length (frames ++ frame ∷ []) - 1 ≡ length frames
below_last frames frame = let long : length (frames ++ frame ∷ []) ≡ length frames + 1 = length-append frames (frame ∷ []) in omega arith

last-is : (frames : List CallFrame) (frame : CallFrame) → slice_get (frames ++ frame ∷ []) (length (frames ++ frame ∷ []) - 1) ≡ Some frame
last-is frames frame =
    let long : length (frames ++ frame ∷ []) ≡ length frames + 1 = length-append frames (frame ∷ []) in
    ap (slice_get (frames ++ frame ∷ [])) (below_last frames frame)
    ∙ slice_get-get_or (frames ++ frame ∷ []) (length frames) frame (omega arith)
    ∙ ap Some (get_or-append_seam frames frame [] frame)

last_slots-is : (frames : List CallFrame) (frame : CallFrame) → last_slots (frames ++ frame ∷ []) ≡ frame.slots
last_slots-is frames frame = ap (λ o. option_map_or (λ (f : CallFrame). f.slots) o []) (last-is frames frame)

last_back-is : (frames : List CallFrame) (frame : CallFrame) → last_back (frames ++ frame ∷ []) ≡ frame.back
last_back-is frames frame = ap (λ o. option_map_or (λ (f : CallFrame). f.back) o 0) (last-is frames frame)

-- a frame on top of others returns a word further on
pub returning_on-put : (frames : List CallFrame) (frame : CallFrame) → 1 ≤ length frames → returning_on (frames ++ frame ∷ []) ≡ frames ++ record { back = (frame.back + 8) % word_end; slots = frame.slots } ∷ []
returning_on-put frames frame some = grind (arith, length-append, cond-false, nat_tests, below_last, take-append_seam, last_back-is, last_slots-is)

-- and the slots of the last frame stay
pub returning_on-slots : (frames : List CallFrame) → last_slots (returning_on frames) ≡ last_slots frames
returning_on-slots frames = grind (arith, cond_both, last_slots-is)
