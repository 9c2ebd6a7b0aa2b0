-- Other slots in the last frame.
use Rattle.{mg_model.specs.{Domains.{last_back, with_last_slots}, State.CallFrame}, std.{proofs.Common.{arith, ap, ◌∙◌}, specs.Option.option_map_or}}
use Rattle.std.specs.Prelude.{◌≡◌, ◌≤◌, ◌-◌, ◌++◌, ◌∷◌, [], suc, List, length, slice_get, take}

-- the last frame takes the place of the frame that goes
pub last_put : (frames : List CallFrame) (last : CallFrame) → 1 ≤ length frames → last.back ≡ last_back frames → take (length frames - 1) frames ++ last ∷ [] ≡ with_last_slots frames last.slots
last_put [] last some back = absurd (omega arith)
last_put (frame ∷ []) last some back = ap (λ b. record { back = b; slots = last.slots } ∷ []) back
last_put (frame ∷ next ∷ frames) last some back =
    let more : length (frame ∷ next ∷ frames) - 1 ≡ suc (length (next ∷ frames) - 1) = omega arith in
    ap (λ n. take n (frame ∷ next ∷ frames) ++ last ∷ []) more
    ∙ ap (λ rest. frame ∷ rest) (last_put (next ∷ frames) last (omega arith) (back ∙ ap (λ n. option_map_or (λ (one : CallFrame). one.back) (slice_get (frame ∷ next ∷ frames) n) 0) more))
