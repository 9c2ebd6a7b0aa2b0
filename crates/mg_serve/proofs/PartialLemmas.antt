-- A byte more of the line that is not ended yet.
use Rattle.{mg_model.specs.{Lines.{line_of, lines}, Words.is_newline, declared.calls.Line.Line}, mg_serve.proofs.Cutting.{lines-ended, lines-long}}
use Rattle.std.{proofs.Common.{ap, append_assoc, arith}, specs.{List.list_any, Option.option_to_list, Prelude.{ℕ, ◌≡◌, false, List, [], ◌∷◌, ◌++◌}}}
use Rattle.std.specs.Prelude.{length, Option, Result, Ok, Err, OnOk, OnErr}

-- it is kept, or the line is too long already
pub added : {E : Type 0} (result : Result (Unit {0}) E) (old new : List ℕ) (b : ℕ) → OnOk result (new ≡ old ++ b ∷ []) → OnErr result (new ≡ old) → OnErr result (length old ≡ 257)
    → list_any is_newline old ≡ false → is_newline b ≡ false → (rest : List ℕ) → lines (old ++ b ∷ rest) ≡ lines (new ++ rest)
added (Ok u) old new b ok err full none off rest = grind (arith, append_assoc)
added (Err e) old new b ok err full none off rest = grind (arith, lines-long)

-- the rest of a line that has begun, and its newline
pub ended : (old part new bytes : List ℕ) (line : Option Line) → ((rest : List ℕ) → lines (old ++ (bytes ++ rest)) ≡ lines (part ++ rest)) → list_any is_newline part ≡ false → line ≡ line_of part → new ≡ []
    → (rest : List ℕ) → lines (old ++ ((bytes ++ 10 ∷ []) ++ rest)) ≡ option_to_list line ++ lines (new ++ rest)
ended old part new bytes line same whole spells empty rest = grind (arith, append_assoc, lines-ended)

-- a line that comes whole, and its newline
pub ended_whole : (old bytes : List ℕ) (line : Option Line) → old ≡ [] → list_any is_newline bytes ≡ false → line ≡ line_of bytes
    → (rest : List ℕ) → lines (old ++ ((bytes ++ 10 ∷ []) ++ rest)) ≡ option_to_list line ++ lines (old ++ rest)
ended_whole old bytes line empty whole spells rest = ended old bytes old bytes line (λ more. ap (λ v. lines (v ++ (bytes ++ more))) empty) whole spells empty rest
