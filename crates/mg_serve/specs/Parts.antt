-- Parts of what a session keeps, each by a name: for the functions and the lemmas that speak of one of them alone.
use Rattle.std.specs.{Io.KnownBytes.Appends, Prelude.{ℕ, ◌+◌, ◌<◌, ◌≤◌, ◌≡◌, List, [], length, take, drop, Option}}
use Rattle.std.specs.Prelude.{Some, IfSome, IsSomeAnd}
use Rattle.{mg_disk.specs.Disk.Image, mg_io.specs.Known.AppendsPrefix, mg_model.specs.{Ended.ended_lines, Lines.lines}}
use Rattle.mg_model.specs.{Print.answered, State.State, Volume.{Is, volume}, declared.calls.Line.Line}
use Rattle.mg_serve.specs.Sessions.{IsAnswered, consumed}

-- more bytes were taken
abbrev pub TakesMore : ℕ → Option (List ℕ) → Option (List ℕ) → Type 0
TakesMore limit left left' = IfSome left (λ input. IsSomeAnd left' (λ rest. limit + length rest < length input))

-- the replies to an input
abbrev pub replies : (List Line → List ℕ) → List ℕ → List ℕ
replies said input = said (lines input)

-- what the sink took is a prefix of the replies to the whole input
abbrev pub AnswersPrefix : (List Line → List ℕ) → Option (List ℕ) → Option (List ℕ) → Option (List ℕ) → Type 0
AnswersPrefix said left taken taken' = IfSome left (λ input. AppendsPrefix taken taken' (replies said input))

-- the whole input was read, and all of it is answered
abbrev pub AnswersAll : (List Line → List ℕ) → Option (List ℕ) → Option (List ℕ) → Option (List ℕ) → Option (List ℕ) → Type 0
AnswersAll said left left' taken taken' = IfSome left (λ input. (left' ≡ Some []) × Appends taken taken' (replies said input))

-- what the sink took is the replies to some first lines of the input, and no part of another
abbrev pub AnswersLines : (List Line → List ℕ) → Option (List ℕ) → Option (List ℕ) → Option (List ℕ) → Type 0
AnswersLines said left taken taken' = IfSome left (λ input. (k : ℕ) × (k ≤ length (lines input)) × Appends taken taken' (said (take k (lines input))))

-- reads give an image that spells the state after the whole input
abbrev pub SpellsAfter : (List Line → State) → List ℕ → Option Image → Type 0
SpellsAfter kept input told = IsSomeAnd told (λ image. volume image ≡ Is (kept (lines input)))

-- the image spells the state after some first ones of the lines
abbrev pub IsPrefix : (List Line → State) → List Line → Image → Type 0
IsPrefix kept ls c = (k : ℕ) × (k ≤ length ls) × (volume c ≡ Is (kept (take k ls)))

-- at least this many lines are answered
abbrev pub AreAnswered : Option (List ℕ) → Option (List ℕ) → ℕ → Type 0
AreAnswered taken taken' k = IfSome taken (λ before. IsSomeAnd taken' (λ now. answered (drop (length before) now) ≤ k))

-- At a stop now the volume has the state after some first lines: among them are all that are answered, and all came.
abbrev pub KeepsAnswered : (Image → Type 0) → (List Line → State) → Option (List ℕ) → Option (List ℕ) → Option (List ℕ) → Option (List ℕ) → Type 0
KeepsAnswered left_now kept left left' taken taken' = IfSome left (λ input. IsSomeAnd left' (λ rest. (c : Image) → left_now c →
    (k : ℕ) × IsAnswered input rest taken taken' k × (volume c ≡ Is (kept (take k (lines input))))))

-- At a stop now the volume has the state after the answered lines and no others.
abbrev pub KeepsExactly : (Image → Type 0) → (List Line → State) → Option (List ℕ) → Option (List ℕ) → Option (List ℕ) → Type 0
KeepsExactly left_now kept left taken taken' =
    IfSome left (λ input. IfSome taken (λ before. IsSomeAnd taken' (λ now.
    (c : Image) → left_now c → volume c ≡ Is (kept (take (answered (drop (length before) now)) (lines input))))))

-- Whatever a stop leaves now, it is one and the same state: that after some first lines, as above.
abbrev pub KeepsOne : (Image → Type 0) → (List Line → State) → Option (List ℕ) → Option (List ℕ) → Option (List ℕ) → Option (List ℕ) → Type 0
KeepsOne left_now kept left left' taken taken' = IfSome left (λ input. IsSomeAnd left' (λ rest.
    (k : ℕ) × IsAnswered input rest taken taken' k × ((c : Image) → left_now c → volume c ≡ Is (kept (take k (lines input))))))

-- of the lines that are ended among the first `limit` bytes taken, fewer calls than `most` are unanswered
abbrev pub FewUnanswered : ℕ → ℕ → Option (List ℕ) → Option (List ℕ) → Option (List ℕ) → Option (List ℕ) → Type 0
FewUnanswered most limit left left' taken taken' =
    IfSome left (λ input. IsSomeAnd left' (λ rest. IfSome taken (λ before. IsSomeAnd taken' (λ now.
    length (ended_lines (take limit (consumed input rest))) < answered (drop (length before) now) + most))))
