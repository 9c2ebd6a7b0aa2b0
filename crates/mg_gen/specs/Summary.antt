-- The summary of the replies of a run: how many are ok, and how many are refused with each word.
use Rattle.std.specs.{Fmt.decimal, Prelude.{ℕ, List, [], ◌∷◌, ◌++◌, codes, count_by, flat_map, map}}
use Rattle.mg_model.specs.{Abbreviations.refusal_text, Print.spaced, Words.same_bytes, declared.replies.Refusal.Refusal}
use Rattle.mg_model.specs.declared.replies.Reply.{Reply}
use Rattle.mg_model.specs.declared.replies.Refusal.TheVariants as refusal
use Rattle.mg_model.specs.declared.replies.Reply.TheVariants as reply

-- The refusals, in the order of their numbers from 1 on.
abbrev pub refusals : List Refusal
refusals =
    refusal.Syntax ∷ refusal.NoThread ∷ refusal.Align ∷ refusal.Denied ∷ refusal.Size
    ∷ refusal.Account ∷ refusal.Debt ∷ refusal.Limit ∷ refusal.Full
    ∷ refusal.NoPassword ∷ refusal.Range ∷ refusal.SlotFull ∷ refusal.NoSlot
    ∷ refusal.NoEntry ∷ refusal.Depth ∷ refusal.NoFrame ∷ refusal.NotYours
    ∷ refusal.NotReady ∷ refusal.Idle ∷ refusal.Credit ∷ refusal.Calendar ∷ refusal.Past ∷ []

-- the word by which a reply is counted: that of its refusal, or `ok`
abbrev pub counted_as : Reply → List ℕ
counted_as (reply.No why) = refusal_text why
counted_as _ = codes "ok"

-- a word, and how many of these replies are counted by it, as a line
abbrev pub word_line : List Reply → List ℕ → List ℕ
word_line replies word = word ++ spaced (decimal (count_by (λ answer. same_bytes (counted_as answer) word) replies) ∷ []) ++ 10 ∷ []

-- the summary: the line of `ok`, and that of each refusal
abbrev pub summary_text : List Reply → List ℕ
summary_text replies = flat_map (word_line replies) (codes "ok" ∷ map refusal_text refusals)
