-- What the words of a command line ask for, by their number.
use Rattle.{mg_io.specs.Arguments.arguments, mg_show.specs.Commands.{part_named, spelled}, std.proofs.Common.{⊎_elim, ℕ, ◌<◌, ◌≤◌, ◌≡◌, List, []}}
use Rattle.std.{proofs.Common.{◌∷◌, length, get_or, None, Some, refl, arith}, specs.{Prelude.{◌⊎◌, String}, String.string_bytes}}
use Rattle.std.specs.declared.alloc.Global.{Global}
use Rattle.mg_show.specs.declared.command.Text.TheVariants as texts

pub one_word : (words : List (String Global)) → 1 ≤ length words → length words < 2 → Some texts.State ≡ spelled (arguments words)
one_word [] some few = absurd (omega arith)
one_word (a ∷ []) some few = refl
one_word (a ∷ b ∷ words) some few = absurd (omega arith)

-- more than two words, and not five
pub none_asked : (words : List (String Global)) → 3 ≤ length words → (length words < 5) ⊎ (6 ≤ length words) → None ≡ spelled (arguments words)
none_asked [] some few = absurd (omega arith)
none_asked (a ∷ []) some few = absurd (omega arith)
none_asked (a ∷ b ∷ []) some few = absurd (omega arith)
none_asked (a ∷ b ∷ c ∷ []) some few = refl
none_asked (a ∷ b ∷ c ∷ d ∷ []) some few = refl
none_asked (a ∷ b ∷ c ∷ d ∷ e ∷ []) some few = absurd (⊎_elim (λ less. omega arith) (λ more. omega arith) few)
none_asked (a ∷ b ∷ c ∷ d ∷ e ∷ f ∷ words) some few = refl

-- five words, each read by its place
pub five_words : (words : List (String Global)) (word start number steps : String Global) (w s n k : List ℕ) → 5 ≤ length words → length words < 6
    → word ≡ get_or words 1 word → start ≡ get_or words 2 start → number ≡ get_or words 3 number → steps ≡ get_or words 4 steps
    → w ≡ string_bytes word → s ≡ string_bytes start → n ≡ string_bytes number → k ≡ string_bytes steps
    → part_named w s n k ≡ spelled (arguments words)
five_words [] word start number steps w s n k some few p q r t wb sb nb kb = absurd (omega arith)
five_words (a ∷ []) word start number steps w s n k some few p q r t wb sb nb kb = absurd (omega arith)
five_words (a ∷ b ∷ []) word start number steps w s n k some few p q r t wb sb nb kb = absurd (omega arith)
five_words (a ∷ b ∷ c ∷ []) word start number steps w s n k some few p q r t wb sb nb kb = absurd (omega arith)
five_words (a ∷ b ∷ c ∷ d ∷ []) word start number steps w s n k some few p q r t wb sb nb kb = absurd (omega arith)
five_words (a ∷ b ∷ c ∷ d ∷ e ∷ []) word start number steps w s n k some few p q r t wb sb nb kb = grind arith
five_words (a ∷ b ∷ c ∷ d ∷ e ∷ f ∷ words) word start number steps w s n k some few p q r t wb sb nb kb = absurd (omega arith)
