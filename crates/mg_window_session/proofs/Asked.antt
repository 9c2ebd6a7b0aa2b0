-- Lists of windows and of words, read from a place on.
use Rattle.{mg_io.specs.Arguments.arguments, mg_window.specs.Attached.Attached, mg_window_session.specs.Commands.{Asked, are_those, is_that}}
use Rattle.std.{proofs.Common.{refl, ap, ◌∙◌}, specs.Prelude.{◌≡◌, ◌&&◌, suc, Bool, false, true, List, [], ◌∷◌, length, String}}
use Rattle.std.specs.declared.alloc.Global.{Global}

-- as many windows as are named, or none of both is left
pub those_differ : (windows : Attached) (asked : List Asked) → (length windows ≡ length asked → ⊥) → are_those windows asked ≡ false
those_differ [] [] h = absurd (h refl)
those_differ [] (a ∷ asked) h = refl
those_differ (w ∷ windows) [] h = refl
those_differ (w ∷ windows) (a ∷ asked) h = ap (λ t. is_that w a && t) (those_differ windows asked (λ e. h (ap (λ n. suc n) e))) ∙ and_false (is_that w a)
  where
    and_false : (b : Bool) → (b && false) ≡ false
    and_false true = refl
    and_false false = refl

pub length_words : (words : List (String Global)) → length (arguments words) ≡ length words
length_words [] = refl
length_words (word ∷ words) = ap (λ n. suc n) (length_words words)
