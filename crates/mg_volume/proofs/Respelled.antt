-- One word more of a thread's block that is staged.
use Rattle.{mg_disk.specs.Disk.{Image, block_at}, mg_model.specs.{Abbreviations.word_bytes, Spelling.thread_bytes, State.ThreadRow}}
use Rattle.{mg_pages.specs.declared.pages.Pages.Pages, mg_rows.specs.ThreadParts.with_word, mg_volume.proofs.Stages.{shape_then, stages_then}}
use Rattle.{mg_volume.specs.Standing.Respells, std.{proofs.{Common.{arith, ap, subst, sym, ◌∙◌}, lemmas.List.set-set}, specs.List.splice}}
use Rattle.std.specs.Prelude.{◌≡◌, ◌+◌, ℕ, Bool, List, IfSome, MatchBool, MatchOption, Option, Some, None, is_some}
use Rattle.mg_pages.specs.Meaning as pages

pub restages_then : (block : ℕ) (x y : List ℕ) (p q r : Pages) → pages.Restages block x p q → pages.Restages block y q r → pages.Restages block y p r
restages_then block x y p q r first second = grind (arith, set-set, shape_then, stages_then)

pub goes_on : (block at word : ℕ) (first row row' : ThreadRow) (p q r : Pages) → with_word at word (thread_bytes row) ≡ thread_bytes row'
    → MatchOption (pages.waiting_in q block) (r ≡ q) (λ bytes. pages.Restages block (splice bytes at (at + 8) (word_bytes word)) q r) → Respells block first row p q → Respells block first row' p r
goes_on block at word first row row' p q r step puts told =
    let put : pages.Restages block (with_word at word told.bytes) q r =
    subst (λ (o : Option (List ℕ)). MatchOption o (r ≡ q) (λ bytes. pages.Restages block (splice bytes at (at + 8) (word_bytes word)) q r)) told.restages.waits puts in
    record {
      bytes = with_word at word told.bytes;
      restages = restages_then block told.bytes (with_word at word told.bytes) p q r told.restages put;
      are = λ image spelled is. ap (with_word at word) (told.are image spelled is) ∙ step;
    }

-- the first word of a block that is staged
pub begins : (block at word : ℕ) (row row' : ThreadRow) (q r : Pages) (told : Option (List ℕ)) (is : Bool) → with_word at word (thread_bytes row) ≡ thread_bytes row'
    → is ≡ is_some told → IfSome told (λ bytes. (image : Image) → pages.IsSpelledBy q image → block_at (pages.coming q image) block ≡ bytes)
    → MatchOption told (r ≡ q) (λ bytes. pages.Restages block (splice bytes at (at + 8) (word_bytes word)) q r) → MatchBool is (Respells block row row' q r) (r ≡ q)
begins block at word row row' q r None is step waits was put = rw waits put
begins block at word row row' q r (Some bytes) is step waits was put =
    rw waits (record { bytes = with_word at word bytes; restages = put; are = λ image spelled same. ap (with_word at word) (sym (was image spelled) ∙ same) ∙ step })
