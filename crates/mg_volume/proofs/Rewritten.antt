-- Words that are written into a block that is staged, one after another.
use Rattle.{mg_disk.specs.Disk.{Image, block_at}, mg_model.specs.{Abbreviations.word_bytes, Layout.globals_block, Ranges.IsCounters, Replay.block_of}}
use Rattle.{mg_model.specs.{Spelling.{globals_bytes, globals_read}, State.Counters}, mg_pages.specs.declared.pages.Pages.Pages}
use Rattle.{mg_rows.specs.{Laws.IsSpelledInOneWay, ThreadParts.with_word}, mg_volume.{proofs.Respelled.restages_then, specs.Held.VolumeHeld}}
use Rattle.{mg_volume.specs.{Meaning.Spelled, Standing.RespellsCounters}, std.{proofs.Common.{refl, sym, ap, subst, ◌∙◌}, specs.List.splice}}
use Rattle.std.specs.Prelude.{◌≡◌, ◌+◌, ℕ, List, true, is_some, IfSome, MatchOption, Option, Some, None}
use Rattle.mg_pages.specs.Meaning as pages

-- what was in the block is staged there with a change
pub record Rewrites (block : ℕ) (change : List ℕ → List ℕ) (old new : Pages) : Type 0 where
  pub was : List ℕ
  pub waited : (image : Image) → pages.IsSpelledBy old image → block_at (pages.coming old image) block ≡ was
  pub restages : pages.Restages block (change was) old new

abbrev pub Puts : ℕ → ℕ → ℕ → Pages → Pages → Type 0
Puts block at word old new = MatchOption (pages.waiting_in old block) (new ≡ old) (λ bytes. pages.Restages block (splice bytes at (at + 8) (word_bytes word)) old new)

pub first_put : (block at word : ℕ) (old new : Pages) → is_some (pages.waiting_in old block) ≡ true → IfSome (pages.waiting_in old block) (λ bytes. (image : Image) → pages.IsSpelledBy old image → block_at (pages.coming old image) block ≡ bytes)
    → Puts block at word old new → Rewrites block (with_word at word) old new
first_put block at word old new = by_waiting (pages.waiting_in old block)
  where
    by_waiting : (o : Option (List ℕ)) → is_some o ≡ true → IfSome o (λ bytes. (image : Image) → pages.IsSpelledBy old image → block_at (pages.coming old image) block ≡ bytes)
        → MatchOption o (new ≡ old) (λ bytes. pages.Restages block (splice bytes at (at + 8) (word_bytes word)) old new) → Rewrites block (with_word at word) old new
    by_waiting None there waited puts = absurd (cc)
    by_waiting (Some bytes) there waited puts = record { was = bytes; waited = waited; restages = puts }

pub then_put : (block at word : ℕ) (change : List ℕ → List ℕ) (p q r : Pages) → Rewrites block change p q → Puts block at word q r → Rewrites block (λ bytes. with_word at word (change bytes)) p r
then_put block at word change p q r told puts =
    let put : pages.Restages block (with_word at word (change told.was)) q r =
    subst (λ (o : Option (List ℕ)). MatchOption o (r ≡ q) (λ bytes. pages.Restages block (splice bytes at (at + 8) (word_bytes word)) q r)) told.restages.waits puts in
    record { was = told.was; waited = told.waited; restages = restages_then block (change told.was) (with_word at word (change told.was)) p q r told.restages put }

-- the words of the counters
abbrev pub words_at : ℕ → ℕ → ℕ → ℕ → List ℕ → List ℕ
words_at draws period cursor births bytes = with_word 24 births (with_word 16 cursor (with_word 8 period (with_word 0 draws bytes)))

same_words : (g old : Counters) → words_at g.draws g.period g.cursor g.births (globals_bytes old) ≡ globals_bytes g
same_words g old = refl

abbrev counters_at : ℕ → ℕ → ℕ → ℕ → Counters
counters_at draws period cursor births = record { draws = draws; period = period; cursor = cursor; births = births }

pub counters_respelled : (draws period cursor births : ℕ) (g : Counters) (old new : Pages) → draws ≡ g.draws → period ≡ g.period → cursor ≡ g.cursor → births ≡ g.births
    → Rewrites globals_block (words_at draws period cursor births) old new → RespellsCounters g old new
counters_respelled draws period cursor births g old new draws_is period_is cursor_is births_is told =
    subst (λ (k : Counters). RespellsCounters k old new)
    (ap (λ n. counters_at n period cursor births) draws_is ∙ ap (λ n. counters_at g.draws n cursor births) period_is ∙ ap (λ n. counters_at g.draws g.period n births) cursor_is ∙ ap (λ n. counters_at g.draws g.period g.cursor n) births_is)
    (record {
      bytes = words_at draws period cursor births told.was;
      restages = told.restages;
      are = λ image spelled counters is.
          ap (words_at draws period cursor births) (sym (told.waited image spelled) ∙ is) ∙ same_words (counters_at draws period cursor births) counters;
    })

-- the bytes of the counters, staged again, spell them
pub counters_read : (v : VolumeHeld) (p : Pages) (g : Counters) (told : RespellsCounters g v.pages p) → IsSpelledInOneWay globals_read globals_bytes IsCounters → IsCounters g → (image : Image) → Spelled v image → globals_read told.bytes ≡ Some g
counters_read v p g told way range image s =
    let bytes : told.bytes ≡ globals_bytes g = told.are image s.fitting v.counters (sym (way.same (block_of (pages.coming v.pages image) globals_block) v.counters s.counters_are)) in
    ap globals_read bytes ∙ way.written g range
