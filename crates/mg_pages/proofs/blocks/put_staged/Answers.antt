use Rattle.{mg_journal.specs.Staged.{staged, waiting}, mg_model.specs.{Abbreviations.word_bytes, Bytes.block_words}}
use Rattle.{mg_pages.{proofs.Spliced.words-spliced, specs.Parts.StagesBlock}, std.proofs.Common.{◌≡◌, ◌+◌, ◌*◌, List, ℕ, Option, Some, None, IfSome}}
use Rattle.std.{proofs.Common.{MatchOption, length, slice_set}, specs.List.splice}
use Rattle.mg_pages.proofs.blocks.put_staged.Goals as goal

stages : (old new : List (ℕ × List ℕ)) (block : ℕ) (f : List ℕ → List ℕ) (is : List ℕ → List ℕ → Type 0) (o : Option (List ℕ)) → MatchOption o (new ≡ old) (λ bytes. new ≡ staged old block (f bytes))
    → IfSome o (λ bytes. length bytes ≡ 4096) → ((bytes : List ℕ) → length bytes ≡ 4096 → is bytes (f bytes)) → MatchOption o (new ≡ old) (λ bytes. StagesBlock old new block (is bytes))
stages old new block f is None same whole are = same
stages old new block f is (Some bytes) more whole are = record { bytes = f bytes; more = more; are = are bytes whole }

pub returns-clause-put : goal.returns-clause-put
returns-clause-put c =
    let index = c.args.index in
    stages c.args.writes.now c.put.new.self c.args.block (λ bytes. splice bytes (8 * index) (8 * index + 8) (word_bytes c.args.value))
    (λ old bytes. block_words bytes ≡ slice_set (block_words old) index c.args.value)
    (waiting c.args.writes.now c.args.block) c.put.ensures.put c.put.ensures.whole
    (λ bytes whole. words-spliced bytes index c.args.value whole c.requires c.ranges.value.fits)
