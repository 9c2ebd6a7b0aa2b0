-- A word is written into a block that is staged.
use Rattle.{mg_disk.specs.Disk.{Image, block_at}, mg_journal.specs.Staged.{staged, waiting}, mg_model.specs.Layout.{globals_block, table_block}}
use Rattle.mg_pages.proofs.{Awaited.coming-waiting, OneBlock.{coming-more, here-more, shape-more, spelled-more, stages-more}, Opened.same-pages}
use Rattle.mg_pages.{proofs.{Sound.sound-staged, Staging.{length-again, waiting-named, waiting-staged}}, specs.Held.{IsSound, with_writes}}
use Rattle.mg_pages.specs.Meaning.{IsSpelledBy, Restages, coming, is_staged, staged_of, table_in, total_of, waiting_in, words_in}
use Rattle.{mg_pages.specs.declared.{blocks.Blocks.Blocks, pages.Pages.Pages}, std.{proofs.Common.{ap, ◌∙◌, inl, arith}, specs.Prelude.{◌≡◌, ◌≤◌}}}
use Rattle.std.specs.Prelude.{◌<◌, ℕ, List, length, IfSome, MatchOption, Option, Some, None}

-- what waits is what is coming there
pub was-there : (p : Pages) (block : ℕ) → block < table_block → (o : Option (List ℕ)) → waiting p.blocks.writes block ≡ o → IfSome o (λ bytes. (image : Image) → IsSpelledBy p image → block_at (coming p image) block ≡ bytes)
unfolding IsSpelledBy coming total_of
was-there p block high None is = tt
was-there p block high (Some bytes) is = grind (arith, coming-waiting)

pub restages : (p q : Pages) (block : ℕ) (old bytes : List ℕ) → globals_block ≤ block → block < table_block → waiting p.blocks.writes block ≡ Some old
    → q.blocks ≡ with_writes p.blocks (staged p.blocks.writes block bytes) → q.frames ≡ p.frames → q.count ≡ p.count → Restages block bytes p q
unfolding waiting_in table_in words_in staged_of is_staged
restages p q block old bytes low high is blocks frames count =
    let e = ap (λ (b : Blocks). length b.writes) blocks ∙ length-again p.blocks.writes block bytes (waiting-named p.blocks.writes block old is) in
    record {
      waits = ap (λ (b : Blocks). waiting b.writes block) blocks ∙ waiting-staged p.blocks.writes block bytes;
      coming = coming-more p q block bytes blocks frames;
      table = frames;
      shape = shape-more p q block bytes blocks frames;
      staged = record { least = (stages-more p q block bytes blocks frames).least; staged = omega arith; still = (stages-more p q block bytes blocks frames).still };
      here = here-more p q block bytes blocks frames;
      words = count;
      spelled = spelled-more p q block bytes blocks frames low high;
    }

-- the pages after a word was written
pub put-pages : (p q : Pages) (block : ℕ) (f : List ℕ → List ℕ) → globals_block ≤ block → block < table_block → q.frames ≡ p.frames → q.near ≡ p.near → q.count ≡ p.count → (o : Option (List ℕ)) → waiting p.blocks.writes block ≡ o
    → MatchOption o (q.blocks ≡ p.blocks) (λ bytes. q.blocks ≡ with_writes p.blocks (staged p.blocks.writes block (f bytes))) → MatchOption o (q ≡ p) (λ bytes. Restages block (f bytes) p q)
put-pages p q block f low high frames near count None is same = same-pages p q same frames near count
put-pages p q block f low high frames near count (Some old) is more = restages p q block old (f old) low high is more frames count

pub put-sound : (p : Pages) (b : Blocks) (block : ℕ) (f : List ℕ → List ℕ) → globals_block ≤ block → block < table_block → (o : Option (List ℕ)) → waiting p.blocks.writes block ≡ o
    → MatchOption o (b ≡ p.blocks) (λ bytes. b ≡ with_writes p.blocks (staged p.blocks.writes block (f bytes))) → IsSound b.store.total p.frames b.writes
put-sound p b block f low high None is same = rw same p.sound
put-sound p b block f low high (Some old) is more =
    let size = p.sound.size in
    rw more (sound-staged p.blocks.store.total p.frames p.blocks.writes block (f old) low (omega arith) (inl (waiting-named p.blocks.writes block old is)) p.sound)
