-- Which blocks such an image has.
use Rattle.{mg_disk.specs.Disk.{Image, block_at}, mg_layout.specs.{FreshBelow.{fresh_until, with_block}, FreshImage.{fresh_bytes, is_written}}}
use Rattle.{mg_model.specs.{Layout.{first_frame, super_block}, Settings.Settings}, std.proofs.Common.{refl, sym, ap, ◌∙◌, arith, add-one}}
use Rattle.std.{proofs.lemmas.{Bool.Decides.nat_tests, List.{get_or-set_other, get_or-set_same, length-set}}, specs.Prelude.{◌≡◌, ◌≢◌, ℕ, zero, suc}}
use Rattle.std.specs.Prelude.{◌+◌, ◌<◌, ◌≤◌, IsTrue, length}

pub until-none : (settings : Settings) (image : Image) → fresh_until settings 0 image ≡ image
unfolding fresh_until
until-none settings image = refl

pub until-more : (settings : Settings) (n : ℕ) (image : Image) → fresh_until settings (n + 1) image ≡ with_block settings (n + 1) (fresh_until settings n image)
unfolding fresh_until
until-more settings n image = ap (λ k. fresh_until settings k image) (add-one n) ∙ ap (λ k. with_block settings k (fresh_until settings n image)) (sym (add-one n))

length-with_block : (settings : Settings) (i : ℕ) (image : Image) → length (with_block settings i image) ≡ length image
length-with_block settings i image = grind (arith, nat_tests, length-set)

pub length-until : (settings : Settings) (n : ℕ) (image : Image) → length (fresh_until settings n image) ≡ length image
unfolding fresh_until
length-until settings zero image = refl
length-until settings (suc n) image = length-with_block settings (suc n) (fresh_until settings n image) ∙ length-until settings n image

with_block-here : (settings : Settings) (i : ℕ) (image : Image) → i < length image → IsTrue (is_written settings.frames i) → block_at (with_block settings i image) i ≡ fresh_bytes settings i
with_block-here settings i image inside t = grind (arith, get_or-set_same)

pub with_block-other : (settings : Settings) (i k : ℕ) (image : Image) → k ≢ i → block_at (with_block settings i image) k ≡ block_at image k
with_block-other settings i k image other = grind (arith, nat_tests, get_or-set_other)

-- each block that was written has its bytes
until_step : (settings : Settings) (n i : ℕ) (image : Image) → i ≤ suc n → i < length image → IsTrue (is_written settings.frames i) → (i ≤ n → block_at (fresh_until settings n image) i ≡ fresh_bytes settings i)
    → block_at (with_block settings (suc n) (fresh_until settings n image)) i ≡ fresh_bytes settings i
until_step settings n i image high inside t below = grind (arith, nat_tests, with_block-here, length-until, with_block-other)

pub until-block : (settings : Settings) (n i : ℕ) (image : Image) → super_block ≤ i → i ≤ n → i < length image → IsTrue (is_written settings.frames i) → block_at (fresh_until settings n image) i ≡ fresh_bytes settings i
unfolding fresh_until
until-block settings zero i image low high inside t = absurd (omega arith)
until-block settings (suc n) i image low high inside t = until_step settings n i image high inside t (λ lower. until-block settings n i image low lower inside t)

-- every block that is written is frame 0 or before it
pub written-low : (frames i : ℕ) → IsTrue (is_written frames i) → i ≤ first_frame frames
written-low frames i t = grind (arith, nat_tests)
