-- Lemmas on the places of bodies: one more, and whether a segment fits.
use Rattle.{mg_disk.specs.Disk.Image, mg_journal.specs.{Contents.{bodies_fit, bodies_of}, Places.{IsPlace, places_from, places_of, places_since}}}
use Rattle.{mg_journal.specs.SegmentLemmas.{each-fits, fits-each}, mg_model.specs.{Abbreviations.{segments_fit, writes_from}, Layout.body_limit}}
use Rattle.mg_model.specs.{Layout.{globals_block, segment_body}, Replay.{body_count, home_of, homes_fit, is_open, segment_fits}}
use Rattle.std.proofs.{Common.{refl, ap, ◌∙◌, ⊎_elim, arith, append_assoc}, lemmas.Bool.{and_from, and_left, and_parts, and_right, both_ways}}
use Rattle.std.proofs.lemmas.{Bool.{cases_Bool, cases_eq, le-leb, leb-true, lt-ltb, ltb-true, Decides.nat_tests}, List.append-nil}
use Rattle.std.{proofs.lemmas.List.Elements.{All-head, All-tail}, specs.Prelude.{◌≡◌, ◌+◌, ◌≤◌, ◌<◌, ◌&&◌, nat_le, nat_lt, ℕ, Bool, zero, suc, true}}
use Rattle.std.specs.Prelude.{false, All, [], ◌∷◌, ◌++◌, if◌then◌else◌}

not_le : (a b : ℕ) → b < a → nat_le a b ≡ false
not_le a b more = ⊎_elim (λ is. let le = leb-true a b is in absurd (omega arith)) (λ no. no) (cases_Bool (nat_le a b))

pub places_from-last : (image : Image) (s j n : ℕ) → places_from image s j (suc n) ≡ places_from image s j n ++ (home_of image s (j + n), segment_body s (j + n)) ∷ []
places_from-last image s j zero = let at : j ≡ j + zero = omega arith in ap (λ k. (home_of image s k, segment_body s k) ∷ []) at
places_from-last image s j (suc n) = grind (arith, places_from-last image s (j + 1) n)

-- homes fit if the places are places
pub homes_are-fit : (total : ℕ) (image : Image) (s j n : ℕ) → All (IsPlace total) (places_from image s j n) → homes_fit total (writes_from image s j n) ≡ true
homes_are-fit total image s j zero all = refl
homes_are-fit total image s j (suc n) all =
    let first = All-head (IsPlace total) (home_of image s j, segment_body s j) (places_from image s (j + 1) n) all in
    and_from (nat_le globals_block (home_of image s j) && nat_lt (home_of image s j) total) (homes_fit total (writes_from image s (j + 1) n))
    (and_from (nat_le globals_block (home_of image s j)) (nat_lt (home_of image s j) total) (le-leb globals_block (home_of image s j) first.low) (lt-ltb (home_of image s j) total first.high))
    (homes_are-fit total image s (j + 1) n (All-tail (IsPlace total) (home_of image s j, segment_body s j) (places_from image s (j + 1) n) all))

-- whether a body may belong to this block
abbrev pub is_home : ℕ → ℕ → Bool
is_home total home = nat_le globals_block home && nat_lt home total

-- they do not if one of them is within the journal or past the volume
pub homes_are-unfit : (total : ℕ) (image : Image) (s j n k : ℕ) → k < n → is_home total (home_of image s (j + k)) ≡ false → homes_fit total (writes_from image s j n) ≡ false
homes_are-unfit total image s j zero k below out = absurd (omega arith)
homes_are-unfit total image s j (suc n) zero below out = grind (arith, and_left)
homes_are-unfit total image s j (suc n) (suc k) below out =
    let at : j + 1 + k ≡ j + suc k = omega arith in
    and_right (is_home total (home_of image s j)) (homes_fit total (writes_from image s (j + 1) n))
    (homes_are-unfit total image s (j + 1) n k (omega arith) (ap (λ m. is_home total (home_of image s m)) at ∙ out))

pub home-place : (total home body : ℕ) → is_home total home ≡ true → body < globals_block → IsPlace total (home, body)
home-place total home body is inside = grind (arith, and_parts, leb-true, ltb-true)

module _ (total : ℕ) (image : Image) (s : ℕ) where
  pub bodies_are-fit : body_count image s ≤ body_limit → All (IsPlace total) (places_from image s 0 (body_count image s)) → bodies_fit total image s ≡ true
  bodies_are-fit few all = and_from (nat_le (body_count image s) body_limit) (homes_fit total (bodies_of image s)) (le-leb (body_count image s) body_limit few) (homes_are-fit total image s 0 (body_count image s) all)

  pub too_many-unfit : body_limit < body_count image s → bodies_fit total image s ≡ false
  too_many-unfit many = and_left (nat_le (body_count image s) body_limit) (homes_fit total (bodies_of image s)) (not_le (body_count image s) body_limit many)

  pub home-unfit : (k : ℕ) → k < body_count image s → is_home total (home_of image s k) ≡ false → bodies_fit total image s ≡ false
  home-unfit k below out =
      let at : 0 + k ≡ k = omega arith in
      and_right (nat_le (body_count image s) body_limit) (homes_fit total (bodies_of image s))
      (homes_are-unfit total image s 0 (body_count image s) k below (ap (λ m. is_home total (home_of image s m)) at ∙ out))

pub places-open : (image : Image) (s : ℕ) → is_open image s ≡ true → places_of image s ≡ places_from image s 0 (body_count image s)
places-open image s opened = ap (λ t. if t then places_from image s 0 (body_count image s) else []) opened

pub places-closed : (image : Image) (s : ℕ) → is_open image s ≡ false → places_of image s ≡ []
places-closed image s shut = ap (λ t. if t then places_from image s 0 (body_count image s) else []) shut

-- one segment more
pub segments_fit-more : (total : ℕ) (image : Image) (s : ℕ) → segments_fit total image 0 s ≡ true → segment_fits total image s ≡ true → segments_fit total image 0 (s + 1) ≡ true
segments_fit-more total image s so_far here =
    fits-each total image 0 (s + 1) (λ t low high. ⊎_elim (λ is. ap (segment_fits total image) is ∙ here) (λ other. each-fits total image 0 s t so_far low (omega arith)) (cases_eq t s))

pub segments_unfit : (total : ℕ) (image : Image) (s n : ℕ) → s < n → segment_fits total image s ≡ false → segments_fit total image 0 n ≡ false
segments_unfit total image s n below unfit = grind (arith, nat_tests, both_ways, each-fits)

pub places_since-last : (image : Image) (from n : ℕ) → places_since image from (suc n) ≡ places_since image from n ++ places_of image (from + n)
places_since-last image from zero = let at : from ≡ from + zero = omega arith in append-nil (places_of image from) ∙ ap (places_of image) at
places_since-last image from (suc n) = grind (arith, append_assoc, places_since-last image (from + 1) n)
