-- What a write more does to the writes that wait, and to the image with them.
use Rattle.{mg_disk.specs.Disk.{Image, block_at}, mg_frames.specs.Places.{position-here, position-there}, mg_journal.specs.Contents.names}
use Rattle.{mg_journal.specs.{Staged.{are_once, goes_to, staged, waiting}, WrittenLemmas.written_elsewhere}, mg_model.specs.Layout.globals_block}
use Rattle.{mg_model.specs.Replay.{homes_fit, written}, std.proofs.{Common.{refl, sym, ap, ◌∙◌, ⊎_elim, arith, length-append}, lemmas.Bool.and_from}}
use Rattle.std.proofs.lemmas.Bool.{and_parts, both_ways, cases_Bool, eq-eqb, eqb-true, le-leb, lt-ltb, ne_eqb, not_from_false, not-true, or_from}
use Rattle.std.proofs.lemmas.{Bool.{or_left, or_parts, or_right}, Grind.common_steps, List.{get_or-set_same, length-set, set_comm, set-set}}
use Rattle.std.specs.{List.position, Option.option_map_or, Prelude.{◌≡◌, ◌+◌, ◌≤◌, ◌<◌, ◌==◌, ◌&&◌, ◌||◌, nat_le, nat_lt, ℕ, suc, Bool, true, false}}
use Rattle.std.specs.Prelude.{not, List, [], ◌∷◌, ◌++◌, length, option_map, slice_set, Option, Some, None, IsSome}

-- one more write, by the first of those that wait
pub staged-here : (i b : ℕ) (x y : List ℕ) (ws : List (ℕ × List ℕ)) → (i == b) ≡ true → staged ((i, x) ∷ ws) b y ≡ (b, y) ∷ ws
staged-here i b x y ws is = grind arith

pub staged-there : (i b : ℕ) (x y : List ℕ) (ws : List (ℕ × List ℕ)) → (i == b) ≡ false → staged ((i, x) ∷ ws) b y ≡ (i, x) ∷ staged ws b y
staged-there i b x y ws is =
    ap (λ place. option_map_or (λ k. slice_set ((i, x) ∷ ws) k (b, y)) place (((i, x) ∷ ws) ++ (b, y) ∷ [])) (position-there (goes_to b) (i, x) ws is)
    ∙ inside (position (goes_to b) ws)
  where
    inside : (place : Option ℕ) → option_map_or (λ k. slice_set ((i, x) ∷ ws) k (b, y)) (option_map suc place) (((i, x) ∷ ws) ++ (b, y) ∷ []) ≡ (i, x) ∷ option_map_or (λ k. slice_set ws k (b, y)) place (ws ++ (b, y) ∷ [])
    inside None = refl
    inside (Some k) = refl

-- a write elsewhere may be made before or after
pub written-apart : (ws : List (ℕ × List ℕ)) (r : Image) (b : ℕ) (y : List ℕ) → names ws b ≡ false → written (slice_set r b y) ws ≡ slice_set (written r ws) b y
written-apart [] r b y apart = refl
written-apart ((i, x) ∷ ws) r b y apart =
    let parts = or_parts (i == b) (names ws b) apart in
    ap (λ image. written image ws) (set_comm r b i y x (λ is. both_ways (i == b) parts.0 (eq-eqb i b (sym is)))) ∙ written-apart ws (slice_set r i x) b y parts.1

once-parts : (i : ℕ) (x : List ℕ) (ws : List (ℕ × List ℕ)) → are_once ((i, x) ∷ ws) ≡ true → (names ws i ≡ false) × (are_once ws ≡ true)
once-parts i x ws once = let parts = and_parts (not (names ws i)) (are_once ws) once in (not-true (names ws i) parts.0, parts.1)

-- a write more is a block of the image
pub written-staged : (ws : List (ℕ × List ℕ)) (r : Image) (b : ℕ) (y : List ℕ) → are_once ws ≡ true → written r (staged ws b y) ≡ slice_set (written r ws) b y
written-staged [] r b y once = refl
written-staged ((i, x) ∷ ws) r b y once = ⊎_elim here (there (λ rest. written-staged ws (slice_set r i x) b y rest)) (cases_Bool (i == b))
  where
    those : (names ws i ≡ false) × (are_once ws ≡ true)
    those = once-parts i x ws once

    here : (i == b) ≡ true → written r (staged ((i, x) ∷ ws) b y) ≡ slice_set (written r ((i, x) ∷ ws)) b y
    here same = grind (arith, eqb-true, those, staged-here, written-apart, set-set)

    there : (are_once ws ≡ true → written (slice_set r i x) (staged ws b y) ≡ slice_set (written (slice_set r i x) ws) b y) → (i == b) ≡ false → written r (staged ((i, x) ∷ ws) b y) ≡ slice_set (written r ((i, x) ∷ ws)) b y
    there rest not_same = ap (written r) (staged-there i b x y ws not_same) ∙ rest those.1

-- what is staged then
pub names-staged : (ws : List (ℕ × List ℕ)) (b : ℕ) (y : List ℕ) (k : ℕ) → names (staged ws b y) k ≡ (b == k || names ws k)
names-staged [] b y k = refl
names-staged ((i, x) ∷ ws) b y k = ⊎_elim here (there (names-staged ws b y k)) (cases_Bool (i == b))
  where
    twice : (t u : Bool) → (t || u) ≡ (t || (t || u))
    twice true u = refl
    twice false u = refl

    turned : (s t u : Bool) → (s || (t || u)) ≡ (t || (s || u))
    turned true true u = refl
    turned true false u = refl
    turned false t u = refl

    here : (i == b) ≡ true → names (staged ((i, x) ∷ ws) b y) k ≡ (b == k || (i == k || names ws k))
    here same = grind (arith, eqb-true, staged-here, twice)

    there : names (staged ws b y) k ≡ (b == k || names ws k) → (i == b) ≡ false → names (staged ((i, x) ∷ ws) b y) k ≡ (b == k || (i == k || names ws k))
    there rest not_same = grind (arith, staged-there, turned)

pub once-staged : (ws : List (ℕ × List ℕ)) (b : ℕ) (y : List ℕ) → are_once ws ≡ true → are_once (staged ws b y) ≡ true
once-staged [] b y once = refl
once-staged ((i, x) ∷ ws) b y once = ⊎_elim here (there (once-staged ws b y)) (cases_Bool (i == b))
  where
    those : (names ws i ≡ false) × (are_once ws ≡ true)
    those = once-parts i x ws once

    here : (i == b) ≡ true → are_once (staged ((i, x) ∷ ws) b y) ≡ true
    here same = grind arith

    there : (are_once ws ≡ true → are_once (staged ws b y) ≡ true) → (i == b) ≡ false → are_once (staged ((i, x) ∷ ws) b y) ≡ true
    there rest not_same = grind (arith, ne_eqb, both_ways, eq-eqb, staged-there, and_from, not_from_false, names-staged, or_from, those)

home_fits : (total b : ℕ) → globals_block ≤ b → b < total → (nat_le globals_block b && nat_lt b total) ≡ true
home_fits total b low high = and_from (nat_le globals_block b) (nat_lt b total) (le-leb globals_block b low) (lt-ltb b total high)

pub fit-staged : (total : ℕ) (ws : List (ℕ × List ℕ)) (b : ℕ) (y : List ℕ) → globals_block ≤ b → b < total → homes_fit total ws ≡ true → homes_fit total (staged ws b y) ≡ true
fit-staged total [] b y low high fit = and_from (nat_le globals_block b && nat_lt b total) true (home_fits total b low high) refl
fit-staged total ((i, x) ∷ ws) b y low high fit = ⊎_elim here (there (fit-staged total ws b y low high)) (cases_Bool (i == b))
  where
    those : ((nat_le globals_block i && nat_lt i total) ≡ true) × (homes_fit total ws ≡ true)
    those = and_parts (nat_le globals_block i && nat_lt i total) (homes_fit total ws) fit

    here : (i == b) ≡ true → homes_fit total (staged ((i, x) ∷ ws) b y) ≡ true
    here same = ap (homes_fit total) (staged-here i b x y ws same) ∙ and_from (nat_le globals_block b && nat_lt b total) (homes_fit total ws) (home_fits total b low high) those.1

    there : (homes_fit total ws ≡ true → homes_fit total (staged ws b y) ≡ true) → (i == b) ≡ false → homes_fit total (staged ((i, x) ∷ ws) b y) ≡ true
    there rest not_same = ap (homes_fit total) (staged-there i b x y ws not_same) ∙ and_from (nat_le globals_block i && nat_lt i total) (homes_fit total (staged ws b y)) those.0 (rest those.1)

-- how many wait then
longer : (ws : List (ℕ × List ℕ)) (b : ℕ) (y : List ℕ) (place : Option ℕ) → let more = option_map_or (λ k. slice_set ws k (b, y)) place (ws ++ (b, y) ∷ []) in (length ws ≤ length more) × (length more ≤ length ws + 1)
longer ws b y None = let e = length-append ws ((b, y) ∷ []) in (omega arith, omega arith)
longer ws b y (Some k) = let e = length-set ws k (b, y) in (omega arith, omega arith)

pub length-kept : (ws : List (ℕ × List ℕ)) (b : ℕ) (y : List ℕ) → length ws ≤ length (staged ws b y)
length-kept ws b y = (longer ws b y (position (goes_to b) ws)).0

pub length-staged : (ws : List (ℕ × List ℕ)) (b : ℕ) (y : List ℕ) → length (staged ws b y) ≤ length ws + 1
length-staged ws b y = (longer ws b y (position (goes_to b) ws)).1

pub length-again : (ws : List (ℕ × List ℕ)) (b : ℕ) (y : List ℕ) → names ws b ≡ true → length (staged ws b y) ≡ length ws
length-again [] b y named = absurd (both_ways false refl named)
length-again ((i, x) ∷ ws) b y named = ⊎_elim here (there (length-again ws b y)) (cases_Bool (i == b))
  where
    here : (i == b) ≡ true → length (staged ((i, x) ∷ ws) b y) ≡ length ((i, x) ∷ ws)
    here same = ap (λ w. length w) (staged-here i b x y ws same)

    there : (names ws b ≡ true → length (staged ws b y) ≡ length ws) → (i == b) ≡ false → length (staged ((i, x) ∷ ws) b y) ≡ length ((i, x) ∷ ws)
    there rest not_same = grind (arith, staged-there)

-- a write is replaced if one goes to that block
pub place-named : (ws : List (ℕ × List ℕ)) (b : ℕ) → names ws b ≡ true → IsSome (position (goes_to b) ws)
place-named [] b named = absurd (both_ways false refl named)
place-named ((i, x) ∷ ws) b named = ⊎_elim here (there (place-named ws b)) (cases_Bool (i == b))
  where
    some_suc : (o : Option ℕ) → IsSome o → IsSome (option_map suc o)
    some_suc None is = is
    some_suc (Some n) is = is

    here : (i == b) ≡ true → IsSome (position (goes_to b) ((i, x) ∷ ws))
    here same = rw (position-here (goes_to b) (i, x) ws same) refl

    there : (names ws b ≡ true → IsSome (position (goes_to b) ws)) → (i == b) ≡ false → IsSome (position (goes_to b) ((i, x) ∷ ws))
    there rest not_same = grind (arith, some_suc)

-- what waits for a block is what is there once all is written
pub some_list : (x y : List ℕ) → Some x ≡ Some y → x ≡ y
some_list x y is = cc

pub none_list : (x : List ℕ) → Some x ≡ None → ⊥
none_list x is = cc

pub waiting-here : (i k : ℕ) (x : List ℕ) (ws : List (ℕ × List ℕ)) → (i == k) ≡ true → waiting ((i, x) ∷ ws) k ≡ Some x
waiting-here i k x ws is = rw is refl

pub waiting-there : (i k : ℕ) (x : List ℕ) (ws : List (ℕ × List ℕ)) → (i == k) ≡ false → waiting ((i, x) ∷ ws) k ≡ waiting ws k
waiting-there i k x ws is = rw is refl

pub waiting-none : (ws : List (ℕ × List ℕ)) (k : ℕ) → waiting ws k ≡ None → names ws k ≡ false
waiting-none [] k none = refl
waiting-none ((i, x) ∷ ws) k none = ⊎_elim here (there (waiting-none ws k)) (cases_Bool (i == k))
  where
    here : (i == k) ≡ true → names ((i, x) ∷ ws) k ≡ false
    here same = absurd (none_list x (sym (waiting-here i k x ws same) ∙ none))

    there : (waiting ws k ≡ None → names ws k ≡ false) → (i == k) ≡ false → names ((i, x) ∷ ws) k ≡ false
    there rest not_same = or_from (i == k) (names ws k) not_same (rest (sym (waiting-there i k x ws not_same) ∙ none))

pub written-none : (ws : List (ℕ × List ℕ)) (r : Image) (k : ℕ) → waiting ws k ≡ None → block_at (written r ws) k ≡ block_at r k
written-none ws r k none = (written_elsewhere ws r).others k (λ named. both_ways (names ws k) (waiting-none ws k none) named)

pub written-waiting : (ws : List (ℕ × List ℕ)) (r : Image) (k : ℕ) (x : List ℕ) → are_once ws ≡ true → k < length r → waiting ws k ≡ Some x → block_at (written r ws) k ≡ x
written-waiting [] r k x once below is = absurd (none_list x (sym is))
written-waiting ((i, y) ∷ ws) r k x once below is = ⊎_elim here (there (λ rest more. written-waiting ws (slice_set r i y) k x rest more)) (cases_Bool (i == k))
  where
    those : (names ws i ≡ false) × (are_once ws ≡ true)
    those = once-parts i y ws once

    here : (i == k) ≡ true → block_at (written (slice_set r i y) ws) k ≡ x
    here same = grind (arith, common_steps, eqb-true, those, written_elsewhere, both_ways, get_or-set_same, some_list, waiting-here)

    there : (are_once ws ≡ true → k < length (slice_set r i y) → waiting ws k ≡ Some x → block_at (written (slice_set r i y) ws) k ≡ x) → (i == k) ≡ false → block_at (written (slice_set r i y) ws) k ≡ x
    there rest not_same = rest those.1 (let n = length-set r i y in omega arith) (sym (waiting-there i k y ws not_same) ∙ is)

-- what was staged last waits
pub waiting-staged : (ws : List (ℕ × List ℕ)) (b : ℕ) (y : List ℕ) → waiting (staged ws b y) b ≡ Some y
waiting-staged [] b y = waiting-here b b y [] (eq-eqb b b refl)
waiting-staged ((i, x) ∷ ws) b y = ⊎_elim here (there (waiting-staged ws b y)) (cases_Bool (i == b))
  where
    here : (i == b) ≡ true → waiting (staged ((i, x) ∷ ws) b y) b ≡ Some y
    here same = ap (λ w. waiting w b) (staged-here i b x y ws same) ∙ waiting-here b b y ws (eq-eqb b b refl)

    there : waiting (staged ws b y) b ≡ Some y → (i == b) ≡ false → waiting (staged ((i, x) ∷ ws) b y) b ≡ Some y
    there rest other = ap (λ w. waiting w b) (staged-there i b x y ws other) ∙ waiting-there i b x (staged ws b y) other ∙ rest

-- a block that something waits for is named
pub waiting-named : (ws : List (ℕ × List ℕ)) (b : ℕ) (x : List ℕ) → waiting ws b ≡ Some x → names ws b ≡ true
waiting-named [] b x is = absurd (cc)
waiting-named ((i, y) ∷ ws) b x is = ⊎_elim here (there (waiting-named ws b x)) (cases_Bool (i == b))
  where
    here : (i == b) ≡ true → names ((i, y) ∷ ws) b ≡ true
    here same = or_left (i == b) (names ws b) same

    there : (waiting ws b ≡ Some x → names ws b ≡ true) → (i == b) ≡ false → names ((i, y) ∷ ws) b ≡ true
    there rest other = or_right (i == b) (names ws b) (rest (sym (waiting-there i b y ws other) ∙ is))
