-- What is kept of the contents, once a block is read or what is staged is written.
use Rattle.{mg_disk.specs.Disk.{Image, block_at}, mg_journal.specs.{Contents.names, Staged.{are_once, bytes_of, home_at, waiting}}}
use Rattle.{mg_model.specs.{Layout.globals_block, Replay.{homes_fit, written}}, mg_pages.proofs.Staging.{some_list, none_list, waiting-here}}
use Rattle.mg_pages.{proofs.Staging.{waiting-named, waiting-there, written-none, written-waiting}, specs.Kept.{AreKept, AreKeptBut, KeepsBesides}}
use Rattle.{mg_pages.specs.Kept.{KeepsSame, KeepsThis, kept_at}, std.proofs.Common.{refl, sym, ap, subst, ◌∙◌, ⊎_elim, inl, inr, arith}}
use Rattle.std.proofs.lemmas.Bool.{and_parts, both_ways, cases_Bool, eq-eqb, eqb-true, false≢true, ltb-true, not-true, or_cases, or_left, or_right}
use Rattle.std.{proofs.lemmas.List.{drop_all, drop_more}, specs.{Map.lookup, Prelude.{◌≡◌, ◌≢◌, ◌⊎◌, ◌+◌, ◌≤◌, ◌<◌, ◌==◌, ◌&&◌, nat_eq, nat_le}}}
use Rattle.std.specs.Prelude.{nat_lt, ℕ, zero, suc, true, false, not, List, [], ◌∷◌, ◌++◌, drop, length, Option, Some, None, MatchOption, cond}
use Rattle.std.specs.Prelude.{is_some}

-- the same blocks are kept
pub kept-same : (first : ℕ) (r : Image) (old new : List (ℕ × List ℕ)) → KeepsSame old new → AreKept first r old → AreKept first r new
kept-same first r old new same are i bytes found = are i bytes (sym (same i) ∙ found)

-- a block of the contents is kept besides
pub kept-read : (first : ℕ) (r : Image) (block : ℕ) (is : List ℕ) (old new : List (ℕ × List ℕ)) → is ≡ block_at r block → KeepsBesides block is old new → AreKept first r old → AreKept first r new
kept-read first r block is old new read keeps are i bytes found low = grind arith

-- what some writes have of a block is kept before what is kept after them
other-way : (i k : ℕ) → (k == i) ≡ false → nat_eq i k ≡ false
other-way i k not_same = ⊎_elim (λ same. absurd (both_ways (k == i) not_same (eq-eqb k i (sym (eqb-true i k same))))) (λ is. is) (cases_Bool (nat_eq i k))

look-there : (i k : ℕ) (x : List ℕ) (es : List (ℕ × List ℕ)) → (k == i) ≡ false → kept_at ((k, x) ∷ es) i ≡ kept_at es i
look-there i k x es not_same = ap (λ t. cond t (Some x) (lookup (nat_eq i) es)) (other-way i k not_same)

look-here : (i k : ℕ) (x : List ℕ) (es : List (ℕ × List ℕ)) → (k == i) ≡ true → kept_at ((k, x) ∷ es) i ≡ Some x
look-here i k x es same = ap (λ t. cond t (Some x) (lookup (nat_eq i) es)) (eq-eqb i k (sym (eqb-true k i same)))

pub kept-behind : (ws kept : List (ℕ × List ℕ)) (i : ℕ) → waiting ws i ≡ None → kept_at (ws ++ kept) i ≡ kept_at kept i
kept-behind [] kept i none = refl
kept-behind ((k, x) ∷ ws) kept i none =
    ⊎_elim (λ same. absurd (none_list x (sym (waiting-here k i x ws same) ∙ none)))
    (λ apart. look-there i k x (ws ++ kept) apart ∙ kept-behind ws kept i (sym (waiting-there k i x ws apart) ∙ none)) (cases_Bool (k == i))

pub kept-before : (ws kept : List (ℕ × List ℕ)) (i : ℕ) (y : List ℕ) → waiting ws i ≡ Some y → kept_at (ws ++ kept) i ≡ Some y
kept-before [] kept i y is = absurd (none_list y (sym is))
kept-before ((k, x) ∷ ws) kept i y is =
    ⊎_elim (λ same. look-here i k x (ws ++ kept) same ∙ sym (waiting-here k i x ws same) ∙ is)
    (λ apart. look-there i k x (ws ++ kept) apart ∙ kept-before ws kept i y (sym (waiting-there k i x ws apart) ∙ is)) (cases_Bool (k == i))

-- either something goes to a block or nothing does
pub goes-or-not : (ws : List (ℕ × List ℕ)) (i : ℕ) → (waiting ws i ≡ None) ⊎ ((x : List ℕ) × (waiting ws i ≡ Some x))
goes-or-not ws i = told (waiting ws i)
  where
    told : (o : Option (List ℕ)) → (o ≡ None) ⊎ ((x : List ℕ) × (o ≡ Some x))
    told None = inl refl
    told (Some x) = inr (x, refl)

pub goes-somewhere : {X : Type 0} (o : Option X) (bytes_in : X → List ℕ) (goes : Option (List ℕ)) → is_some o ≡ true → MatchOption o (goes ≡ None) (λ x. goes ≡ Some (bytes_in x)) → goes ≡ None → ⊥
goes-somewhere None bytes_in goes some match none = false≢true some
goes-somewhere (Some x) bytes_in goes some match none = none_list (bytes_in x) (sym match ∙ none)

-- what is kept besides, and what is found there, by what the writes have
pub besides-behind : (ws : List (ℕ × List ℕ)) (block : ℕ) (is : List ℕ) (old new : List (ℕ × List ℕ)) → KeepsThis block is old new → KeepsBesides block is (ws ++ old) (ws ++ new)
besides-behind ws block is old new keeps i bytes found =
    ⊎_elim (λ none. ⊎_elim (λ this. inl this) (λ other. inr (kept-behind ws old i none ∙ other.1)) (keeps i bytes (sym (kept-behind ws new i none) ∙ found)))
    (λ goes. inr (kept-before ws old i goes.0 goes.1 ∙ sym (kept-before ws new i goes.0 goes.1) ∙ found)) (goes-or-not ws i)

pub same-behind : (ws old new : List (ℕ × List ℕ)) → KeepsSame old new → KeepsSame (ws ++ old) (ws ++ new)
same-behind ws old new same i = grind (arith, kept-behind, kept-before, goes-or-not)

-- the block of write k has what write k writes there
named-at : (ws : List (ℕ × List ℕ)) (k : ℕ) → k < length ws → names ws (home_at ws k) ≡ true
named-at [] k below = absurd (omega arith)
named-at ((i, x) ∷ ws) zero below = or_left (i == i) (names ws i) (eq-eqb i i refl)
named-at ((i, x) ∷ ws) (suc k) below = or_right (i == home_at ws k) (names ws (home_at ws k)) (named-at ws k (omega arith))

pub waiting-at : (ws : List (ℕ × List ℕ)) (k : ℕ) → are_once ws ≡ true → k < length ws → waiting ws (home_at ws k) ≡ Some (bytes_of ws k)
waiting-at [] k once below = absurd (omega arith)
waiting-at ((i, x) ∷ ws) zero once below = waiting-here i i x ws (eq-eqb i i refl)
waiting-at ((i, x) ∷ ws) (suc k) once below =
    let parts = and_parts (not (names ws i)) (are_once ws) once in
    ⊎_elim
    (λ same. absurd (both_ways (names ws i) (not-true (names ws i) parts.0) (ap (names ws) (eqb-true i (home_at ws k) same) ∙ named-at ws k (omega arith))))
    (λ apart. waiting-there i (home_at ws k) x ws apart ∙ waiting-at ws k parts.1 (omega arith)) (cases_Bool (i == home_at ws k))

-- a write lies on the volume
waits-below : (total : ℕ) (ws : List (ℕ × List ℕ)) (i : ℕ) (x : List ℕ) → homes_fit total ws ≡ true → waiting ws i ≡ Some x → i < total
waits-below total [] i x fit is = absurd (none_list x (sym is))
waits-below total ((k, y) ∷ ws) i x fit is =
    let parts = and_parts (nat_le globals_block k && nat_lt k total) (homes_fit total ws) fit in
    ⊎_elim (λ same. subst (λ n. n < total) (eqb-true k i same) (ltb-true k total (and_parts (nat_le globals_block k) (nat_lt k total) parts.0).1))
    (λ apart. waits-below total ws i x parts.1 (sym (waiting-there k i y ws apart) ∙ is)) (cases_Bool (k == i))

-- what goes to no block of these writes is kept, or goes to one of the rest
abbrev pub AreKeptUpTo : List (ℕ × List ℕ) → List (ℕ × List ℕ) → ℕ → Image → List (ℕ × List ℕ) → Type 0
AreKeptUpTo rest writes first r kept = (i : ℕ) (bytes : List ℕ) → kept_at kept i ≡ Some bytes → first ≤ i → waiting writes i ≡ None → (bytes ≡ block_at r i) ⊎ (names rest i ≡ true)

module _ (first : ℕ) (r : Image) (last writes : List (ℕ × List ℕ)) where
  pub kept-begun : (kept : List (ℕ × List ℕ)) → AreKept first r (last ++ kept) → AreKeptUpTo last writes first r kept
  kept-begun kept are i bytes found low free = grind (arith, kept-behind, waiting-named, goes-or-not)

  -- one write of the last commit more
  module _ (k : ℕ) (below : k < length last) where
    rest-named : (i : ℕ) → i ≢ home_at last k → names (drop k last) i ≡ true → names (drop (k + 1) last) i ≡ true
    rest-named i apart named = grind (arith, eqb-true, or_cases, drop_more)

    -- it is kept
    pub kept-more : (base old new : List (ℕ × List ℕ)) → are_once last ≡ true → AreKept first r (last ++ base) → first ≤ home_at last k → KeepsThis (home_at last k) (bytes_of last k) old new
        → AreKeptUpTo (drop k last) writes first r old → AreKeptUpTo (drop (k + 1) last) writes first r new
    kept-more base old new once are low keeps so_far i bytes found from free =
        ⊎_elim
        (λ this. inl (this.1 ∙ are (home_at last k) (bytes_of last k) (kept-before last base (home_at last k) (bytes_of last k) (waiting-at last k once below)) low ∙ ap (block_at r) (sym this.0)))
        (λ other. ⊎_elim (λ is. inl is) (λ named. inr (rest-named i other.0 named)) (so_far i bytes other.1 from free)) (keeps i bytes found)

    -- no other is sought
    pub kept-less : (old : List (ℕ × List ℕ)) → ((i : ℕ) → first ≤ i → waiting writes i ≡ None → i ≢ home_at last k) → AreKeptUpTo (drop k last) writes first r old → AreKeptUpTo (drop (k + 1) last) writes first r old
    kept-less old apart so_far i bytes found from free = grind (arith, rest-named)

  pub kept-through : (n : ℕ) (kept : List (ℕ × List ℕ)) → length last ≤ n → AreKeptUpTo (drop n last) writes first r kept → AreKeptBut writes first r kept
  kept-through n kept past so_far i bytes found low free = grind (arith, both_ways, drop_all)

-- what was written is kept before what else is
pub kept-written : (first total : ℕ) (r : Image) (writes kept : List (ℕ × List ℕ)) → are_once writes ≡ true → homes_fit total writes ≡ true → total ≤ length r → AreKeptBut writes first r kept → AreKept first (written r writes) (writes ++ kept)
kept-written first total r writes kept once fit long are i bytes found low =
    grind (arith, kept-behind, written-none, waits-below, some_list, kept-before, written-waiting, goes-or-not)

pub none-of : (ws : List (ℕ × List ℕ)) → length ws ≤ 0 → ws ≡ []
none-of [] few = refl
none-of (w ∷ ws) few = absurd (omega arith)
