-- What is reached step by step, and the ranks that a walk gives.
use Rattle.{mg_disk.specs.Disk.Image, mg_model.specs.{Access.pairs_of, Rights.has_right, State.{Object, ObjectRow}}}
use Rattle.{mg_model.specs.declared.{rights.Right.TheVariants.R, slots.Slot.Slot}, mg_show.proofs.{ByPlaces.places-next, Marked.marks_then}}
use Rattle.mg_show.specs.{DotFrom.{is_among, reached}, DotText.is_list, Drawn.bases_of, Marking.{Marks, given, gives_rank, is_within, named_by}}
use Rattle.mg_show.specs.{Reached.{by_place, listed}, Shown.{object_in, state_shown}, Walked.{AreOpened, AreRanked, listed_at}}
use Rattle.{mg_show.specs.declared.held.Shown.Shown, std.proofs.Common.{◌≡◌, ℕ, suc, ◌+◌, ◌<◌, ◌≤◌, ◌||◌, List, [], ◌∷◌, ◌++◌, flat_map}}
use Rattle.std.proofs.Common.{if◌then◌else◌, length, map, None, slice_index, take, append-nil, refl, sym, ap, subst, ◌∙◌, arith, ⊎_elim}
use Rattle.std.proofs.{Math.Bool.{or-false, or_assoc, and-false, and-or_distrib_right, and-true}, lemmas.Bool.{cases_lt, le-leb, lt-leb}}
use Rattle.std.{proofs.lemmas.{Bool.Decides.nat_tests, List.{map-append, Folds.list_any-append}, Simd.map-map}, specs.{List.HoldsAt, Prelude.zero}}
use Rattle.std.specs.Prelude.{◌==◌, ◌&&◌, nat_le, Bool, true, false, slice_index_or}

-- Tests

crossed : (a b c d : Bool) → ((a || b) || (c || d)) ≡ ((a || c) || (b || d))
crossed true b c d = refl
crossed false true true d = refl
crossed false true false d = refl
crossed false false c d = refl

-- the bases that capabilities name
abbrev pub bases_in : List (ℕ × ℕ) → List ℕ
bases_in entries = map (λ (entry : ℕ × ℕ). entry.0) entries

bases-append : (p q : List (ℕ × ℕ)) (base : ℕ)
    → is_among (bases_in (p ++ q)) base ≡ (is_among (bases_in p) base || is_among (bases_in q) base)
bases-append p q base = grind (arith, map-append, list_any-append)

-- the list of an object that is reached in two ways
one-list : (a b c l v : Bool) (entries : List (ℕ × ℕ)) (base : ℕ) → a ≡ (b || c) → v ≡ l
    → is_among (if a && l then bases_in entries else []) base
    ≡ (is_among (if b && l then bases_in entries else []) base || is_among (bases_in (if c && v then entries else [])) base)
one-list a b c l v entries base e same = grind (arith, or-false)

-- Ranks

-- what is reached in one step more has this rank, or is reached before
exact : (m rank : ℕ) → is_within rank (suc m) ≡ (is_within rank m || (rank == suc m))
exact m rank = grind (arith, nat_tests)

same-rank : (m a b : ℕ) → 1 ≤ m → ((n : ℕ) → n ≤ m → is_within a n ≡ is_within b n) → (a == m) ≡ (b == m)
same-rank zero a b some same = absurd (omega arith)
same-rank (suc m) a b some same = let x = same m (omega arith) in let y = same (suc m) (omega arith) in grind (arith, nat_tests)

-- what capabilities give that are ranked
any-rank : (rank n : ℕ) (caps : List (ℕ × ℕ)) (row : ObjectRow)
    → given (gives_rank rank) caps row n ≡ (is_among (bases_in caps) row.base && nat_le rank n)
any-rank rank n [] row = refl
any-rank rank n (c ∷ caps) row = grind (arith, (any-rank rank n caps row), and-or_distrib_right)

-- a rank leaves the lower ones alone
lower : (rank : ℕ) (objects : List (ℕ × ObjectRow)) (caps : List (ℕ × ℕ)) (a b : List ℕ)
    → Marks is_within (gives_rank rank) objects caps a b
    → (i : ℕ) → i < length objects → (d : ℕ × ObjectRow) → (n : ℕ) → n < rank
    → is_within (slice_index b i) n ≡ is_within (slice_index a i) n
lower rank objects caps a b marks i below d n low = grind (arith, marks.are i below d n, any-rank, lt-leb, and-false, or-false)

module _ (shown : Shown) (r : Image) (bases : List ℕ) where
  abbrev far : ℕ → List ℕ
  far n = reached (state_shown shown r) bases n

  abbrev none : ℕ × ObjectRow
  none = (0, record { base = 0; pages = 0; account = 0; passwords = []; entries = []; extension = None })

  -- a step more
  step : (m : ℕ) (caps : List (ℕ × ℕ)) (ranks ranks' : List ℕ) → AreRanked shown r bases m ranks
      → Marks is_within (gives_rank (m + 1)) shown.objects caps ranks ranks'
      → ((base : ℕ) → (is_among (far m) base || is_among (bases_in caps) base) ≡ is_among (far (m + 1)) base)
      → AreRanked shown r bases (m + 1) ranks'
  step m caps ranks ranks' old new grows = record {
    is = λ i below d k low.
        ⊎_elim (λ (more : m < k). let e : m + 1 ≡ k = omega arith in grind (arith, late i below d k (omega arith), old.is i below d m (omega arith), grows))
        (λ le. lower (m + 1) shown.objects caps ranks ranks' new i below d k (omega arith) ∙ old.is i below d k le)
        (cases_lt m k);
    few = λ i below k high. late i below none k high ∙ sym (late i below none (m + 1) (omega arith));
  }
    where
      late : (i : ℕ) → i < length shown.objects → (d : ℕ × ObjectRow) → (k : ℕ) → m + 1 ≤ k
          → is_within (slice_index ranks' i) k
          ≡ (is_within (slice_index ranks i) m || is_among (bases_in caps) (slice_index_or shown.objects i d).1.base)
      late i below d k high = grind (arith, new.are i below d k, old.few i below k (omega arith), any-rank, le-leb, and-true)

  -- the start
  pub ranked-first : (slots : List Slot) (zeros ranks : List ℕ) → bases ≡ bases_of slots
      → ((i : ℕ) → i < length shown.objects → slice_index zeros i ≡ 0)
      → Marks is_within (gives_rank 1) shown.objects (named_by slots) zeros ranks → AreRanked shown r bases 1 ranks
  ranked-first slots zeros ranks are none marks =
      step 0 (named_by slots) zeros ranks
      (record {
        is = λ i below d k low. let e : k ≡ 0 = omega arith in grind (arith, none i below, ap (λ k. is_among (far k) (slice_index_or shown.objects i d).1.base) e);
        few = λ i below k high. grind (arith, none i below);
      })
      marks
      (λ base. let rest = unread (state_shown shown r).objects in grind (arith, map-map, append-nil, are, rest))
    where
      unread : (objects : List Object)
          → flat_map (λ (object : Object). if is_among [] object.row.base && is_list (state_shown shown r) object.row
          then map (λ (entry : ℕ × ℕ). entry.0) (pairs_of object.words) else []) objects ≡ []
      unread [] = refl
      unread (object ∷ objects) = unread objects

  -- what lists name that are reached in one step more
  module _ (bytes ranks : List ℕ) (m : ℕ) (base : ℕ) where
    abbrev named : List ℕ → List (ℕ × ObjectRow) → List ℕ
    named from objects =
        flat_map (λ (object : Object). if is_among from object.row.base && is_list (state_shown shown r) object.row
        then map (λ (entry : ℕ × ℕ). entry.0) (pairs_of object.words) else []) (map (object_in shown r) objects)

    abbrev last : ℕ → ObjectRow → List (ℕ × ℕ)
    last i row = if slice_index ranks i == suc m && has_right (slice_index bytes i) R then listed shown r row else []

    halves : (j : ℕ) (objects : List (ℕ × ObjectRow))
        → ((i k : ℕ) → i < length objects → k ≡ j + i → (d : ℕ × ObjectRow) → let b = (slice_index_or objects i d).1.base in
        is_among (far (suc m)) b ≡ (is_among (far m) b || (slice_index ranks k == suc m)))
        → ((i k : ℕ) → i < length objects → k ≡ j + i → (d : ℕ × ObjectRow)
        → has_right (slice_index bytes k) R ≡ is_list (state_shown shown r) (slice_index_or objects i d).1)
        → is_among (named (far (suc m)) objects) base
        ≡ (is_among (named (far m) objects) base || is_among (bases_in (by_place last j objects)) base)
    halves j [] within opens = refl
    halves j (o ∷ objects) within opens =
        let rest =
        halves (j + 1) objects (λ i k below e d. within (suc i) k (omega arith) (omega arith) d)
        (λ i k below e d. opens (suc i) k (omega arith) (omega arith) d)
        in
        grind (arith, list_any-append, bases-append, one-list, crossed, rest, within 0 j (omega arith) (omega arith) o, opens 0 j (omega arith) (omega arith) o)

  pub ranked-more : (bytes : List ℕ) (m : ℕ) (ranks ranks' : List ℕ) → 1 ≤ m → AreOpened shown bytes → AreRanked shown r bases m ranks
      → Marks is_within (gives_rank (m + 1)) shown.objects (listed_at shown r bytes ranks m shown.objects) ranks ranks'
      → AreRanked shown r bases (m + 1) ranks'
  ranked-more bytes zero ranks ranks' some opens old new = absurd (omega arith)
  ranked-more bytes (suc m) ranks ranks' some opens old new =
      step (suc m) (listed_at shown r bytes ranks (suc m) shown.objects) ranks ranks' old new
      (λ base.
      let more =
      halves bytes ranks m base 0 shown.objects
      (λ i k below e d. grind (arith, old.is i below d (suc m) (omega arith), old.is i below d m (omega arith), exact m (slice_index ranks i)))
      (λ i k below e d. grind (arith, opens i below d))
      in
      grind (arith, list_any-append, or_assoc, more))

-- one object more, whose list is read if its rank was the last
pub listed-next : (shown : Shown) (r : Image) (bytes first : List ℕ) (m i : ℕ) (row : ObjectRow) (v : Bool) (ranks new : List ℕ) → 1 ≤ m
    → i < length shown.objects → HoldsAt (λ (o : ℕ × ObjectRow). row ≡ o.1) shown.objects i
    → v ≡ (slice_index ranks i == m && has_right (slice_index bytes i) R)
    → Marks is_within (gives_rank (m + 1)) shown.objects (listed_at shown r bytes first m (take i shown.objects)) first ranks
    → Marks is_within (gives_rank (m + 1)) shown.objects (if v then listed shown r row else []) ranks new
    → Marks is_within (gives_rank (m + 1)) shown.objects (listed_at shown r bytes first m (take (i + 1) shown.objects)) first new
listed-next shown r bytes first m i row v ranks new some below is test before after =
    let test_of = λ (i : ℕ). slice_index first i == m && has_right (slice_index bytes i) R in
    let caps = listed_at shown r bytes first m (take i shown.objects) in
    let kept =
    same-rank m (slice_index ranks i) (slice_index first i) some
    (λ n low. lower (m + 1) shown.objects caps first ranks before i below (0, row) n (omega arith))
    in
    subst (λ caps. Marks is_within (gives_rank (m + 1)) shown.objects caps first new)
    (places-next (λ i row. listed shown r row) test_of shown.objects i below row is v (test ∙ ap (λ v. v && has_right (slice_index bytes i) R) kept))
    (marks_then is_within (gives_rank (m + 1)) shown.objects caps (if v then listed shown r row else []) first ranks new before after)
