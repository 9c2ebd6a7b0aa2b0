-- How a copy proceeds: block 0 closed, the blocks after it, block 0.
use Rattle.mg_disk.specs.{Disk.{HasBlocks, Image, InRange, SameBut, SeenBut, TornAt, block_at, only_place}, PlaceLemmas.same_after, Runs.from_then}
use Rattle.mg_disk.specs.{Runs.{from_wider, nothing_none, nothing_then, time_then, time_wider, torn_once}, Stops.{CountGoes, CountRose, FromLeft}}
use Rattle.{mg_disk.specs.{Stops.{Leaves, MightHaveLeft, NothingPending, TimeGoes}, declared.disk.Disk.Ghosts}, mg_faults.specs.Faults.count_none}
use Rattle.{mg_faults.specs.Faults.{count_then, then_rose}, mg_mirror.specs.Copy.{AreFrom, AreSame, Copies, CopySteps, IsCopied, LeavesCopy, MayCopy}}
use Rattle.{mg_mirror.specs.{Copy.first_byte, MirrorLemmas.same_cut}, std.proofs.Common.{refl, inl, inr, sym, ap, subst, ◌∙◌, ⊎_elim, arith}}
use Rattle.std.proofs.lemmas.{Bool.cases_lt, List.{ext_get_or, get_or-set_other, get_or-set_same, get_or-take, get_or_past, length-set}}
use Rattle.std.{proofs.lemmas.List.length-take-le, specs.{Option.ForSome, Prelude.{◌≡◌, ◌<◌, ◌≤◌, ◌+◌, ◌-◌, [], ℕ, List, Bool, is_some, length}}}
use Rattle.std.specs.Prelude.{option_map, slice_index, slice_set, take, Option, Some, None, Result, Ok, Err, IfOk, IsTrue, OnErr}

-- what was told is told after a write, whatever it answers
pub still_told : (places : ℕ → Type 0) (old new : Option Image) → SeenBut places old new → is_some new ≡ is_some old
still_told places (Some x) (Some y) same = refl
still_told places None None same = refl
still_told places (Some x) None same = absurd same
still_told places None (Some y) same = absurd same

-- an image with the same blocks but at these places was told before
pub record IsBefore (places : ℕ → Type 0) (image : Image) (told : Option Image) : Type 0 where
  pub s : Image
  pub is : told ≡ Some s
  pub same : SameBut places s image

pub seen_before : (places : ℕ → Type 0) (old new : Option Image) (image : Image) → SeenBut places old new → new ≡ Some image → IsBefore places image old
seen_before places old None image same is = absurd cc
seen_before places None (Some c) image same is = absurd same
seen_before places (Some s) (Some c) image same is = grind (arith)

-- what reads give over two runs of writes
pub seen_more : (places these : ℕ → Type 0) (old mid new : Option Image) → ((k : ℕ) → these k → places k) → SeenBut places old mid → SeenBut these mid new → SeenBut places old new
seen_more places these (Some x) (Some y) (Some z) among a b = same_after places these places x y z (λ k at. at) among a b
seen_more places these None None None among a b = tt
seen_more places these (Some x) None new among a b = absurd a
seen_more places these None (Some y) new among a b = absurd a
seen_more places these (Some x) (Some y) None among a b = absurd b
seen_more places these None None (Some z) among a b = absurd b

-- blocks that both have
pub same_blocks : (first count : ℕ) (blocks x c : Image) → length blocks ≡ count → HasBlocks first blocks x → HasBlocks first blocks c → AreSame first count x c
same_blocks first count blocks x c is read put i at =
    let from = at.from in
    let before = at.before in
    let place : first + (i - first) ≡ i = omega arith in
    let inside : i - first < length blocks = omega arith in
    let P : ℕ → Type 0 = λ j. block_at c j ≡ block_at x j in
    subst P place (put (i - first) inside ∙ sym (read (i - first) inside))

-- the blocks from a place on and before this one, of a given number of blocks, are those of x
abbrev pub AreBefore : ℕ → ℕ → ℕ → Image → Image → Type 0
AreBefore start n next x c = (i : ℕ) → start ≤ i → i < n → i < next → block_at c i ≡ block_at x i

pub before_more : (start n next count step : ℕ) (was from mid new : Option Image) → from ≡ was → ((i : ℕ) → i < n → i < step → i < next + count) → ForSome was (λ x. ForSome mid (AreBefore start n next x))
    → SeenBut (InRange next count) mid new → ForSome from (λ x. ForSome new (AreSame next count x)) → ForSome was (λ x. ForSome new (AreBefore start n step x))
before_more start n next count step was from mid new same within so_far but put x is c told i low below step_low =
    ⊎_elim before here (cases_lt i next)
  where
    before : i < next → block_at c i ≡ block_at x i
    before less =
        let s = seen_before (InRange next count) mid new c but told in
        s.same.others i (λ at. let from = at.from in omega arith) ∙ so_far x is s.s s.is i low below less

    here : next ≤ i → block_at c i ≡ block_at x i
    here from_next = put x (same ∙ is) c told i (record { from = from_next; before = within i below step_low })

-- the first blocks, of which the first one is written apart, and those from there on
pub after_all : (n : ℕ) (first rest : Image) (was from one two last : Option Image) → ((k : ℕ) → 1 + k < length first → k < length rest) → ((k : ℕ) → block_at rest k ≡ block_at first (1 + k)) → last ≡ two → from ≡ was
    → ForSome was (HasBlocks 0 first) → ForSome one (HasBlocks 1 rest) → SeenBut (λ k. length first ≤ k) one two → ForSome from (λ x. ForSome two (AreFrom (length first) n x)) → ForSome was (λ x. ForSome last (AreFrom 1 n x))
after_all n first rest was from one two last long are last_is same read put but copied x is c told i low below = ⊎_elim before here (cases_lt i (length first))
  where
    two_told : two ≡ Some c
    two_told = sym last_is ∙ told

    before : i < length first → block_at c i ≡ block_at x i
    before less =
        let s = seen_before (λ k. length first ≤ k) one two c but two_told in
        let place : 1 + (i - 1) ≡ i = omega arith in
        let whole : 0 + i ≡ i = omega arith in
        let inside : 1 + (i - 1) < length first = omega arith in
        let P : ℕ → Type 0 = λ j. block_at s.s j ≡ block_at first j in
        let Q : ℕ → Type 0 = λ j. block_at x j ≡ block_at first i in
        s.same.others i (λ at. omega arith) ∙ subst P place (put s.s s.is (i - 1) (long (i - 1) inside) ∙ are (i - 1)) ∙ sym (subst Q whole (read x is i less))

    here : length first ≤ i → block_at c i ≡ block_at x i
    here from_here = copied x (same ∙ is) c two_told i from_here below

-- images of which the one has the first n blocks of the other
same_taken : (n : ℕ) (x y : Image) → n ≤ length x → n ≤ length y → ((k : ℕ) → k < n → block_at y k ≡ block_at x k) → take n y ≡ take n x
same_taken n x y long long' each =
    ext_get_or [] (take n y) (take n x) (length-take-le n y long' ∙ sym (length-take-le n x long))
    (λ k inside. let below : k < n = subst (λ m. k < m) (length-take-le n y long') inside in get_or-take n y k [] below ∙ each k below ∙ sym (get_or-take n x k [] below))

-- an image whose blocks 1 to n are those of x
but_first : (n : ℕ) (x s c : Image) → n ≤ length x → n ≤ length s → AreFrom 1 n x s → SameBut (only_place 0) s c → SameBut (only_place 0) (take n x) (take n c)
but_first n x s c long long' copied same = record { count = length-take-le n c enough ∙ sym (length-take-le n x long); others = others }
  where
    enough : n ≤ length c
    enough = let count = same.count in omega arith

    others : (k : ℕ) → (k ≡ 0 → ⊥) → block_at (take n c) k ≡ block_at (take n x) k
    others k not = ⊎_elim inside past (cases_lt k n)
      where
        inside : k < n → block_at (take n c) k ≡ block_at (take n x) k
        inside below = get_or-take n c k [] below ∙ same.others k not ∙ copied k (omega arith) below ∙ sym (get_or-take n x k [] below)

        beyond : (y : Image) → length y ≡ n → n ≤ k → block_at y k ≡ []
        beyond y is above = get_or_past y k [] (omega arith)

        past : n ≤ k → block_at (take n c) k ≡ block_at (take n x) k
        past above = beyond (take n c) (length-take-le n c enough) above ∙ sym (beyond (take n x) (length-take-le n x long) above)

-- a closed block 0 stays closed
still_closed : (s c : Image) → first_byte s ≡ 0 → SameBut (λ k. 1 ≤ k) s c → first_byte c ≡ 0
still_closed s c zero same = ap (λ (block : List ℕ). slice_index block 0) (same.others 0 (λ low. omega arith)) ∙ zero

-- once block 0 is written too, all are copied
pub all_copied : (n : ℕ) (first : Image) (was from behind last : Option Image) → from ≡ was → 1 ≤ length first → last ≡ option_map (λ image. slice_set image 0 (block_at first 0)) behind → ForSome was (HasBlocks 0 first)
    → ForSome was (λ x. n ≤ length x) → ForSome behind (λ s. n ≤ length s) → ForSome from (λ x. ForSome behind (AreFrom 1 n x)) → IsCopied n was last
all_copied n first was from None last same some put read long long' copied x is y told = absurd (let none : last ≡ None = put in cc)
all_copied n first was from (Some s) last same some put read long long' copied x is y told =
    let P : Image → Type 0 = λ c. take n c ≡ take n x in
    subst P the_same (same_taken n x (slice_set s 0 (block_at first 0)) (long x is) (let set = length-set s 0 (block_at first 0) in let l = long' s refl in omega arith) each)
  where
    the_same : slice_set s 0 (block_at first 0) ≡ y
    the_same = let p : last ≡ Some (slice_set s 0 (block_at first 0)) = put in cc

    each : (k : ℕ) → k < n → block_at (slice_set s 0 (block_at first 0)) k ≡ block_at x k
    each k below = ⊎_elim zero more (cases_lt k 1)
      where
        zero : k < 1 → block_at (slice_set s 0 (block_at first 0)) k ≡ block_at x k
        zero low =
            let l = long' s refl in
            let is_zero : k ≡ 0 = omega arith in
            let P : ℕ → Type 0 = λ j. block_at (slice_set s 0 (block_at first 0)) j ≡ block_at x j in
            subst P (sym is_zero) (get_or-set_same s 0 (block_at first 0) [] (omega arith) ∙ sym (read x is 0 (omega arith)))

        more : 1 ≤ k → block_at (slice_set s 0 (block_at first 0)) k ≡ block_at x k
        more low = get_or-set_other s 0 k (block_at first 0) [] (λ e. omega arith) ∙ copied x (same ∙ is) s refl k low below

-- calls that read one disk and write on another, one run after another
module _ {D E : Type 0} (d : Ghosts D) (e : Ghosts E) where
  pub steps_to : (from : D) (to to' : E) → (d.time from).has_been (d.time from).moment → e.block_count to' ≡ e.block_count to → e.tells_stops to' ≡ e.tells_stops to → CountGoes e to to' → CopySteps d e from from to to'
  steps_to from to to' been blocks tells count = record {
    reads = nothing_none d from been;
    from_blocks = refl;
    to_blocks = blocks;
    from_tells = refl;
    to_tells = tells;
    from_count = count_none (d.faults from) (d.is_spent from);
    to_count = count;
  }

  pub steps_then : (from from1 from2 : D) (to to1 to2 : E) → CopySteps d e from from1 to to1 → CopySteps d e from1 from2 to1 to2 → CopySteps d e from from2 to to2
  steps_then from from1 from2 to to1 to2 a b = record {
    reads = nothing_then d from from1 from2 a.reads b.reads;
    from_blocks = b.from_blocks ∙ a.from_blocks;
    to_blocks = b.to_blocks ∙ a.to_blocks;
    from_tells = b.from_tells ∙ a.from_tells;
    to_tells = b.to_tells ∙ a.to_tells;
    from_count = count_then (d.faults from) (d.faults from1) (d.faults from2) (d.is_spent from) (d.is_spent from1) (d.is_spent from2) a.from_count b.from_count;
    to_count = count_then (e.faults to) (e.faults to1) (e.faults to2) (e.is_spent to) (e.is_spent to1) (e.is_spent to2) a.to_count b.to_count;
  }

-- what a stop may leave, over calls that write at some places
module _ {E : Type 0} (e : Ghosts E) where
  pub torn_more : (old mid new : E) (places these : ℕ → Type 0) → ((k : ℕ) → these k → places k) → TimeGoes e old mid (TornAt places ((e.time old).left_since (e.time old).moment)) → TimeGoes e mid new (TornAt these ((e.time mid).left_since (e.time mid).moment))
      → TimeGoes e old new (TornAt places ((e.time old).left_since (e.time old).moment))
  torn_more old mid new places these among a b = time_then e old mid new (TornAt these ((e.time mid).left_since (e.time mid).moment)) (TornAt places ((e.time old).left_since (e.time old).moment)) a b sub
    where
      sub : (c : Image) → TornAt these ((e.time mid).left_since (e.time mid).moment) c → TornAt places ((e.time old).left_since (e.time old).moment) c
      sub c t =
          ⊎_elim (λ was. (t.0, was, record { count = t.2.count; others = λ k out. t.2.others k (λ at. out (among k at)) }))
          (λ torn. (torn.0, torn.1, same_after places these places torn.0 t.0 c (λ k at. at) among torn.2 t.2)) (a.now t.0 t.1)

  -- a run of blocks after block 0, and writes after its first one
  pub torn_behind : (old mid new : E) (count start : ℕ) → 1 ≤ start → TimeGoes e old mid (TornAt (InRange 1 count) (MightHaveLeft e old)) → TimeGoes e mid new (TornAt (λ k. start ≤ k) (MightHaveLeft e mid))
      → Leaves e old new (TornAt (λ k. 1 ≤ k) (MightHaveLeft e old))
  torn_behind old mid new count start low a b =
      torn_once e old new (λ k. 1 ≤ k) (torn_more old mid new (λ k. 1 ≤ k) (λ k. start ≤ k) (λ k at. omega arith) (time_wider e old mid (TornAt (InRange 1 count) (MightHaveLeft e old)) (TornAt (λ k. 1 ≤ k) (MightHaveLeft e old)) a wide) b)
    where
      wide : (c : Image) → TornAt (InRange 1 count) (MightHaveLeft e old) c → TornAt (λ k. 1 ≤ k) (MightHaveLeft e old) c
      wide c t = (t.0, t.1, record { count = t.2.count; others = λ k out. t.2.others k (λ at. out at.from) })

-- what a stop may leave, phase by phase, of a disk that x is copied to
module _ {E : Type 0} (e : Ghosts E) (n : ℕ) (x : Image) (to : E) where
  abbrev pub IsCopying : Image → Type 0
  IsCopying = FromLeft e to (λ image. MayCopy n image x)

  pub first_phase : (new : E) → Leaves e to new (TornAt (only_place 0) (MightHaveLeft e to)) → Leaves e to new IsCopying
  first_phase new run = from_wider e to new (SameBut (only_place 0)) (λ image. MayCopy n image x) run (λ a c same. inl (same_cut n (only_place 0) a c same))

  pub second_phase : (mid new : E) → NothingPending e mid → ForSome (e.seen mid) (λ s. first_byte s ≡ 0)
      → Leaves e to mid IsCopying → Leaves e mid new (TornAt (λ k. 1 ≤ k) (MightHaveLeft e mid)) → Leaves e to new IsCopying
  second_phase mid new settled closed so_far run =
      from_then e to mid new (SameBut (λ k. 1 ≤ k)) (λ image. MayCopy n image x) so_far run (λ d left a c same. inr (inl (still_closed d c (closed d (settled d left)) same)))

  pub third_phase : (mid new : E) → NothingPending e mid → n ≤ length x → ForSome (e.seen mid) (λ s. n ≤ length s) → ForSome (e.seen mid) (AreFrom 1 n x)
      → Leaves e to mid IsCopying → Leaves e mid new (TornAt (only_place 0) (MightHaveLeft e mid)) → Leaves e to new IsCopying
  third_phase mid new settled long long' copied so_far run =
      from_then e to mid new (SameBut (only_place 0)) (λ image. MayCopy n image x) so_far run
      (λ d left a c same. inr (inr (but_first n x d c long (long' d (settled d left)) (copied d (settled d left)) same)))

-- a copy of a disk that was read before
module _ {D E F : Type 0} (d : Ghosts D) (e : Ghosts E) (n : ℕ) (from mid from' : D) (to to' : E) where
  cause_since : (result : Result Bool F) → CountGoes d from mid → OnErr result (CountRose d mid from') → OnErr result (CountRose d from from')
  cause_since (Ok good) before h = h
  cause_since (Err fault) before h = then_rose (d.faults from) (d.faults mid) (d.faults from') (d.is_spent from) (d.is_spent mid) (d.is_spent from') before h

  pub copies_since : (result : Result Bool F) → CopySteps d e from mid to to → Copies d e n mid from' to to' result → Copies d e n from from' to to' result
  copies_since result before h = record {
    copied = subst (λ o. IfOk result (λ good. IsTrue good → IsCopied n o (e.seen to'))) before.reads.same h.copied;
    settled = h.settled;
    leaves = subst (λ o. LeavesCopy e n o to to') before.reads.same h.leaves;
    to_told = h.to_told;
    calls = record {
      steps = steps_then d e from mid from' to to to' before h.calls.steps;
      to_cause = h.calls.to_cause;
      cause = cause_since result before.from_count h.calls.cause;
    };
  }
