-- Lemmas on what calls do to a volume: how runs of reads and stagings compose, and what is told after one.
use Rattle.std.{proofs.{Common.{arith, refl, sym, ap, subst, ◌∙◌}, Math.Nat.mod-add-mod}, specs.Option.ForSome}
use Rattle.std.specs.Prelude.{◌≡◌, ◌+◌, ◌%◌, ◌^◌, ◌≤◌, ◌==◌, ℕ, Bool, find, map, Option}
use Rattle.mg_disk.specs.{Disk.Image, Runs.{nothing_none, nothing_then}, Stops.{CountGoes, WritesNothing}}
use Rattle.{mg_disk.specs.declared.disk.Disk.Ghosts, mg_faults.specs.Faults.{count_none, count_then}}
use Rattle.mg_model.specs.{Access.thread_of, Counts.CountsAlike, FewSlots.{HasFewSlots, IsRefusal}, State.Counters}
use Rattle.mg_model.specs.{State.{Object, ObjectRow, State, Thread}, WellFormed.IsWellFormed}
use Rattle.mg_model.specs.declared.replies.{Refusal.Refusal, Reply.{Reply, TheVariants.No}}
use Rattle.mg_volume.specs.{Calls.{CallStages, IsSoundOn, Reads, Serves, Stages}, Held.VolumeHeld, Meaning.Keeps}
use Rattle.mg_volume.specs.Meaning.{SameShape, StandsOn, counters_in, now_of, objects_in, threads_in, words_in}
use Rattle.mg_volume.specs.{Staging.StillStaged, StateLemmas.{now_counters, now_rows, now_threads, staged_stands}}

-- no word
pub alike_none : (words steps : ℕ) → CountsAlike words words steps steps
alike_none words steps = (0, omega arith, ap (λ n. n % 2 ^ 64) (omega arith))

-- one run after another
pub alike_then : (w0 w1 w2 s0 s1 s2 : ℕ) → CountsAlike w0 w1 s0 s1 → CountsAlike w1 w2 s1 s2 → CountsAlike w0 w2 s0 s2
alike_then w0 w1 w2 s0 s1 s2 (n, rose, words) (m, rose', words') =
    let total : (w0 + n) + m ≡ w0 + (n + m) = omega arith in
    (n + m, omega arith, words' ∙ sym (mod-add-mod w1 (2 ^ 64) m) ∙ ap (λ k. (k + m) % 2 ^ 64) words ∙ mod-add-mod (w0 + n) (2 ^ 64) m ∙ ap (λ k. k % 2 ^ 64) total)

-- nothing changed, and one change after another
pub keeps_none : (v : VolumeHeld) → Keeps v v
keeps_none v = record { now = λ image. refl; writes = refl; staged = refl; live = refl; total = refl }

pub keeps_then : (a b c : VolumeHeld) → Keeps a b → Keeps b c → Keeps a c
keeps_then a b c first second = record {
  now = λ image. second.now image ∙ first.now image;
  writes = second.writes ∙ first.writes;
  staged = second.staged ∙ first.staged;
  live = second.live ∙ first.live;
  total = second.total ∙ first.total;
}

pub still_none : (v : VolumeHeld) → StillStaged v v
still_none v = record { counters = λ is. is; thread = λ t is. is }

pub still_then : (a b c : VolumeHeld) → StillStaged a b → StillStaged b c → StillStaged a c
still_then a b c first second = record { counters = λ is. second.counters (first.counters is); thread = λ t is. second.thread t (first.thread t is) }

pub shape_none : (v : VolumeHeld) → SameShape v v
shape_none v = record { settings = refl; total = refl; live = refl; words = refl }

pub shape_then : (a b c : VolumeHeld) → SameShape a b → SameShape b c → SameShape a c
shape_then a b c first second = record {
  settings = second.settings ∙ first.settings;
  total = second.total ∙ first.total;
  live = second.live ∙ first.live;
  words = second.words ∙ first.words;
}

pub stages_none : (most : ℕ) (v : VolumeHeld) → Stages most v v
stages_none most v = record { shape = shape_none v; spelled = λ image is. is; least = omega arith; staged = omega arith; still = still_none v }

pub stages_then : (n m : ℕ) (a b c : VolumeHeld) → Stages n a b → Stages m b c → Stages (n + m) a c
stages_then n m a b c first second = record {
  shape = shape_then a b c first.shape second.shape;
  spelled = λ image is. second.spelled image (first.spelled image is);
  least = let one = first.least in let more = second.least in omega arith;
  staged = let one = first.staged in let more = second.staged in omega arith;
  still = still_then a b c first.still second.still;
}

-- fewer may be said to be staged
pub stages_wider : (n m : ℕ) (a b : VolumeHeld) → n ≤ m → Stages n a b → Stages m a b
stages_wider n m a b fewer run = record { shape = run.shape; spelled = run.spelled; least = run.least; staged = let some = run.staged in omega arith; still = run.still }

-- of a call too, and what its row gives may be said in other words
pub call_wider : (Row Row' : VolumeHeld → VolumeHeld → Reply → Type 0) (n m : ℕ) (a b : VolumeHeld) (reply : Reply) → n ≤ m → (Row a b reply → Row' a b reply) → CallStages Row n a b reply → CallStages Row' m a b reply
call_wider Row Row' n m a b reply fewer said call = record { answers = said call.answers; stages = stages_wider n m a b fewer call.stages; refused = call.refused; slots = call.slots }

-- a call that was made, and one that is refused
pub call_made : (Row : VolumeHeld → VolumeHeld → Reply → Type 0) (most : ℕ) (old new : VolumeHeld) (reply : Reply) → (IsRefusal reply → ⊥) → HasFewSlots reply → Row old new reply → Stages most old new → CallStages Row most old new reply
call_made Row most old new reply made slots answers stages = record { answers = answers; stages = stages; refused = λ refused. absurd (made refused); slots = slots }

pub call_refused : (Row : VolumeHeld → VolumeHeld → Reply → Type 0) (most : ℕ) (v : VolumeHeld) (word : Refusal) → Row v v (No word) → CallStages Row most v v (No word)
call_refused Row most v word answers = record { answers = answers; stages = stages_none most v; refused = λ refused. refl; slots = tt }

module _ {D : Type 0} (facts : Ghosts D) where
  -- a state that stays is as well formed as it was
  pub sound_same : (a b : VolumeHeld) (d e : D) → Keeps a b → WritesNothing facts d e → StandsOn facts b e → IsSoundOn facts a d → IsSoundOn facts b e
  sound_same a b d e keeps writes stands was = record {
    stands = stands;
    formed = λ image told. subst IsWellFormed (sym (keeps.now image)) (was.formed image (sym writes.same ∙ told));
  }

  pub reads_of : (a b : VolumeHeld) (d e : D) (s t : ℕ) → Keeps a b → objects_in b ≡ objects_in a → StillStaged a b → StandsOn facts b e → WritesNothing facts d e → CountsAlike (words_in a) (words_in b) s t → CountGoes facts d e
      → facts.block_count e ≡ facts.block_count d → Reads facts a b d e s t
  reads_of a b d e s t keeps rows still stands writes counted count blocks = record {
    keeps = keeps;
    rows = rows;
    still = still;
    stands = stands;
    sound = sound_same a b d e keeps writes stands;
    writes = writes;
    counted = counted;
    count = count;
    blocks = blocks;
  }

  pub reads_none : (v : VolumeHeld) (disk : D) (steps : ℕ) → (facts.time disk).has_been (facts.time disk).moment → StandsOn facts v disk → Reads facts v v disk disk steps steps
  reads_none v disk steps been stands =
      reads_of v v disk disk steps steps (keeps_none v) refl (still_none v) stands (nothing_none facts disk been) (alike_none (words_in v) steps) (count_none (facts.faults disk) (facts.is_spent disk)) refl

  pub reads_then : (a b c : VolumeHeld) (d e f : D) (s t u : ℕ) → Reads facts a b d e s t → Reads facts b c e f t u → Reads facts a c d f s u
  reads_then a b c d e f s t u first second = record {
    keeps = keeps_then a b c first.keeps second.keeps;
    rows = second.rows ∙ first.rows;
    still = still_then a b c first.still second.still;
    stands = second.stands;
    sound = λ was. second.sound (first.sound was);
    writes = nothing_then facts d e f first.writes second.writes;
    counted = alike_then (words_in a) (words_in b) (words_in c) s t u first.counted second.counted;
    count = count_then (facts.faults d) (facts.faults e) (facts.faults f) (facts.is_spent d) (facts.is_spent e) (facts.is_spent f) first.count second.count;
    blocks = second.blocks ∙ first.blocks;
  }

  -- what is told of the state after a run is told of the state before it
  pub told_since : {X : Type 0} (a b : VolumeHeld) (d e : D) (s t : ℕ) (x : X) (f : State → X) → Reads facts a b d e s t → ForSome (facts.seen e) (λ image. x ≡ f (now_of b image)) → ForSome (facts.seen d) (λ image. x ≡ f (now_of a image))
  told_since a b d e s t x f first told = λ image is. told image (first.writes.same ∙ is) ∙ ap f (first.keeps.now image)

  -- a run of reads stages nothing
  pub reads_serve : (most : ℕ) (a b : VolumeHeld) (d e : D) (s t : ℕ) → Reads facts a b d e s t → Serves most facts a b d e s t
  reads_serve most a b d e s t run = record {
    stands = run.stands;
    writes = run.writes;
    live = run.keeps.live;
    least = let same = run.keeps.staged in omega arith;
    staged = let same = run.keeps.staged in omega arith;
    still = run.still;
    counted = run.counted;
    count = run.count;
    blocks = run.blocks;
  }

  -- a run of reads, and then one that may stage
  pub then_serves : (most : ℕ) (a b c : VolumeHeld) (d e f : D) (s t u : ℕ) → Reads facts a b d e s t → Serves most facts b c e f t u → Serves most facts a c d f s u
  then_serves most a b c d e f s t u first second = record {
    stands = second.stands;
    writes = nothing_then facts d e f first.writes second.writes;
    live = second.live ∙ first.keeps.live;
    least = let same = first.keeps.staged in let more = second.least in omega arith;
    staged = let same = first.keeps.staged in let more = second.staged in omega arith;
    still = still_then a b c first.still second.still;
    counted = alike_then (words_in a) (words_in b) (words_in c) s t u first.counted second.counted;
    count = count_then (facts.faults d) (facts.faults e) (facts.faults f) (facts.is_spent d) (facts.is_spent e) (facts.is_spent f) first.count second.count;
    blocks = second.blocks ∙ first.blocks;
  }

  -- a run of reads, and then what stages without the disk
  pub then_stages : (most : ℕ) (a b c : VolumeHeld) (d e : D) (s t : ℕ) → Reads facts a b d e s t → Stages most b c → Serves most facts a c d e s t
  then_stages most a b c d e s t run more = record {
    stands = staged_stands facts b c e run.stands more.shape more.spelled;
    writes = run.writes;
    live = more.shape.live ∙ run.keeps.live;
    least = let same = run.keeps.staged in let some = more.least in omega arith;
    staged = let same = run.keeps.staged in let some = more.staged in omega arith;
    still = still_then a b c run.still more.still;
    counted = subst (λ words. CountsAlike (words_in a) words s t) (sym more.shape.words) run.counted;
    count = run.count;
    blocks = run.blocks;
  }

  -- what stages without the disk, and reads nothing
  pub stages_serve : (most : ℕ) (a b : VolumeHeld) (disk : D) (steps : ℕ) → (facts.time disk).has_been (facts.time disk).moment → StandsOn facts a disk → Stages most a b → Serves most facts a b disk disk steps steps
  stages_serve most a b disk steps been stands more = then_stages most a a b disk disk steps steps (reads_none a disk steps been stands) more

  -- fewer may be said to be staged
  pub serves_wider : (n m : ℕ) (a b : VolumeHeld) (d e : D) (s t : ℕ) → n ≤ m → Serves n facts a b d e s t → Serves m facts a b d e s t
  serves_wider n m a b d e s t fewer run = record {
    stands = run.stands;
    writes = run.writes;
    live = run.live;
    least = run.least;
    staged = let some = run.staged in omega arith;
    still = run.still;
    counted = run.counted;
    count = run.count;
    blocks = run.blocks;
  }

-- what is found among the rows that are held is found in the state
pub told_rows : (v : VolumeHeld) (image : Image) (test : ObjectRow → Bool) (found : Option ObjectRow) → find test (objects_in v) ≡ found → find test (map (λ (o : Object). o.row) (now_of v image).objects) ≡ found
told_rows v image test found is = ap (λ rows. find test rows) (now_rows v image) ∙ is

pub told_period : (v : VolumeHeld) (image : Image) (counters : Counters) → counters ≡ counters_in v → (now_of v image).counters.period ≡ counters.period
told_period v image counters is = ap (λ (k : Counters). k.period) (now_counters v image ∙ sym is)

pub told_thread : (v : VolumeHeld) (image : Image) (t : ℕ) (found : Option Thread) → find (λ (thread : Thread). thread.number == t) (threads_in v) ≡ found → thread_of (now_of v image) t ≡ found
told_thread v image t found is = ap (λ threads. find (λ (thread : Thread). thread.number == t) threads) (now_threads v image) ∙ is
