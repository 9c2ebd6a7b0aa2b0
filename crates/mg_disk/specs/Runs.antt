-- How a proof follows what a stop may leave over a run of calls of a disk, one short line for each call.
use Rattle.std.{proofs.Common.{refl, inl, inr, ⊎_elim, sym, subst, ◌∙◌}, specs.Prelude.{◌≡◌, ◌⊎◌, ℕ, Some}}
use Rattle.mg_disk.specs.{Disk.{Image, SameBut, no_image, only_place, TornAt}, PlaceLemmas.{same_as, same_after}}
use Rattle.mg_disk.specs.{Reads.StandsAt, Stops.{FromLeft, LeftOr, MightHaveLeft, NothingPending, TimeGoes, Leaves}}
use Rattle.mg_disk.specs.{Stops.WritesNothing, declared.disk.Disk.Ghosts}

-- Over a run of calls: what a stop left since it began has P, and what it may leave now has Q.
pub record Tracks {D : Type 0} (facts : Ghosts D) (old new : D) (P Q : Image → Type 0) : Type 0 where
  pub leaves : Leaves facts old new P
  pub now : (c : Image) → (facts.time new).left_since (facts.time new).moment c → Q c

module _ {D : Type 0} (facts : Ghosts D) where
  -- a run of no calls takes no time
  pub time_none : (disk : D) (P : Image → Type 0) → (facts.time disk).has_been (facts.time disk).moment → TimeGoes facts disk disk P
  time_none disk P been = record {
    begins = been;
    past = λ t was. was;
    keeps = λ t c was left. left;
    nothing_else = λ t c was left. inl left;
    now = λ c left. inl left;
  }

  -- one run after another
  pub time_then : (old mid new : D) (F P : Image → Type 0) → TimeGoes facts old mid P → TimeGoes facts mid new F → ((c : Image) → F c → P c) → TimeGoes facts old new P
  time_then old mid new F P a b sub = record {
    begins = a.begins;
    past = λ t was. b.past t (a.past t was);
    keeps = λ t c was left. b.keeps t c (a.past t was) (a.keeps t c was left);
    nothing_else = λ t c was left. ⊎_elim (a.nothing_else t c was) (λ f. inr (sub c f)) (b.nothing_else t c (a.past t was) left);
    now = λ c left. ⊎_elim (a.now c) (λ f. inr (sub c f)) (b.now c left);
  }

  -- more images are fresh
  pub time_wider : (old new : D) (F P : Image → Type 0) → TimeGoes facts old new F → ((c : Image) → F c → P c) → TimeGoes facts old new P
  time_wider old new F P a sub = record {
    begins = a.begins;
    past = a.past;
    keeps = a.keeps;
    nothing_else = λ t c was left. ⊎_elim (λ o. inl o) (λ f. inr (sub c f)) (a.nothing_else t c was left);
    now = λ c left. ⊎_elim (λ o. inl o) (λ f. inr (sub c f)) (a.now c left);
  }

  -- before the first call
  pub begun : (old : D) (P Q : Image → Type 0) → (facts.time old).has_been (facts.time old).moment → ((c : Image) → (facts.time old).left_since (facts.time old).moment c → Q c) → ((c : Image) → Q c → P c) → Tracks facts old old P Q
  begun old P Q been here sub = record { leaves = record { each = λ c left. sub c (here c left); time = time_none old P been }; now = here }

  -- one call more, whose fresh images have P
  pub more : (old mid new : D) (P Q F Q' : Image → Type 0) → Tracks facts old mid P Q → TimeGoes facts mid new F
      → ((c : Image) → F c → P c) → ((c : Image) → (facts.time mid).left_since (facts.time mid).moment c ⊎ F c → Q' c) → Tracks facts old new P Q'
  more old mid new P Q F Q' so_far call fresh now = record {
    leaves = record {
      each = λ c left. ⊎_elim (so_far.leaves.each c) (fresh c) (call.nothing_else (facts.time old).moment c (so_far.leaves.time.past (facts.time old).moment so_far.leaves.time.begins) left);
      time = time_then old mid new F P so_far.leaves.time call fresh;
    };
    now = λ c left. now c (call.now c left);
  }

  -- a read or a sync, whatever it answers
  pub quiet : (old mid new : D) (P Q : Image → Type 0) → Tracks facts old mid P Q → TimeGoes facts mid new no_image → Tracks facts old new P Q
  quiet old mid new P Q so_far call =
      more old mid new P Q no_image Q so_far call (λ c none. absurd none) (λ c left. ⊎_elim (so_far.now c) (λ none. absurd none) left)

  -- more is known of what may be left now, as after a good sync
  pub better : (old new : D) (P Q Q' : Image → Type 0) → Tracks facts old new P Q → ((c : Image) → (facts.time new).left_since (facts.time new).moment c → Q' c) → Tracks facts old new P Q'
  better old new P Q Q' so_far here = record { leaves = so_far.leaves; now = here }

  -- two whole runs, one after the other, each with its own fact
  pub leaves_then : (old mid new : D) (F P : Image → Type 0) → Leaves facts old mid P → Leaves facts mid new F → ((c : Image) → F c → P c) → Leaves facts old new P
  leaves_then old mid new F P a b sub = record {
    each = λ c left. ⊎_elim (a.each c) (λ f. sub c f) (b.time.nothing_else (facts.time old).moment c (a.time.past (facts.time old).moment a.time.begins) left);
    time = time_then old mid new F P a.time b.time sub;
  }

  -- a weaker fact
  pub leaves_wider : (old new : D) (F P : Image → Type 0) → Leaves facts old new F → ((c : Image) → F c → P c) → Leaves facts old new P
  leaves_wider old new F P a sub = record {
    each = λ c left. sub c (a.each c left);
    time = time_wider old new F P a.time sub;
  }

  -- before the first call
  pub leaves_yet : (old : D) (P : Image → Type 0) → (facts.time old).has_been (facts.time old).moment → ((c : Image) → (facts.time old).left_since (facts.time old).moment c → P c) → Leaves facts old old P
  leaves_yet old P been here = record { each = here; time = time_none old P been }

  -- a run, and then calls that write nothing
  pub leaves_quiet : (old mid new : D) (P : Image → Type 0) → Leaves facts old mid P → TimeGoes facts mid new no_image → Leaves facts old new P
  leaves_quiet old mid new P a call = record {
    each = λ c left. ⊎_elim (a.each c) (λ none. absurd none) (call.nothing_else (facts.time old).moment c (a.time.past (facts.time old).moment a.time.begins) left);
    time = time_then old mid new no_image P a.time call (λ c none. absurd none);
  }

  -- a run of writes at some places, whatever was pending: a stop leaves one of the images that it might have left before, with any bytes there
  pub torn_once : (old new : D) (places : ℕ → Type 0) → TimeGoes facts old new (TornAt places (MightHaveLeft facts old)) → Leaves facts old new (TornAt places (MightHaveLeft facts old))
  torn_once old new places call = record {
    each = λ c left. ⊎_elim (λ before. (c, before, same_as places c c refl)) (λ torn. torn) (call.nothing_else (facts.time old).moment c call.begins left);
    time = call;
  }

  -- one run of writes more, at some of the places
  pub torn_more : (old mid new : D) (these places : ℕ → Type 0) → Leaves facts old mid (TornAt places (MightHaveLeft facts old)) → TimeGoes facts mid new (TornAt these (MightHaveLeft facts mid))
      → ((k : ℕ) → these k → places k) → Leaves facts old new (TornAt places (MightHaveLeft facts old))
  torn_more old mid new these places so_far call among =
      leaves_then old mid new (TornAt these (MightHaveLeft facts mid)) (TornAt places (MightHaveLeft facts old)) so_far (torn_once mid new these call)
      (λ c torn. ⊎_elim (λ before. (torn.0, before, same_after places these places torn.0 torn.0 c (λ k at. at) among (same_as places torn.0 torn.0 refl) torn.2))
      (λ from. (from.0, from.1, same_after places these places from.0 torn.0 c (λ k at. at) among from.2 torn.2)) (so_far.time.now torn.0 torn.1))

  -- before the first call each image comes from itself
  pub from_yet : (old : D) (P : Image → Image → Type 0) → (facts.time old).has_been (facts.time old).moment → ((c : Image) → P c c) → Leaves facts old old (FromLeft facts old P)
  from_yet old P been itself = leaves_yet old (FromLeft facts old P) been (λ c left. (c, left, itself c))

  -- it comes by a weaker relation
  pub from_wider : (old new : D) (R P : Image → Image → Type 0) → Leaves facts old new (FromLeft facts old R) → ((a c : Image) → R a c → P a c) → Leaves facts old new (FromLeft facts old P)
  from_wider old new R P run sub = leaves_wider old new (FromLeft facts old R) (FromLeft facts old P) run (λ c from. (from.0, from.1, sub from.0 c from.2))

  -- and a run after it, if what comes of what it finds comes of any image, as after a good sync
  pub from_then : (old mid new : D) (R P : Image → Image → Type 0) → Leaves facts old mid (FromLeft facts old P) → Leaves facts mid new (FromLeft facts mid R)
      → ((d : Image) → MightHaveLeft facts mid d → (a c : Image) → R d c → P a c) → Leaves facts old new (FromLeft facts old P)
  from_then old mid new R P so_far run sub =
      leaves_then old mid new (FromLeft facts mid R) (FromLeft facts old P) so_far run
      (λ c from. ⊎_elim (λ before. (from.0, before, sub from.0 from.1 from.0 c from.2)) (λ first. (first.0, first.1, sub from.0 from.1 first.0 c from.2)) (so_far.time.now from.0 from.1))

  -- calls that write nothing, whatever was pending: a stop leaves what it might have left before
  pub left_still : (old new : D) (P : Image → Type 0) → (facts.time old).has_been (facts.time old).moment → TimeGoes facts old new no_image → Leaves facts old new (LeftOr facts old P)
  left_still old new P been call = leaves_quiet old old new (LeftOr facts old P) (leaves_yet old (LeftOr facts old P) been (λ c left. inl left)) call

  -- and a run after them
  pub left_still_then : (old mid new : D) (P : Image → Type 0) → (facts.time old).has_been (facts.time old).moment → TimeGoes facts old mid no_image → Leaves facts mid new (LeftOr facts mid P) → Leaves facts old new (LeftOr facts old P)
  left_still_then old mid new P been call run =
      leaves_then old mid new (LeftOr facts mid P) (LeftOr facts old P) (left_still old mid P been call) run
      (λ c may. ⊎_elim (λ left. inl (⊎_elim (λ before. before) (λ none. absurd none) (call.now c left))) (λ kept. inr kept) may)

  -- after calls that write nothing, nothing is pending if nothing was before
  pub still_seen : (mid new : D) → NothingPending facts mid → facts.seen new ≡ facts.seen mid → TimeGoes facts mid new no_image → NothingPending facts new
  still_seen mid new only same call = λ c left. same ∙ ⊎_elim (only c) (λ none. absurd none) (call.now c left)

  -- no call writes nothing
  pub nothing_none : (disk : D) → (facts.time disk).has_been (facts.time disk).moment → WritesNothing facts disk disk
  nothing_none disk been = record { same = refl; stops = time_none disk no_image been }

  -- two runs that write nothing, one after the other, write nothing
  pub nothing_then : (old mid new : D) → WritesNothing facts old mid → WritesNothing facts mid new → WritesNothing facts old new
  nothing_then old mid new a b = record { same = b.same ∙ a.same; stops = time_then old mid new no_image no_image a.stops b.stops (λ c none. none) }

some_inj : (s c : Image) → Some s ≡ Some c → c ≡ s
some_inj s c is = cc

-- an image of a settled disk is the one that reads give
pub only_image : {D : Type 0} (facts : Ghosts D) (disk : D) (s c : Image) → StandsAt facts disk s → (facts.time disk).left_since (facts.time disk).moment c → c ≡ s
only_image facts disk s c at left = some_inj s c (sym at.told ∙ at.settled c left)

-- The three steps of a run that writes only at some places of an image s, if an image that differs there alone has P.
module _ {D : Type 0} (facts : Ghosts D) (places : ℕ → Type 0) (s : Image) where
  -- a disk that is settled at s, before the first call
  pub stands : (old : D) (P : Image → Type 0) → (facts.time old).has_been (facts.time old).moment → StandsAt facts old s → ((c : Image) → SameBut places s c → P c) → Tracks facts old old P (SameBut places s)
  stands old P been at sub = begun facts old P (SameBut places s) been (λ c left. same_as places s c (only_image facts old s c at left)) sub

  -- a run of writes at some of the places, whatever it answers
  pub torn_at : (old mid new : D) (these : ℕ → Type 0) (P : Image → Type 0) → Tracks facts old mid P (SameBut places s) → TimeGoes facts mid new (TornAt these ((facts.time mid).left_since (facts.time mid).moment))
      → ((k : ℕ) → these k → places k) → ((c : Image) → SameBut places s c → P c) → Tracks facts old new P (SameBut places s)
  torn_at old mid new these P so_far call among sub =
      more facts old mid new P (SameBut places s) (TornAt these ((facts.time mid).left_since (facts.time mid).moment)) (SameBut places s) so_far call (λ c t. sub c (step c t)) (λ c left. ⊎_elim (so_far.now c) (step c) left)
    where
      step : (c : Image) → TornAt these ((facts.time mid).left_since (facts.time mid).moment) c → SameBut places s c
      step c t = same_after places these places s t.0 c (λ k at. at) among (so_far.now t.0 t.1) t.2

  -- a write at one of the places, whatever it answers
  pub torn : (old mid new : D) (i : ℕ) (P : Image → Type 0) → Tracks facts old mid P (SameBut places s) → TimeGoes facts mid new (TornAt (only_place i) ((facts.time mid).left_since (facts.time mid).moment))
      → places i → ((c : Image) → SameBut places s c → P c) → Tracks facts old new P (SameBut places s)
  torn old mid new i P so_far call at_i sub = torn_at old mid new (only_place i) P so_far call (λ k is. subst places (sym is) at_i) sub

  -- after a good sync the disk is settled at s
  pub settles : (old new : D) (P Q : Image → Type 0) → Tracks facts old new P Q → StandsAt facts new s → Tracks facts old new P (SameBut places s)
  settles old new P Q so_far at = better facts old new P Q (SameBut places s) so_far (λ c left. same_as places s c (only_image facts new s c at left))
