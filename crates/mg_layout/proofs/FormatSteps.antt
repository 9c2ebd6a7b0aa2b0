-- The steps of making a volume, from the gate closed to the gate open.
use Rattle.mg_disk.specs.{Disk.{Image, SameBut, only_place}, Runs.{from_then, from_wider}, Stops.{FromLeft, Leaves, NothingPending}}
use Rattle.{mg_disk.specs.declared.disk.Disk.Ghosts, mg_layout.proofs.BlocksBelow.{length-until, until-block, until-more, until-none, written-low}}
use Rattle.mg_layout.{proofs.FreshVolume.fresh_volume, specs.{FreshBelow.{fresh_until, with_block}, FreshImage.{IsFreshImage, gate_bytes}}}
use Rattle.{mg_layout.specs.MayFormat.{IsNoState, MayFormat, ReadsFresh, opened}, mg_model.specs.{Fresh.fresh, Layout.{first_frame, gate_block}}}
use Rattle.mg_model.specs.{Layout.{gate_open, total_blocks}, Replay.block_of, Settings.{Settings, within_limits}, Volume.{Is, NotVolume, VolumeRead}}
use Rattle.mg_model.specs.{Volume.{volume, gate_byte}, VolumeLemmas.{volume-closed, volume-same_behind, volume-short}, WellFormed.IsSettings}
use Rattle.std.proofs.{Common.{refl, inl, sym, ap, subst, ◌∙◌, arith}, lemmas.{Bool.Decides.nat_tests, List.{get_or-set_other, get_or-set_same}}}
use Rattle.std.{proofs.lemmas.List.length-set, specs.{Option.ForSome, Prelude.{◌≡◌, ◌≢◌, ℕ, ◌+◌, ◌≤◌, IsTrue, List, [], ◌∷◌, drop, length}}}
use Rattle.std.specs.Prelude.{option_map, replicate, slice_set, Option, Some, None}

pub map_none : (settings : Settings) (o : Option Image) → o ≡ option_map (fresh_until settings 0) o
map_none settings None = refl
map_none settings (Some image) = ap (λ i. Some i) (sym (until-none settings image))

pub map_more : (settings : Settings) (n : ℕ) (o : Option Image) → option_map (with_block settings (n + 1)) (option_map (fresh_until settings n) o) ≡ option_map (fresh_until settings (n + 1)) o
map_more settings n None = refl
map_more settings n (Some image) = ap (λ i. Some i) (sym (until-more settings n image))

not_volume : (c : Image) → volume c ≡ NotVolume → IsNoState (volume c)
not_volume c is = let P : VolumeRead → Type 0 = λ v. IsNoState v in subst P (sym is) (tt {0})

-- The gate is closed: a stop leaves no volume, or the volume that the blocks after the gate spell.
pub opened_is : (image : Image) → 1 ≤ length image → block_of (opened image) gate_block ≡ gate_open ∷ drop 1 (block_of image gate_block)
opened_is image some = get_or-set_same image gate_block (gate_open ∷ drop 1 (block_of image gate_block)) [] (omega arith)

pub close_may : (settings : Settings) (image c : Image) → SameBut (only_place gate_block) image c → MayFormat image settings c
close_may settings image c same =
    grind (arith, nat_tests, not_volume, volume-closed, volume-short, length-set, volume-same_behind, opened_is, get_or-set_other)

-- The blocks after it are written: the image is no volume while the gate stays closed.
pub behind_may : (s c : Image) → gate_byte s ≢ gate_open → SameBut (λ i. 1 ≤ i) s c → IsNoState (volume c)
behind_may s c closed same = grind (arith, not_volume, volume-closed)

-- the image with the gate closed, and then with every block after it
abbrev pub with_closed : Image → Image
with_closed image = slice_set image gate_block (replicate 4096 0)

abbrev pub with_rest : Settings → Image → Image
with_rest settings image = fresh_until settings (first_frame settings.frames) (with_closed image)

pub closed_gate : (image : Image) → 1 ≤ length image → gate_byte (with_closed image) ≢ gate_open
closed_gate image some e = grind (arith, get_or-set_same)

length-with_rest : (settings : Settings) (image : Image) → length (with_rest settings image) ≡ length image
length-with_rest settings image = length-until settings (first_frame settings.frames) (with_closed image) ∙ length-set image gate_block (replicate 4096 0)

some_frames : (frames credits : ℕ) → IsTrue (within_limits frames credits) → 16 ≤ frames
some_frames frames credits within = grind (arith, nat_tests)

-- With the gate open it is a fresh image.
module _ (settings : Settings) (keeps : IsSettings settings) (image : Image) (room : total_blocks settings.frames ≤ length image) where
  pub is_fresh : (c : Image) → SameBut (only_place gate_block) (with_rest settings image) c → gate_byte c ≡ gate_open → IsFreshImage settings c
  is_fresh c same gate = record {
    long = let a = same.count in let b = length-with_rest settings image in omega arith;
    opened = gate;
    blocks = λ i low t.
        let high = written-low settings.frames i t in
        let some = some_frames settings.frames settings.credits keeps.limits in
        let count = length-set image gate_block (replicate 4096 0) in
        same.others i (λ e. omega arith) ∙ until-block settings (first_frame settings.frames) i (with_closed image) low high (omega arith) t;
  }

  pub open_may : (a c : Image) → SameBut (only_place gate_block) (with_rest settings image) c → MayFormat a settings c
  open_may a c same = grind (arith, nat_tests, not_volume, volume-closed, fresh_volume, is_fresh)

  pub made_fresh : (c : Image) → c ≡ slice_set (with_rest settings image) gate_block gate_bytes → volume c ≡ Is (fresh settings)
  made_fresh c is = grind (arith, length-set, length-with_rest, fresh_volume, is_fresh, get_or-set_other, get_or-set_same)

-- what reads give at the end, from what they gave at first
pub all_made : (settings : Settings) → IsSettings settings → (first closed behind last : Option Image) (gate : List ℕ) → gate ≡ gate_bytes
    → closed ≡ option_map with_closed first
    → behind ≡ option_map (fresh_until settings (first_frame settings.frames)) closed
    → last ≡ option_map (λ image. slice_set image gate_block gate) behind
    → ((image : Image) → first ≡ Some image → total_blocks settings.frames ≤ length image)
    → ReadsFresh settings first last
all_made settings keeps first closed behind last gate is one two three room =
    let P : Option Image → Type 0 = λ o. ReadsFresh settings first o in
    subst P
    (sym (three ∙ ap (option_map (λ image. slice_set image gate_block gate)) (two ∙ ap (option_map (fresh_until settings (first_frame settings.frames))) one)))
    (from_first first room)
  where
    from_first : (o : Option Image) → ((image : Image) → o ≡ Some image → total_blocks settings.frames ≤ length image)
        → ReadsFresh settings o (option_map (λ image. slice_set image gate_block gate) (option_map (fresh_until settings (first_frame settings.frames)) (option_map with_closed o)))
    from_first None long = refl
    from_first (Some image) long =
        made_fresh settings keeps image (long image refl) (slice_set (with_rest settings image) gate_block gate) (ap (slice_set (with_rest settings image) gate_block) is)

-- what reads give after the second phase
pub rest_of : (settings : Settings) (first closed behind : Option Image) → closed ≡ option_map with_closed first → behind ≡ option_map (fresh_until settings (first_frame settings.frames)) closed → behind ≡ option_map (with_rest settings) first
rest_of settings first closed behind one two = two ∙ ap (option_map (fresh_until settings (first_frame settings.frames))) one ∙ joined first
  where
    joined : (o : Option Image) → option_map (fresh_until settings (first_frame settings.frames)) (option_map with_closed o) ≡ option_map (with_rest settings) o
    joined None = refl
    joined (Some image) = refl

-- what was told, of an image that is made of it
made_of : (f : Image → Image) (o : Option Image) (d : Image) → option_map f o ≡ Some d → (s : Image) × (o ≡ Some s) × (d ≡ f s)
made_of f None d is = absurd cc
made_of f (Some s) d is = (s, refl, cc)

-- The three phases. After the first and the second one the disk is settled, at an image that is made of what reads gave at first.
module _ {D : Type 0} (facts : Ghosts D) (settings : Settings) (old : D) where
  abbrev pub May : Image → Image → Type 0
  May image c = MayFormat image settings c

  pub first_phase : (new : D) → Leaves facts old new (FromLeft facts old (SameBut (only_place gate_block))) → Leaves facts old new (FromLeft facts old May)
  first_phase new run = from_wider facts old new (SameBut (only_place gate_block)) May run (close_may settings)

  module _ (room : total_blocks settings.frames ≤ facts.block_count old) (count : ForSome (facts.seen old) (λ image. length image ≡ facts.block_count old)) where
    pub second_phase : (mid new : D) → NothingPending facts mid → facts.seen mid ≡ option_map with_closed (facts.seen old)
        → Leaves facts old mid (FromLeft facts old May) → Leaves facts mid new (FromLeft facts mid (SameBut (λ i. 1 ≤ i))) → Leaves facts old new (FromLeft facts old May)
    second_phase mid new settled closed so_far run =
        from_then facts old mid new (SameBut (λ i. 1 ≤ i)) May so_far run
        (λ d left a c same.
        let s = made_of with_closed (facts.seen old) d (sym closed ∙ settled d left) in
        let long = count s.0 s.1 in
        inl (behind_may d c (subst (λ (e : Image). gate_byte e ≢ gate_open) (sym s.2) (closed_gate s.0 (omega (arith, room, long)))) same))

    pub third_phase : IsSettings settings → (mid new : D) → NothingPending facts mid → facts.seen mid ≡ option_map (with_rest settings) (facts.seen old)
        → Leaves facts old mid (FromLeft facts old May) → Leaves facts mid new (FromLeft facts mid (SameBut (only_place gate_block))) → Leaves facts old new (FromLeft facts old May)
    third_phase keeps mid new settled behind so_far run =
        from_then facts old mid new (SameBut (only_place gate_block)) May so_far run
        (λ d left a c same.
        let s = made_of (with_rest settings) (facts.seen old) d (sym behind ∙ settled d left) in
        let long = count s.0 s.1 in
        open_may settings keeps s.0 (omega (arith, room, long)) a c (subst (λ (e : Image). SameBut (only_place gate_block) e c) s.2 same))
