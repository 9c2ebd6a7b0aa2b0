-- What a stop may leave of a mirror as it was opened.
use Rattle.{mg_disk.specs.Disk.{Image, Moment, OnlySeen}, mg_mirror.specs.{Copy.IsCopied, Mirror.{CutOf, LeftSince, moment_of}}}
use Rattle.{mg_mirror.specs.declared.mirror.Side.{Side, TheVariants.{Left, Right}}, std.{proofs.Common.{refl, ◌∙◌, ⊎_elim}, specs.Prelude.{◌≡◌, ◌≢◌}}}
use Rattle.std.specs.Prelude.{ℕ, Bool, IsTrue, Option, Some, None, IsSomeAnd}

wider : (n : ℕ) (new old : Image → Type 0) (c : Image) → ((a : Image) → new a → old a) → CutOf n new c → CutOf n old c
wider n new old c all is = record { whole = is.whole; is_one = all is.whole is.is_one; cut = is.cut }

-- an image of the disk that was copied to is one of the disk that was copied, cut
of_copy : (n : ℕ) (from to : Option Image) (old now : Image → Type 0) (c : Image) → IsCopied n from to → OnlySeen to now → IsSomeAnd from old → CutOf n now c → CutOf n old c
of_copy n None to old now c same only told is = absurd told
of_copy n (Some x) to old now c same only told is = record { whole = x; is_one = told; cut = is.cut ∙ same x refl is.whole (only is.whole is.is_one) }

module _ (n : ℕ) (tells : Bool) (l r : Moment) (ls rs : Moment → Image → Type 0) (old : Image → Type 0) (from to : Option Image) (told : IsTrue tells → IsSomeAnd from old) where
  pub found_left : (alone : Option Side) → alone ≢ Some Right → ((a : Image) → ls l a → old a) → (alone ≡ None → IsCopied n from to) → (alone ≡ None → OnlySeen to (rs r))
      → (c : Image) → LeftSince n alone tells ls rs (moment_of alone l r) c → CutOf n old c
  found_left None serves all copied only c left = ⊎_elim (wider n (ls l) old c all) (of_copy n from to old (rs r) c (copied refl) (only refl) (told left.0)) left.1
  found_left (Some Left) serves all copied only c left = wider n (ls l) old c all left.1
  found_left (Some Right) serves all copied only c left = absurd (serves refl)

  pub found_right : (alone : Option Side) → alone ≢ Some Left → ((a : Image) → rs r a → old a) → (alone ≡ None → IsCopied n from to) → (alone ≡ None → OnlySeen to (ls l))
      → (c : Image) → LeftSince n alone tells ls rs (moment_of alone l r) c → CutOf n old c
  found_right None serves all copied only c left = ⊎_elim (of_copy n from to old (ls l) c (copied refl) (only refl) (told left.0)) (wider n (rs r) old c all) left.1
  found_right (Some Left) serves all copied only c left = absurd (serves refl)
  found_right (Some Right) serves all copied only c left = wider n (rs r) old c all left.1
