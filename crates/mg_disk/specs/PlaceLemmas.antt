-- Lemmas on images that are the same but at some places.
use Rattle.std.proofs.{Common.{refl, inl, inr, ⊎_elim, sym, subst, ◌∙◌, arith}, lemmas.Bool.Decides.eqb_tells}
use Rattle.std.proofs.lemmas.List.{length-set, ext_get_or, get_or-set_same, get_or-set_other}
use Rattle.std.proofs.lemmas.List.Elements.{Contains-append_left, Contains-append_right, Contains-append_cases}
use Rattle.std.specs.Prelude.{◌≡◌, ◌≢◌, ◌⊎◌, ◌+◌, ◌<◌, ℕ, List, [], ◌∷◌, ◌++◌, length, slice_set, slice_index_or}
use Rattle.std.specs.Prelude.{Contains}
use Rattle.mg_disk.specs.{Blocks.{IsGated, gates_block}, Disk.{Image, block_at, SameBut, only_place}}

pub same_or_not : (a b : ℕ) → (a ≡ b) ⊎ (a ≢ b)
same_or_not a b = ⊎_elim (λ t. inl t.1) (λ t. inr t.1) (eqb_tells a b)

pub none_in_none : (k : ℕ) → Contains [] k → ⊥
none_in_none k l = omega (arith, l.1)

one_only : (i k : ℕ) → Contains (i ∷ []) k → k ≡ i
one_only i k l =
    let z : l.0 ≡ 0 = omega (arith, l.1) in
    let P : ℕ → Type 0 = λ j. slice_index_or (i ∷ []) j k ≡ k in
    sym (subst P z l.2)

the_one : (i : ℕ) → Contains (i ∷ []) i
the_one i = (0, omega arith, refl)

pub not_in_longer : (places : List ℕ) (i k : ℕ) → (Contains places k → ⊥) → k ≢ i → Contains (places ++ i ∷ []) k → ⊥
not_in_longer places i k out other l = ⊎_elim out (λ m. other (one_only i k m)) (Contains-append_cases places (i ∷ []) k l)

not_the_last : (places : List ℕ) (i k : ℕ) → (Contains (places ++ i ∷ []) k → ⊥) → k ≢ i
not_the_last places i k out is = out (Contains-append_right places (i ∷ []) k (subst (Contains (i ∷ [])) (sym is) (the_one i)))

-- the same everywhere is the same
pub nothing_differs : (a b : Image) → SameBut (Contains []) a b → b ≡ a
nothing_differs a b same = ext_get_or [] b a same.count (λ k below. same.others k (none_in_none k))

pub same_as : (places : ℕ → Type 0) (s c : Image) → c ≡ s → SameBut places s c
same_as places s c is = let P : Image → Type 0 = λ x. SameBut places s x in subst P (sym is) (record { count = refl; others = λ k out. refl })

-- any bytes at some of the places, after others at some of them
pub same_after : (p q places : ℕ → Type 0) (s d c : Image) → ((k : ℕ) → p k → places k) → ((k : ℕ) → q k → places k) → SameBut p s d → SameBut q d c → SameBut places s c
same_after p q places s d c first then a b = record {
  count = b.count ∙ a.count;
  others = λ k out. b.others k (λ at. out (then k at)) ∙ a.others k (λ at. out (first k at));
}

-- any bytes at one of the places, after others there
pub same_still : (places : ℕ → Type 0) (i : ℕ) (s d c : Image) → places i → SameBut places s d → SameBut (only_place i) d c → SameBut places s c
same_still places i s d c at_i a b = same_after places (only_place i) places s d c (λ k at. at) (λ k is. subst places (sym is) at_i) a b

-- an image has the first n of these blocks, next to each other
abbrev pub HasFirst : ℕ → Image → ℕ → Image → Type 0
HasFirst first blocks n image = (k : ℕ) → k < n → block_at image (first + k) ≡ block_at blocks k

-- a write changes its place alone
pub same_set : (s : Image) (i : ℕ) (b : List ℕ) → SameBut (only_place i) s (slice_set s i b)
same_set s i b = record { count = length-set s i b; others = λ k out. get_or-set_other s i k b [] out }

-- after a write at a further place
pub same_longer : (places : List ℕ) (base now : Image) (i : ℕ) (b : List ℕ) → SameBut (Contains places) base now → SameBut (Contains (places ++ i ∷ [])) base (slice_set now i b)
same_longer places base now i b same = record {
  count = length-set now i b ∙ same.count;
  others = λ k out. get_or-set_other now i k b [] (not_the_last places i k out) ∙ same.others k (λ l. out (Contains-append_left places (i ∷ []) k l));
}

-- places below a bound, and one more
pub placed_longer : (places : List ℕ) (i n : ℕ) → ((k : ℕ) → Contains places k → k < n) → i < n → (k : ℕ) → Contains (places ++ i ∷ []) k → k < n
placed_longer places i n below at_i k l =
    ⊎_elim (below k) (λ m. let P : ℕ → Type 0 = λ j. j < n in subst P (sym (one_only i k m)) at_i) (Contains-append_cases places (i ∷ []) k l)

-- gates at one place more
pub gated_longer : (places : List ℕ) (old now : Image) (i : ℕ) (b : List ℕ) → b ≡ gates_block → i < length now → IsGated places old now → IsGated (places ++ i ∷ []) old (slice_set now i b)
gated_longer places old now i b are inside so_far = record { elsewhere = same_longer places old now i b so_far.elsewhere; gates = gates }
  where
    gates : (k : ℕ) → Contains (places ++ i ∷ []) k → block_at (slice_set now i b) k ≡ gates_block
    gates k l = ⊎_elim here there (same_or_not k i)
      where
        here : k ≡ i → block_at (slice_set now i b) k ≡ gates_block
        here is =
            let P : ℕ → Type 0 = λ j. block_at (slice_set now i b) j ≡ gates_block in
            subst P (sym is) (get_or-set_same now i b [] inside ∙ are)

        there : k ≢ i → block_at (slice_set now i b) k ≡ gates_block
        there not =
            get_or-set_other now i k b [] not
            ∙ so_far.gates k (⊎_elim (λ m. m) (λ m. absurd (not (one_only i k m))) (Contains-append_cases places (i ∷ []) k l))

-- one place fewer that differs, once its block is copied
pub copied_shorter : (places : List ℕ) (i : ℕ) (b : List ℕ) (to from : Image) → b ≡ block_at from i → i < length to → SameBut (Contains (i ∷ places)) to from → SameBut (Contains places) (slice_set to i b) from
copied_shorter places i b to from is_it inside same = record { count = same.count ∙ sym (length-set to i b); others = others }
  where
    others : (k : ℕ) → (Contains places k → ⊥) → block_at from k ≡ block_at (slice_set to i b) k
    others k out = ⊎_elim here there (same_or_not k i)
      where
        here : k ≡ i → block_at from k ≡ block_at (slice_set to i b) k
        here is =
            let P : ℕ → Type 0 = λ j. block_at from j ≡ block_at (slice_set to i b) j in
            subst P (sym is) (sym (get_or-set_same to i b [] inside ∙ is_it))

        there : k ≢ i → block_at from k ≡ block_at (slice_set to i b) k
        there not =
            same.others k (λ l. ⊎_elim (λ m. not (one_only i k m)) out (Contains-append_cases (i ∷ []) places k l))
            ∙ sym (get_or-set_other to i k b [] not)
