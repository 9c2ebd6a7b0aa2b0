-- Lemmas on that replay: how one event more changes what a stop may leave, and the laws of the trait that follow.
use Rattle.std.proofs.{Common.{refl, inl, inr, ⊎_elim, sym, ap, subst, ◌∙◌, arith}, Math.Nat.eq-or-lt_of_le}
use Rattle.std.proofs.lemmas.List.{take-append-le, take_all, length-append, length-set, get_or-set_same}
use Rattle.std.{proofs.lemmas.List.get_or-set_other, specs.Prelude.{◌≡◌, ◌≢◌, ◌⊎◌, ◌<◌, ◌≤◌, ℕ, List, [], ◌∷◌, ◌++◌}}
use Rattle.std.specs.Prelude.{length, slice_set, Contains, Some}
use Rattle.mg_disk.specs.Disk.{Image, block_at, Moment, At, Both, Alone, SameBut, only_place, GoesOn, no_image}
use Rattle.mg_disk.specs.{Disk.{OnlySeen, TornAt}, Held.{BeenIn, Held, LeftIn, MayLeave, after, run, start, time_of}}
use Rattle.mg_disk.specs.PlaceLemmas.{same_or_not, none_in_none, not_in_longer, nothing_differs}
use Rattle.mg_disk.specs.declared.memory.Event.{Event, TheVariants.{Wrote, Synced}}

run-append : (h : Held) (es : List Event) (e : Event) → run h (es ++ e ∷ []) ≡ after (run h es) e
run-append h [] e = refl
run-append h (x ∷ es) e = run-append (after h x) es e

pub held_more : (first : Image) (events : List Event) (h : Held) (e : Event) → run (start first) events ≡ h → run (start first) (events ++ e ∷ []) ≡ after h e
held_more first events h e is = run-append (start first) events e ∙ ap (λ x. after x e) is

-- what may be left at the last moment, and at each earlier one
pub at_end : (first : Image) (events : List Event) (c : Image) → LeftIn first events (At (length events)) c → MayLeave (run (start first) events) c
at_end first events c l = subst (λ es. MayLeave (run (start first) es) c) (take_all l.0 events l.1) l.3

pub since : (first : Image) (events : List Event) (t : ℕ) (c : Image) → t ≤ length events → MayLeave (run (start first) events) c → LeftIn first events (At t) c
since first events t c was may = (length events, was, omega arith, subst (λ es. MayLeave (run (start first) es) c) (sym (take_all (length events) events (omega arith))) may)

-- one event more
module _ (first : Image) (events : List Event) (e : Event) (F : Image → Type 0) where
  past_more : (t : Moment) → BeenIn events t → BeenIn (events ++ e ∷ []) t
  past_more (At t) was = omega (arith, length-append events (e ∷ []))
  past_more (Both x y) was = was
  past_more (Alone x) was = was

  keeps_more : (t : Moment) (c : Image) → LeftIn first events t c → LeftIn first (events ++ e ∷ []) t c
  keeps_more (At t) c l =
      (l.0, l.1, (let n = length-append events (e ∷ []) in let k = l.2 in omega arith), subst (λ es. MayLeave (run (start first) es) c) (sym (take-append-le l.0 events (e ∷ []) l.2)) l.3)
  keeps_more (Both x y) c l = l
  keeps_more (Alone x) c l = l

  else_more : ((c : Image) → MayLeave (after (run (start first) events) e) c → MayLeave (run (start first) events) c ⊎ F c)
      → (s t : ℕ) (c : Image) → s ≤ t → s ≤ length events → LeftIn first (events ++ e ∷ []) (At t) c → LeftIn first events (At s) c ⊎ F c
  else_more new s t c earlier was l = ⊎_elim last old (eq-or-lt_of_le l.2)
    where
      last : l.0 ≡ length (events ++ e ∷ []) → LeftIn first events (At s) c ⊎ F c
      last is =
          ⊎_elim (λ may. inl (since first events s c was may)) (λ f. inr f)
          (new c (subst (λ h. MayLeave h c) (ap (run (start first)) (take_all l.0 (events ++ e ∷ []) (omega (arith, is))) ∙ run-append (start first) events e) l.3))

      old : l.0 < length (events ++ e ∷ []) → LeftIn first events (At s) c ⊎ F c
      old below =
          let n = length-append events (e ∷ []) in
          let k : l.0 ≤ length events = omega arith in
          inl (l.0, (let a = l.1 in omega arith), k, subst (λ es. MayLeave (run (start first) es) c) (take-append-le l.0 events (e ∷ []) k) l.3)

  goes_more : ((c : Image) → MayLeave (after (run (start first) events) e) c → MayLeave (run (start first) events) c ⊎ F c)
      → GoesOn (time_of first events) (time_of first (events ++ e ∷ [])) F
  goes_more new = record {
    begins = omega arith;
    past = past_more;
    keeps = λ t c was l. keeps_more t c l;
    nothing_else = else_at new;
    now = λ c l. else_more new (length events) (length (events ++ e ∷ [])) c (omega (arith, length-append events (e ∷ []))) (omega arith) l;
  }
    where
      else_at : ((c : Image) → MayLeave (after (run (start first) events) e) c → MayLeave (run (start first) events) c ⊎ F c)
          → (t : Moment) (c : Image) → BeenIn events t → LeftIn first (events ++ e ∷ []) t c → LeftIn first events t c ⊎ F c
      else_at new (At t) c was l = else_more new t t c (omega arith) was l
      else_at new (Both x y) c was l = inl l
      else_at new (Alone x) c was l = inl l

with_these : (first first' : Image) (events events' : List Event) (e : Event) (F : Image → Type 0) → first' ≡ first → events' ≡ events ++ e ∷ []
    → GoesOn (time_of first events) (time_of first (events ++ e ∷ [])) F
    → GoesOn (time_of first events) (time_of first' events') F
with_these first first' events events' e F same more goes =
    subst (λ f. GoesOn (time_of first events) (time_of f events') F) (sym same)
    (subst (λ es. GoesOn (time_of first events) (time_of first es) F) (sym more) goes)

-- what may be left after a write at i is an older image with any bytes there
torn_of : (h : Held) (i : ℕ) (b : List ℕ) (c : Image) → i < length h.base → MayLeave (after h (Wrote i b)) c → (d : Image) × MayLeave h d × SameBut (only_place i) d c
torn_of h i b c inside may =
    let e = length-set c i (block_at h.base i) in (
      slice_set c i (block_at h.base i),
      record { count = e ∙ may.count; others = older },
      record { count = sym e; others = λ k out. sym (get_or-set_other c i k (block_at h.base i) [] out) },
    )
  where
    older : (k : ℕ) → (Contains h.touched k → ⊥) → block_at (slice_set c i (block_at h.base i)) k ≡ block_at h.base k
    older k out = ⊎_elim same other (same_or_not k i)
      where
        same : k ≡ i → block_at (slice_set c i (block_at h.base i)) k ≡ block_at h.base k
        same is =
            let P : ℕ → Type 0 = λ j. block_at (slice_set c i (block_at h.base i)) j ≡ block_at h.base j in
            subst P (sym is) (get_or-set_same c i (block_at h.base i) [] (let n = may.count in omega arith))

        other : k ≢ i → block_at (slice_set c i (block_at h.base i)) k ≡ block_at h.base k
        other not = get_or-set_other c i k (block_at h.base i) [] not ∙ may.others k (not_in_longer h.touched i k out not)

-- a write
pub wrote_goes : (first first' : Image) (events events' : List Event) (h : Held) (i : ℕ) (b : List ℕ) → run (start first) events ≡ h → i < length h.base → first' ≡ first → events' ≡ events ++ Wrote i b ∷ []
    → GoesOn (time_of first events) (time_of first' events') (TornAt (only_place i) (LeftIn first events (At (length events))))
wrote_goes first first' events events' h i b is inside same more =
    let F : Image → Type 0 = TornAt (only_place i) (LeftIn first events (At (length events))) in
    with_these first first' events events' (Wrote i b) F same more (goes_more first events (Wrote i b) F (λ c may. inr (step c may)))
  where
    step : (c : Image) → MayLeave (after (run (start first) events) (Wrote i b)) c → TornAt (only_place i) (LeftIn first events (At (length events))) c
    step c may =
        let P : Held → Type 0 = λ x. i < length x.base in
        let t = torn_of (run (start first) events) i b c (subst P (sym is) inside) may in
        (t.0, since first events (length events) t.0 (omega arith) t.1, t.2)

-- a good sync
pub synced_goes : (first first' : Image) (events events' : List Event) (h : Held) → run (start first) events ≡ h → SameBut (Contains h.touched) h.base h.now → first' ≡ first → events' ≡ events ++ Synced ∷ []
    → GoesOn (time_of first events) (time_of first' events') no_image
synced_goes first first' events events' h is pending same more =
    with_these first first' events events' Synced no_image same more (goes_more first events Synced no_image (λ c may. inl (step c (subst (λ x. MayLeave (after x Synced) c) is may))))
  where
    step : (c : Image) → MayLeave (after h Synced) c → MayLeave (run (start first) events) c
    step c may =
        let P : Held → Type 0 = λ x. MayLeave x c in
        subst P (sym is) (record { count = may.count ∙ pending.count; others = λ k out. may.others k (none_in_none k) ∙ pending.others k out })

-- after it a stop leaves what reads give
pub settled : (first : Image) (events : List Event) (base now : Image) (touched : List ℕ) → run (start first) events ≡ record { base = base; now = now; touched = touched }
    → touched ≡ [] → base ≡ now → OnlySeen (Some now) (LeftIn first events (At (length events)))
settled first events base now touched is none same c left =
    let may : SameBut (Contains touched) base c = subst (λ x. MayLeave x c) is (at_end first events c left) in
    ap (λ x. Some x) (sym same ∙ sym (nothing_differs base c (subst (λ p. SameBut (Contains p) base c) none may)))

-- The laws of the trait.
pub been_now : (events : List Event) → BeenIn events (At (length events))
been_now events = omega arith

pub counted_now : (first : Image) (events : List Event) (t : Moment) (c : Image) → BeenIn events t → LeftIn first events (At (length events)) c → LeftIn first events t c
counted_now first events (At t) c was l = since first events t c was (at_end first events c l)
counted_now first events (Both x y) c was l = was
counted_now first events (Alone x) c was l = was

pub seen_stays : (first : Image) (events : List Event) (base now : Image) (touched : List ℕ) → run (start first) events ≡ record { base = base; now = now; touched = touched }
    → SameBut (Contains touched) base now → LeftIn first events (At (length events)) now
seen_stays first events base now touched is pending = since first events (length events) now (omega arith) (subst (λ x. MayLeave x now) (sym is) pending)

-- a new disk settled at its image
pub settled_new : (first : Image) (events : List Event) (now : Image) → events ≡ [] → first ≡ now → OnlySeen (Some now) (LeftIn first events (At (length events)))
settled_new first events now none same c left = ap (λ x. Some x) (sym same) ∙ settled first events first first [] (ap (run (start first)) none) refl refl c left
