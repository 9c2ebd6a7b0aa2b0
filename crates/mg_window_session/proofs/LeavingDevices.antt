-- The devices that are dropped base by base are those that leave.
use Rattle.{mg_model.specs.State.State, mg_window.specs.{Attached.{Attached, without}, Devices.Held}, mg_window_session.specs.Machine.has_gone}
use Rattle.{mg_window_session.specs.{Machine.staying, Stepping.{bases_of, dropped, is_base}}, std.proofs.Common.{refl, sym, ap, ◌∙◌}}
use Rattle.std.{proofs.lemmas.Bool.{eq-eqb, eqb-true, ne_eqb}, specs.{List.list_any, Prelude.{ℕ, ◌≡◌, ◌==◌, ◌&&◌, ◌||◌, Bool, true, false, List, []}}}
use Rattle.std.specs.Prelude.{◌∷◌, cond, filter, if◌then◌else◌, map, not}

abbrev Window : Type 0
Window = ℕ × Held

abbrev is_in : ℕ → List ℕ → Bool
is_in base bases = list_any (λ (b : ℕ). b == base) bases

abbrev bases : Attached → List ℕ
bases windows = map (λ (window : ℕ × Held). window.0) windows

-- whether a device stays when those at these bases are looked at
abbrev stays : State → List ℕ → Window → Bool
stays s those window = not (is_in window.0 those && not (is_base s window.0))

and_false : (b : Bool) → (b && false) ≡ false
and_false true = refl
and_false false = refl

-- when a base is looked at that has an object
same_there : (s : State) (b : ℕ) (those : List ℕ) (window : Window) → is_base s b ≡ true → stays s (b ∷ those) window ≡ stays s those window
same_there s b those window there = by_base (b == window.0) refl
  where
    both : is_base s window.0 ≡ true → (m : Bool) → not (m && not (is_base s window.0)) ≡ true
    both here m = ap (λ t. not (m && not t)) here ∙ ap not (and_false m)

    by_base : (v : Bool) → (b == window.0) ≡ v → not ((v || is_in window.0 those) && not (is_base s window.0)) ≡ stays s those window
    by_base true is = let here : is_base s window.0 ≡ true = ap (λ t. is_base s t) (sym (eqb-true b window.0 is)) ∙ there in both here true ∙ sym (both here (is_in window.0 those))
    by_base false is = refl

-- when it has none
without_cases : (s : State) (b : ℕ) (those : List ℕ) (window : Window) (rest : Attached) → is_base s b ≡ false → filter (stays s those) (without rest b) ≡ filter (stays s (b ∷ those)) rest
    → filter (stays s those) (without (window ∷ rest) b) ≡ filter (stays s (b ∷ those)) (window ∷ rest)
without_cases s b those window rest gone later = by_base (window.0 == b) refl
  where
    turned : (v : Bool) → (window.0 == b) ≡ v → (b == window.0) ≡ v
    turned true is = eq-eqb b window.0 (sym (eqb-true window.0 b is))
    turned false is = ne_eqb b window.0 (λ e. let t : (window.0 == b) ≡ true = eq-eqb window.0 b (sym e) in cc)

    leaves : (window.0 == b) ≡ true → stays s (b ∷ those) window ≡ false
    leaves is = ap (λ t. not ((t || is_in window.0 those) && not (is_base s window.0))) (turned true is) ∙ ap (λ t. not (not t)) (ap (λ t. is_base s t) (eqb-true window.0 b is) ∙ gone)

    stays_so : (window.0 == b) ≡ false → stays s (b ∷ those) window ≡ stays s those window
    stays_so is = ap (λ t. not ((t || is_in window.0 those) && not (is_base s window.0))) (turned false is)

    by_base : (v : Bool) → (window.0 == b) ≡ v → filter (stays s those) (without (window ∷ rest) b) ≡ filter (stays s (b ∷ those)) (window ∷ rest)
    by_base true is =
        ap (λ t. filter (stays s those) (cond (not t) (window ∷ without rest b) (without rest b))) is ∙ later
        ∙ sym (ap (λ t. cond t (window ∷ filter (stays s (b ∷ those)) rest) (filter (stays s (b ∷ those)) rest)) (leaves is))
    by_base false is =
        ap (λ t. filter (stays s those) (cond (not t) (window ∷ without rest b) (without rest b))) is
        ∙ ap (λ r. cond (stays s those window) (window ∷ r) r) later
        ∙ sym (ap (λ t. cond t (window ∷ filter (stays s (b ∷ those)) rest) (filter (stays s (b ∷ those)) rest)) (stays_so is))

one_base : (s : State) (b : ℕ) (those : List ℕ) (windows : Attached) (v : Bool) → is_base s b ≡ v → filter (stays s those) (if v then windows else without windows b) ≡ filter (stays s (b ∷ those)) windows
one_base s b those [] true is = refl
one_base s b those [] false is = refl
one_base s b those (window ∷ rest) true is =
    ap (λ t. cond t (window ∷ filter (stays s those) rest) (filter (stays s those) rest)) (sym (same_there s b those window is))
    ∙ ap (λ r. cond (stays s (b ∷ those) window) (window ∷ r) r) (one_base s b those rest true is)
one_base s b those (window ∷ rest) false is = without_cases s b those window rest is (one_base s b those rest false is)

none_looked : (s : State) (windows : Attached) → windows ≡ filter (stays s []) windows
none_looked s [] = refl
none_looked s (window ∷ rest) = ap (λ r. window ∷ r) (none_looked s rest)

dropped_filter : (s : State) (those : List ℕ) (windows : Attached) → dropped s those windows ≡ filter (stays s those) windows
dropped_filter s [] windows = none_looked s windows
dropped_filter s (b ∷ those) windows = dropped_filter s those (if is_base s b then windows else without windows b) ∙ one_base s b those windows (is_base s b) refl

-- a base that passes the test is among those that do
in_filter : (s : State) (base : ℕ) (those : List ℕ) → is_in base (filter (λ b. is_base s b) those) ≡ (is_in base those && is_base s base)
in_filter s base [] = refl
in_filter s base (b ∷ those) = by_test (in_filter s base those) (is_base s b) refl (b == base) refl
  where
    by_test : is_in base (filter (λ b. is_base s b) those) ≡ (is_in base those && is_base s base) → (v : Bool) → is_base s b ≡ v → (w : Bool) → (b == base) ≡ w
        → is_in base (cond v (b ∷ filter (λ b. is_base s b) those) (filter (λ b. is_base s b) those)) ≡ ((w || is_in base those) && is_base s base)
    by_test later true there true is = ap (λ t. t || is_in base (filter (λ b. is_base s b) those)) is ∙ sym (ap (λ t. is_base s t) (sym (eqb-true b base is)) ∙ there)
    by_test later true there false is = ap (λ t. t || is_in base (filter (λ b. is_base s b) those)) is ∙ later
    by_test later false gone true is =
        let here : is_base s base ≡ false = ap (λ t. is_base s t) (sym (eqb-true b base is)) ∙ gone in
        later ∙ ap (λ t. is_in base those && t) here ∙ and_false (is_in base those) ∙ sym here
    by_test later false gone false is = later

-- windows whose bases are among those of all
abbrev Among : Attached → Attached → Type 0
Among all [] = Unit {0}
Among all (window ∷ rest) = (is_in window.0 (bases all) ≡ true) × Among all rest

or_true : (b : Bool) → (b || true) ≡ true
or_true true = refl
or_true false = refl

among_more : (one : Window) (all windows : Attached) → Among all windows → Among (one ∷ all) windows
among_more one all [] h = tt
among_more one all (window ∷ rest) h = (ap (λ t. one.0 == window.0 || t) h.0 ∙ or_true (one.0 == window.0), among_more one all rest h.1)

among_all : (windows : Attached) → Among windows windows
among_all [] = tt
among_all (window ∷ rest) = (ap (λ t. t || is_in window.0 (bases rest)) (eq-eqb window.0 window.0 refl), among_more window rest rest (among_all rest))

same_filter : (old new : State) (all windows : Attached) → Among all windows → filter (stays new (bases_of old all)) windows ≡ staying old new windows
same_filter old new all [] h = refl
same_filter old new all (window ∷ rest) h =
    let one : stays new (bases_of old all) window ≡ not (has_gone old new window.0) =
    ap (λ t. not (t && not (is_base new window.0))) (in_filter old window.0 (bases all) ∙ ap (λ t. t && is_base old window.0) h.0) in
    ap (λ t. cond t (window ∷ filter (stays new (bases_of old all)) rest) (filter (stays new (bases_of old all)) rest)) one
    ∙ ap (λ r. cond (not (has_gone old new window.0)) (window ∷ r) r) (same_filter old new all rest h.1)

pub dropped_stay : (old new : State) (windows : Attached) → dropped new (bases_of old windows) windows ≡ staying old new windows
dropped_stay old new windows = dropped_filter new (bases_of old windows) windows ∙ same_filter old new windows windows (among_all windows)
