-- How bytes that come one after another add up.
use Rattle.{mg_disk.specs.{Stops.CountGoes, declared.disk.Disk.Ghosts}, mg_faults.specs.Faults.{CountGoesOn, count_none, count_then, then_rose}}
use Rattle.mg_model.specs.{Counts.CountsAlike, Lines.{line_of, lines}, Words.is_newline, declared.calls.Line.Line}
use Rattle.mg_serve.{proofs.Cutting.lines-last, specs.{Incoming.{Breaks, Goes}, Machines.{Closes, Entry, FailsToClose, Halts, Point, Runs}}}
use Rattle.{mg_serve.specs.{Serving.{IsServing, Keeps}, Waiting.{Waiting, no_replies}, declared.ended.Ended.Ended}, std.proofs.Common.{refl, sym, ap}}
use Rattle.std.{proofs.Common.{◌∙◌, append_assoc, append-nil, arith, subst}, specs.{List.list_any, Prelude.{ℕ, ◌+◌, ◌%◌, ◌^◌, ◌≡◌, false, List, []}}}
use Rattle.std.specs.Prelude.{◌∷◌, ◌++◌, Some, None, Result, Ok, Err, OnOk}
use Rattle.mg_io.specs.declared.traits.Sink as sinks
use Rattle.mg_serve.specs.declared.ended.Ended.TheVariants as ended
use Rattle.mg_serve.specs.declared.machine.Machine as machines

-- two counts that rise by as much
pub alike_none : (words steps : ℕ) → CountsAlike words words steps steps
alike_none words steps = (0, omega arith, ap (λ v. v % 2 ^ 64) (omega arith))

pub alike_then : (a b c x y z : ℕ) → CountsAlike a b x y → CountsAlike b c y z → CountsAlike a c x z
alike_then a b c x y z (n, first, words) (m, second, more) = (n + m, omega arith, omega arith)

module _ {M D : Type 0} (Session : Entry M D → List Line → Point M D → Type 0) where
  Runs-none : (p : Point M D) → Runs Session p [] p
  Runs-none p = λ entry sofar a. subst (λ (v : List Line). Session entry v p) (sym (append-nil sofar)) a

  Runs-then : (p : Point M D) (xs : List Line) (q : Point M D) (ys : List Line) (r : Point M D) → Runs Session p xs q → Runs Session q ys r → Runs Session p (xs ++ ys) r
  Runs-then p xs q ys r g h = λ entry sofar a. subst (λ (v : List Line). Session entry v r) (append_assoc sofar xs ys) (h entry (sofar ++ xs) (g entry sofar a))

  pub Goes-none : (p : Point M D) (part : List ℕ) → Goes Session p part [] p part
  Goes-none p part = record { ls = []; cuts = λ rest. refl; steps = Runs-none p }

  -- bytes that end no line, or one that spells nothing
  pub Goes-on : (p : Point M D) (part bytes part' : List ℕ) → ((rest : List ℕ) → lines (part ++ (bytes ++ rest)) ≡ lines (part' ++ rest)) → Goes Session p part bytes p part'
  Goes-on p part bytes part' same = record { ls = []; cuts = same; steps = Runs-none p }

  -- bytes that end a line
  pub Goes-line : (p : Point M D) (part bytes : List ℕ) (q : Point M D) (part' : List ℕ) (line : Line) → ((rest : List ℕ) → lines (part ++ (bytes ++ rest)) ≡ line ∷ lines (part' ++ rest)) → Runs Session p (line ∷ []) q
      → Goes Session p part bytes q part'
  Goes-line p part bytes q part' line cuts g = record { ls = line ∷ []; cuts = cuts; steps = g }

  pub Goes-then : (p : Point M D) (part xs : List ℕ) (q : Point M D) (part' ys : List ℕ) (r : Point M D) (part'' : List ℕ) → Goes Session p part xs q part' → Goes Session q part' ys r part'' → Goes Session p part (xs ++ ys) r part''
  Goes-then p part xs q part' ys r part'' g h = record {
    ls = g.ls ++ h.ls;
    cuts = λ rest. grind (arith, append_assoc);
    steps = Runs-then p g.ls q h.ls r g.steps h.steps;
  }

  -- all of a piece
  pub Goes-all : (p : Point M D) (part bytes done rest : List ℕ) (q : Point M D) (part' part'' : List ℕ) → done ++ rest ≡ bytes → Goes Session p part done q part' → ((more : List ℕ) → lines (part' ++ (rest ++ more)) ≡ lines (part'' ++ more))
      → Goes Session p part bytes q part''
  Goes-all p part bytes done rest q part' part'' split g same = grind (arith, Goes-then, Goes-on)

  -- the last part, which no newline ends
  pub Runs-last : (p : Point M D) (part : List ℕ) (q : Point M D) (line : Line) → list_any is_newline part ≡ false → line_of part ≡ Some line → Runs Session p (line ∷ []) q → Runs Session p (lines part) q
  Runs-last p part q line whole some g = grind (arith, lines-last)

  pub Runs-note : (p : Point M D) (part : List ℕ) (q : Point M D) → list_any is_newline part ≡ false → line_of part ≡ None → Closes Session p q → Runs Session p (lines part) q
  Runs-note p part q whole none g = grind (arith, lines-last, append-nil)

module _ {M D : Type 0} (Session : Entry M D → List Line → Point M D → Type 0) (Broken : Ended → Entry M D → List Line → List ℕ → Point M D → Type 0) where
  Runs-halts : (e : Ended) (p : Point M D) (xs : List Line) (q : Point M D) (ys : List Line) (r : Point M D) → Runs Session p xs q → Halts Session Broken e q ys r → Halts Session Broken e p (xs ++ ys) r
  Runs-halts e p xs q ys r g h = λ entry sofar a. subst (λ (v : List Line). (put : List ℕ) × Broken e entry v put r) (append_assoc sofar xs ys) (h entry (sofar ++ xs) (g entry sofar a))

  pub Breaks-line : (e : Ended) (p : Point M D) (part bytes part' : List ℕ) (line : Line) (q : Point M D) → ((rest : List ℕ) → lines (part ++ (bytes ++ rest)) ≡ line ∷ lines (part' ++ rest)) → Halts Session Broken e p (line ∷ []) q
      → Breaks Session Broken e p part bytes q
  Breaks-line e p part bytes part' line q cuts h = record {
    ls = line ∷ [];
    behind = part';
    cuts = cuts;
    halts = h;
  }

  pub Goes-breaks : (e : Ended) (p : Point M D) (part xs : List ℕ) (q : Point M D) (part' ys : List ℕ) (r : Point M D) → Goes Session p part xs q part' → Breaks Session Broken e q part' ys r → Breaks Session Broken e p part (xs ++ ys) r
  Goes-breaks e p part xs q part' ys r g h = record {
    ls = g.ls ++ h.ls;
    behind = h.behind;
    cuts = λ rest. grind (arith, append_assoc);
    halts = Runs-halts e p g.ls q h.ls r g.steps h.halts;
  }

  -- more may come after what broke
  pub Breaks-more : (e : Ended) (p : Point M D) (part xs ys : List ℕ) (q : Point M D) → Breaks Session Broken e p part xs q → Breaks Session Broken e p part (xs ++ ys) q
  Breaks-more e p part xs ys q h = record {
    ls = h.ls;
    behind = h.behind ++ ys;
    cuts = λ rest. ap (λ v. lines (part ++ v)) (append_assoc xs ys rest) ∙ h.cuts (ys ++ rest) ∙ ap (λ v. h.ls ++ lines v) (sym (append_assoc h.behind ys rest));
    halts = h.halts;
  }

  pub Breaks-next : (e : Ended) (p : Point M D) (part bytes done rest ended more : List ℕ) (q : Point M D) (part' : List ℕ) (r : Point M D) → done ++ rest ≡ bytes → rest ≡ ended ++ more
      → Goes Session p part done q part' → Breaks Session Broken e q part' ended r → Breaks Session Broken e p part bytes r
  Breaks-next e p part bytes done rest ended more q part' r split next g h =
      subst (λ (v : List ℕ). Breaks Session Broken e p part v r) (append_assoc done ended more ∙ ap (λ v. done ++ v) (sym next) ∙ split)
      (Breaks-more e p part (done ++ ended) more r (Goes-breaks e p part done q part' ended r g h))

  pub Halts-last : (e : Ended) (p : Point M D) (part : List ℕ) (q : Point M D) (line : Line) → list_any is_newline part ≡ false → line_of part ≡ Some line → Halts Session Broken e p (line ∷ []) q
      → Halts Session Broken e p (lines part) q
  Halts-last e p part q line whole some h = grind (arith, lines-last)

  pub Halts-note : (e : Ended) (p : Point M D) (part : List ℕ) (q : Point M D) → list_any is_newline part ≡ false → line_of part ≡ None → FailsToClose Session Broken e p q → Halts Session Broken e p (lines part) q
  Halts-note e p part q whole none h = grind (arith, lines-last, append-nil)

-- what calls one after another kept of the counts
pub record CountsOn {M D K : Type 0} (is : machines.Ghosts M) (facts : Ghosts D) (to : sinks.Ghosts K) (m : M) (disk : D) (sink : K) (steps : ℕ) (m' : M) (disk' : D) (sink' : K) (steps' : ℕ) : Type 0 where
  pub counted : CountsAlike (is.words_in m) (is.words_in m') steps steps'
  pub blocks : facts.block_count disk' ≡ facts.block_count disk
  pub disk_count : CountGoes facts disk disk'
  pub sink_count : CountGoesOn (to.faults sink) (to.faults sink') (to.is_spent sink) (to.is_spent sink')

pub counts_none : {M D K : Type 0} (is : machines.Ghosts M) (facts : Ghosts D) (to : sinks.Ghosts K) (m : M) (d : D) (k : K) (n : ℕ) → CountsOn is facts to m d k n m d k n
counts_none is facts to m d k n = record { counted = alike_none (is.words_in m) n; blocks = refl; disk_count = count_none _ _; sink_count = count_none _ _ }

pub counts_then : {M D K T : Type 0} {is : machines.Ghosts M} {facts : Ghosts D} {to : sinks.Ghosts K} {m0 m1 m2 : M} {d0 d1 d2 : D} {k0 k1 k2 : K} {n0 n1 n2 : ℕ} {result : Result T Ended}
    → CountsOn is facts to m0 d0 k0 n0 m1 d1 k1 n1 → Keeps is facts to m1 d1 k1 n1 result m2 d2 k2 n2 → CountsOn is facts to m0 d0 k0 n0 m2 d2 k2 n2
counts_then counts keeps = record {
  counted = alike_then _ _ _ _ _ _ counts.counted keeps.counted;
  blocks = keeps.calls.blocks ∙ counts.blocks;
  disk_count = count_then _ _ _ _ _ _ counts.disk_count keeps.calls.count;
  sink_count = count_then _ _ _ _ _ _ counts.sink_count keeps.sink_count;
}

-- what a call keeps after them
pub keeps_then : {M D K T : Type 0} {is : machines.Ghosts M} {facts : Ghosts D} {to : sinks.Ghosts K} {m0 m1 m2 : M} {d0 d1 d2 : D} {k0 k1 k2 : K} {n0 n1 n2 : ℕ} {result : Result T Ended}
    → CountsOn is facts to m0 d0 k0 n0 m1 d1 k1 n1 → Keeps is facts to m1 d1 k1 n1 result m2 d2 k2 n2 → Keeps is facts to m0 d0 k0 n0 result m2 d2 k2 n2
keeps_then counts keeps =
    let now = counts_then counts keeps in record {
      live = keeps.live;
      stands = keeps.stands;
      counted = now.counted;
      calls = record { count = now.disk_count; blocks = now.blocks; cause = λ h. then_rose _ _ _ _ _ _ counts.disk_count (keeps.calls.cause h) };
      sink_count = now.sink_count;
      sink_cause = λ h. then_rose _ _ _ _ _ _ counts.sink_count (keeps.sink_cause h);
    }

-- lines are served on after a batch was closed
pub serving_on : {M D K T : Type 0} {is : machines.Ghosts M} {facts : Ghosts D} {to : sinks.Ghosts K} {first m m' : M} {d0 d d' : D} {k k' : K} {n n' batch : ℕ} {o0 : Waiting} (o' : Waiting) (result : Result T Ended)
    → IsServing is facts batch first d0 o0 → Keeps is facts to m d k n result m' d' k' n' → OnOk result (is.staged_of m' ≡ 0) → OnOk result (o' ≡ no_replies) → OnOk result (IsServing is facts batch m' d' o')
serving_on o' (Ok x) was keeps none empty = record {
  live = keeps.live;
  stands = keeps.stands;
  staged = omega (arith, none);
  open_batch = let room = was.open_batch in omega (arith, ap (λ (v : Waiting). v.count) empty);
  small = was.small;
}
serving_on o' (Err e) was keeps none empty = tt

-- what a call kept is kept if the input ends the session after it
pub on_end : {M D K T U : Type 0} {is : machines.Ghosts M} {facts : Ghosts D} {to : sinks.Ghosts K} {m m' : M} {d d' : D} {k k' : K} {n n' : ℕ} {x : T} → Keeps is facts to m d k n (Ok x) m' d' k' n' → Keeps {T = U} is facts to m d k n (Err ended.TooLong) m' d' k' n'
on_end keeps = grind arith
