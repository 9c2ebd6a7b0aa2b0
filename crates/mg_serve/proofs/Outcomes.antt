-- From how a session ended to the words of the clauses.
use Rattle.{mg_disk.specs.{Disk.Image, Runs.leaves_wider, Stops.{Leaves, NothingPending}, declared.disk.Disk.Ghosts}, mg_io.specs.Known.TakesAtMost}
use Rattle.mg_model.specs.{Ended.ended_lines, Lines.lines, Print.answered, State.State, Volume.{Is, volume}, declared.calls.Line.Line}
use Rattle.mg_serve.{proofs.{Cutting.ended_lines-first, SessionSteps.{left_spells, prefix_longer}}, specs.Machines.{Entry, IsInside, Point}}
use Rattle.mg_serve.specs.Parts.{AnswersAll, AnswersLines, AnswersPrefix, AreAnswered, FewUnanswered, IsPrefix, KeepsAnswered, KeepsExactly, KeepsOne}
use Rattle.mg_serve.specs.{Parts.{SpellsAfter, TakesMore, replies}, Readings.{Finishes, Stops}, Serving.{Broken, Held, IsBetween, IsTraced, IsWithin}}
use Rattle.mg_serve.specs.{Serving.{PutsWhole, Remains, Session, Stands, Traces}, Sessions.{IsAnswered, IsCut, status_at, consumed}, Waiting.Waiting}
use Rattle.{mg_serve.specs.{Waiting.no_replies, declared.{ended.Ended.Ended, status.Status.Status}}, std.proofs.Common.{refl, sym, ap, inr, ⊎_elim}}
use Rattle.std.proofs.{Common.{◌∙◌, append-nil, arith, length-append, subst}, Math.Seq.{take-append_seam, drop-append_seam}}
use Rattle.std.{proofs.lemmas.List.{take-append-le, take_all}, specs.{Io.KnownBytes.{Appends, IsAtEnd}, Option.ForSome, Prelude.{ℕ, ◌+◌, ◌-◌, ◌<◌}}}
use Rattle.std.specs.Prelude.{◌≤◌, ◌≡◌, ◌≢◌, ◌⊎◌, Bool, false, true, List, [], ◌∷◌, ◌++◌, length, take, drop, Option, Some, None, IfSome, IsSomeAnd}
use Rattle.mg_serve.specs.declared.ended.Ended.TheVariants as ended
use Rattle.mg_serve.specs.declared.machine.Machine as machines
use Rattle.mg_serve.specs.declared.status.Status.TheVariants as status

-- more than the limit is not within it
pub not_more : (limit : ℕ) (left left' : Option (List ℕ)) (promise : Type 0) → TakesMore limit left left' → IsWithin limit left promise
not_more limit None left' promise h = tt
not_more limit (Some input) None promise h = absurd h
not_more limit (Some input) (Some rest) promise h = λ short. absurd (omega arith)

pub within_more : (left left' : Option (List ℕ)) (limit more : ℕ) → TakesAtMost limit left left' → TakesAtMost (limit + more) left left'
within_more None left' limit more h = tt
within_more (Some input) None limit more h = absurd h
within_more (Some input) (Some rest) limit more h = omega arith

-- how the bytes that came and those that are left are the input
came_are : (bytes rest input : List ℕ) → input ≡ bytes ++ rest → consumed input rest ≡ bytes
came_are bytes rest input is =
    let size : length input - length rest ≡ length bytes = omega (arith, ap length is, length-append bytes rest) in
    ap (λ v. take v input) size ∙ ap (λ v. take (length bytes) v) is ∙ take-append_seam bytes rest

put_is : (before now put : List ℕ) → now ≡ before ++ put → drop (length before) now ≡ put
put_is before now put is = ap (λ v. drop (length before) v) is ∙ drop-append_seam before put

-- the lines that were stepped are first ones of those that a newline ended
ended_first : (input rest bytes : List ℕ) (ls : List Line) → input ≡ bytes ++ rest → (more : List Line) × (lines bytes ≡ ls ++ more) → length ls ≤ length (ended_lines bytes) → ls ≡ take (length ls) (lines input)
    → (more : List Line) × (ended_lines (consumed input rest) ≡ take (length ls) (lines input) ++ more)
ended_first input rest bytes ls is came enough are = grind (arith, ended_lines-first, came_are)

-- a last line that no newline ended comes only if the source was read to its end
cut_not : (e : Ended) (result : Status) (rest : List ℕ) → IsInside e × IsAtEnd (Some rest) → status_at e ≡ result → IsCut result rest → ⊥
cut_not ended.Disk result rest (inside, at_end) same cut = ⊎_elim (λ left. left at_end) (λ fault. ⊎_elim (λ h. cc) (λ h. cc) fault) cut
cut_not ended.Sink result rest (inside, at_end) same cut = ⊎_elim (λ left. left at_end) (λ fault. ⊎_elim (λ h. cc) (λ h. cc) fault) cut
cut_not ended.Source result rest (inside, at_end) same cut = absurd inside
cut_not ended.TooLong result rest (inside, at_end) same cut = absurd inside

-- some first lines of those that were stepped are first lines of all
first_of : (kept : List Line → State) (k : ℕ) (ls more all : List Line) (c : Image) → all ≡ ls ++ more → k ≤ length ls → volume c ≡ Is (kept (take k ls)) → volume c ≡ Is (kept (take k all))
first_of kept k ls more all c cut few spelled = grind (arith, take-append-le)

held_between : (e : Ended) (alive : Bool) (low : ℕ) (kept : List Line → State) (ls : List Line) (c : Image) → low ≤ length ls → Held e alive low kept ls c → IsBetween low kept ls c
held_between ended.Disk false low kept ls c few h = h
held_between ended.Disk true low kept ls c few h = (low, omega arith, few, h)
held_between ended.Source alive low kept ls c few h = (low, omega arith, few, h)
held_between ended.TooLong alive low kept ls c few h = (low, omega arith, few, h)
held_between ended.Sink alive low kept ls c few h = (length ls, few, omega arith, h ∙ ap (λ v. Is (kept v)) (sym (take_all (length ls) ls (omega arith))))

answered_in : (taken taken' : Option (List ℕ)) (put : List ℕ) (k : ℕ) → Appends taken taken' put → answered put ≤ k → AreAnswered taken taken' k
answered_in None taken' put k h few = tt
answered_in (Some before) None put k h few = absurd h
answered_in (Some before) (Some now) put k h few = omega (arith, ap answered (put_is before now put h))

count_is : (taken taken' : Option (List ℕ)) (put : List ℕ) → Appends taken taken' put → IfSome taken (λ before. IsSomeAnd taken' (λ now. answered (drop (length before) now) ≡ answered put))
count_is None taken' put h = tt
count_is (Some before) None put h = absurd h
count_is (Some before) (Some now) put h = ap answered (put_is before now put h)

is_answered : (input rest bytes : List ℕ) (ls : List Line) (taken taken' : Option (List ℕ)) (put : List ℕ) (k : ℕ) → input ≡ bytes ++ rest → (more : List Line) × (lines bytes ≡ ls ++ more)
    → Appends taken taken' put → answered put ≤ k → k ≤ length ls → IsAnswered input rest taken taken' k
is_answered input rest bytes ls taken taken' put k read came sink least few = record {
  all_answered = answered_in taken taken' put k sink least;
  came = grind (arith, came_are, length-append);
}

module _ {M D : Type 0} (is : machines.Ghosts M) (facts : Ghosts D) (entry : Entry M D) (limit batch most : ℕ) where
  -- the lines that were stepped are first lines of all
  cut_of : (e : Ended) (input rest : List ℕ) (p : Point M D) (w : Stops (Broken is facts batch) e entry (Some input) limit batch most p (Some rest))
      → (more : List Line) × (lines input ≡ w.ls ++ more)
  cut_of e input rest p w = (
    (w.will rest refl).0,
    ap (λ v. lines v) w.read ∙ (w.will rest refl).1,
  )

  pub stops_prefix : (e : Ended) (left left' : Option (List ℕ)) (p : Point M D) → Stops (Broken is facts batch) e entry left limit batch most p left'
      → ForSome (facts.seen entry.disk) (λ image. AnswersPrefix (is.said entry.machine image) left entry.taken p.taken)
  stops_prefix e None left' p w = λ image seen. tt
  stops_prefix e (Some input) None p w = absurd w.read
  stops_prefix e (Some input) (Some rest) p w = λ image seen.
      let t : Remains is facts e entry image w.ls w.put p = w.broken.told image seen in
      let cut : (more : List Line) × (lines input ≡ w.ls ++ more) = cut_of e input rest p w in
      let on = t.replies cut.0 in (
        w.put,
        on.0,
        sym (ap (λ v. is.said entry.machine image v) cut.1 ∙ on.1),
        w.broken.sink,
      )

  pub stops_moments : (e : Ended) (left left' : Option (List ℕ)) (p : Point M D) → Stops (Broken is facts batch) e entry left limit batch most p left'
      → ForSome (facts.seen entry.disk) (λ image. IfSome left (λ input. Leaves facts entry.disk p.disk (IsPrefix (is.kept entry.machine image) (lines input))))
  stops_moments e None left' p w = λ image seen. tt
  stops_moments e (Some input) None p w = absurd w.read
  stops_moments e (Some input) (Some rest) p w = λ image seen.
      let t : Remains is facts e entry image w.ls w.put p = w.broken.told image seen in
      let cut : (more : List Line) × (lines input ≡ w.ls ++ more) = cut_of e input rest p w in
      leaves_wider facts entry.disk p.disk (IsPrefix (is.kept entry.machine image) w.ls) (IsPrefix (is.kept entry.machine image) (lines input)) t.leaves
      (λ c f. subst (λ (v : List Line). IsPrefix (is.kept entry.machine image) v c) (sym cut.1) (prefix_longer (is.kept entry.machine image) w.ls cut.0 c f))

  pub stops_held : (e : Ended) (left left' : Option (List ℕ)) (p : Point M D) → Stops (Broken is facts batch) e entry left limit batch most p left'
      → ForSome (facts.seen entry.disk) (λ image. KeepsAnswered ((facts.time p.disk).left_since (facts.time p.disk).moment) (is.kept entry.machine image) left left' entry.taken p.taken)
  stops_held e None left' p w = λ image seen. tt
  stops_held e (Some input) None p w = absurd w.read
  stops_held e (Some input) (Some rest) p w = λ image seen. λ c left.
      let cut : (more : List Line) × (lines input ≡ w.ls ++ more) = cut_of e input rest p w in
      let b : IsBetween (answered w.put) (is.kept entry.machine image) w.ls c =
      held_between e (is.is_live p.machine) (answered w.put) (is.kept entry.machine image) w.ls c w.broken.fewer ((w.broken.told image seen).held c left) in (
        b.0,
        is_answered input rest w.bytes w.ls entry.taken p.taken w.put b.0 w.read w.came w.broken.sink b.1 b.2,
        first_of (is.kept entry.machine image) b.0 w.ls cut.0 (lines input) c cut.1 b.2 b.3,
      )

  pub exactly : (e : Ended) (left left' : Option (List ℕ)) (p : Point M D) (w : Stops (Broken is facts batch) e entry left limit batch most p left')
      → ((kept : List Line → State) (c : Image) → Held e (is.is_live p.machine) (answered w.put) kept w.ls c → volume c ≡ Is (kept (take (answered w.put) w.ls)))
      → ForSome (facts.seen entry.disk) (λ image. KeepsExactly ((facts.time p.disk).left_since (facts.time p.disk).moment) (is.kept entry.machine image) left entry.taken p.taken)
  exactly e None left' p w held = λ image seen. tt
  exactly e (Some input) None p w held = absurd w.read
  exactly e (Some input) (Some rest) p w held = by_sink entry.taken p.taken w.broken.sink
    where
      by_sink : (before now : Option (List ℕ)) → Appends before now w.put
          → ForSome (facts.seen entry.disk) (λ image. KeepsExactly ((facts.time p.disk).left_since (facts.time p.disk).moment) (is.kept entry.machine image) (Some input) before now)
      by_sink None now took = λ image seen. tt
      by_sink (Some before) None took = absurd took
      by_sink (Some before) (Some now) took = λ image seen. λ c left.
          let cut : (more : List Line) × (lines input ≡ w.ls ++ more) = cut_of e input rest p w in
          first_of (is.kept entry.machine image) (answered w.put) w.ls cut.0 (lines input) c cut.1 w.broken.fewer (held (is.kept entry.machine image) c ((w.broken.told image seen).held c left))
          ∙ ap (λ v. Is (is.kept entry.machine image (take (answered v) (lines input)))) (sym (put_is before now w.put took))

  -- whole lines are answered
  pub whole_lines : (e : Ended) (left left' : Option (List ℕ)) (p : Point M D) (w : Stops (Broken is facts batch) e entry left limit batch most p left')
      → ((said : List Line → List ℕ) → PutsWhole e said w.ls w.put → w.put ≡ said (take (answered w.put) w.ls))
      → ForSome (facts.seen entry.disk) (λ image. AnswersLines (is.said entry.machine image) left entry.taken p.taken)
  whole_lines e None left' p w whole = λ image seen. tt
  whole_lines e (Some input) None p w whole = absurd w.read
  whole_lines e (Some input) (Some rest) p w whole = λ image seen.
      let cut : (more : List Line) × (lines input ≡ w.ls ++ more) = cut_of e input rest p w in
      let few : answered w.put ≤ length (lines input) = let f = w.broken.fewer in omega (arith, ap length cut.1, length-append w.ls cut.0) in
      let put : w.put ≡ is.said entry.machine image (take (answered w.put) (lines input)) =
      whole (is.said entry.machine image) (w.broken.told image seen).whole
      ∙ ap (λ v. is.said entry.machine image v) (sym (ap (λ v. take (answered w.put) v) cut.1 ∙ take-append-le (answered w.put) w.ls cut.0 w.broken.fewer)) in (
        answered w.put,
        few,
        subst (λ (v : List ℕ). Appends entry.taken p.taken v) put w.broken.sink,
      )

  pub few_of : (e : Ended) (left left' : Option (List ℕ)) (p : Point M D) (w : Stops (Broken is facts batch) e entry left limit batch most p left')
      → length (ended_lines (take limit w.bytes)) < answered w.put + batch → FewUnanswered batch limit left left' entry.taken p.taken
  few_of e None left' p w few = tt
  few_of e (Some input) None p w few = absurd w.read
  few_of e (Some input) (Some rest) p w few = grind (arith, came_are, put_is)

  pub stops_bound : (e : Ended) (left left' : Option (List ℕ)) (p : Point M D) → Stops (Broken is facts batch) e entry left limit batch most p left' → TakesAtMost most left left'
  stops_bound e None left' p w = tt
  stops_bound e (Some input) None p w = absurd w.read
  stops_bound e (Some input) (Some rest) p w = let b = w.bound in omega (arith, ap length w.read, length-append w.bytes rest)

  -- the disk failed, and no commit of it
  pub disk_exactly : (left left' : Option (List ℕ)) (p : Point M D) → is.is_live p.machine ≡ true → Stops (Broken is facts batch) ended.Disk entry left limit batch most p left'
      → ForSome (facts.seen entry.disk) (λ image. KeepsExactly ((facts.time p.disk).left_since (facts.time p.disk).moment) (is.kept entry.machine image) left entry.taken p.taken)
  disk_exactly left left' p live w = exactly ended.Disk left left' p w (λ kept c h. subst (λ (v : Bool). Held ended.Disk v (answered w.put) kept w.ls c) live h)

  pub source_within : (left left' : Option (List ℕ)) (p : Point M D) → Stops (Broken is facts batch) ended.Source entry left limit batch most p left' → TakesAtMost limit left left'
  source_within None left' p w = tt
  source_within (Some input) None p w = absurd w.read
  source_within (Some input) (Some rest) p w = let b = w.size in omega (arith, ap length w.read, length-append w.bytes rest)

  pub too_long_more : (left left' : Option (List ℕ)) (p : Point M D) → Stops (Broken is facts batch) ended.TooLong entry left limit batch most p left' → TakesMore limit left left'
  too_long_more None left' p w = tt
  too_long_more (Some input) None p w = absurd w.read
  too_long_more (Some input) (Some rest) p w = let b = w.size in omega (arith, ap length w.read, length-append w.bytes rest)

  -- after a fault of the sink there is one state
  pub sink_one : (left left' : Option (List ℕ)) (p : Point M D) → Stops (Broken is facts batch) ended.Sink entry left limit batch most p left'
      → ForSome (facts.seen entry.disk) (λ image. KeepsOne ((facts.time p.disk).left_since (facts.time p.disk).moment) (is.kept entry.machine image) left left' entry.taken p.taken)
  sink_one None left' p w = λ image seen. tt
  sink_one (Some input) None p w = absurd w.read
  sink_one (Some input) (Some rest) p w = λ image seen.
      let cut : (more : List Line) × (lines input ≡ w.ls ++ more) = cut_of ended.Sink input rest p w in (
        length w.ls,
        is_answered input rest w.bytes w.ls entry.taken p.taken w.put (length w.ls) w.read w.came w.broken.sink w.broken.fewer (omega arith),
        λ c left. first_of (is.kept entry.machine image) (length w.ls) w.ls cut.0 (lines input) c cut.1 (omega arith)
            ((w.broken.told image seen).held c left ∙ ap (λ v. Is (is.kept entry.machine image v)) (sym (take_all (length w.ls) w.ls (omega arith)))),
      )

  -- the lines that were stepped are first lines of the input
  first_are : (e : Ended) (input rest : List ℕ) (p : Point M D) (w : Stops (Broken is facts batch) e entry (Some input) limit batch most p (Some rest)) → take (length w.ls) (lines input) ≡ w.ls
  first_are e input rest p w =
      let cut : (more : List Line) × (lines input ≡ w.ls ++ more) = cut_of e input rest p w in
      ap (λ v. take (length w.ls) v) cut.1 ∙ take-append_seam w.ls cut.0

  traced : (e : Ended) (result : Status) (input rest : List ℕ) (p : Point M D) (w : Stops (Broken is facts batch) e entry (Some input) limit batch most p (Some rest)) (image : Image) → result ≢ status.Done → status_at e ≡ result
      → (result ≡ status.Source → length w.ls < answered w.put + batch) → (result ≡ status.TooLong → length w.ls < answered w.put + batch)
      → (result ≡ status.Disk → is.Stepped entry.machine image w.ls entry.steps p.steps p.machine ⊎ ((answered w.put < length w.ls) × is.StoppedIn entry.machine image w.ls entry.steps p.steps p.machine))
      → (result ≢ status.Disk → is.Stepped entry.machine image w.ls entry.steps p.steps p.machine)
      → IsTraced is batch result entry.machine image input rest entry.taken p.taken entry.steps p.steps p.machine
  traced e result input rest p w image early at source too_long at_disk after =
      let cut : (more : List Line) × (lines input ≡ w.ls ++ more) = cut_of e input rest p w in
      let are : w.ls ≡ take (length w.ls) (lines input) = sym (first_are e input rest p w) in record {
        stepped = length w.ls;
        count = answered w.put;
        few = omega (arith, ap length cut.1, length-append w.ls cut.0);
        came = (w.came.0, ap (λ v. lines v) (came_are w.bytes rest input w.read) ∙ w.came.1 ∙ ap (λ v. v ++ w.came.0) are);
        ended = ⊎_elim (λ enough cut. ended_first input rest w.bytes w.ls w.read w.came enough are) (λ last cut. absurd (cut_not e result rest last at cut)) w.whole;
        answers = count_is entry.taken p.taken w.put w.broken.sink;
        least = w.broken.fewer;
        most = w.broken.near;
        done = λ h. absurd (early h);
        source = source;
        too_long = too_long;
        at_disk = λ h. subst (λ (v : List Line). is.Stepped entry.machine image v entry.steps p.steps p.machine ⊎ ((answered w.put < length w.ls) × is.StoppedIn entry.machine image v entry.steps p.steps p.machine)) are (at_disk h);
        after = λ h. subst (λ (v : List Line). is.Stepped entry.machine image v entry.steps p.steps p.machine) are (after h);
      }

  pub stops_traces : (e : Ended) (left left' : Option (List ℕ)) (p : Point M D) → Stops (Broken is facts batch) e entry left limit batch most p left'
      → ForSome (facts.seen entry.disk) (λ image. Traces is batch (status_at e) entry.machine image left left' entry.taken p.taken entry.steps p.steps p.machine)
  stops_traces e None left' p w = λ image seen. tt
  stops_traces e (Some input) None p w = absurd w.read
  stops_traces ended.Disk (Some input) (Some rest) p w = λ image seen.
      traced ended.Disk status.Disk input rest p w image (λ h. cc) refl (λ h. absurd (cc)) (λ h. absurd (cc)) (λ h. (w.broken.told image seen).stepped) (λ h. absurd (h refl))
  stops_traces ended.Source (Some input) (Some rest) p w = λ image seen.
      traced ended.Source status.Source input rest p w image (λ h. cc) refl (λ h. w.open_batch) (λ h. absurd (cc)) (λ h. absurd (cc)) (λ h. (w.broken.told image seen).stepped)
  stops_traces ended.Sink (Some input) (Some rest) p w = λ image seen.
      traced ended.Sink status.Sink input rest p w image (λ h. cc) refl (λ h. absurd (cc)) (λ h. absurd (cc)) (λ h. absurd (cc)) (λ h. (w.broken.told image seen).stepped)
  stops_traces ended.TooLong (Some input) (Some rest) p w = λ image seen.
      traced ended.TooLong status.TooLong input rest p w image (λ h. cc) refl (λ h. absurd (cc)) (λ h. w.open_batch) (λ h. absurd (cc)) (λ h. (w.broken.told image seen).stepped)

-- when no reply waits, all that was stepped is answered
all_done : (done waiting ls : List Line) (count : ℕ) → ls ≡ done ++ waiting → count ≡ length waiting → count ≡ 0 → done ≡ ls
all_done front [] ls count split same zero_is = sym (append-nil front) ∙ sym split
all_done front (line ∷ more) ls count split same zero_is = absurd (omega arith)

module _ {M D : Type 0} (is : machines.Ghosts M) (facts : Ghosts D) (entry : Entry M D) (limit batch most : ℕ) where
  -- what holds after a good end
  stood : (ls : List Line) (p : Point M D) (a : Session is facts entry ls p) → p.owed.count ≡ 0 → (image : Image) → facts.seen entry.disk ≡ Some image
      → (x : Image) × (facts.seen p.disk ≡ Some x) × (volume x ≡ Is (is.kept entry.machine image ls)) × (a.put ≡ is.said entry.machine image ls) × Leaves facts entry.disk p.disk (IsPrefix (is.kept entry.machine image) ls)
      × is.Stepped entry.machine image ls entry.steps p.steps p.machine
  stood ls p a none image seen =
      let st : Stands is facts entry image a.done a.waiting a.put p = a.told image seen in
      let done_are : a.done ≡ ls = all_done a.done a.waiting ls p.owed.count a.split a.count none in (
        st.image,
        st.seen,
        st.spelled ∙ ap (λ v. Is (is.kept entry.machine image v)) done_are,
        st.replies ∙ ap (λ v. is.said entry.machine image v) done_are,
        subst (λ (v : List Line). Leaves facts entry.disk p.disk (IsPrefix (is.kept entry.machine image) v)) (sym a.split) st.leaves,
        subst (λ (v : List Line). is.Stepped entry.machine image v entry.steps p.steps p.machine) (sym a.split) st.stepped,
      )

  -- what is said after all lines
  said_behind : (ls : List Line) (p : Point M D) (a : Session is facts entry ls p) → p.owed.count ≡ 0 → p.owed ≡ no_replies → (image : Image) → facts.seen entry.disk ≡ Some image
      → (later : List Line) → (more : List ℕ) × (is.said entry.machine image (ls ++ later) ≡ a.put ++ more)
  said_behind ls p a none empty image seen later =
      let st : Stands is facts entry image a.done a.waiting a.put p = a.told image seen in (
        is.said p.machine st.image later,
        ap (λ v. is.said entry.machine image (v ++ later)) a.split ∙ st.says later
            ∙ ap (λ v. v ++ is.said p.machine st.image later) (ap (λ (v : Waiting). a.put ++ v.text) empty ∙ append-nil a.put),
      )

  at_end_nil : (left' : Option (List ℕ)) (rest : List ℕ) → IsAtEnd left' → left' ≡ Some rest → rest ≡ []
  at_end_nil None rest h e = cc
  at_end_nil (Some xs) rest h e = cc

  -- a good end is one at which the sink had nothing more to take
  pub finishes_stops : (left left' : Option (List ℕ)) (p : Point M D) → Finishes (Session is facts) entry left limit p left' → limit ≤ most → NothingPending facts p.disk → Stops (Broken is facts batch) ended.Sink entry left limit batch most p left'
  finishes_stops left left' p f small only =
      let none : p.owed.count ≡ 0 = ap (λ (v : Waiting). v.count) f.empty in
      let a : Session is facts entry (lines f.bytes) p = f.session in record {
        bytes = f.bytes;
        ls = lines f.bytes;
        read = f.read;
        size = tt;
        bound = let w = f.within in omega arith;
        came = ([], sym (append-nil (lines f.bytes)));
        whole = inr (tt, f.at_end);
        will = λ rest here. ([], ap (λ v. lines (f.bytes ++ v)) (at_end_nil left' rest f.at_end here) ∙ ap (λ v. lines v) (append-nil f.bytes) ∙ sym (append-nil (lines f.bytes)));
        put = a.put;
        broken = record {
          sink = a.sink;
          fewer = let count = a.answers in omega (arith, ap length a.split, length-append a.done a.waiting);
          near = grind (arith, length-append);
          told = λ image seen.
              let st = stood (lines f.bytes) p a none image seen in record {
                replies = said_behind (lines f.bytes) p a none f.empty image seen;
                whole = tt;
                leaves = st.4;
                held = λ c left. left_spells facts p.disk st.0 c (is.kept entry.machine image (lines f.bytes)) only st.1 st.2 left;
                stepped = st.5;
              };
        };
        few = tt;
        open_batch = tt;
      }

  pub finishes_all : (left left' : Option (List ℕ)) (p : Point M D) → Finishes (Session is facts) entry left limit p left'
      → ForSome (facts.seen entry.disk) (λ image. AnswersAll (is.said entry.machine image) left left' entry.taken p.taken)
  finishes_all None left' p f = λ image seen. tt
  finishes_all (Some input) None p f = absurd f.read
  finishes_all (Some input) (Some rest) p f = λ image seen.
      let st = stood (lines f.bytes) p f.session (ap (λ (v : Waiting). v.count) f.empty) image seen in
      let whole : f.bytes ≡ input = sym (f.read ∙ ap (λ v. f.bytes ++ v) f.at_end ∙ append-nil f.bytes) in (
        ap (λ v. Some v) f.at_end,
        subst (λ (v : List ℕ). Appends entry.taken p.taken v) (st.3 ∙ ap (λ v. replies (is.said entry.machine image) v) whole) f.session.sink,
      )

  pub finishes_kept : (left left' : Option (List ℕ)) (p : Point M D) → Finishes (Session is facts) entry left limit p left'
      → ForSome (facts.seen entry.disk) (λ image. IfSome left (λ input. SpellsAfter (is.kept entry.machine image) input (facts.seen p.disk)))
  finishes_kept None left' p f = λ image seen. tt
  finishes_kept (Some input) None p f = absurd f.read
  finishes_kept (Some input) (Some rest) p f = λ image seen.
      let st = stood (lines f.bytes) p f.session (ap (λ (v : Waiting). v.count) f.empty) image seen in
      let whole : f.bytes ≡ input = sym (f.read ∙ ap (λ v. f.bytes ++ v) f.at_end ∙ append-nil f.bytes) in
      told_spells (facts.seen p.disk) st.0 (is.kept entry.machine image) input st.1 (st.2 ∙ ap (λ v. Is (is.kept entry.machine image (lines v))) whole)
    where
      told_spells : (told : Option Image) (x : Image) (kept : List Line → State) (input : List ℕ) → told ≡ Some x → volume x ≡ Is (kept (lines input)) → SpellsAfter kept input told
      told_spells None x kept input same spelled = cc
      told_spells (Some y) x kept input same spelled = let one : y ≡ x = cc in ap volume one ∙ spelled

  pub finishes_within : (left left' : Option (List ℕ)) (p : Point M D) → Finishes (Session is facts) entry left limit p left' → TakesAtMost limit left left'
  finishes_within None left' p f = tt
  finishes_within (Some input) None p f = absurd f.read
  finishes_within (Some input) (Some rest) p f = let w = f.within in omega (arith, ap length f.read, length-append f.bytes rest)

  -- all lines of the input were stepped and answered
  pub finishes_traces : (left left' : Option (List ℕ)) (p : Point M D) → Finishes (Session is facts) entry left limit p left'
      → ForSome (facts.seen entry.disk) (λ image. Traces is batch status.Done entry.machine image left left' entry.taken p.taken entry.steps p.steps p.machine)
  finishes_traces None left' p f = λ image seen. tt
  finishes_traces (Some input) None p f = absurd f.read
  finishes_traces (Some input) (Some rest) p f = λ image seen.
      let a : Session is facts entry (lines f.bytes) p = f.session in
      let none : p.owed.count ≡ 0 = ap (λ (v : Waiting). v.count) f.empty in
      let whole : f.bytes ≡ input = sym (f.read ∙ ap (λ v. f.bytes ++ v) f.at_end ∙ append-nil f.bytes) in
      let are : lines f.bytes ≡ take (length (lines f.bytes)) (lines input) = grind (arith, take_all) in
      let all : answered a.put ≡ length (lines f.bytes) = a.answers ∙ ap length (all_done a.done a.waiting (lines f.bytes) p.owed.count a.split a.count none) in record {
        stepped = length (lines f.bytes);
        count = answered a.put;
        few = omega (arith, ap (λ v. length (lines v)) whole);
        came = ([], ap (λ v. lines v) (came_are f.bytes rest input f.read) ∙ sym (append-nil (lines f.bytes)) ∙ ap (λ v. v ++ []) are);
        ended = λ cut. absurd (⊎_elim (λ left. left f.at_end) (λ fault. ⊎_elim (λ h. cc) (λ h. cc) fault) cut);
        answers = count_is entry.taken p.taken a.put a.sink;
        least = omega arith;
        most = omega arith;
        done = λ h. (ap (λ v. length (lines v)) whole, all);
        source = λ h. absurd (cc);
        too_long = λ h. absurd (cc);
        at_disk = λ h. absurd (cc);
        after = λ h. subst (λ (v : List Line). is.Stepped entry.machine image v entry.steps p.steps p.machine) are (stood (lines f.bytes) p a none image seen).5;
      }
