-- What the calls of a machine, of the sink and of the replies that wait do to a session.
use Rattle.mg_disk.specs.{Disk.Image, Runs.{leaves_quiet, leaves_then, leaves_wider}, Stops.{Leaves, NothingPending, WritesNothing}}
use Rattle.{mg_disk.specs.declared.disk.Disk.Ghosts, mg_io.specs.Known.{Appends-none, Appends-then, AppendsPrefix}, mg_model.specs.Print.answered}
use Rattle.mg_model.specs.{Print.reply_line, State.State, Volume.{Is, volume}, declared.{calls.Line.Line, replies.Reply.Reply}}
use Rattle.mg_serve.{proofs.Answered.{answered-append, reply_answers}, specs.{Machines.{AnswersLine, Commits, Entry, Point}, Parts.IsPrefix}}
use Rattle.mg_serve.specs.{Serving.{Broken, Held, IsAfter, IsBetween, PutsWhole, Session, Stands}, Waiting.{Waiting, no_replies}}
use Rattle.{mg_serve.specs.declared.ended.Ended.Ended, std.proofs.Common.{refl, sym, ap, ◌∙◌, append_assoc, append-nil, arith, inl, inr}}
use Rattle.std.proofs.{Common.{length-append, subst}, Math.Seq.take-append_seam, lemmas.List.{take_all, take-append-le}}
use Rattle.std.specs.{Io.KnownBytes.Appends, Option.ForSome, Prelude.{ℕ, ◌≡◌, ◌<◌, ◌≤◌, ◌+◌, ◌⊎◌, Bool, false, true, List, [], ◌∷◌, ◌++◌, length}}
use Rattle.std.specs.Prelude.{take, Option, Some}
use Rattle.mg_serve.specs.declared.ended.Ended.TheVariants as ended
use Rattle.mg_serve.specs.declared.machine.Machine as machines

some_image : (a b : Image) → Some a ≡ Some b → b ≡ a
some_image a b is = cc

-- the first lines of some are first lines of more
pub prefix_longer : (kept : List Line → State) (ls more : List Line) (c : Image) → IsPrefix kept ls c → IsPrefix kept (ls ++ more) c
prefix_longer kept ls more c (k, few, spelled) = (
  k,
  omega (arith, length-append ls more),
  spelled ∙ ap (λ v. Is (kept v)) (sym (take-append-le k ls more few)),
)

pub no_lines : (kept : List Line → State) (ls : List Line) (c : Image) → volume c ≡ Is (kept []) → IsPrefix kept ls c
no_lines kept ls c is = (0, omega arith, is)

-- the first ones of two lists of lines, if as many are answered
first_lines : (n : ℕ) (done waiting ls : List Line) → ls ≡ done ++ waiting → n ≡ length done → take n ls ≡ done
first_lines n done waiting ls split count = ap (λ v. take v ls) count ∙ ap (λ v. take (length done) v) split ∙ take-append_seam done waiting

-- what a commit may leave is the state after the lines that were kept, or after all
commit_leaves : (kept : List Line → State) (done waiting : List Line) (x c : Image) (now : State) → volume x ≡ Is (kept done) → kept (done ++ waiting) ≡ now
    → (volume c ≡ volume x) ⊎ (volume c ≡ Is now) → IsBetween (length done) kept (done ++ waiting) c
commit_leaves kept done waiting x c now spelled is left = grind (arith, length-append, take-append_seam, take_all)

-- when the answered lines are kept and no others, a fault of the disk leaves them so
held_yet : (alive : Bool) (low : ℕ) (kept : List Line → State) (ls : List Line) (c : Image) → low ≤ length ls → volume c ≡ Is (kept (take low ls)) → Held ended.Disk alive low kept ls c
held_yet false low kept ls c few is = (low, omega arith, few, is)
held_yet true low kept ls c few is = is

between_prefix : (low : ℕ) (kept : List Line → State) (ls : List Line) (c : Image) → IsBetween low kept ls c → IsPrefix kept ls c
between_prefix low kept ls c (k, least, few, spelled) = (k, few, spelled)

-- one line more after others, and then more
line_then : (done waiting : List Line) (line : Line) (more : List Line) → (done ++ (waiting ++ line ∷ [])) ++ more ≡ (done ++ waiting) ++ (line ∷ more)
line_then done waiting line more = ap (λ v. v ++ more) (sym (append_assoc done waiting (line ∷ []))) ∙ append_assoc (done ++ waiting) (line ∷ []) more

module _ {D : Type 0} (facts : Ghosts D) where
  -- an image that may be left if nothing is pending is what reads give
  pub left_spells : (d : D) (image c : Image) (s : State) → NothingPending facts d → facts.seen d ≡ Some image → volume image ≡ Is s → (facts.time d).left_since (facts.time d).moment c → volume c ≡ Is s
  left_spells d image c s only seen spelled left = ap volume (some_image image c (sym seen ∙ only c left)) ∙ spelled

module _ {M D : Type 0} (is : machines.Ghosts M) (facts : Ghosts D) where
  pub Session-begins : (m : M) (d : D) (t : Option (List ℕ)) (n : ℕ) (o : Waiting) → NothingPending facts d → (facts.time d).has_been (facts.time d).moment
      → ForSome (facts.seen d) (λ image. volume image ≡ Is (is.kept m image [])) → ((image : Image) → is.said m image [] ≡ []) → ((image : Image) (n : ℕ) → is.Stepped m image [] n n m) → o ≡ no_replies
      → Session is facts (record { machine = m; disk = d; taken = t; steps = n }) [] (record { machine = m; disk = d; owed = o; taken = t; steps = n })
  Session-begins m d t n o only been spelled none begins empty = record {
    done = [];
    waiting = [];
    put = [];
    split = refl;
    sink = Appends-none t;
    answers = refl;
    owes = ap (λ (v : Waiting). answered v.text) empty;
    count = ap (λ (v : Waiting). v.count) empty;
    told = λ image seen. grind (arith, no_lines, left_spells);
  }

  -- what a machine keeps now is what its lines keep
  now_of : (entry : Entry M D) (first : Image) (done waiting : List Line) (put : List ℕ) (p : Point M D) (st : Stands is facts entry first done waiting put p) → is.kept entry.machine first (done ++ waiting) ≡ is.kept p.machine st.image []
  now_of entry first done waiting put p st = ap (λ v. is.kept entry.machine first v) (sym (append-nil (done ++ waiting))) ∙ st.keeps []

  -- a line is stepped, and its reply waits
  pub Session-line : (entry : Entry M D) (ls : List Line) (m m' : M) (d d' : D) (o o' : Waiting) (t : Option (List ℕ)) (n n' : ℕ) (line : Line) (reply : Reply)
      → Session is facts entry ls (record { machine = m; disk = d; owed = o; taken = t; steps = n })
      → ForSome (facts.seen d) (λ image. AnswersLine (is.said m image) (is.kept m image) (is.said m' image) (is.kept m' image) line reply)
      → ForSome (facts.seen d) (λ image. (first : M) (start : Image) (before : List Line) (n0 : ℕ) → is.kept first start before ≡ is.kept m image [] → is.Stepped first start before n0 n m
      → is.Stepped first start (before ++ line ∷ []) n0 n' m')
      → WritesNothing facts d d' → o' ≡ record { text = o.text ++ reply_line reply; count = o.count + 1 }
      → Session is facts entry (ls ++ line ∷ []) (record { machine = m'; disk = d'; owed = o'; taken = t; steps = n' })
  Session-line entry ls m m' d d' o o' t n n' line reply a answers stepped writes added = record {
    done = a.done;
    waiting = a.waiting ++ line ∷ [];
    put = a.put;
    split = ap (λ v. v ++ line ∷ []) a.split ∙ append_assoc a.done a.waiting (line ∷ []);
    sink = a.sink;
    answers = a.answers;
    owes = grind (arith, answered-append, reply_answers, length-append);
    count = grind (arith, length-append);
    told = λ first told.
        let st : Stands is facts entry first a.done a.waiting a.put (record { machine = m; disk = d; owed = o; taken = t; steps = n }) = a.told first told in
        let s : AnswersLine (is.said m st.image) (is.kept m st.image) (is.said m' st.image) (is.kept m' st.image) line reply = answers st.image st.seen in
        let on : (more : List Line) → is.said entry.machine first ((a.done ++ (a.waiting ++ line ∷ [])) ++ more) ≡ (a.put ++ o'.text) ++ is.said m' st.image more = λ more.
        ap (λ v. is.said entry.machine first v) (line_then a.done a.waiting line more) ∙ st.says (line ∷ more) ∙ ap (λ v. (a.put ++ o.text) ++ v) (s.says more)
        ∙ sym (append_assoc (a.put ++ o.text) (reply_line reply) (is.said m' st.image more))
        ∙ ap (λ v. v ++ is.said m' st.image more) (append_assoc a.put o.text (reply_line reply))
        ∙ ap (λ (v : Waiting). (a.put ++ v.text) ++ is.said m' st.image more) (sym added) in record {
          image = st.image;
          seen = writes.same ∙ st.seen;
          spelled = st.spelled;
          says = on;
          keeps = λ more. ap (λ v. is.kept entry.machine first v) (line_then a.done a.waiting line more) ∙ st.keeps (line ∷ more) ∙ s.keeps more;
          replies = st.replies;
          owed = sym (append-nil (a.put ++ o'.text)) ∙ ap (λ v. (a.put ++ o'.text) ++ v) (sym s.none) ∙ sym (on []) ∙ ap (λ v. is.said entry.machine first v) (append-nil (a.done ++ (a.waiting ++ line ∷ [])));
          leaves = leaves_quiet facts entry.disk d d' (IsPrefix (is.kept entry.machine first) (a.done ++ (a.waiting ++ line ∷ [])))
              (leaves_wider facts entry.disk d (IsPrefix (is.kept entry.machine first) (a.done ++ a.waiting)) (IsPrefix (is.kept entry.machine first) (a.done ++ (a.waiting ++ line ∷ []))) st.leaves
              (λ c f. subst (λ (v : List Line). IsPrefix (is.kept entry.machine first) v c) (append_assoc a.done a.waiting (line ∷ [])) (prefix_longer (is.kept entry.machine first) (a.done ++ a.waiting) (line ∷ []) c f)))
              writes.stops;
          stepped = subst (λ (v : List Line). is.Stepped entry.machine first v entry.steps n' m') (append_assoc a.done a.waiting (line ∷ []))
              (stepped st.image st.seen entry.machine first (a.done ++ a.waiting) entry.steps (now_of entry first a.done a.waiting a.put (record { machine = m; disk = d; owed = o; taken = t; steps = n }) st) st.stepped);
        };
  }

  -- what a commit leaves since the session began
  committed : (entry : Entry M D) (first : Image) (done waiting : List Line) (put : List ℕ) (m : M) (d d' : D) (o : Waiting) (t : Option (List ℕ)) (n : ℕ)
      → Stands is facts entry first done waiting put (record { machine = m; disk = d; owed = o; taken = t; steps = n })
      → ForSome (facts.seen d) (λ image. Leaves facts d d' (λ c. (volume c ≡ volume image) ⊎ (volume c ≡ Is (is.kept m image [])))) → Leaves facts entry.disk d' (IsPrefix (is.kept entry.machine first) (done ++ waiting))
  committed entry first done waiting put m d d' o t n st leaves =
      leaves_then facts entry.disk d d' (λ c. (volume c ≡ volume st.image) ⊎ (volume c ≡ Is (is.kept m st.image []))) (IsPrefix (is.kept entry.machine first) (done ++ waiting)) st.leaves (leaves st.image st.seen)
      (λ c left. between_prefix (length done) (is.kept entry.machine first) (done ++ waiting) c
      (commit_leaves (is.kept entry.machine first) done waiting st.image c (is.kept m st.image []) st.spelled (now_of entry first done waiting put (record { machine = m; disk = d; owed = o; taken = t; steps = n }) st) left))

  -- the batch was committed, and all its replies were sent
  pub Session-closes : (entry : Entry M D) (ls : List Line) (m m' : M) (d d' : D) (o o' : Waiting) (t t' : Option (List ℕ)) (n : ℕ)
      → Session is facts entry ls (record { machine = m; disk = d; owed = o; taken = t; steps = n })
      → ForSome (facts.seen d) (λ image. Leaves facts d d' (λ c. (volume c ≡ volume image) ⊎ (volume c ≡ Is (is.kept m image []))))
      → ForSome (facts.seen d) (λ image. Commits (is.said m image) (is.kept m image) (is.said m') (is.kept m') (facts.seen d'))
      → ((first : M) (start : Image) (before : List Line) (n0 n1 : ℕ) → is.Stepped first start before n0 n1 m → is.Stepped first start before n0 n1 m') → Appends t t' o.text → o' ≡ no_replies
      → Session is facts entry ls (record { machine = m'; disk = d'; owed = o'; taken = t'; steps = n })
  Session-closes entry ls m m' d d' o o' t t' n a leaves commits same put empty = record {
    done = a.done ++ a.waiting;
    waiting = [];
    put = a.put ++ o.text;
    split = a.split ∙ sym (append-nil (a.done ++ a.waiting));
    sink = Appends-then entry.taken t t' a.put o.text a.sink put;
    answers = grind (arith, answered-append, length-append);
    owes = ap (λ (v : Waiting). answered v.text) empty;
    count = ap (λ (v : Waiting). v.count) empty;
    told = λ first told.
        let st : Stands is facts entry first a.done a.waiting a.put (record { machine = m; disk = d; owed = o; taken = t; steps = n }) = a.told first told in
        let h : Commits (is.said m st.image) (is.kept m st.image) (is.said m') (is.kept m') (facts.seen d') = commits st.image st.seen in
        let bare : a.put ++ o.text ≡ (a.put ++ o.text) ++ o'.text = sym (ap (λ (v : Waiting). (a.put ++ o.text) ++ v.text) empty ∙ append-nil (a.put ++ o.text)) in record {
          image = h.image;
          seen = h.seen;
          spelled = h.spelled ∙ ap (λ v. Is v) (sym (now_of entry first a.done a.waiting a.put (record { machine = m; disk = d; owed = o; taken = t; steps = n }) st));
          says = λ more. grind (arith, append-nil);
          keeps = λ more. ap (λ v. is.kept entry.machine first (v ++ more)) (append-nil (a.done ++ a.waiting)) ∙ st.keeps more ∙ sym (h.keeps more);
          replies = st.owed;
          owed = sym bare ∙ st.owed ∙ ap (λ v. is.said entry.machine first v) (sym (append-nil (a.done ++ a.waiting)));
          leaves = subst (λ (v : List Line). Leaves facts entry.disk d' (IsPrefix (is.kept entry.machine first) v)) (sym (append-nil (a.done ++ a.waiting)))
              (committed entry first a.done a.waiting a.put m d d' o t n st leaves);
          stepped = subst (λ (v : List Line). is.Stepped entry.machine first v entry.steps n m') (sym (append-nil (a.done ++ a.waiting))) (same entry.machine first (a.done ++ a.waiting) entry.steps n st.stepped);
        };
  }

  -- what is said after the lines that were stepped
  said_on : (entry : Entry M D) (first : Image) (ls done waiting : List Line) (put : List ℕ) (p : Point M D) (st : Stands is facts entry first done waiting put p) → ls ≡ done ++ waiting
      → (later : List Line) → is.said entry.machine first (ls ++ later) ≡ put ++ (p.owed.text ++ is.said p.machine st.image later)
  said_on entry first ls done waiting put p st split later = grind (arith, append_assoc)

  -- the replies that were sent are those to the answered lines
  whole_put : (entry : Entry M D) (first : Image) (ls done waiting : List Line) (put : List ℕ) → put ≡ is.said entry.machine first done → ls ≡ done ++ waiting → answered put ≡ length done
      → put ≡ is.said entry.machine first (take (answered put) ls)
  whole_put entry first ls done waiting put replies split count = replies ∙ ap (λ v. is.said entry.machine first v) (sym (first_lines (answered put) done waiting ls split count))

  -- a step failed
  pub Broken-step : (batch : ℕ) (entry : Entry M D) (ls : List Line) (m m' : M) (d d' : D) (o o' : Waiting) (t : Option (List ℕ)) (n n' : ℕ) (line : Line) → o.count < batch
      → Session is facts entry ls (record { machine = m; disk = d; owed = o; taken = t; steps = n })
      → ForSome (facts.seen d) (λ image. (first : M) (start : Image) (before : List Line) (n0 : ℕ) → is.kept first start before ≡ is.kept m image [] → is.Stepped first start before n0 n m
      → is.StoppedIn first start (before ++ line ∷ []) n0 n' m')
      → WritesNothing facts d d' → NothingPending facts d'
      → (put : List ℕ) × Broken is facts batch ended.Disk entry (ls ++ line ∷ []) put (record { machine = m'; disk = d'; owed = o'; taken = t; steps = n' })
  Broken-step batch entry ls m m' d d' o o' t n n' line room a stopped writes only =
      let split : ls ++ line ∷ [] ≡ a.done ++ (a.waiting ++ line ∷ []) = ap (λ v. v ++ line ∷ []) a.split ∙ append_assoc a.done a.waiting (line ∷ []) in
      let first_are : take (answered a.put) (ls ++ line ∷ []) ≡ a.done = first_lines (answered a.put) a.done (a.waiting ++ line ∷ []) (ls ++ line ∷ []) split a.answers in
      let few : answered a.put ≤ length (ls ++ line ∷ []) = let count = a.answers in omega (arith, ap length split, length-append a.done (a.waiting ++ line ∷ [])) in (
        a.put,
        record {
          sink = a.sink;
          fewer = few;
          near = grind (arith, length-append);
          told = λ first told.
              let st : Stands is facts entry first a.done a.waiting a.put (record { machine = m; disk = d; owed = o; taken = t; steps = n }) = a.told first told in record {
                replies = λ later. (
                  o.text ++ is.said m st.image (line ∷ later),
                  ap (λ v. is.said entry.machine first v) (append_assoc ls (line ∷ []) later)
                      ∙ said_on entry first ls a.done a.waiting a.put (record { machine = m; disk = d; owed = o; taken = t; steps = n }) st a.split (line ∷ later),
                );
                whole = whole_put entry first (ls ++ line ∷ []) a.done (a.waiting ++ line ∷ []) a.put st.replies split a.answers;
                leaves = grind (arith, prefix_longer);
                held = λ c left. grind (arith, held_yet, left_spells);
                stepped = inr (
                  (let count = a.answers in omega (arith, ap length split, length-append a.done (a.waiting ++ line ∷ []), length-append a.waiting (line ∷ []))),
                  subst (λ (v : List Line). is.StoppedIn entry.machine first (v ++ line ∷ []) entry.steps n' m') (sym a.split)
                      (stopped st.image st.seen entry.machine first (a.done ++ a.waiting) entry.steps (now_of entry first a.done a.waiting a.put (record { machine = m; disk = d; owed = o; taken = t; steps = n }) st) st.stepped),
                );
              };
        },
      )

  -- a commit failed
  pub Broken-commit : (batch : ℕ) (entry : Entry M D) (ls : List Line) (m m' : M) (d d' : D) (o o' : Waiting) (t : Option (List ℕ)) (n : ℕ) → o.count ≤ batch
      → Session is facts entry ls (record { machine = m; disk = d; owed = o; taken = t; steps = n })
      → ForSome (facts.seen d) (λ image. Leaves facts d d' (λ c. (volume c ≡ volume image) ⊎ (volume c ≡ Is (is.kept m image []))))
      → ((first : M) (start : Image) (before : List Line) (n0 n1 : ℕ) → is.Stepped first start before n0 n1 m → is.Stepped first start before n0 n1 m')
      → NothingPending facts d → is.is_live m' ≡ false → (put : List ℕ) × Broken is facts batch ended.Disk entry ls put (record { machine = m'; disk = d'; owed = o'; taken = t; steps = n })
  Broken-commit batch entry ls m m' d d' o o' t n room a leaves same only dead =
      let few : answered a.put ≤ length ls = let count = a.answers in omega (arith, ap length a.split, length-append a.done a.waiting) in (
        a.put,
        record {
          sink = a.sink;
          fewer = few;
          near = grind (arith, length-append);
          told = λ first told.
              let st : Stands is facts entry first a.done a.waiting a.put (record { machine = m; disk = d; owed = o; taken = t; steps = n }) = a.told first told in
              let among : (c : Image) → (volume c ≡ volume st.image) ⊎ (volume c ≡ Is (is.kept m st.image [])) → IsBetween (answered a.put) (is.kept entry.machine first) ls c = λ c left.
              subst (λ (v : List Line). IsBetween (answered a.put) (is.kept entry.machine first) v c) (sym a.split)
              (subst (λ (v : ℕ). IsBetween v (is.kept entry.machine first) (a.done ++ a.waiting) c) (sym a.answers)
              (commit_leaves (is.kept entry.machine first) a.done a.waiting st.image c (is.kept m st.image []) st.spelled (now_of entry first a.done a.waiting a.put (record { machine = m; disk = d; owed = o; taken = t; steps = n }) st) left)) in record {
                replies = λ later. (
                  o.text ++ is.said m st.image later,
                  said_on entry first ls a.done a.waiting a.put (record { machine = m; disk = d; owed = o; taken = t; steps = n }) st a.split later,
                );
                whole = whole_put entry first ls a.done a.waiting a.put st.replies a.split a.answers;
                leaves = grind (arith, committed);
                held = λ c left. grind (arith, some_image);
                stepped = inl (subst (λ (v : List Line). is.Stepped entry.machine first v entry.steps n m') (sym a.split) (same entry.machine first (a.done ++ a.waiting) entry.steps n st.stepped));
              };
        },
      )

  -- the batch was committed, and the sink failed
  pub Broken-put : (batch : ℕ) (entry : Entry M D) (ls : List Line) (m m' : M) (d d' : D) (o o' : Waiting) (t t' : Option (List ℕ)) (n : ℕ) → o.count ≤ batch
      → Session is facts entry ls (record { machine = m; disk = d; owed = o; taken = t; steps = n })
      → ForSome (facts.seen d) (λ image. Leaves facts d d' (λ c. (volume c ≡ volume image) ⊎ (volume c ≡ Is (is.kept m image []))))
      → ForSome (facts.seen d) (λ image. Commits (is.said m image) (is.kept m image) (is.said m') (is.kept m') (facts.seen d'))
      → ((first : M) (start : Image) (before : List Line) (n0 n1 : ℕ) → is.Stepped first start before n0 n1 m → is.Stepped first start before n0 n1 m')
      → NothingPending facts d' → AppendsPrefix t t' o.text → (put : List ℕ) × Broken is facts batch ended.Sink entry ls put (record { machine = m'; disk = d'; owed = o'; taken = t'; steps = n })
  Broken-put batch entry ls m m' d d' o o' t t' n room a leaves commits same only (part, more, parts, put) = (
    a.put ++ part,
    record {
      sink = Appends-then entry.taken t t' a.put part a.sink put;
      fewer = grind (arith, answered-append, length-append);
      near = grind (arith, answered-append, length-append);
      told = λ first told.
          let st : Stands is facts entry first a.done a.waiting a.put (record { machine = m; disk = d; owed = o; taken = t; steps = n }) = a.told first told in
          let h : Commits (is.said m st.image) (is.kept m st.image) (is.said m') (is.kept m') (facts.seen d') = commits st.image st.seen in record {
            replies = λ later. (
              more ++ is.said m st.image later,
              said_on entry first ls a.done a.waiting a.put (record { machine = m; disk = d; owed = o; taken = t; steps = n }) st a.split later
                  ∙ ap (λ v. a.put ++ (v ++ is.said m st.image later)) (sym parts) ∙ ap (λ v. a.put ++ v) (append_assoc part more (is.said m st.image later))
                  ∙ sym (append_assoc a.put part (more ++ is.said m st.image later)),
            );
            whole = tt;
            leaves = subst (λ (v : List Line). Leaves facts entry.disk d' (IsPrefix (is.kept entry.machine first) v)) (sym a.split)
                (committed entry first a.done a.waiting a.put m d d' o t n st leaves);
            held = λ c left. left_spells facts d' h.image c (is.kept m st.image []) only h.seen h.spelled left
                ∙ ap (λ v. Is v) (sym (now_of entry first a.done a.waiting a.put (record { machine = m; disk = d; owed = o; taken = t; steps = n }) st)) ∙ ap (λ v. Is (is.kept entry.machine first v)) (sym a.split);
            stepped = subst (λ (v : List Line). is.Stepped entry.machine first v entry.steps n m') (sym a.split) (same entry.machine first (a.done ++ a.waiting) entry.steps n st.stepped);
          };
    },
  )

  -- what is held if an open batch is left as it is
  open_held : (entry : Entry M D) (first : Image) (ls done waiting : List Line) (put : List ℕ) (p : Point M D) (c : Image) → Stands is facts entry first done waiting put p → ls ≡ done ++ waiting
      → answered put ≡ length done → NothingPending facts p.disk → (facts.time p.disk).left_since (facts.time p.disk).moment c → volume c ≡ Is (is.kept entry.machine first (take (answered put) ls))
  open_held entry first ls done waiting put p c st split answers only left = grind (arith, left_spells, first_lines)

  -- the input ended the session, and the open batch is left as it is
  Broken-open : (e : Ended) (batch : ℕ) → ((n : ℕ) (kept : List Line → State) (alive : Bool) (ls : List Line) (c : Image) → volume c ≡ Is (kept (take n ls)) → Held e alive n kept ls c)
      → ((said : List Line → List ℕ) (ls : List Line) (put : List ℕ) → put ≡ said (take (answered put) ls) → PutsWhole e said ls put)
      → ((count : ℕ) (old : M) (first : Image) (ls : List Line) (n n' : ℕ) (new : M) → is.Stepped old first ls n n' new → IsAfter is e count old first ls n n' new)
      → (entry : Entry M D) (ls : List Line) (p : Point M D) → Session is facts entry ls p → NothingPending facts p.disk → p.owed.count < batch
      → (put : List ℕ) × Broken is facts batch e entry ls put p × (length ls < answered put + batch)
  Broken-open e batch held whole after entry ls p a only small = (
    a.put,
    record {
      sink = a.sink;
      fewer = let count = a.answers in omega (arith, ap length a.split, length-append a.done a.waiting);
      near = grind (arith, length-append);
      told = λ first told.
          let st : Stands is facts entry first a.done a.waiting a.put p = a.told first told in record {
            replies = λ later. (p.owed.text ++ is.said p.machine st.image later, said_on entry first ls a.done a.waiting a.put p st a.split later);
            whole = whole (is.said entry.machine first) ls a.put (whole_put entry first ls a.done a.waiting a.put st.replies a.split a.answers);
            leaves = subst (λ (v : List Line). Leaves facts entry.disk p.disk (IsPrefix (is.kept entry.machine first) v)) (sym a.split) st.leaves;
            held = λ c left. held (answered a.put) (is.kept entry.machine first) (is.is_live p.machine) ls c (open_held entry first ls a.done a.waiting a.put p c st a.split a.answers only left);
            stepped = after (answered a.put) entry.machine first ls entry.steps p.steps p.machine (subst (λ (v : List Line). is.Stepped entry.machine first v entry.steps p.steps p.machine) (sym a.split) st.stepped);
          };
    },
    (let count = a.count in let answers = a.answers in omega (arith, ap length a.split, length-append a.done a.waiting)),
  )

  pub Broken-source : (batch : ℕ) (entry : Entry M D) (ls : List Line) (p : Point M D) → NothingPending facts p.disk → p.owed.count < batch → Session is facts entry ls p
      → (put : List ℕ) × Broken is facts batch ended.Source entry ls put p × (length ls < answered put + batch)
  Broken-source batch entry ls p only small a = Broken-open ended.Source batch (λ n kept alive ls c h. h) (λ said ls put h. h) (λ count old first ls n n' new h. h) entry ls p a only small

  pub Broken-too_long : (batch : ℕ) (entry : Entry M D) (ls : List Line) (p : Point M D) → NothingPending facts p.disk → p.owed.count < batch → Session is facts entry ls p
      → (put : List ℕ) × Broken is facts batch ended.TooLong entry ls put p × (length ls < answered put + batch)
  Broken-too_long batch entry ls p only small a = Broken-open ended.TooLong batch (λ n kept alive ls c h. h) (λ said ls put h. h) (λ count old first ls n n' new h. h) entry ls p a only small
