-- What the calls of the kernel do to a generated run.
use Rattle.mg_commands.specs.{GeneratedLemmas.{length-replies, length-run, replies-more, run-more}, Headline.{replies_from, generated_lines}}
use Rattle.{mg_disk.specs.{Disk.Image, Stops.WritesNothing, declared.disk.Disk.Ghosts}, mg_gen.specs.Asked.{LinesAreCalls, line_asked}}
use Rattle.{mg_gen.specs.Tallies.tally_of, mg_kernel.specs.{Meaning.{keeps_key, now_of, seats_in}, Opening.Holds, SteppingLemmas.GoesOn}}
use Rattle.{mg_kernel.specs.{SteppingLemmas.{spent-line, warm-more, warm-same}, declared.kernel.Kernel.Kernel}, mg_laws.specs.Costs.BeginsWarm}
use Rattle.mg_model.specs.{Events.events, Kept.{KeepsLine, KeepsWarm}, Refused.Answer, State.State, Step.{after, step}, declared.calls.Line.Line}
use Rattle.{mg_model.specs.declared.replies.Reply.Reply, mg_session.{proofs.Texts.after-append, specs.Generating.{At, Counted, Counts}}}
use Rattle.std.{proofs.Common.{refl, sym, ap, ◌∙◌, arith, subst}, specs.{Option.ForSome, Prelude.{ℕ, ◌≡◌, ◌≤◌, ◌<◌, ◌+◌, ◌-◌, ◌^◌, List, [], ◌∷◌}}}
use Rattle.std.specs.Prelude.{◌++◌, length}

module _ {D : Type 0} (facts : Ghosts D) where
  -- no line was stepped yet
  pub Counted-none : BeginsWarm KeepsWarm → (k : Kernel) (d : D) (n : ℕ) (counts : List ℕ) → counts ≡ tally_of []
      → ForSome (facts.seen d) (λ image. Counted facts n (now_of k image) [] (record { kernel = k; disk = d; counts = counts; steps = n }))
  Counted-none begins k d n counts none = λ image is. record {
    image = image;
    is = is;
    now = refl;
    counts = none;
    warm = begins (λ key. keeps_key k key);
    spent = omega arith;
  }

  -- a line is stepped, and its reply counted
  pub Counted-line : GoesOn → (k k' : Kernel) (d d' : D) (counts counts' : List ℕ) (n n' : ℕ) (line : Line) (reply : Reply)
      → ForSome (facts.seen d) (λ image. step (now_of k image) line ≡ (now_of k' image, reply))
      → ForSome (facts.seen d) (λ image. KeepsLine (now_of k image) line (λ key. keeps_key k key) (λ key. keeps_key k' key) n n')
      → WritesNothing facts d d'
      → ((replies : List Reply) → counts ≡ tally_of replies → length replies < 2 ^ 64 - 1 → counts' ≡ tally_of (replies ++ reply ∷ []))
      → Counts facts (record { kernel = k; disk = d; counts = counts; steps = n }) line (record { kernel = k'; disk = d'; counts = counts'; steps = n' })
  Counted-line laws k k' d d' counts counts' n n' line reply answers keeps writes counted first s sofar few a =
      let answer : step (after s sofar) line ≡ (now_of k' a.image, reply) = ap (λ v. step v line) (sym a.now) ∙ answers a.image a.is in
      let short : length (replies_from s sofar) < 2 ^ 64 - 1 = subst (λ (v : ℕ). v < 2 ^ 64 - 1) (sym (length-replies s sofar)) few in record {
        image = a.image;
        is = writes.same ∙ a.is;
        now = ap (λ (v : Answer). v.0) (sym answer) ∙ sym (after-append s sofar (line ∷ []));
        counts = counted (replies_from s sofar) a.counts short ∙ ap (λ (v : Answer). tally_of (replies_from s sofar ++ v.1 ∷ [])) (sym answer) ∙ ap (λ v. tally_of v) (sym (replies-more s sofar line));
        warm = warm-more laws s (now_of k a.image) sofar line (λ key. keeps_key k key) (λ key. keeps_key k' key) n n' a.warm a.now (keeps a.image a.is);
        spent = spent-line laws s (now_of k a.image) sofar line (λ key. keeps_key k key) first n n' a.warm a.now a.spent (keeps a.image a.is).most;
      }

  -- what is staged is committed
  pub Counted-commit : (k k' : Kernel) (d d' : D) (counts : List ℕ) (n first : ℕ) (s : State) (ls : List Line) → ForSome (facts.seen d) (λ image. Holds (now_of k image) k' (facts.seen d')) → seats_in k' ≡ seats_in k
      → Counted facts first s ls (record { kernel = k; disk = d; counts = counts; steps = n }) → Counted facts first s ls (record { kernel = k'; disk = d'; counts = counts; steps = n })
  Counted-commit k k' d d' counts n first s ls holds seats a =
      let h : Holds (now_of k a.image) k' (facts.seen d') = holds a.image a.is in record {
        image = h.image;
        is = h.is;
        now = h.now ∙ a.now;
        counts = a.counts;
        warm = warm-same (events [] s ls) k k' seats a.warm;
        spent = a.spent;
      }

  -- a line more of a run
  pub Counted-more : LinesAreCalls → (seen : Image → State) (told : (image : Image) → Type 0) (number at first : ℕ) (p q : At D) → at ≤ 1000000 → Counts facts p (line_asked number at) q
      → ((image : Image) → told image → Counted facts first (seen image) (generated_lines number at) p) → (image : Image) → told image → Counted facts first (seen image) (generated_lines number (at + 1)) q
  Counted-more are seen told number at first p q few goes before image is =
      subst (λ (v : List Line). Counted facts first (seen image) v q) (sym (run-more are number at))
      (goes first (seen image) (generated_lines number at) (omega (arith, length-run are number at)) (before image is))
