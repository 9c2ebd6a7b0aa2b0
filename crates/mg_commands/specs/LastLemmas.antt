-- What follows of how lines ended, and of the lines after their replies.
use Rattle.std.proofs.Common.{refl, sym, ap, subst, ◌∙◌, inl, inr, ⊎_elim, append_assoc, append-nil}
use Rattle.std.specs.{Io.KnownBytes.Appends, Prelude.{ℕ, ◌≡◌, ◌≢◌, ◌⊎◌, List, [], ◌++◌, Option, Some, None, IfSome}}
use Rattle.{mg_commands.specs.Headline.{EndsRun, PrintsLast}, mg_faults.specs.Faults.{CountGoesOn, Rose, then_rose}}
use Rattle.mg_io.specs.Known.{Appends-then, AppendsPrefix, AppendsPrefix-longer}
use Rattle.{mg_model.specs.declared.calls.Line.Line, mg_serve.specs.{Parts.replies, Sessions.{Answers, IsDoneOrMemory}}}
use Rattle.mg_serve.specs.{Sessions.{SourceUse, left_at, left_now, use_of}, declared.status.Status.Status}
use Rattle.mg_io.specs.declared.traits.Sink as sinks
use Rattle.mg_serve.specs.declared.status.Status.TheVariants as status

if_some_then : {T : Type 0} (o : Option T) (P Q : T → Type 0) → ((x : T) → P x → Q x) → IfSome o P → IfSome o Q
if_some_then None P Q then h = h
if_some_then (Some x) P Q then h = then x h

if_some_both : {T : Type 0} (o : Option T) (P Q R : T → Type 0) → ((x : T) → P x → Q x → R x) → IfSome o P → IfSome o Q → IfSome o R
if_some_both None P Q R then p q = p
if_some_both (Some x) P Q R then p q = then x p q

is_done_or_not : (ran : Status) → (ran ≡ status.Done) ⊎ (ran ≢ status.Done)
is_done_or_not status.Done = inl refl
is_done_or_not status.Usage = inr (λ is. cc)
is_done_or_not status.NoVolume = inr (λ is. cc)
is_done_or_not status.Memory = inr (λ is. cc)
is_done_or_not status.Disk = inr (λ is. cc)
is_done_or_not status.Source = inr (λ is. cc)
is_done_or_not status.Sink = inr (λ is. cc)
is_done_or_not status.TooLong = inr (λ is. cc)
is_done_or_not status.TooSmall = inr (λ is. cc)

done_is_no_sink : (result : Status) → result ≡ status.Done → result ≡ status.Sink → ⊥
done_is_no_sink result done sink = cc

done_is_no_disk : (result : Status) → result ≡ status.Done → result ≡ status.Disk → ⊥
done_is_no_disk result done disk = cc

sink_is_no_disk : (result : Status) → result ≡ status.Sink → result ≡ status.Disk → ⊥
sink_is_no_disk result sink disk = cc

module _ {K : Type 0} (to : sinks.Ghosts K) (ran : Status) (last : List ℕ) (result : Status) (replied sink' : K) (ends : PrintsLast to ran last result replied sink') where
  -- the disk failed as the lines ran
  pub disk_ran : result ≡ status.Disk → ran ≡ status.Disk
  disk_ran is = ⊎_elim at_end early (is_done_or_not ran)
    where
      at_end : ran ≡ status.Done → ran ≡ status.Disk
      at_end done = ⊎_elim (λ p. absurd (done_is_no_disk result p.0 is)) (λ p. absurd (sink_is_no_disk result p.0 is)) (ends.done done)

      early : ran ≢ status.Done → ran ≡ status.Disk
      early not = sym (ends.early not).0 ∙ is

  pub done_ran : result ≡ status.Done → ran ≡ status.Done
  done_ran is = ⊎_elim (λ done. done) (λ not. sym (ends.early not).0 ∙ is) (is_done_or_not ran)

  pub ends_run : EndsRun ran → EndsRun result
  ends_run which = ⊎_elim at_end (λ not. subst EndsRun (sym (ends.early not).0) which) (is_done_or_not ran)
    where
      at_end : ran ≡ status.Done → EndsRun result
      at_end done = ⊎_elim (λ p. inr (inl p.0)) (λ p. inr (inr (inr (inr (inr (inl p.0)))))) (ends.done done)

  -- the sink failed as replies were printed, or the last line
  pub sink_failed : (sink : K) → CountGoesOn (to.faults sink) (to.faults replied) (to.is_spent sink) (to.is_spent replied)
      → (ran ≡ status.Sink → Rose (to.faults sink) (to.faults replied) (to.is_spent replied)) → result ≡ status.Sink → Rose (to.faults sink) (to.faults sink') (to.is_spent sink')
  sink_failed sink goes rose is = ⊎_elim at_end early (is_done_or_not ran)
    where
      at_end : ran ≡ status.Done → Rose (to.faults sink) (to.faults sink') (to.is_spent sink')
      at_end done = ⊎_elim (λ p. absurd (done_is_no_sink result p.0 is)) (λ p. then_rose _ _ _ _ _ _ goes p.2) (ends.done done)

      early : ran ≢ status.Done → Rose (to.faults sink) (to.faults sink') (to.is_spent sink')
      early not = subst (λ k. Rose (to.faults sink) (to.faults k) (to.is_spent k)) (sym (ends.early not).1) (rose (sym (ends.early not).0 ∙ is))

  -- when the sink did not fail, a run that is done or runs out of memory ends so
  pub done_or_memory : (sink : K) → CountGoesOn (to.faults sink) (to.faults replied) (to.is_spent sink) (to.is_spent replied)
      → (Rose (to.faults sink) (to.faults sink') (to.is_spent sink') → ⊥) → IsDoneOrMemory ran → IsDoneOrMemory result
  done_or_memory sink goes none either = ⊎_elim at_end (λ not. subst IsDoneOrMemory (sym (ends.early not).0) either) (is_done_or_not ran)
    where
      at_end : ran ≡ status.Done → IsDoneOrMemory result
      at_end done = ⊎_elim (λ p. inl p.0) (λ p. absurd (none (then_rose _ _ _ _ _ _ goes p.2))) (ends.done done)

  -- `tail` is what the last lines are after a whole input
  module _ {S : Type 0} (said : List Line → List ℕ) (i : SourceUse S) (sink : K) (answers : Answers said ran i (use_of to sink replied)) (tail : List ℕ → List ℕ) (same : ran ≡ status.Done → IfSome (left_at i) (λ bytes. last ≡ tail bytes)) where
    abbrev left : Option (List ℕ)
    left = left_at i

    abbrev left' : Option (List ℕ)
    left' = left_now i

    abbrev taken : Option (List ℕ)
    taken = to.taken sink

    -- what was printed is a prefix of the replies and the last lines
    pub put_prefix : IfSome left (λ bytes. AppendsPrefix taken (to.taken sink') (replies said bytes ++ tail bytes))
    put_prefix = ⊎_elim at_end early (is_done_or_not ran)
      where
        all : (bytes : List ℕ) → Appends taken (to.taken replied) (replies said bytes) → last ≡ tail bytes → Appends (to.taken replied) (to.taken sink') last → AppendsPrefix taken (to.taken sink') (replies said bytes ++ tail bytes)
        all bytes first are put = subst (λ (v : List ℕ). AppendsPrefix taken (to.taken sink') (replies said bytes ++ v)) are
            (replies said bytes ++ last, [], append-nil (replies said bytes ++ last), Appends-then taken (to.taken replied) (to.taken sink') (replies said bytes) last first put)

        some : (bytes : List ℕ) → Appends taken (to.taken replied) (replies said bytes) → last ≡ tail bytes → AppendsPrefix (to.taken replied) (to.taken sink') last → AppendsPrefix taken (to.taken sink') (replies said bytes ++ tail bytes)
        some bytes first are (line, more, parts, put) = subst (λ (v : List ℕ). AppendsPrefix taken (to.taken sink') (replies said bytes ++ v)) are (
          replies said bytes ++ line,
          more,
          append_assoc (replies said bytes) line more ∙ ap (λ v. replies said bytes ++ v) parts,
          Appends-then taken (to.taken replied) (to.taken sink') (replies said bytes) line first put,
        )

        at_end : ran ≡ status.Done → IfSome left (λ bytes. AppendsPrefix taken (to.taken sink') (replies said bytes ++ tail bytes))
        at_end done = ⊎_elim
            (λ p. if_some_both left _ _ _ (λ bytes a are. all bytes a.1 are p.1) (answers.done done) (same done))
            (λ p. if_some_both left _ _ _ (λ bytes a are. some bytes a.1 are p.1) (answers.done done) (same done))
            (ends.done done)

        early : ran ≢ status.Done → IfSome left (λ bytes. AppendsPrefix taken (to.taken sink') (replies said bytes ++ tail bytes))
        early not = if_some_then left _ _
            (λ bytes some. subst (λ k. AppendsPrefix taken (to.taken k) (replies said bytes ++ tail bytes)) (sym (ends.early not).1) (AppendsPrefix-longer taken (to.taken replied) (replies said bytes) (tail bytes) some))
            answers.prefix

    -- and all of it at the end
    pub put_all : result ≡ status.Done → IfSome left (λ bytes. (left' ≡ Some []) × Appends taken (to.taken sink') (replies said bytes ++ tail bytes))
    put_all is = ⊎_elim
        (λ p. if_some_both left _ _ _ (λ bytes a are. (a.0, subst (λ (v : List ℕ). Appends taken (to.taken sink') (replies said bytes ++ v)) are (Appends-then taken (to.taken replied) (to.taken sink') (replies said bytes) last a.1 p.1)))
        (answers.done (done_ran is)) (same (done_ran is)))
        (λ p. absurd (done_is_no_sink result is p.0))
        (ends.done (done_ran is))
