-- The lines of a generated run and the replies to them, and a run whose counts were printed.
use Rattle.std.proofs.Common.{refl, sym, ap, ◌∙◌, ⊎_elim, inl, inr, suc, arith, subst}
use Rattle.std.proofs.lemmas.List.FromFn.{length-map-range_with_len, map-range_with_len_more}
use Rattle.std.specs.{Io.KnownBytes.Appends, List.range_with_len, Prelude.{ℕ, ◌≡◌, ◌⊎◌, ◌≤◌, ◌+◌, List, [], ◌∷◌, ◌++◌}}
use Rattle.std.specs.Prelude.{filter_map, length, map, Some}
use Rattle.{mg_commands.specs.Headline.{GenKeeps, replies_from, generated_lines}, mg_faults.specs.Faults.Rose}
use Rattle.mg_gen.specs.{Asked.{LinesAreCalls, line_asked}, Generated.{line_text, generated_settings}}
use Rattle.mg_gen.specs.{Summary.summary_text, Tallies.{CountsAreTold, tally_of, tally_text}}
use Rattle.{mg_io.specs.Known.AppendsPrefix, mg_model.specs.{Fresh.fresh, Lines.line_of, State.State, Step.after}}
use Rattle.{mg_model.specs.{Step.step, Warmth.cost, declared.calls.Line.Line}, mg_serve.specs.Sessions.use_of}
use Rattle.mg_serve.specs.declared.status.Status.{Status}
use Rattle.mg_io.specs.declared.traits.Sink as sinks
use Rattle.mg_serve.specs.declared.status.Status.TheVariants as status

-- the replies to a line more
pub replies-more : (s : State) (ls : List Line) (line : Line) → replies_from s (ls ++ line ∷ []) ≡ replies_from s ls ++ (step (after s ls) line).1 ∷ []
replies-more s [] line = refl
replies-more s (first ∷ ls) line = ap (λ v. (step s first).1 ∷ v) (replies-more (step s first).0 ls line)

-- each line has one
pub length-replies : (s : State) (ls : List Line) → length (replies_from s ls) ≡ length ls
length-replies s [] = refl
length-replies s (first ∷ ls) = ap (λ v. suc v) (length-replies (step s first).0 ls)

-- of texts that are all lines none is left out
all-lines : (text : ℕ → List ℕ) (asked : ℕ → Line) → ((k : ℕ) → line_of (text k) ≡ Some (asked k)) → (ks : List ℕ) → filter_map (λ k. line_of (text k)) ks ≡ map asked ks
all-lines text asked are [] = refl
all-lines text asked are (k ∷ ks) = rw (are k) (ap (λ v. asked k ∷ v) (all-lines text asked are ks))

run-is : LinesAreCalls → (number k : ℕ) → generated_lines number k ≡ map (λ k. line_asked number k) (range_with_len 0 k)
run-is are number k = all-lines (λ k. line_text number k) (λ k. line_asked number k) (λ k. are number k) (range_with_len 0 k)

-- a line more of a run
pub run-more : LinesAreCalls → (number k : ℕ) → generated_lines number (k + 1) ≡ generated_lines number k ++ line_asked number k ∷ []
run-more are number k =
    run-is are number (k + 1) ∙ map-range_with_len_more (λ k. line_asked number k) 0 k k (omega arith) ∙ ap (λ v. v ++ line_asked number k ∷ []) (sym (run-is are number k))

pub length-run : LinesAreCalls → (number k : ℕ) → length (generated_lines number k) ≡ k
length-run are number k = ap (λ v. length v) (run-is are number k) ∙ length-map-range_with_len (λ k. line_asked number k) 0 k

-- what a run keeps whose counts were printed, or could not be
pub run_keeps : {K : Type 0} (to : sinks.Ghosts K) → CountsAreTold → (number count : ℕ) (result : Status) (k k' : K) (n n' : ℕ) (tally : List ℕ)
    → tally ≡ tally_of (replies_from (fresh generated_settings) (generated_lines number count))
    → n' ≤ n + cost (fresh generated_settings) (generated_lines number count)
    → (result ≡ status.Done) ⊎ (result ≡ status.Sink)
    → (result ≡ status.Done → Appends (to.taken k) (to.taken k') (tally_text tally))
    → AppendsPrefix (to.taken k) (to.taken k') (tally_text tally)
    → (result ≡ status.Sink → Rose (to.faults k) (to.faults k') (to.is_spent k'))
    → GenKeeps number count result (use_of to k k') n n'
run_keeps to are_told number count result k k' n n' tally counts spent ends put prefix rose = record {
  done = λ h. subst (λ t. Appends (to.taken k) (to.taken k') t) told (put h);
  prefix = subst (λ t. AppendsPrefix (to.taken k) (to.taken k') t) told prefix;
  cost = spent;
  which = ⊎_elim (λ e. inl e) (λ e. inr (inr e)) ends;
  memory = λ h. absurd (never h);
  sink_failed = rose;
  complete = λ quiet. ⊎_elim (λ e. inl e) (λ e. absurd (quiet (rose e))) ends;
}
  where
    told : tally_text tally ≡ summary_text (replies_from (fresh generated_settings) (generated_lines number count))
    told = ap (λ t. tally_text t) counts ∙ are_told (replies_from (fresh generated_settings) (generated_lines number count))

    never : result ≡ status.Memory → ⊥
    never h = ⊎_elim (λ (e : result ≡ status.Done). cc) (λ (e : result ≡ status.Sink). cc) ends
