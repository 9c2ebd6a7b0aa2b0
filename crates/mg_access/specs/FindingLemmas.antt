-- Lemmas on what the access of a word keeps, by what the search for it keeps.
use Rattle.std.{proofs.Common.{refl, sym, subst}, specs.Prelude.{ℕ, ◌≡◌, true, IsErr, List, Option, Result, Ok, Err}}
use Rattle.mg_access.specs.{Finding.{Finds, FindsWord}, ReachedLemmas.gone_held, WordLemmas.tested-limit}
use Rattle.{mg_access.specs.WordLemmas.tested-rules, mg_disk.specs.declared.disk.Disk.Ghosts}
use Rattle.{mg_laws.specs.Costs.SearchesKeepRules, mg_model.specs.{Accesses.Access, Kept.Searches}}
use Rattle.mg_model.specs.{ObjectCalls.is_aligned, declared.{rights.Right.Right, seats.Seat.Seat}}
use Rattle.{mg_vcache.specs.Seats.is_kept, mg_volume.specs.{Held.VolumeHeld, Meaning.now_of}}

-- an answer that is an error
pub error : {A E : Type 0} (result : Result A E) → IsErr result → (e : E) × (result ≡ Err e)
error (Ok x) is = cc
error (Err e) is = (e, refl)

module _ {D : Type 0} (facts : Ghosts D) (t a : ℕ) (right : Right) (old new : VolumeHeld) where
  abbrev access : Access
  access = record { thread = t; address = a; right = right }

  module _ (seats seats' : List (Option Seat)) (before after : D) (steps steps' : ℕ) where
    module _ (keep : SearchesKeepRules Searches) (on : is_aligned a ≡ true) where
      pub word-found : {A B E : Type 0} (o : Option A) (answer : B) → Finds {E = E} facts access (Ok o) old new seats seats' before after steps steps' → FindsWord {E = E} facts access (Ok answer) old new seats seats' before after steps steps'
      word-found o answer found = record {
        backed = found.backed;
        rules = λ image told.
            tested-rules (now_of old image) t a right (λ key. is_kept seats key) (λ key. is_kept seats' key) steps steps' keep on (found.keeps image told) (λ gone. found.nobody (gone_held old image t gone));
        limit = λ image told.
            tested-limit (now_of old image) t a right (λ key. is_kept seats key) (λ key. is_kept seats' key) steps steps' keep on (found.limit image told) (λ gone. found.nobody (gone_held old image t gone));
        reads = found.reads;
        cause = tt;
      }

      pub word-failed : {A B E : Type 0} (first : E) (result : Result B E) → IsErr result → Finds {A = A} facts access (Err first) old new seats seats' before after steps steps' → FindsWord facts access result old new seats seats' before after steps steps'
      word-failed first result is found =
          let (e, broke) = error result is in
          subst (λ r. FindsWord facts access r old new seats seats' before after steps steps') (sym broke)
          (record {
            backed = found.backed;
            rules = tt;
            limit = λ image told.
                tested-limit (now_of old image) t a right (λ key. is_kept seats key) (λ key. is_kept seats' key) steps steps' keep on (found.limit image told) (λ gone. found.nobody (gone_held old image t gone));
            reads = found.reads;
            cause = found.cause;
          })
