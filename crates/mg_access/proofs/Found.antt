-- What an access keeps, by what was found.
use Rattle.mg_access.{proofs.Tried.{known-at, tried, within}, specs.{Finding.Finds, FindingLemmas.error, KnownLemmas.rows_tell}}
use Rattle.{mg_access.specs.Searching.allowed_row, mg_disk.specs.{Stops.CountRose, declared.disk.Disk.Ghosts}, mg_model.specs.Access.covers}
use Rattle.mg_model.specs.{Accesses.Access, Kept.{access_limit, is_known}, Keys.{Key, seat_of}, Limits.search_limit, State.{ObjectRow, Thread}}
use Rattle.{mg_model.specs.declared.{rights.Right.Right, seats.Seat.Seat}, mg_vcache.specs.Seats.{AllBacked, is_kept}, mg_volume.specs.Calls.Reads}
use Rattle.{mg_volume.specs.{Held.VolumeHeld, Meaning.{now_of, objects_in, threads_in}}, std.proofs.Common.{ℕ, ◌≡◌, ◌≢◌, ◌≤◌, ◌+◌, ◌==◌, true, false}}
use Rattle.std.{proofs.Common.{List, Option, Some, None, Result, Ok, Err, refl, sym, subst, ◌∙◌, arith}, specs.{Option.ForSome, Prelude.IfSome}}
use Rattle.std.specs.Prelude.{IsErr, find}

module _ {D : Type 0} (facts : Ghosts D) (t a : ℕ) (right : Right) (old new : VolumeHeld) where
  abbrev access : Access
  access = record { thread = t; address = a; right = right }

  abbrev of : ObjectRow → Key
  of row = record { thread = t; base = row.base; right = right }

  -- nothing was searched
  pub unsearched : {A E : Type 0} (seats : List (Option Seat)) (disk : D) (steps : ℕ) (o : Option ObjectRow) (answer : Option A) → ForSome (facts.seen disk) (λ image. AllBacked (now_of new image) seats)
      → ForSome (facts.seen disk) (λ image. o ≡ allowed_row (now_of old image) t a right) → IfSome o (λ row. is_kept seats (of row) ≡ true) → Reads facts old new disk disk steps steps → Finds {E = E} facts access (Ok answer) old new seats seats disk disk steps steps
  unsearched seats disk steps o answer backed found kept reads = record {
    backed = backed;
    keeps = λ image told. tried t a right (now_of old image) seats seats steps steps o (found image told) kept (same o) (λ none. refl) (omega arith);
    limit = λ image told. omega arith;
    none = λ none. refl;
    failed = tt;
    nobody = λ none. refl;
    at_most_search_limit_read = omega arith;
    reads = reads;
    cause = tt;
  }
    where
      same : (o : Option ObjectRow) → IfSome o (λ row. (key : Key) → seat_of key ≢ seat_of (of row) → is_kept seats key ≡ is_kept seats key)
      same (Some row) = λ key far. refl
      same None = tt

  module _ (seats seats' : List (Option Seat)) (before after : D) (steps steps' : ℕ) where
    -- a search when the right on the object of the address was not kept
    module _ (row : ObjectRow) (there : find (λ (r : ObjectRow). covers r a) (objects_in old) ≡ Some row) (missed : is_kept seats (of row) ≡ false) (backed : ForSome (facts.seen before) (λ image. AllBacked (now_of new image) seats'))
        (nobody : find (λ (thread : Thread). thread.number == t) (threads_in old) ≡ None → steps' ≡ steps) (few : steps' ≤ steps + search_limit) (reads : Reads facts old new before after steps steps') where
      limited : ForSome (facts.seen before) (λ image. steps' ≤ steps + access_limit (λ key. is_kept seats key) (now_of old image) access)
      limited image told =
          within (is_known (λ key. is_kept seats key) (now_of old image) access) steps steps' (rows_tell old image seats t a right ∙ known-at t a right (objects_in old) seats row row.base there refl ∙ missed) few

      pub searched : {A E : Type 0} (o : Option ObjectRow) (answer : Option A) → ForSome (facts.seen before) (λ image. o ≡ allowed_row (now_of old image) t a right) → IfSome o (λ row. is_kept seats' (of row) ≡ true)
          → IfSome o (λ row. (key : Key) → seat_of key ≢ seat_of (of row) → is_kept seats' key ≡ is_kept seats key) → (o ≡ None → seats' ≡ seats) → (answer ≡ None → o ≡ None) → Finds {E = E} facts access (Ok answer) old new seats seats' before after steps steps'
      searched o answer found kept others same none = record {
        backed = backed;
        keeps = λ image told. tried t a right (now_of old image) seats seats' steps steps' o (found image told) kept others same (limited image told);
        limit = limited;
        none = λ gone. same (none gone);
        failed = tt;
        nobody = nobody;
        at_most_search_limit_read = few;
        reads = reads;
        cause = tt;
      }

      pub unfinished : {A E : Type 0} (result : Result (Option A) E) → IsErr result → seats' ≡ seats → CountRose facts before after → Finds facts access result old new seats seats' before after steps steps'
      unfinished result is same rose =
          let (e, broke) = error result is in
          subst (λ r. Finds facts access r old new seats seats' before after steps steps') (sym broke)
          (record {
            backed = backed;
            keeps = tt;
            limit = limited;
            none = tt;
            failed = same;
            nobody = nobody;
            at_most_search_limit_read = few;
            reads = reads;
            cause = rose;
          })

    -- the same of another answer
    pub finds-as : {A B E : Type 0} (o : Option A) (answer : Option B) → (answer ≡ None → o ≡ None) → Finds {E = E} facts access (Ok o) old new seats seats' before after steps steps' → Finds {E = E} facts access (Ok answer) old new seats seats' before after steps steps'
    finds-as o answer none found = record {
      backed = found.backed;
      keeps = found.keeps;
      limit = found.limit;
      none = λ gone. found.none (none gone);
      failed = tt;
      nobody = found.nobody;
      at_most_search_limit_read = found.at_most_search_limit_read;
      reads = found.reads;
      cause = tt;
    }

    pub finds-failed : {A B E : Type 0} (first : E) (result : Result (Option B) E) → IsErr result → Finds {A = A} facts access (Err first) old new seats seats' before after steps steps' → Finds facts access result old new seats seats' before after steps steps'
    finds-failed first result is found =
        let (e, broke) = error result is in
        subst (λ r. Finds facts access r old new seats seats' before after steps steps') (sym broke)
        (record {
          backed = found.backed;
          keeps = tt;
          limit = found.limit;
          none = tt;
          failed = found.failed;
          nobody = found.nobody;
          at_most_search_limit_read = found.at_most_search_limit_read;
          reads = found.reads;
          cause = found.cause;
        })
