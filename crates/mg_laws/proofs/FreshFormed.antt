-- The fresh state of settings is well formed.
use Rattle.mg_model.specs.{Draw.password_drawn, DrawnLemmas.drawn-IsWord, Fresh.{first_thread, fresh, root_base, root_object, root_words}}
use Rattle.mg_model.specs.{KeptListLemmas.AllPairs-nil, Ranges.IsWord, Settings.Settings, State.{Object, Thread}, WellFormed.{IsAccount, IsBefore}}
use Rattle.{mg_model.specs.{WellFormed.{IsObject, IsSettings, IsThread, IsWellFormed}, declared.accounts.AccRow.AccRow}, std.proofs.Common.{ℕ, ◌≤◌}}
use Rattle.std.proofs.{Common.{List, [], ◌∷◌, replicate, refl, arith, All}, lemmas.{Bool.{and_parts, leb-true}, List.length-replicate}}
use Rattle.std.proofs.lemmas.List.{Elements.{All-cons, All-nil, All-replicate}, Kept.AllPairs-cons}

root_words-words : (password : ℕ) → IsWord password → All IsWord (root_words password)
root_words-words password word =
    let rest : List ℕ = password ∷ replicate 508 0 in
    let words : All IsWord rest = All-cons IsWord password (replicate 508 0) word (All-replicate IsWord 508 0 (omega arith)) in
    All-cons IsWord 1 (0 ∷ root_base ∷ rest) (omega arith) (All-cons IsWord 0 (root_base ∷ rest) (omega arith) (All-cons IsWord root_base rest (omega arith) words))

root_object-formed : (password : ℕ) → IsWord password → IsObject (root_object password)
root_object-formed password word = record {
  row = grind (arith, All-cons, All-nil, AllPairs-nil);
  long = omega (arith, length-replicate {A = ℕ} 508 0);
  words = root_words-words password word;
}

first_thread-formed : (password : ℕ) → IsWord password → IsThread 1 (first_thread password)
first_thread-formed password word = grind (arith, All-replicate, All-cons, All-nil)

pub fresh-formed : (settings : Settings) → IsSettings settings → IsWellFormed (fresh settings)
fresh-formed settings is =
    let root : Object = root_object (password_drawn settings.seed 0) in
    let treasury : AccRow = record { password = password_drawn settings.seed 1; balance = settings.credits; owed = 0 } in
    let thread : Thread = first_thread (password_drawn settings.seed 0) in
    let word : IsWord (password_drawn settings.seed 0) = drawn-IsWord settings.seed 0 in
    let frames : 16 ≤ settings.frames = leb-true _ _ (and_parts _ _ (and_parts _ _ is.limits).0).0 in
    record {
      settings = is;
      counters = record { some_draws = omega arith; draws = omega arith; period = omega arith; cursor = omega arith; some_births = omega arith; births = omega arith };
      objects = record {
        few = omega arith;
        each = All-cons IsObject root [] (root_object-formed (password_drawn settings.seed 0) word) (All-nil IsObject);
        apart = AllPairs-cons IsBefore root [] (All-nil (IsBefore root)) (AllPairs-nil IsBefore);
        paid = All-cons (λ (object : Object). object.row.account ≤ 1) root [] (omega arith) (All-nil (λ (object : Object). object.row.account ≤ 1));
        fit = omega arith;
      };
      accounts = record {
        some = omega arith;
        few = omega arith;
        each = All-cons (IsAccount 0) treasury [] (record { password = drawn-IsWord settings.seed 1; owed = omega arith }) (All-nil (IsAccount 0));
        sum = omega arith;
      };
      threads = grind (arith, All-cons, first_thread-formed, All-nil, AllPairs-cons, AllPairs-nil);
      first = (thread.row, refl, record { birth = refl; creator = refl });
    }
