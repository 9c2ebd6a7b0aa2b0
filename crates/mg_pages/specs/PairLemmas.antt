-- A search through pairs of words is one through other words that are the same.
use Rattle.std.{proofs.Common.{sym, ◌∙◌, arith}, specs.{Option.ForSome, Prelude.{◌≡◌, ◌+◌, ◌*◌, ◌≤◌, ◌<◌, ℕ, IfOk}}}
use Rattle.std.specs.Prelude.{IfSome, Option, Some, None, Result, Ok, Err}
use Rattle.{mg_disk.specs.Disk.Image, mg_pages.specs.Pairs.IsNextPair}

pub same_pair : (word word' : ℕ → ℕ) (from count first : ℕ) (found : Option (ℕ × ℕ)) → count ≤ 255 → ((index : ℕ) → index < 512 → word index ≡ word' index) → IfSome found (λ pair. (from ≤ pair.0) × (pair.0 < count))
    → IsNextPair word from count first found → IsNextPair word' from count first found
same_pair word word' from count first None few same place next =
    record { none_before = λ j least below hit. next.none_before j least below (same (2 + 2 * j) (omega arith) ∙ hit); is = tt }
same_pair word word' from count first (Some pair) few same place next =
    let below = place.1 in
    record {
      none_before = λ j least before hit. next.none_before j least before (same (2 + 2 * j) (omega arith) ∙ hit);
      is = (sym (same (2 + 2 * pair.0) (omega arith)) ∙ next.is.0, sym (same (3 + 2 * pair.0) (omega arith)) ∙ next.is.1);
    }

-- of a search that may fail, through the words of what reads give
pub same_pairs : {E : Type 0} (r : Result (Option (ℕ × ℕ)) E) (told : Option Image) (word word' : Image → ℕ → ℕ) (from count first : ℕ) → count ≤ 255 → ForSome told (λ image. (index : ℕ) → index < 512 → word image index ≡ word' image index)
    → IfOk r (λ found. IfSome found (λ pair. (from ≤ pair.0) × (pair.0 < count))) → IfOk r (λ found. ForSome told (λ image. IsNextPair (word image) from count first found))
    → IfOk r (λ found. ForSome told (λ image. IsNextPair (word' image) from count first found))
same_pairs (Ok found) told word word' from count first few same place next = λ image is. same_pair (word image) (word' image) from count first found few (same image is) place (next image is)
same_pairs (Err e) told word word' from count first few same place next = tt
