-- Lemmas that several crates need: what an array that is used in part keeps as an item joins it or leaves it.
use Rattle.std.proofs.{Common.{sym, ap, ◌∙◌, arith}, Math.{ListN.{set, get_or, length-set}, Seq.drop-cons}}
use Rattle.std.{proofs.lemmas.List.{length-take-le, take-append-drop, drop-set, drop-set-lt}, specs.Prelude.{◌≡◌, ℕ}}
use Rattle.std.specs.Prelude.{suc, ◌+◌, ◌-◌, ◌≤◌, ◌<◌, List, ◌∷◌, ◌++◌, length, replicate, take, drop}
use Rattle.mg_model.specs.Filled.{IsFilled, filled}

pub filled-take : {X : Type 0} (filler : X) (n : ℕ) (items : List X) (count : ℕ) → IsFilled filler n items count → filled filler n (take count items) ≡ items
filled-take filler n items count f =
    let short : length (take count items) ≡ count = let e = f.size in let w = f.within in length-take-le count items (omega arith) in
    ap (λ v. take count items ++ replicate (n - v) filler) short ∙ ap (λ v. take count items ++ v) (sym f.rest) ∙ take-append-drop count items

pub length-filled : {X : Type 0} (filler : X) (n : ℕ) (items : List X) (count : ℕ) → IsFilled filler n items count → length (take count items) ≡ count
length-filled filler n items count f = let e = f.size in let w = f.within in length-take-le count items (omega arith)

-- one item more, in the place after the last
pub IsFilled-add : {X : Type 0} (filler : X) (n : ℕ) (items : List X) (count : ℕ) (x : X) → IsFilled filler n items count → count < n → IsFilled filler n (set items count x) (count + 1)
IsFilled-add filler n items count x f room =
    let size = f.size in
    let e : n - count ≡ suc (n - (count + 1)) = omega arith in
    let s : count + 1 ≡ suc count = omega arith in
    let whole : get_or items count filler ∷ drop (suc count) items ≡ filler ∷ replicate (n - (count + 1)) filler =
    sym (drop-cons items count filler (omega arith)) ∙ f.rest ∙ ap (λ v. replicate v filler) e in
    let tail : drop (suc count) items ≡ replicate (n - (count + 1)) filler = cc in
    record {
      size = length-set items count x ∙ f.size;
      within = omega arith;
      rest = drop-set-lt (count + 1) items count x (omega arith) ∙ ap (λ v. drop v items) s ∙ tail;
    }

-- one item less: the filler in the place of the last
pub IsFilled-pop : {X : Type 0} (filler : X) (n : ℕ) (items : List X) (count : ℕ) (x : X) → IsFilled filler n items count → 1 ≤ count → x ≡ filler → IsFilled filler n (set items (count - 1) x) (count - 1)
IsFilled-pop filler n items count x f some blank =
    let size = f.size in
    let within = f.within in
    let back : count - 1 + 1 ≡ count = omega arith in
    let short : count - 1 < length items = omega arith in
    let e : n - (count - 1) ≡ suc (n - count) = omega arith in
    record {
      size = length-set items (count - 1) x ∙ f.size;
      within = omega arith;
      rest = drop-set items (count - 1) x short
          ∙ ap (λ v. v ∷ drop (count - 1 + 1) items) blank
          ∙ ap (λ v. filler ∷ drop v items) back
          ∙ ap (λ v. filler ∷ v) f.rest
          ∙ ap (λ v. replicate v filler) (sym e);
    }
