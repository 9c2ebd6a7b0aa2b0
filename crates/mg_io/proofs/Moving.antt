-- What a copy to the front of a buffer, and a `put` of a part, do to the bytes that are told.
use Rattle.{mg_io.specs.Known.Appends-then, std.proofs.Common.{sym, ap, subst, ◌∙◌, append_assoc, arith, take-append-drop, drop-drop, length-append}}
use Rattle.std.{proofs.{Common.{length-drop, take_all, drop_of_length-le}, Math.Seq.take-append_seam}, specs.{Io.KnownBytes.Appends, Prelude.◌≡◌}}
use Rattle.std.specs.Prelude.{ℕ, ◌+◌, ◌-◌, ◌<◌, ◌≤◌, min, List, [], ◌++◌, length, take, drop, Option}

-- the first bytes that are left, copied to the front of a buffer, are the bytes that the call gives
pub copied-gives : (at n : ℕ) (items bytes copied after : List ℕ) → drop at items ≡ bytes → copied ≡ take n bytes →
    length copied ≡ n → bytes ≡ take n (copied ++ after) ++ drop (at + n) items
copied-gives at n items bytes copied after is_left is_front counts =
    let P : ℕ → Type 0 = λ v. take v (copied ++ after) ≡ copied in
    let given : take n (copied ++ after) ≡ take n bytes = subst P counts (take-append_seam copied after) ∙ is_front in
    let left : drop (at + n) items ≡ drop n bytes = sym (drop-drop n at items) ∙ ap (λ v. drop n v) is_left in
    sym (take-append-drop n bytes) ∙ ap (λ v. v ++ drop n bytes) (sym given) ∙ ap (λ v. take n (copied ++ after) ++ v) (sym left)

-- if nothing is given, nothing is left
pub none-left : (at n piece room : ℕ) (items bytes : List ℕ) → drop at items ≡ bytes → n ≡ min piece (min (length bytes) room) →
    0 < piece → 0 < room → n ≡ 0 → drop (at + n) items ≡ []
none-left at n piece room items bytes is_left counts some roomy none =
    let left : length (drop at items) ≡ length bytes = ap length is_left in
    let cut : length (drop at items) ≡ length items - at = length-drop at items in
    drop_of_length-le items {i = at + n} (omega arith)

-- the rest of a text, and what was taken before it
pub record IsPartly (old new : Option (List ℕ)) (text rest : List ℕ) : Type 0 where
  pub put : List ℕ
  pub parts : put ++ rest ≡ text
  pub taken : Appends old new put

pub IsPartly-more : (old now new : Option (List ℕ)) (text rest : List ℕ) (n : ℕ) → IsPartly old now text rest →
    Appends now new (take n rest) → IsPartly old new text (drop n rest)
IsPartly-more old now new text rest n before more = record {
  put = before.put ++ take n rest;
  parts = append_assoc before.put (take n rest) (drop n rest) ∙ ap (λ v. before.put ++ v) (take-append-drop n rest) ∙ before.parts;
  taken = Appends-then old now new before.put (take n rest) before.taken more;
}

-- one `put` more
pub IsPartly-next : (old now new : Option (List ℕ)) (text rest : List ℕ) (n m : ℕ) → IsPartly old now text rest →
    Appends now new (take n rest) → length rest - n ≤ m → IsPartly old new text (take m (drop n rest))
IsPartly-next old now new text rest n m before more fits =
    let P : List ℕ → Type 0 = λ v. IsPartly old new text v in
    let short : length (drop n rest) ≤ m = rw length-drop fits in
    subst P (sym (take_all m (drop n rest) short)) (IsPartly-more old now new text rest n before more)

-- what is left is no longer than the text
pub IsPartly-length : (old new : Option (List ℕ)) (text rest : List ℕ) → IsPartly old new text rest → length rest ≤ length text
IsPartly-length old new text rest before =
    let whole : length (before.put ++ rest) ≡ length text = ap length before.parts in
    let sums : length (before.put ++ rest) ≡ length before.put + length rest = length-append before.put rest in
    omega arith
