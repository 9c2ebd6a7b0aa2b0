-- A seed is read byte by byte.
use Rattle.{mg_commands.specs.{Commands.{byte_of, bytes_of}, Forms.byte_before}, std.proofs.Common.{ℕ, suc, ◌+◌, ◌*◌, ◌<◌, ◌≡◌, List, [], ◌∷◌, ◌++◌}}
use Rattle.std.proofs.{Common.{length, get_or, take, drop, Option, Some, None, refl, sym, ap, ◌∙◌, append_assoc, arith}, Math.ListN.{set, length-set}}
use Rattle.std.proofs.Math.Seq.{drop-cons, take-suc-set}

-- bytes go before others
abbrev pub bytes_then : List ℕ → Option (List ℕ) → Option (List ℕ)
bytes_then bytes None = None
bytes_then bytes (Some rest) = Some (bytes ++ rest)

bytes_then-next : (bytes : List ℕ) (byte : ℕ) (rest : Option (List ℕ)) → bytes_then bytes (byte_before (Some byte) rest) ≡ bytes_then (bytes ++ byte ∷ []) rest
bytes_then-next bytes byte None = refl
bytes_then-next bytes byte (Some xs) = ap (λ v. Some v) (sym (append_assoc bytes (byte ∷ []) xs))

nothing_then : (rest : Option (List ℕ)) → rest ≡ bytes_then [] rest
nothing_then None = refl
nothing_then (Some xs) = refl

-- the byte that the digits at place i spell
abbrev pub byte_at : List ℕ → ℕ → Option ℕ
byte_at word i = byte_of (get_or word (2 * i) 0) (get_or word (2 * i + 1) 0)

bytes_of-next : (word : List ℕ) (i : ℕ) → 2 * i + 1 < length word → bytes_of (drop (2 * i) word) ≡ byte_before (byte_at word i) (bytes_of (drop (2 * (i + 1)) word))
bytes_of-next word i h =
    let a : 2 * i < length word = omega arith in
    let b : suc (2 * i) < length word = omega arith in
    let e : 2 * i + 1 ≡ suc (2 * i) = omega arith in
    let f : 2 * (i + 1) ≡ suc (suc (2 * i)) = omega arith in
    let first : drop (2 * i) word ≡ get_or word (2 * i) 0 ∷ drop (suc (2 * i)) word = drop-cons word (2 * i) 0 a in
    let second : drop (suc (2 * i)) word ≡ get_or word (suc (2 * i)) 0 ∷ drop (suc (suc (2 * i))) word = drop-cons word (suc (2 * i)) 0 b in
    ap bytes_of (first ∙ ap (λ v. get_or word (2 * i) 0 ∷ v) second)
    ∙ ap (λ v. byte_before (byte_of (get_or word (2 * i) 0) (get_or word v 0)) (bytes_of (drop (suc (suc (2 * i))) word))) (sym e)
    ∙ ap (λ v. byte_before (byte_at word i) (bytes_of (drop v word))) (sym f)

-- what is read so far, with all that is still to be read
pub record IsRead (word seed : List ℕ) (i : ℕ) : Type 0 where
  pub digits : length word ≡ 64
  pub long : length seed ≡ 32
  pub same : bytes_of word ≡ bytes_then (take i seed) (bytes_of (drop (2 * i) word))

pub seed-start : (word seed : List ℕ) → length word ≡ 64 → length seed ≡ 32 → IsRead word seed 0
seed-start word seed h k = record { digits = h; long = k; same = nothing_then (bytes_of word) }

-- one byte more
pub seed-next : (word seed : List ℕ) (i byte : ℕ) → IsRead word seed i → i < 32 → byte_at word i ≡ Some byte → IsRead word (set seed i byte) (i + 1)
seed-next word seed i byte r h is =
    let k = r.long in
    let d = r.digits in
    let e : i + 1 ≡ suc i = omega arith in
    record {
      digits = r.digits;
      long = length-set seed i byte ∙ r.long;
      same = r.same ∙ ap (λ v. bytes_then (take i seed) v) (bytes_of-next word i (omega arith) ∙ ap (λ o. byte_before o (bytes_of (drop (2 * (i + 1)) word))) is)
          ∙ bytes_then-next (take i seed) byte (bytes_of (drop (2 * (i + 1)) word))
          ∙ ap (λ v. bytes_then v (bytes_of (drop (2 * (i + 1)) word))) (sym (ap (λ v. take v (set seed i byte)) e ∙ take-suc-set seed i byte (omega arith)));
    }
