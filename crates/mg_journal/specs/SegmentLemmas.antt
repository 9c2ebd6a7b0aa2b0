-- Lemmas on what a replay takes from each segment, in images that are alike there.
use Rattle.std.proofs.{Common.{refl, sym, ap, ◌∙◌, ⊎_elim, arith, append_assoc}, lemmas.Bool.{and_from, and_left}}
use Rattle.std.{proofs.lemmas.Bool.{and_parts, cases_Bool, cases_eq, leb-true}, specs.Prelude.{◌≡◌, ◌+◌, ◌*◌, ◌≤◌, ◌<◌}}
use Rattle.std.specs.Prelude.{◌==◌, ◌&&◌, nat_le, ℕ, zero, suc, true, false, [], ◌++◌, if◌then◌else◌, slice_index}
use Rattle.{mg_disk.specs.Disk.Image, mg_journal.specs.Contents.{bodies_fit, bodies_of}}
use Rattle.mg_model.specs.{Abbreviations.{segments_fit, writes_from, writes_since}, Bytes.number_at, Layout.body_limit}
use Rattle.mg_model.specs.{Layout.{gate_open, segment_body, segment_gate, segment_index}, Replay.{block_of, body_count}}
use Rattle.mg_model.specs.Replay.{home_of, homes_fit, is_open, segment_fits, writes_of}

-- a replay takes the same from segment s
pub record IsAlike (total : ℕ) (a b : Image) (s : ℕ) : Type 0 where
  pub fits : segment_fits total b s ≡ segment_fits total a s
  pub writes : segment_fits total a s ≡ true → writes_of b s ≡ writes_of a s

pub fits-closed : (total : ℕ) (a : Image) (s : ℕ) → is_open a s ≡ false → segment_fits total a s ≡ true
fits-closed total a s closed = ap (λ t. if t then (nat_le (body_count a s) body_limit && homes_fit total (writes_of a s)) else true) closed

pub writes-closed : (a : Image) (s : ℕ) → is_open a s ≡ false → writes_of a s ≡ []
writes-closed a s closed = ap (λ t. if t then bodies_of a s else []) closed

pub writes-open : (a : Image) (s : ℕ) → is_open a s ≡ true → writes_of a s ≡ bodies_of a s
writes-open a s opened = ap (λ t. if t then bodies_of a s else []) opened

pub fits-open : (total : ℕ) (a : Image) (s : ℕ) → is_open a s ≡ true → segment_fits total a s ≡ bodies_fit total a s
fits-open total a s opened =
    ap (λ t. if t then (nat_le (body_count a s) body_limit && homes_fit total (writes_of a s)) else true) opened
    ∙ ap (λ w. nat_le (body_count a s) body_limit && homes_fit total w) (writes-open a s opened)

pub alike-closed : (total : ℕ) (a b : Image) (s : ℕ) → is_open a s ≡ false → is_open b s ≡ false → IsAlike total a b s
alike-closed total a b s shut shut' = record {
  fits = fits-closed total b s shut' ∙ sym (fits-closed total a s shut);
  writes = λ fit. writes-closed b s shut' ∙ sym (writes-closed a s shut);
}

same-bodies : (a b : Image) (s : ℕ) → ((k : ℕ) → segment_gate s < k → k < segment_gate (s + 1) → block_of b k ≡ block_of a k) → (j n : ℕ) → j + n ≤ body_limit → writes_from b s j n ≡ writes_from a s j n
same-bodies a b s same j zero few = refl
same-bodies a b s same j (suc n) few =
    let home : home_of b s j ≡ home_of a s j = ap (λ block. number_at block (8 + 8 * j)) (same (segment_index s) (omega arith) (omega arith)) in
    let body : block_of b (segment_body s j) ≡ block_of a (segment_body s j) = same (segment_body s j) (omega arith) (omega arith) in
    let rest : writes_from b s (j + 1) n ≡ writes_from a s (j + 1) n = same-bodies a b s same (j + 1) n (omega arith) in
    cc

-- when the index and the bodies are the same
module _ (total : ℕ) (a b : Image) (s : ℕ) (same : (k : ℕ) → segment_gate s < k → k < segment_gate (s + 1) → block_of b k ≡ block_of a k) where
  pub same-count : body_count b s ≡ body_count a s
  same-count = ap (λ block. number_at block 0) (same (segment_index s) (omega arith) (omega arith))

  pub same-bodies_of : nat_le (body_count a s) body_limit ≡ true → bodies_of b s ≡ bodies_of a s
  same-bodies_of few = ap (writes_from b s 0) same-count ∙ same-bodies a b s same 0 (body_count a s) (let n = leb-true (body_count a s) body_limit few in omega arith)

  pub same-bodies_fit : bodies_fit total b s ≡ bodies_fit total a s
  same-bodies_fit = ⊎_elim few many (cases_Bool (nat_le (body_count a s) body_limit))
    where
      few : nat_le (body_count a s) body_limit ≡ true → bodies_fit total b s ≡ bodies_fit total a s
      few is =
          ap (λ n. nat_le n body_limit && homes_fit total (bodies_of b s)) same-count
          ∙ ap (λ w. nat_le (body_count a s) body_limit && homes_fit total w) (same-bodies_of is)

      many : nat_le (body_count a s) body_limit ≡ false → bodies_fit total b s ≡ bodies_fit total a s
      many is =
          and_left (nat_le (body_count b s) body_limit) (homes_fit total (bodies_of b s)) (ap (λ n. nat_le n body_limit) same-count ∙ is)
          ∙ sym (and_left (nat_le (body_count a s) body_limit) (homes_fit total (bodies_of a s)) is)

  pub alike-gates : is_open b s ≡ is_open a s → IsAlike total a b s
  alike-gates gates = ⊎_elim opened (λ shut. alike-closed total a b s shut (gates ∙ shut)) (cases_Bool (is_open a s))
    where
      opened : is_open a s ≡ true → IsAlike total a b s
      opened is = record {
        fits = fits-open total b s (gates ∙ is) ∙ same-bodies_fit ∙ sym (fits-open total a s is);
        writes = λ fit.
            writes-open b s (gates ∙ is)
            ∙ same-bodies_of (and_parts (nat_le (body_count a s) body_limit) (homes_fit total (bodies_of a s)) (sym (fits-open total a s is) ∙ fit)).0
            ∙ sym (writes-open a s is);
      }

-- when the whole segment is the same
pub alike-whole : (total : ℕ) (a b : Image) (s : ℕ) → ((k : ℕ) → segment_gate s ≤ k → k < segment_gate (s + 1) → block_of b k ≡ block_of a k) → IsAlike total a b s
alike-whole total a b s same =
    alike-gates total a b s (λ k low high. same k (omega arith) high) (ap (λ block. slice_index block 0 == gate_open) (same (segment_gate s) (omega arith) (omega arith)))

pub all-fit : (total : ℕ) (a b : Image) (from n : ℕ) → ((s : ℕ) → from ≤ s → s < from + n → segment_fits total b s ≡ segment_fits total a s) → segments_fit total b from n ≡ segments_fit total a from n
all-fit total a b from zero alike = refl
all-fit total a b from (suc n) alike =
    let here : segment_fits total b from ≡ segment_fits total a from = alike from (omega arith) (omega arith) in
    let rest : segments_fit total b (from + 1) n ≡ segments_fit total a (from + 1) n = all-fit total a b (from + 1) n (λ s low high. alike s (omega arith) (omega arith)) in
    cc

pub all-write : (a b : Image) (from n : ℕ) → ((s : ℕ) → from ≤ s → s < from + n → writes_of b s ≡ writes_of a s) → writes_since b from n ≡ writes_since a from n
all-write a b from zero alike = refl
all-write a b from (suc n) alike =
    let here : writes_of b from ≡ writes_of a from = alike from (omega arith) (omega arith) in
    let rest : writes_since b (from + 1) n ≡ writes_since a (from + 1) n = all-write a b (from + 1) n (λ s low high. alike s (omega arith) (omega arith)) in
    cc

pub each-fits : (total : ℕ) (a : Image) (from n s : ℕ) → segments_fit total a from n ≡ true → from ≤ s → s < from + n → segment_fits total a s ≡ true
each-fits total a from zero s fit low high = absurd (omega arith)
each-fits total a from (suc n) s fit low high =
    let parts = and_parts (segment_fits total a from) (segments_fit total a (from + 1) n) fit in
    ⊎_elim (λ is. ap (segment_fits total a) is ∙ parts.0) (λ other. each-fits total a (from + 1) n s parts.1 (omega arith) (omega arith)) (cases_eq s from)

pub fits-each : (total : ℕ) (a : Image) (from n : ℕ) → ((s : ℕ) → from ≤ s → s < from + n → segment_fits total a s ≡ true) → segments_fit total a from n ≡ true
fits-each total a from zero each = refl
fits-each total a from (suc n) each =
    and_from (segment_fits total a from) (segments_fit total a (from + 1) n) (each from (omega arith) (omega arith)) (fits-each total a (from + 1) n (λ s low high. each s (omega arith) (omega arith)))

-- the first m segments, and those after them
pub writes_since-split : (a : Image) (from m n : ℕ) → writes_since a from (m + n) ≡ writes_since a from m ++ writes_since a (from + m) n
writes_since-split a from zero n = let here : writes_since a from (zero + n) ≡ writes_since a from n = ap (writes_since a from) (omega arith) in let there : writes_since a (from + zero) n ≡ writes_since a from n = ap (λ s. writes_since a s n) (omega arith) in here ∙ sym there
writes_since-split a from (suc m) n =
    let count : suc m + n ≡ suc (m + n) = omega arith in
    let place : from + 1 + m ≡ from + suc m = omega arith in
    ap (writes_since a from) count
    ∙ ap (λ w. writes_of a from ++ w) (writes_since-split a (from + 1) m n)
    ∙ sym (append_assoc (writes_of a from) (writes_since a (from + 1) m) (writes_since a (from + 1 + m) n))
    ∙ ap (λ s. (writes_of a from ++ writes_since a (from + 1) m) ++ writes_since a s n) place

pub writes_since-none : (a : Image) (from n : ℕ) → ((s : ℕ) → from ≤ s → s < from + n → is_open a s ≡ false) → writes_since a from n ≡ []
writes_since-none a from zero shut = refl
writes_since-none a from (suc n) shut =
    ap (λ w. w ++ writes_since a (from + 1) n) (writes-closed a from (shut from (omega arith) (omega arith)))
    ∙ writes_since-none a (from + 1) n (λ s low high. shut s (omega arith) (omega arith))
