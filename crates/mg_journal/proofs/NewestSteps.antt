-- Why the newest bodies make the contents, and what a commit does to them.
use Rattle.{mg_disk.specs.Disk.{Image, block_at}, mg_journal.proofs.{ApplySteps.filled_since, Bodies.{places-closed, places-open}, Lookups.held_is}}
use Rattle.mg_journal.{proofs.{Lookups.{value_held, written_at}, Tables.only-one}, specs.{Applied.filled, Contents.{InJournal, bodies_of, names}}}
use Rattle.mg_journal.specs.{JournalLemmas.{same_gate, same_wider}, Looked.{Fits, Placed}, Newest.{Adds, Ascends, HasLast, is_for, lying}}
use Rattle.mg_journal.specs.{Phases.{IsIn, IsNext}, Places.{places_from, places_of, places_since}, Recovery.Settles, SegmentLemmas.alike-whole}
use Rattle.mg_journal.specs.{SegmentLemmas.{each-fits, fits-closed, fits-each, fits-open}, Standing.{AllClosed, HoldsOpen, IsLate, open_count}}
use Rattle.{mg_journal.specs.{Standing.open_since, WrittenLemmas.written_elsewhere}, mg_model.specs.Abbreviations.{segments_fit, writes_from}}
use Rattle.mg_model.specs.{Layout.{body_limit, segment_body, segment_count, segment_gate, segment_index}, Replay.{block_of, body_count, homes_fit}}
use Rattle.{mg_model.specs.Replay.{is_open, segment_fits, written}, std.proofs.Common.{refl, sym, ap, subst, ◌∙◌, ⊎_elim, arith, append_assoc}}
use Rattle.std.proofs.lemmas.{Bool.{and_from, cases_eq, cases_lt, le-leb, le-ltb, lt-ltb}, List.{append-nil, ext_get_or, reverse-append}}
use Rattle.std.{proofs.lemmas.List.Folds.find-append, specs.{Option.{option_map_or, option_or}, Prelude.{◌≡◌, ◌≢◌, ◌⊎◌, ◌+◌, ◌-◌, ◌≤◌, ◌<◌, ◌==◌}}}
use Rattle.std.specs.Prelude.{nat_le, nat_lt, ℕ, Bool, zero, suc, true, false, List, [], ◌∷◌, ◌++◌, find, if◌then◌else◌, is_some, length, reverse}
use Rattle.std.specs.Prelude.{Option, Some, None}

-- a block is named if one of the places belongs to it
named_is : (a : Image) (places : List (ℕ × ℕ)) (k : ℕ) → names (filled a places) k ≡ is_some (find (is_for k) places)
named_is a [] k = refl
named_is a (place ∷ places) k = grind (arith, named_is a places k)

turned : (k : ℕ) (places : List (ℕ × ℕ)) → is_some (find (is_for k) (reverse places)) ≡ is_some (find (is_for k) places)
turned k [] = refl
turned k (place ∷ places) =
    ap (λ l. is_some (find (is_for k) l)) (reverse-append (place ∷ []) places)
    ∙ ap is_some (find-append (is_for k) (reverse places) (place ∷ []))
    ∙ by_test (find (is_for k) (reverse places)) (find (is_for k) places) (turned k places) (place.0 == k)
  where
    by_test : (x y : Option (ℕ × ℕ)) → is_some x ≡ is_some y → (t : Bool) → is_some (option_or x (if t then Some place else None)) ≡ is_some (if t then Some place else y)
    by_test None y e true = refl
    by_test None y e false = e
    by_test (Some v) y e true = refl
    by_test (Some v) y e false = e

-- places of which the last of each block are the same write the same
same_last : (a : Image) (p q : List (ℕ × ℕ)) → ((i : ℕ) → find (is_for i) (reverse p) ≡ find (is_for i) (reverse q)) → written a (filled a p) ≡ written a (filled a q)
same_last a p q same =
    let m = (written_elsewhere (filled a p) a).count in
    let n = (written_elsewhere (filled a q) a).count in
    ext_get_or [] (written a (filled a p)) (written a (filled a q)) (m ∙ sym n) (λ k below. at k (omega arith))
  where
    made : (places : List (ℕ × ℕ)) (k : ℕ) → k < length a → block_at (written a (filled a places)) k ≡ block_at a (option_map_or (λ (place : ℕ × ℕ). place.1) (find (is_for k) (reverse places)) k)
    made places k inside = written_at (filled a places) a k inside ∙ value_held a places k k ∙ ap (block_at a) (held_is places k k)

    at : (k : ℕ) → k < length a → block_at (written a (filled a p)) k ≡ block_at (written a (filled a q)) k
    at k inside =
        made p k inside
        ∙ ap (λ o. block_at a (option_map_or (λ (place : ℕ × ℕ). place.1) o k)) (same k)
        ∙ sym (made q k inside)

-- the newest bodies, written to their homes, make the contents
pub table_settles : (view : Placed) (image : Image) → Fits view image → Ascends view.table → Settles view.total view.table image
table_settles view image fits up = record {
  fit = fits.fit;
  whole = same_last image view.table places (λ i. only-one i view.table up ∙ fits.newest i) ∙ ap (written image) (filled_since image 0 segment_count);
  named = λ k named.
      ap (λ w. names w k) (sym (filled_since image 0 segment_count))
      ∙ named_is image places k
      ∙ sym (turned k places)
      ∙ ap is_some (sym (fits.newest k))
      ∙ sym (named_is image view.table k)
      ∙ named;
}
  where
    places : List (ℕ × ℕ)
    places = places_since image 0 segment_count

-- places of the segments of two images that are alike
places-all : (a b : Image) (from n : ℕ) → ((s : ℕ) → from ≤ s → s < from + n → places_of b s ≡ places_of a s) → places_since b from n ≡ places_since a from n
places-all a b from zero alike = refl
places-all a b from (suc n) alike = grind (arith, places-all a b (from + 1) n (λ s low high. alike s (omega arith) (omega arith)))

places-none : (a : Image) (from n : ℕ) → ((s : ℕ) → from ≤ s → s < from + n → is_open a s ≡ false) → places_since a from n ≡ []
places-none a from zero shut = refl
places-none a from (suc n) shut = grind (arith, places-closed, places-none a (from + 1) n (λ s low high. shut s (omega arith) (omega arith)))

places-split : (a : Image) (from m n : ℕ) → places_since a from (m + n) ≡ places_since a from m ++ places_since a (from + m) n
places-split a from zero n = grind (arith)
places-split a from (suc m) n =
    let count : suc m + n ≡ suc (m + n) = omega arith in
    let place : from + 1 + m ≡ from + suc m = omega arith in
    ap (places_since a from) count
    ∙ ap (λ p. places_of a from ++ p) (places-split a (from + 1) m n)
    ∙ sym (append_assoc (places_of a from) (places_since a (from + 1) m) (places_since a (from + 1 + m) n))
    ∙ ap (λ s. (places_of a from ++ places_since a (from + 1) m) ++ places_since a s n) place

-- when no segment after s is open
places-up_to : (i : Image) (s n count : ℕ) → s + suc n ≡ count → ((t : ℕ) → s < t → t < count → is_open i t ≡ false) → places_since i 0 count ≡ places_since i 0 s ++ places_of i s
places-up_to i s n count is closed =
    let from : 0 + s ≡ s = omega arith in
    let none = places-none i (s + 1) n (λ t low high. closed t (omega (arith, low)) (omega (arith, high, is))) in
    ap (places_since i 0) (sym is)
    ∙ places-split i 0 s (suc n)
    ∙ ap (λ t. places_since i 0 s ++ places_since i t (suc n)) from
    ∙ ap (λ p. places_since i 0 s ++ (places_of i s ++ p)) none
    ∙ ap (λ p. places_since i 0 s ++ p) (append-nil (places_of i s))

-- the places of a segment with the same gate and index
module _ (a b : Image) (s : ℕ) (gate : is_open b s ≡ is_open a s) (index : block_of b (segment_index s) ≡ block_of a (segment_index s)) where
  same-from : (j n : ℕ) → places_from b s j n ≡ places_from a s j n
  same-from j zero = refl
  same-from j (suc n) = grind (arith, same-from (j + 1) n)

  same-places : places_of b s ≡ places_of a s
  same-places = grind (arith, same-from)

-- the places of a segment's bodies are those of its writes
from_writes : (i : Image) (s j n : ℕ) → places_from i s j n ≡ lying (segment_body s j) (writes_from i s j n)
from_writes i s j zero = refl
from_writes i s j (suc n) = grind (arith, from_writes i s (j + 1) n)

-- when no segment is open the table is empty
pub closed_holds : (total : ℕ) (image : Image) → AllClosed image → HoldsOpen total 0 [] image
closed_holds total image closed = record {
  gates = λ s below. closed s below ∙ sym (le-ltb s 0 (omega arith));
  fits = record {
    fit = fits-each total image 0 segment_count (λ s low high. fits-closed total image s (closed s (omega arith)));
    newest = λ i. ap (λ p. find (is_for i) (reverse p)) (sym (places-none image 0 segment_count (λ s low high. closed s (omega arith))));
  };
}

-- from segment n on none is open
pub shut_from : (total n : ℕ) (table : List (ℕ × ℕ)) (image : Image) → HoldsOpen total n table image → (s : ℕ) → n ≤ s → s < segment_count → is_open image s ≡ false
shut_from total n table image holds s low high = holds.gates s high ∙ le-ltb s n low

-- one segment more
module _ (total n : ℕ) (table more : List (ℕ × ℕ)) (writes : List (ℕ × List ℕ)) (a b : Image) (place : n < segment_count) (holds : HoldsOpen total n table a) (next : IsNext total n writes a b)
    (adds : Adds (segment_body n 0) writes table more) (fit : homes_fit total writes ≡ true) (few : length writes ≤ body_limit) where
  elsewhere : (s : ℕ) → s ≢ n → (k : ℕ) → segment_gate s ≤ k → k < segment_gate (s + 1) → block_of b k ≡ block_of a k
  elsewhere s other k low high = next.same.others k (λ at. let from = at.0 in let to = at.1 in other (omega arith))

  gates : (s : ℕ) → s ≢ n → is_open b s ≡ is_open a s
  gates s other = same_gate a b s (elsewhere s other (segment_gate s) (omega arith) (omega arith))

  opens : (s : ℕ) → s < segment_count → is_open b s ≡ nat_lt s (n + 1)
  opens s below = ⊎_elim (λ is. ap (is_open b) is ∙ next.opened ∙ sym (lt-ltb s (n + 1) (omega arith))) (λ other. gates s other ∙ holds.gates s below ∙ apart other (cases_lt s n)) (cases_eq s n)
    where
      apart : s ≢ n → (s < n) ⊎ (n ≤ s) → nat_lt s n ≡ nat_lt s (n + 1)
      apart other which =
          ⊎_elim (λ low. lt-ltb s n low ∙ sym (lt-ltb s (n + 1) (omega (arith, low)))) (λ high. le-ltb s n high ∙ sym (le-ltb s (n + 1) (omega (arith, high, other)))) which

  fits_here : segment_fits total b n ≡ true
  fits_here =
      fits-open total b n next.opened
      ∙ and_from (nat_le (body_count b n) body_limit) (homes_fit total (bodies_of b n)) (le-leb (body_count b n) body_limit (omega (arith, next.count, few))) (ap (homes_fit total) next.bodies ∙ fit)

  fits : segments_fit total b 0 segment_count ≡ true
  fits =
      fits-each total b 0 segment_count
      (λ s low high. ⊎_elim (λ is. ap (segment_fits total b) is ∙ fits_here) (λ other. (alike-whole total a b s (elsewhere s other)).fits ∙ each-fits total a 0 segment_count s holds.fits.fit low high) (cases_eq s n))

  behind : (t : ℕ) → n < t → t < segment_count → is_open b t ≡ false
  behind t low high = opens t high ∙ le-ltb t (n + 1) (omega arith)

  of_a : places_since a 0 segment_count ≡ places_since a 0 n
  of_a =
      places-up_to a n (segment_count - (n + 1)) segment_count (omega arith) (λ t low high. shut_from total n table a holds t (omega arith) high)
      ∙ ap (λ p. places_since a 0 n ++ p) (places-closed a n (shut_from total n table a holds n (omega arith) place))
      ∙ append-nil (places_since a 0 n)

  of_b : places_since b 0 segment_count ≡ places_since a 0 segment_count ++ lying (segment_body n 0) writes
  of_b =
      places-up_to b n (segment_count - (n + 1)) segment_count (omega arith) behind
      ∙ ap (λ p. p ++ places_of b n) (places-all a b 0 n (λ s low high. same-places a b s (gates s (λ e. omega arith)) (elsewhere s (λ e. omega arith) (segment_index s) (omega arith) (omega arith))) ∙ sym of_a)
      ∙ ap (λ p. places_since a 0 segment_count ++ p) (places-open b n next.opened ∙ from_writes b n 0 (body_count b n) ∙ ap (lying (segment_body n 0)) next.bodies)

  pub holds_next : HoldsOpen total (n + 1) more b
  holds_next = record {
    gates = opens;
    fits = record { fit = fits; newest = subst (λ p. HasLast p more) (sym of_b) (adds.newest (places_since a 0 segment_count) holds.fits.newest) };
  }

-- how many segments are open
none_open : (a : Image) (s k : ℕ) → ((t : ℕ) → s ≤ t → t < s + k → is_open a t ≡ false) → open_since a s k ≡ 0
none_open a s zero shut = refl
none_open a s (suc k) shut = grind (arith, none_open a (s + 1) k (λ t low high. shut t (omega arith) (omega arith)))

abbrev one : Bool → ℕ
one t = if t then 1 else 0

some_open : (a : Image) (n s k : ℕ) → ((t : ℕ) → s ≤ t → t < s + k → is_open a t ≡ nat_lt t n) → s ≤ n → n ≤ s + k → open_since a s k + s ≡ n
some_open a n s zero gates low high = omega arith
some_open a n s (suc k) gates low high = ⊎_elim
    (λ less.
    let opened : one (is_open a s) ≡ 1 = ap one (gates s (omega arith) (omega arith) ∙ lt-ltb s n less) in
    let rest = some_open a n (s + 1) k (λ t from to. gates t (omega (arith, from)) (omega (arith, to))) (omega (arith, less)) (omega (arith, high)) in
    omega (arith, opened, rest))
    (λ past.
    let shut : one (is_open a s) ≡ 0 = ap one (gates s (omega arith) (omega arith) ∙ le-ltb s n past) in
    let rest = none_open a (s + 1) k (λ t from to. gates t (omega (arith, from)) (omega (arith, to)) ∙ le-ltb t n (omega (arith, from, past))) in
    omega (arith, shut, rest, low, past))
    (cases_lt s n)

pub counted : (total n : ℕ) (table : List (ℕ × ℕ)) (a : Image) → HoldsOpen total n table a → n ≤ segment_count → open_count a ≡ n
counted total n table a holds few = let is = some_open a n 0 segment_count (λ t low high. holds.gates t (omega arith)) (omega arith) (omega arith) in omega arith

-- a commit into segment m: m was next, on the image as it was, or all were open and m is the first
pub is_late : (total n m : ℕ) (writes : List (ℕ × List ℕ)) (a b : Image) → open_count a ≡ n → open_count b ≡ m + 1 → (n < segment_count → (m ≡ n) × IsNext total m writes a b) → (n ≡ segment_count → m ≡ 0) → m < segment_count → IsLate a b
is_late total n m writes a b before after kept fresh place = record {
  more = λ some.
      let k = kept (omega arith) in
      let same = k.0 in
      (omega arith, same_wider (IsIn m) InJournal a b (λ i at. let low = at.0 in let high = at.1 in (omega arith, omega arith)) k.1.same);
  again = λ all. let f = fresh (omega arith) in omega arith;
}
