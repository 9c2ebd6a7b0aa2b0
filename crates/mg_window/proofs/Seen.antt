-- Lemmas: what is known of the devices of a list, if the list is read and changed.
use Rattle.mg_window.specs.{Attached.{Listed, are_apart, device_at, is_at, is_there, place_at, seen, window_at, with_device, without}, Devices.Held}
use Rattle.{mg_window.specs.{Devices.stored, declared.device.TapeFull.TapeFull}, std.proofs.Common.{refl, sym, ap, ◌∙◌, subst}}
use Rattle.std.{proofs.{Math.Seq.map-set_same, lemmas.List.{get_or-map, length-map, map-set}}, specs.{List.position_or_len, Prelude.{◌≡◌, ◌+◌, ◌==◌}}}
use Rattle.std.specs.Prelude.{◌&&◌, ◌||◌, ◌<◌, ◌∷◌, [], ℕ, Bool, true, false, nat_lt, cond, length, not, slice_index_or, slice_set, Result, Ok, Err}
use Rattle.std.specs.Prelude.{MatchResult, None, Some}

module _ {D : Type 0} (held : D → Held) where
  abbrev pub shown : ℕ × D → ℕ × Held
  shown window = (window.0, held window.1)

  pub there_seen : (windows : Listed D) (base : ℕ) → is_there (seen held windows) base ≡ is_there windows base
  there_seen [] base = refl
  there_seen (window ∷ windows) base = ap (λ t. window.0 == base || t) (there_seen windows base)

  pub apart_seen : (windows : Listed D) → are_apart (seen held windows) ≡ are_apart windows
  apart_seen [] = refl
  apart_seen (window ∷ windows) = ap (λ t. not t && are_apart (seen held windows)) (there_seen windows window.0) ∙ ap (λ t. not (is_there windows window.0) && t) (apart_seen windows)

  pub place_seen : (windows : Listed D) (base : ℕ) → place_at windows base ≡ place_at (seen held windows) base
  place_seen windows base = sym (
      ap (λ n. cond (nat_lt n (length (seen held windows))) (Some n) None) (first windows)
      ∙ ap (λ n. cond (nat_lt (position_or_len (is_at base) windows) n) (Some (position_or_len (is_at base) windows)) None) (length-map windows shown))
    where
      first : (windows : Listed D) → position_or_len (is_at base) (seen held windows) ≡ position_or_len (is_at base) windows
      first [] = refl
      first (window ∷ windows) = ap (λ n. cond (not (window.0 == base)) (1 + n) 0) (first windows)

  pub without_seen : (windows : Listed D) (base : ℕ) → seen held (without windows base) ≡ without (seen held windows) base
  without_seen [] base = refl
  without_seen (window ∷ windows) base =
      by_test (not (window.0 == base)) (without windows base) ∙ ap (λ rest. cond (not (window.0 == base)) (shown window ∷ rest) rest) (without_seen windows base)
    where
      by_test : (stays : Bool) (rest : Listed D) → seen held (cond stays (window ∷ rest) rest) ≡ cond stays (shown window ∷ seen held rest) (seen held rest)
      by_test true rest = refl
      by_test false rest = refl

  -- the window at a place is known by what is read there
  pub window_seen : (windows : Listed D) (i : ℕ) (window : ℕ × D) → i < length windows → slice_index_or windows i window ≡ window → window_at (seen held windows) i ≡ shown window
  window_seen windows i window below read = get_or-map shown windows i window (0, record { kind = 0; room = 0; tape = [] }) below ∙ ap shown read

  -- a store to the device that is read at a place
  pub store_seen : (windows : Listed D) (i off value : ℕ) (window : ℕ × D) (device : D) (result : Result Unit TapeFull) → i < length windows → slice_index_or windows i window ≡ window
      → MatchResult result (λ _. (length (held window.1).tape < (held window.1).room) × (held device ≡ stored (held window.1) off value))
      (λ full. (length (held window.1).tape ≡ (held window.1).room) × (full.room ≡ (held window.1).room) × (held device ≡ held window.1))
      → MatchResult result
      (λ _. (length (device_at (seen held windows) i).tape < (device_at (seen held windows) i).room)
      × (seen held (slice_set windows i (window.0, device)) ≡ with_device (seen held windows) i (stored (device_at (seen held windows) i) off value)))
      (λ full. (length (device_at (seen held windows) i).tape ≡ (device_at (seen held windows) i).room) × (full.room ≡ (device_at (seen held windows) i).room)
      × (seen held (slice_set windows i (window.0, device)) ≡ seen held windows))
  store_seen windows i off value window device (Ok x) below read did = subst
      (λ (w : ℕ × Held). (length w.1.tape < w.1.room) × (seen held (slice_set windows i (window.0, device)) ≡ slice_set (seen held windows) i (w.0, stored w.1 off value)))
      (sym (window_seen windows i window below read))
      (did.0, map-set shown windows i (window.0, device) ∙ ap (λ d. slice_set (seen held windows) i (window.0, d)) did.1)
  store_seen windows i off value window device (Err full) below read did = subst
      (λ (w : ℕ × Held). (length w.1.tape ≡ w.1.room) × (full.room ≡ w.1.room) × (seen held (slice_set windows i (window.0, device)) ≡ seen held windows))
      (sym (window_seen windows i window below read))
      (did.0, did.1, map-set_same shown windows i (window.0, device) window (ap (λ d. (window.0, d)) did.2 ∙ ap shown (sym read)))
