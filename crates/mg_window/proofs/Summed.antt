-- Lemmas: the sum of a tape so far, and with an entry more.
use Rattle.{mg_window.specs.Devices.{Tape, sum_at}, std.proofs.{Common.{sym, ap, ◌∙◌}, Math.Nat.mod-add-mod, lemmas.List.Sums.sum_by_more}}
use Rattle.std.specs.Prelude.{◌≡◌, ◌+◌, ◌%◌, ◌^◌, ◌==◌, ◌<◌, ℕ, if◌then◌else◌, length, slice_index_or, take}

-- what an entry adds at a place
abbrev pub adds : ℕ → ℕ × ℕ → ℕ
adds off entry = if entry.0 == off then entry.1 else 0

pub one_more : (tape : Tape) (off i sum value : ℕ) → i < length tape → sum ≡ sum_at (take i tape) off % 2 ^ 64 → value ≡ adds off (slice_index_or tape i (0, 0))
    → (sum + value) % 2 ^ 64 ≡ sum_at (take (i + 1) tape) off % 2 ^ 64
one_more tape off i sum value below so_far is =
    ap (λ s. (s + value) % 2 ^ 64) so_far
    ∙ ap (λ v. (sum_at (take i tape) off % 2 ^ 64 + v) % 2 ^ 64) is
    ∙ mod-add-mod (sum_at (take i tape) off) (2 ^ 64) (adds off (slice_index_or tape i (0, 0)))
    ∙ ap (λ n. n % 2 ^ 64) (sym (sum_by_more (adds off) tape i (0, 0) below))
