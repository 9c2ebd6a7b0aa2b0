-- How lines of loads grow at their end.
use Rattle.{mg_document.specs.Asked.{load_line, load_lines}, std.proofs.Common.{◌≡◌, ℕ, zero, suc, ◌+◌, ◌*◌, ◌++◌, ap, sym, ◌∙◌, append_assoc, arith}}
use Rattle.std.proofs.lemmas.List.{append-nil}

-- one line more
pub loads_more : (thread address n : ℕ) → load_lines thread address n ++ load_line thread (address + 8 * n) ≡ load_lines thread address (n + 1)
loads_more thread address zero = let e : address + 8 * 0 ≡ address = omega arith in rw e (sym (append-nil (load_line thread address)))
loads_more thread address (suc n) =
    let s : suc n + 1 ≡ suc (n + 1) = omega arith in
    let e : address + 8 * suc n ≡ (address + 8) + 8 * n = omega arith in
    rw (s, e) (append_assoc (load_line thread address) (load_lines thread (address + 8) n) (load_line thread ((address + 8) + 8 * n))
    ∙ ap (λ v. load_line thread address ++ v) (loads_more thread (address + 8) n))
