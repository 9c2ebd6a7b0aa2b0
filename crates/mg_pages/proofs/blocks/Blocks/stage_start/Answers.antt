use Rattle.{mg_journal.specs.Staged.staged, mg_model.specs.{Bytes.padded_to, Layout.block_size}, mg_pages.specs.Held.with_writes}
use Rattle.std.proofs.{Common.{◌≡◌, ◌++◌, ◌∙◌, List, ap, drop, length, ℕ}, lemmas.List.drop-replicate}
use Rattle.mg_pages.proofs.blocks.Blocks.stage_start.Goals as goal

pub returns : goal.returns
returns c =
    let start = c.args.start.now in
    let bytes : start ++ drop (length start) c.zeros.result.now ≡ padded_to block_size start =
    ap (λ (zeros : List ℕ). start ++ drop (length start) zeros) c.zeros.ensures ∙ ap (λ (rest : List ℕ). start ++ rest) (drop-replicate (length start) block_size 0) in
    ap (with_writes c.args.self.now) (c.stage_over.ensures ∙ ap (λ (b : List ℕ). staged c.args.self.now.writes c.args.block b) bytes)
