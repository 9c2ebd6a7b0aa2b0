use Rattle.{mg_frames.specs.Words.{is_within, unless_within}, mg_journal.specs.Staged.staged, mg_model.specs.Layout.table_block}
use Rattle.mg_pages.proofs.{StagedTables.{more-same, more-staged, same-entries}, releasing.release_pages.Goals.{then-changed-k, else-changed-k}}
use Rattle.{mg_pages.specs.{Entries.HoldsEntries, Held.with_writes, Parts.StagesTable, declared.blocks.Blocks.Blocks}, std.proofs.Common.{List, ℕ}}
use Rattle.std.proofs.Common.{◌≡◌, ◌<◌, ◌+◌, ◌∙◌, ap, arith, false, true, length, map, rules, slice_index, slice_index_or, subst, sym}
use Rattle.std.proofs.lemmas.List.{get_or_default, length-map}
use Rattle.mg_pages.proofs.releasing.release_pages.Goals as goal

abbrev After : Blocks → List ℕ → List ℕ → ℕ → Blocks → Type 0
After was old new k b = record {
  staged : StagesTable old new k was.writes b.writes;
  keeps : b ≡ with_writes was b.writes;
}

pub loop-k-preserved : goal.loop-k-preserved
loop-k-preserved c =
    let old = c.args.frames.now in
    let new = map (unless_within c.args.first c.args.pages) old in
    let k = c.loop-k.k in
    let was = c.args.blocks.now.writes in
    let many : length c.blocks_with-changed.result ≡ 128 = search rules in
    let same : length c.release_range.new.self ≡ length old = ap (λ frames. length frames) c.release_range.ensures ∙ length-map old (unless_within c.args.first c.args.pages) in
    let within : k < length c.blocks_with-changed.result = omega arith in
    let so_far = c.loop-k.invariant in
    elim c.if-changed-k.branch [
      | then-changed-k w ↦
          let hold = subst (λ frames. HoldsEntries frames k w.entries_block.result) (w.as_slice-then-changed-k.ensures ∙ c.release_range.ensures) w.entries_block.ensures in
          subst (λ (b : Blocks). After c.args.blocks.now old new (k + 1) b) (sym (w.blocks-is ∙ w.stage.ensures)) record {
            staged = more-staged old new k was c.loop-k.blocks.writes so_far.staged w.entries_block.result hold;
            keeps = ap (λ b. with_writes b (staged c.loop-k.blocks.writes (table_block + k) w.entries_block.result)) so_far.keeps;
          }
      | else-changed-k w ↦
          subst (λ (b : Blocks). After c.args.blocks.now old new (k + 1) b) (sym w.blocks-is) record {
            staged =
                more-same old new k was c.loop-k.blocks.writes so_far.staged
                (same-entries old c.args.first c.args.pages k (λ i below at.
                let same = c.as_slice.ensures in
                ap (λ frames. is_within c.args.first c.args.pages (slice_index frames i)) (sym same)
                ∙ c.blocks_with-changed.ensures i (let n = ap (λ frames. length frames) same in omega arith) (ap (λ n. slice_index_or c.blocks_with-changed.result n true) at ∙ get_or_default c.blocks_with-changed.result k true false within ∙ w.if-changed-k.false)));
            keeps = so_far.keeps;
          }
    ]
