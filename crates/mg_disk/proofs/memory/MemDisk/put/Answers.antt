use Rattle.mg_disk.specs.{BlockBytes.IsBytes, Disk.SameBut, Held.{run, start}, HeldLemmas.held_more, PlaceLemmas.{placed_longer, same_longer}}
use Rattle.{mg_disk.specs.declared.memory.Event.TheVariants.Wrote, std.proofs.Common.{◌∙◌, ℕ, ◌<◌, List, sym, ap, subst, Contains, slice_set}}
use Rattle.std.proofs.lemmas.List.Elements.{All-set, All-from_get_or}
use Rattle.mg_disk.proofs.memory.MemDisk.put.Goals as goal

pub invariant_of-self-clause-placed : goal.invariant_of-self-clause-placed
invariant_of-self-clause-placed c =
    let P : List ℕ → Type 0 = λ places. (k : ℕ) → Contains places k → k < c.args.self.now.content.len in
    subst P (sym c.push_reserved.ensures.items) (placed_longer c.args.self.now.touched.items c.args.i c.args.self.now.content.len c.args.self.now.placed c.requires.in_range)

pub invariant_of-self-clause-pending : goal.invariant_of-self-clause-pending
invariant_of-self-clause-pending c =
    subst (λ places. SameBut (Contains places) c.args.self.now.synced.items (slice_set c.args.self.now.content.items c.args.i c.args.block.now)) (sym c.push_reserved.ensures.items)
    (same_longer c.args.self.now.touched.items c.args.self.now.synced.items c.args.self.now.content.items c.args.i c.args.block.now c.args.self.now.pending)

pub invariant_of-self-clause-held : goal.invariant_of-self-clause-held
invariant_of-self-clause-held c =
    ap (run (start c.args.self.now.first.items)) c.push_reserved-2.ensures.items
    ∙ held_more c.args.self.now.first.items c.args.self.now.events.items _ (Wrote c.args.i c.args.block.now) c.args.self.now.held
    ∙ ap (λ places. record { base = c.args.self.now.synced.items; now = slice_set c.args.self.now.content.items c.args.i c.args.block.now; touched = places }) (sym c.push_reserved.ensures.items)

pub invariant_of-self-clause-bytes : goal.invariant_of-self-clause-bytes
invariant_of-self-clause-bytes c =
    All-set IsBytes c.args.self.now.content.items c.args.i c.args.block.now (All-from_get_or (λ byte. byte < 256) c.args.block.now 0 (λ k below. c.fits-block k)) c.args.self.now.bytes
