use Rattle.mg_disk.specs.{Disk.AreBytes, Held.{run, start}, HeldLemmas.held_more, PlaceLemmas.{same_as, none_in_none}}
use Rattle.{mg_disk.specs.declared.memory.Event.TheVariants.Synced, std.proofs.Common.{rules, ◌∙◌, ◌<◌, ℕ, List, [], sym, ap, subst, Contains}}
use Rattle.mg_disk.proofs.memory.MemDisk.record_sync.Goals as goal

pub copy_at-requires-clause-in_range : goal.copy_at-requires-clause-in_range
copy_at-requires-clause-in_range c =
    let P : List ℕ → Type 0 = λ places. (k : ℕ) → Contains places k → k < c.args.self.now.content.len in
    subst P (sym c.deref.ensures.value) c.args.self.now.placed

pub invariant_of-self-clause-placed : goal.invariant_of-self-clause-placed
invariant_of-self-clause-placed c = search (rules, none_in_none)

pub invariant_of-self-clause-pending : goal.invariant_of-self-clause-pending
invariant_of-self-clause-pending c = same_as _ _ _ (sym c.copy_at.ensures.same)

pub invariant_of-self-clause-held : goal.invariant_of-self-clause-held
invariant_of-self-clause-held c =
    let now = c.args.self.now in
    ap (run (start now.first.items)) c.push_reserved.ensures.items
    ∙ held_more now.first.items now.events.items _ Synced now.held
    ∙ ap (λ base. record { base = base; now = now.content.items; touched = [] }) (sym c.copy_at.ensures.same)
    ∙ ap (λ places. record { base = c.copy_at.new.to.items; now = now.content.items; touched = places }) (sym c.clear.ensures.items)

pub invariant_of-self-clause-synced_bytes : goal.invariant_of-self-clause-synced_bytes
invariant_of-self-clause-synced_bytes c = subst AreBytes (sym c.copy_at.ensures.same) c.args.self.now.bytes
