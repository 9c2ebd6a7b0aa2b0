use Rattle.{mg_disk.specs.Runs.nothing_none, mg_frames.specs.Places.nowhere_any, mg_model.specs.Layout.first_frame}
use Rattle.{mg_pages.proofs.{BlocksKept.keeps-writes, Stored.changes-word}, std.proofs.Common.{◌≡◌, ◌==◌, ◌+◌, ◌∙◌, arith, length, ⊎_elim, ap, inl}}
use Rattle.std.{proofs.{Common.{inr, refl, rules, sym}, lemmas.{Bool.both_ways, Result.on_ok_weaker}}, specs.List.list_any}
use Rattle.mg_pages.proofs.storing.store_word.Goals as goal

pub begin-requires-clause-unbound : goal.begin-requires-clause-unbound
begin-requires-clause-unbound g c = nowhere_any (λ entry. entry == c.args.page) c.args.frames.now (sym c.frame_of.ensures ∙ c.in-None.is)

pub begin-requires-clause-free : goal.begin-requires-clause-free
begin-requires-clause-free g c =
    let none = nowhere_any (λ entry. entry == c.args.page) c.args.frames.now (sym c.frame_of.ensures ∙ c.in-None.is) in
    ⊎_elim (λ bound. absurd (both_ways (list_any (λ entry. entry == c.args.page) c.args.frames.now) none bound)) (λ free. free) c.requires.frame

pub returns-in-Some-clause-stored : goal.returns-in-Some-clause-stored
returns-in-Some-clause-stored g c =
    let b = c.args.blocks.now in
    let frames = c.args.frames.now in
    let told = g.D.Disk.seen c.args.disk.now in
    let first = first_frame (length frames) in
    let block = c.frame_block.result in
    let at : block ≡ first + c.in-Some.frame = c.frame_block.ensures ∙ ap (λ n. first_frame n + c.in-Some.frame) c.len.ensures.count in
    on_ok_weaker c.set_word.result
    (λ stages.
    inl (
      refl,
      changes-word told b.store b.kept c.args.page c.args.index c.args.value frames b.writes c.set_word.new.self.writes c.in-Some.frame block
          (sym c.frame_of.ensures ∙ c.in-Some.is) at
          (record { bytes = stages.bytes; more = stages.more; are = λ image seen are. stages.are image seen first (omega (arith, at)) are }),
    ))
    c.set_word.ensures.staged

pub returns-in-None-clause-stored : goal.returns-in-None-clause-stored
returns-in-None-clause-stored g c =
    inr (record { unbound = nowhere_any (λ entry. entry == c.args.page) c.args.frames.now (sym c.frame_of.ensures ∙ c.in-None.is); begins = c.begin.ensures.begins })

pub returns-in-None-clause-looks : goal.returns-in-None-clause-looks
returns-in-None-clause-looks g c = record {
  keeps = λ first. keeps-writes (g.D.Disk.seen c.args.disk.now) first c.args.blocks.now c.begin.new.blocks c.begin.ensures.keeps;
  stands = rw c.begin.ensures.keeps c.requires.stands;
  reads = record { writes = nothing_none g.D.Disk c.args.disk.now (g.met.D.Disk.now_has_been c.args.disk.now); calls = search rules };
}
