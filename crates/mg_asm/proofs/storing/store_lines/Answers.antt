use Rattle.{mg_asm.{proofs.{Called.lines-back, Grown.stored_more}, specs.Stored.{store_line, store_lines}}, mg_model.specs.Lines.lines}
use Rattle.{mg_model.specs.Ranges.IsWord, std.proofs.{Common.{◌+◌, ◌*◌, ◌++◌, get_or, ap, ◌∙◌, arith}, lemmas.List.take_all}}
use Rattle.std.proofs.lemmas.List.Elements.{All-from_get_or}
use Rattle.mg_asm.proofs.storing.store_lines.Goals as goal

pub loop-i-preserved : goal.loop-i-preserved
loop-i-preserved c =
    c.in_ok-put_store.ensures
    ∙ ap (λ v. v ++ store_line c.args.thread (c.args.address + 8 * c.loop-i.i) (get_or c.args.words.now c.loop-i.i 0)) c.loop-i.invariant
    ∙ stored_more c.args.thread c.args.address c.args.words.now c.loop-i.i (omega arith)

pub returns-clause-calls : goal.returns-clause-calls
returns-clause-calls c =
    let start = c.requires in
    ap lines c.loop-i.invariant
    ∙ ap (λ ws. lines (store_lines c.args.thread c.args.address ws)) (take_all c.loop-i.i c.args.words.now (omega arith))
    ∙ lines-back c.args.thread c.args.address c.args.words.now (c.ranges.thread.fits) (omega arith)
    (All-from_get_or IsWord c.args.words.now 0 (λ i below. (c.type_inv.words i).fits))
