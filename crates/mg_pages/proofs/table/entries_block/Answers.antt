use Rattle.{mg_model.specs.Bytes.number_at, std.proofs.{Common.{◌+◌, ◌*◌, ◌∙◌, ⊎_elim, ap, arith, get_or, sym}, lemmas.Bool.cases_eq}}
use Rattle.mg_pages.proofs.table.entries_block.Goals as goal

pub loop-j-preserved : goal.loop-j-preserved
loop-j-preserved c i below =
    let j = c.loop-j.j in
    let frames = c.args.frames.now in
    ⊎_elim
    (λ is.
    ap (λ n. number_at c.put_word.new.block (8 * n)) is
    ∙ c.put_word.ensures.word
    ∙ c.entry_at.ensures
    ∙ ap (λ n. get_or frames (512 * c.args.k + n) 0) (sym is))
    (λ other. c.put_word.ensures.others i other ∙ c.loop-j.invariant i (omega arith)) (cases_eq i j)
