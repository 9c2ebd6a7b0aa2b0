use Rattle.{mg_document.{proofs.Grown.loads_more, specs.{Asked.{load_line, load_lines}, Documents.words_for}}, std.proofs.Common.{◌≡◌, ◌+◌, ◌*◌}}
use Rattle.std.proofs.Common.{◌++◌, suc, ap, ◌∙◌, arith}
use Rattle.mg_document.proofs.asking.get_lines.Goals as goal

pub loop-i-preserved : goal.loop-i-preserved
loop-i-preserved c =
    c.in_ok-put_load.ensures
    ∙ ap (λ v. v ++ load_line c.args.thread (c.args.address + 8 * c.loop-i.i)) c.loop-i.invariant
    ∙ loads_more c.args.thread c.args.address c.loop-i.i

pub returns : goal.returns
returns c =
    let count : c.loop-i.i ≡ suc (words_for c.args.bytes) = omega arith in
    c.loop-i.invariant ∙ ap (load_lines c.args.thread c.args.address) count
