use Rattle.{mg_model.specs.Words.is_blank, mg_text.proofs.Leads.{blank-here, blank-later, blank-none}, std.proofs.Common.{◌≡◌, ◌<◌, ap, sym, ◌∙◌}}
use Rattle.std.{proofs.{Common.{not, option_map, arith}, lemmas.Bool.Decides.nat_tests}, specs.List.prefix_len}
use Rattle.mg_text.proofs.numbers.until_blank.Goals as goal

pub returns-in_err-n : goal.returns-in_err-n
returns-in_err-n c =
    ap (option_map (λ p. (p.0, p.1.now))) c.from_residual.ensures ∙ sym (blank-none c.args.base c.args.most c.args.bytes.now c.in_err-n.ensures.number)

pub returns-then-at_blank : goal.returns-then-at_blank
returns-then-at_blank c =
    let here : prefix_len (λ b. not (is_blank b)) c.split_at.result.1.now ≡ 0 = grind (arith, nat_tests) in
    blank-here c.args.base c.args.most c.in_ok-n.n c.in_ok-n.count c.args.bytes.now c.split_at.result.1.now c.in_ok-n.ensures.count c.split_at.ensures.back here c.in_ok-n.ensures.number

pub returns-else-at_blank : goal.returns-else-at_blank
returns-else-at_blank c =
    let later : 0 < prefix_len (λ b. not (is_blank b)) c.split_at.result.1.now = grind (arith, nat_tests) in
    sym (blank-later c.args.base c.args.most c.in_ok-n.count c.args.bytes.now c.split_at.result.1.now c.in_ok-n.ensures.count c.split_at.ensures.back later)
