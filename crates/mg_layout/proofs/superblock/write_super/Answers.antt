use Rattle.mg_model.specs.{Bytes.padded_to, Settings.within_limits, Spelling.{super_bytes, super_read}, SuperblockLemmas.super_bytes-parts}
use Rattle.{mg_model.specs.{SuperblockLemmas.super_read-back, Tariff.is_tariff}, std.proofs.Common.{rules, ◌≡◌, IsTrue, length, List, ℕ, ap, sym}}
use Rattle.std.proofs.{Common.{subst, ◌∙◌, arith}, lemmas.Bool.Decides.nat_tests}
use Rattle.mg_layout.proofs.superblock.write_super.Goals as goal

keeps_rule : (c : goal.After-whole) → IsTrue (is_tariff c.args.params.now.tariff)
keeps_rule c = subst (λ (t : List (ℕ × ℕ)). IsTrue (is_tariff t)) c.tariff.ensures c.steps-steps.ensures.rule

is_spelled : (c : goal.After-whole) → c.whole.result ≡ super_bytes c.args.params.now
is_spelled c =
    c.whole.ensures
    ∙ ap (padded_to 4096) c.add_words-2.ensures.value
    ∙ rw (c.add-2.ensures.value, c.add_words.ensures.value, c.add.ensures.value, c.new-filling.ensures, c.seed.ensures, c.frames.ensures.value, c.credits.ensures.value, c.steps-steps.ensures.value, c.tariff.ensures)
    (super_bytes-parts c.args.params.now (0, 0) (keeps_rule c))

pub returns-clause-spelled : goal.returns-clause-spelled
returns-clause-spelled c = is_spelled c

pub returns-clause-read_back : goal.returns-clause-read_back
returns-clause-read_back c =
    let p = c.args.params.now in
    let frames = c.frames.ensures in
    let credits = c.credits.ensures in
    let within : IsTrue (within_limits p.frames p.credits) = grind (arith, nat_tests) in
    let seed : c.seed.result ≡ p.seed = c.seed.ensures in
    let inv = c.seed.type_inv in
    let long : length c.seed.result ≡ 32 = first_of (omega (arith, inv), search rules, grind arith) in
    ap super_read (is_spelled c) ∙ super_read-back p within (keeps_rule c) (sym (ap length seed) ∙ long)
