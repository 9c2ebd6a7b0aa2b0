use Rattle.{mg_model.specs.Layout.globals_block, mg_rows.specs.ThreadParts.with_word, mg_volume.proofs.Rewritten.{counters_respelled, first_put}}
use Rattle.{mg_volume.proofs.Rewritten.then_put, std.proofs.Common.{List, ℕ, ◌∙◌, sym}}
use Rattle.mg_volume.proofs.counting.respell_counters.Goals as goal

pub returns-clause-staged : goal.returns-clause-staged
returns-clause-staged c = λ _.
    let p = c.args.pages.now in
    let draws : List ℕ → List ℕ = with_word 0 c.draws.result in
    let period : List ℕ → List ℕ = λ bytes. with_word 8 c.period.result (draws bytes) in
    let cursor : List ℕ → List ℕ = λ bytes. with_word 16 c.cursor.result (period bytes) in
    let one = first_put globals_block 0 c.draws.result p c.put.new.self (sym c.put.ensures.waits ∙ c.if-not-put.false) c.put.ensures.was c.put.ensures.put in
    let two = then_put globals_block 8 c.period.result draws p c.put.new.self c.put-period.new.self one c.put-period.ensures.put in
    let three = then_put globals_block 16 c.cursor.result period p c.put-period.new.self c.put-cursor.new.self two c.put-cursor.ensures.put in
    let four = then_put globals_block 24 c.births.result cursor p c.put-cursor.new.self c.put-births.new.self three c.put-births.ensures.put in
    counters_respelled c.draws.result c.period.result c.cursor.result c.births.result c.args.counters.now p c.put-births.new.self c.draws.ensures.value c.period.ensures c.cursor.ensures c.births.ensures four
