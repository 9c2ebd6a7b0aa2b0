use Rattle.{mg_commands.specs.RunLemmas.run_of-spelled, mg_io.specs.Arguments.arguments}
use Rattle.mg_session.proofs.top_call.top.Goals as goal

pub returns-in-Dry-clause-run : goal.returns-in-Dry-clause-run
returns-in-Dry-clause-run g c = λ batch is.
    let run = run_of-spelled (arguments c.args.words.now) batch is in
    let read = c.read_words.ensures.command in
    let some = c.in-Some.is in
    let other = c.in-Dry.is in
    absurd cc

pub returns-in-Dry-clause-run_costs : goal.returns-in-Dry-clause-run_costs
returns-in-Dry-clause-run_costs g c = λ batch is.
    let run = run_of-spelled (arguments c.args.words.now) batch is in
    let read = c.read_words.ensures.command in
    let some = c.in-Some.is in
    let other = c.in-Dry.is in
    absurd cc

pub returns-in-Format-clause-run : goal.returns-in-Format-clause-run
returns-in-Format-clause-run g c = λ batch is.
    let run = run_of-spelled (arguments c.args.words.now) batch is in
    let read = c.read_words.ensures.command in
    let some = c.in-Some.is in
    let other = c.in-Format.is in
    absurd cc
