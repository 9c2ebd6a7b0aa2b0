use Rattle.mg_pages.specs.Meaning as pages
use Rattle.mg_volume.proofs.Respelled.{begins}
use Rattle.mg_volume.proofs.standing.put_pc.Goals as goal

pub returns : goal.returns
returns c =
    let row = c.args.row.now in
    let old = c.args.pages.now in
    let new = c.put.new.self in
    let told = begins c.args.block 24 c.args.pc row (record row { pc = c.args.pc }) old new (pages.waiting_in old c.args.block) c.put.result (c.threads_change_by_words.ensures.pc row c.args.pc) c.put.ensures.waits c.put.ensures.was c.put.ensures.put in
    record {
      not_staged = λ is. rw is at told;
      staged = λ is. rw is at told;
    }
