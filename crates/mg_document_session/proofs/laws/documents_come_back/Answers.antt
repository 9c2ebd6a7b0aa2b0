use Rattle.{mg_document.specs.Documents.words_for, mg_document_session.proofs.{Loads.loads-back, RepliesTold.comes-back}, std.proofs.Common.◌+◌}
use Rattle.std.proofs.Common.{◌*◌, ◌≤◌, ◌^◌, suc, arith}
use Rattle.mg_document_session.proofs.laws.documents_come_back.Goals as goal

pub returns-clause-back : goal.returns-clause-back
returns-clause-back c = comes-back

pub returns-clause-loads : goal.returns-clause-loads
returns-clause-loads c =
    λ thread address bytes fits place few.
    let room : address + 8 * suc (words_for bytes) ≤ 2 ^ 64 = omega (arith, place, few) in
    loads-back thread address (suc (words_for bytes)) fits room
