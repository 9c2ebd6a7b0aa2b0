use Rattle.{mg_access.specs.Served.of_call, mg_calls_obj.specs.Door.is_on_object, mg_kernel.proofs.{Quiet.unasked-serves, Served.object-lives}}
use Rattle.{mg_kernel.{proofs.Served.serves_as, specs.{Calls.of_living, Unasked.asks_nothing}}, mg_volume.specs.Meaning.now_of}
use Rattle.std.{proofs.Common.{arith, rules}, specs.Prelude.{◌≡◌, true}}
use Rattle.mg_kernel.proofs.answering.dispatch.Goals as goal

pub returns-in-Delete : goal.returns-in-Delete
returns-in-Delete g c =
    let t = c.args.thread in
    let made = c.args.call.now in
    let on : is_on_object made ≡ true = search rules in
    serves_as 129 130 g.D.Disk (of_call t made) (of_living t made) c.on_object.result c.args.volume.now c.on_object.new.volume c.args.cache.now c.on_object.new.cache c.args.disk.now c.on_object.new.disk c.args.steps.now c.on_object.new.steps (omega arith)
    (λ image told. object-lives (now_of c.args.volume.now image) t made on) c.on_object.ensures

pub returns-in-Create : goal.returns-in-Create
returns-in-Create g c =
    let asks : asks_nothing c.args.call.now ≡ true = search rules in
    unasked-serves g.D.Disk c.args.volume.now c.unasked.new.volume c.args.cache.now c.unasked.new.cache c.args.disk.now c.args.steps.now c.unasked.result c.args.thread c.args.call.now asks (g.met.D.Disk.now_has_been c.args.disk.now) c.requires.sound c.steps_keep_backing.ensures.calls
    c.requires.backed c.unasked.ensures.does c.unasked.ensures.seats
