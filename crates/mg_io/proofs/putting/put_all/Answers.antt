use Rattle.{mg_faults.specs.Faults.count_then, mg_io.proofs.Moving.{IsPartly-next, IsPartly-length}, std.proofs.Common.{arith, ◌≡◌, length, ◌≤◌}}
use Rattle.mg_io.proofs.putting.put_all.Goals as goal

pub loop-rest-preserved : goal.loop-rest-preserved
loop-rest-preserved g c =
    let short : length c.loop-rest.rest.now ≤ length c.args.from.now =
    IsPartly-length _ _ c.args.from.now c.loop-rest.rest.now c.loop-rest.invariant.partly in
    record {
      partly = IsPartly-next _ _ _ c.args.from.now c.loop-rest.rest.now c.in-Ok.count _ c.loop-rest.invariant.partly c.in-Ok.ensures.bytes (omega arith);
      goes_on = count_then _ _ _ _ _ _ c.loop-rest.invariant.goes_on c.in-Ok.ensures.cause.goes_on;
      untouched = λ none. let is_empty : length c.loop-rest.rest.now ≡ 0 = omega arith in
          let no = rw is_empty at c.loop-rest-test.ensures in cc;
    }
