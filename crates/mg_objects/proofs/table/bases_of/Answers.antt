use Rattle.{mg_model.specs.{Ranges.IsObjectRow, State.ObjectRow}, mg_objects.{proofs.Keys.{bases-more, bases-none}, specs.Held.AreBases}}
use Rattle.std.proofs.{Common.{◌≡◌, All, List, None, Option, arith, replicate, rules, slice_index_or, subst}, lemmas.List.take_all}
use Rattle.std.{proofs.lemmas.List.Elements.All-more, specs.Option.ForSome}
use Rattle.mg_objects.proofs.table.bases_of.Goals as goal

abbrev IsGood : Option ObjectRow → Type 0
IsGood row = ForSome row IsObjectRow

pub loop-place-init : goal.loop-place-init
loop-place-init c = let items : c.in_ok-bases.bases.items ≡ replicate 4096 0 = search rules in record { bases = rw items bases-none; ranges = λ k d under. absurd (omega arith) }

pub loop-place-preserved : goal.loop-place-preserved
loop-place-preserved c =
    let table = c.args.table.now in
    let row = c.index-table-place.result in
    let P : Option ObjectRow → Type 0 = IsGood in
    record {
      bases = rw c.base_of.ensures.base (bases-more table c.loop-place.place row c.loop-place.bases.items c.loop-place-test.true c.requires c.index-table-place.is c.loop-place.invariant.bases);
      ranges = All-more IsGood table c.loop-place.place row c.loop-place-test.true c.loop-place.invariant.ranges (subst P c.index-table-place.is c.base_of.ensures.kept);
    }

pub returns-clause-bases : goal.returns-clause-bases
returns-clause-bases c =
    let P : List (Option ObjectRow) → Type 0 = λ rows. AreBases (λ k. slice_index_or rows k None) c.loop-place.bases.items in
    subst P (take_all c.loop-place.place c.args.table.now c.loop-place-test.false) c.loop-place.invariant.bases

pub returns-clause-ranges : goal.returns-clause-ranges
returns-clause-ranges c =
    let P : List (Option ObjectRow) → Type 0 = λ rows. All IsGood rows in
    subst P (take_all c.loop-place.place c.args.table.now c.loop-place-test.false) c.loop-place.invariant.ranges
