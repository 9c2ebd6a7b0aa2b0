use Rattle.mg_volume.proofs.{ObjectChanged.there_is, ObjectWithout.{Goes, goes, held_without, without_changes}}
use Rattle.{mg_volume.specs.contracts.volume.Volume.the_view, std.proofs.Common.{◌≡◌, ℕ}}
use Rattle.mg_volume.proofs.volume.Volume.remove.Goals as goal

pub take_object-taken-requires-clause-there : goal.take_object-taken-requires-clause-there
take_object-taken-requires-clause-there c = let has = rw (← c.self.view_is) at c.requires.there in there_is (the_view c.self.inside) c.args.base has

-- the object that is taken out is the one with the base
gone_is : (c : goal.After-release_object) → (c.take_object-taken.result.1.base ≡ c.args.base) × (i : ℕ) × Goes (the_view c.self.inside) i c.take_object-taken.result c.take_object-taken.new.objects
gone_is c =
    let taken = c.take_object-taken.ensures in
    goes (the_view c.self.inside) c.args.base c.take_object-taken.result c.take_object-taken.new.objects c.self.invariant.kept taken.taken taken.objects

base_is : (c : goal.After-release_object) → c.take_object-taken.result.1.base ≡ c.args.base
base_is c = (gone_is c).0

pub invariant_of-self : goal.invariant_of-self
invariant_of-self c = record {
  kept =
      let taken = c.take_object-taken.ensures in
      rw (taken.accounts)
      (held_without (the_view c.self.inside) (gone_is c).1 c.take_object-taken.result c.take_object-taken.new.objects (gone_is c).2 c.take_object-taken.new.pages c.release_object.new.pages c.self.invariant.kept taken.rows c.release_object.ensures.shape.frames
      c.release_object.ensures.unbinds);
  paid = c.take_object-taken.ensures.paid;
}

pub returns : goal.returns
returns c =
    let taken = c.take_object-taken.ensures in
    let said = c.release_object.ensures in
    let all =
    without_changes (the_view c.self.inside) (gone_is c).1 c.take_object-taken.result c.take_object-taken.new.objects (gone_is c).2 c.take_object-taken.new.pages c.release_object.new.pages c.self.invariant.kept taken.rows said.shape said.words said.staged
    said.spelled said.released in
    rw (← c.self.view_is, c.take_object-taken.ensures.accounts, ← base_is c) (record { now = all.now; rows = all.rows; stages = all.stages; objects = all.objects })
