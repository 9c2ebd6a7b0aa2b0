use Rattle.{mg_access.specs.Searching.{opens, words_based}, mg_model.specs.{Abbreviations.pairs_from, Access.pairs_of}, mg_volume.specs.Calls.Reads}
use Rattle.{mg_volume.specs.Meaning.now_of, std.{proofs.Common.{◌≡◌, ◌-◌, ◌≤◌, ◌+◌, ◌*◌}, specs.{List.list_any, Option.ForSome}}}
use Rattle.mg_access.proofs.lists.list_opens.Given as goal

-- no entry before this one opens the object
abbrev pub invariant-loop-from : goal.invariant-loop-from
invariant-loop-from g l = record {
  within : l.from ≤ l.count;
  reads : Reads g.D.Disk l.fn.volume l.volume l.fn.disk l.disk l.fn.steps l.steps;
  few : l.steps ≤ l.fn.steps + 1 + 2 * l.from;
  rest : ForSome (g.D.Disk.seen l.fn.disk) (λ image.
      list_any (λ entry. opens l.sought entry) (pairs_of (words_based (now_of l.fn.volume image).objects l.list))
      ≡ list_any (λ entry. opens l.sought entry) (pairs_from (words_based (now_of l.fn.volume image).objects l.list) l.from (l.count - l.from)));
}

-- the entries that are left
abbrev pub decreases-loop-from : goal.decreases-loop-from
decreases-loop-from g l = l.count - l.from
