use Rattle.{mg_commands.specs.Headline.generated_lines, mg_disk.specs.Stops.CountGoes, mg_kernel.specs.Meaning.{StandsOn, is_live, now_of, staged_of}}
use Rattle.{mg_session.specs.Generating.Counted, std.{proofs.Common.{◌≡◌, ◌≤◌}, specs.{Option.ForSome, Prelude.IsTrue}}}
use Rattle.mg_session.proofs.generating.tally_lines.Given as goal

abbrev pub invariant-loop-k : goal.invariant-loop-k
invariant-loop-k g l = record {
  counted : ForSome (g.D.Disk.seen l.initial.disk) (λ image. Counted g.D.Disk l.initial.steps (now_of l.initial.kernel image) (generated_lines l.number l.k) (record { kernel = l.kernel; disk = l.disk; counts = l.tally; steps = l.steps }));
  live : IsTrue (is_live l.kernel);
  stands : StandsOn g.D.Disk l.kernel l.disk;
  staged : staged_of l.kernel ≤ 28;
  blocks : g.D.Disk.block_count l.disk ≡ g.D.Disk.block_count l.initial.disk;
  disk_count : CountGoes g.D.Disk l.initial.disk l.disk;
}
