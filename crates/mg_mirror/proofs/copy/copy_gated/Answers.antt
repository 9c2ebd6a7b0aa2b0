use Rattle.{mg_disk.specs.{Disk.{Image, block_at, only_place}, Stops.NothingPending}, mg_mirror.proofs.Copied.{all_copied, first_phase, second_phase}}
use Rattle.{mg_mirror.{proofs.Copied.{steps_then, steps_to, still_told, third_phase}, specs.Copy.{AreFrom, first_byte}}, std.proofs.Common.{◌≡◌, ◌∙◌}}
use Rattle.std.{proofs.Common.{◌≤◌, Some, arith, length, option_map, refl, rules, slice_set}, specs.Option.ForSome}
use Rattle.mg_mirror.proofs.copy.copy_gated.Goals as goal

pub returns-then-is_err : goal.returns-then-is_err
returns-then-is_err g c =
    let d = g.D.Disk in
    let e = g.E.Disk in
    let from = c.args.from.now in
    let to = c.args.to.now in
    let shut = c.close.new.to in
    record {
      copies = record {
        copied = search rules;
        settled = search rules;
        leaves = λ x read. first_phase e c.args.blocks x to shut c.close.ensures.any_moment;
        to_told = still_told (only_place 0) (e.seen to) (e.seen shut) c.close.ensures.seen;
        calls = record {
          steps = steps_to d e from to shut (g.met.D.Disk.now_has_been from) c.close.ensures.calls.blocks c.close.ensures.tells c.close.ensures.calls.count;
          to_cause = search rules;
          cause = search rules;
        };
      };
    }

pub returns-in_err-copy_after : goal.returns-in_err-copy_after
returns-in_err-copy_after g c =
    let d = g.D.Disk in
    let e = g.E.Disk in
    let n = c.args.blocks in
    let from = c.args.from.now in
    let to = c.args.to.now in
    let shut = c.close.new.to in
    let last = c.copy_after.new.to in
    let settled : NothingPending e shut = search rules in
    let zero : ForSome (e.seen shut) (λ s. first_byte s ≡ 0) = search rules in
    record {
      copies = record {
        copied = search rules;
        settled = search rules;
        leaves = λ x read. second_phase e n x to shut last settled zero (first_phase e n x to shut c.close.ensures.any_moment) c.copy_after.ensures.any_moment;
        to_told = still_told (λ k. 1 ≤ k) (e.seen shut) (e.seen last) c.copy_after.ensures.seen ∙ still_told (only_place 0) (e.seen to) (e.seen shut) c.close.ensures.seen;
        calls = record {
          steps = steps_then d e from from c.copy_after.new.from to shut last (steps_to d e from to shut (g.met.D.Disk.now_has_been from) c.close.ensures.calls.blocks c.close.ensures.tells c.close.ensures.calls.count) c.copy_after.ensures.calls.steps;
          to_cause = search rules;
          cause = search rules;
        };
      };
    }

pub returns-then-not-branch : goal.returns-then-not-branch
returns-then-not-branch g c =
    let d = g.D.Disk in
    let e = g.E.Disk in
    let n = c.args.blocks in
    let from = c.args.from.now in
    let to = c.args.to.now in
    let shut = c.close.new.to in
    let last = c.copy_after.new.to in
    let settled : NothingPending e shut = search rules in
    let zero : ForSome (e.seen shut) (λ s. first_byte s ≡ 0) = search rules in
    record {
      copies = record {
        copied = search rules;
        settled = search rules;
        leaves = λ x read. second_phase e n x to shut last settled zero (first_phase e n x to shut c.close.ensures.any_moment) c.copy_after.ensures.any_moment;
        to_told = still_told (λ k. 1 ≤ k) (e.seen shut) (e.seen last) c.copy_after.ensures.seen ∙ still_told (only_place 0) (e.seen to) (e.seen shut) c.close.ensures.seen;
        calls = record {
          steps = steps_then d e from from c.copy_after.new.from to shut last (steps_to d e from to shut (g.met.D.Disk.now_has_been from) c.close.ensures.calls.blocks c.close.ensures.tells c.close.ensures.calls.count) c.copy_after.ensures.calls.steps;
          to_cause = search rules;
          cause = search rules;
        };
      };
    }

pub returns : goal.returns
returns g c =
    let d = g.D.Disk in
    let e = g.E.Disk in
    let n = c.args.blocks in
    let first = c.args.first.now in
    let from = c.args.from.now in
    let to = c.args.to.now in
    let shut = c.close.new.to in
    let after = c.copy_after.new.to in
    let last = c.write_firmly.new.disk in
    let settled : NothingPending e shut = search rules in
    let zero : ForSome (e.seen shut) (λ s. first_byte s ≡ 0) = search rules in
    let copied : ForSome (d.seen from) (λ x. ForSome (e.seen after) (AreFrom 1 n x)) = c.in_ok-copy_after.ensures.copied c.if-not-branch.false in
    let from_long = λ (x : Image) (is : d.seen from ≡ Some x). let count = g.met.D.Disk.seen_count from x is in let room = c.requires.can.from_long in let fits : n ≤ length x = omega arith in fits in
    let after_long = λ (s : Image) (is : e.seen after ≡ Some s). let count = g.met.E.Disk.seen_count after s is in let room = c.requires.can.to_long in let one = c.close.ensures.calls.blocks in let two = c.copy_after.ensures.calls.steps.to_blocks in let fits : n ≤ length s = omega arith in fits in
    let steps = steps_then d e from from c.copy_after.new.from to shut after (steps_to d e from to shut (g.met.D.Disk.now_has_been from) c.close.ensures.calls.blocks c.close.ensures.tells c.close.ensures.calls.count) c.copy_after.ensures.calls.steps in
    record {
      copies = record {
        copied = λ good.
            let put : e.seen last ≡ option_map (λ image. slice_set image 0 (block_at first 0)) (e.seen after) = search rules in
            all_copied n first (d.seen from) (d.seen from) (e.seen after) (e.seen last) refl c.requires.some put c.requires.can.are_first from_long after_long copied;
        settled = search rules;
        leaves = λ x read.
            let safe : NothingPending e after = search rules in
            third_phase e n x to after last safe (from_long x read) after_long (copied x read)
            (second_phase e n x to shut after settled zero (first_phase e n x to shut c.close.ensures.any_moment) c.copy_after.ensures.any_moment) c.write_firmly.ensures.from_any;
        to_told = still_told (only_place 0) (e.seen after) (e.seen last) c.write_firmly.ensures.torn ∙ (still_told (λ k. 1 ≤ k) (e.seen shut) (e.seen after) c.copy_after.ensures.seen ∙ still_told (only_place 0) (e.seen to) (e.seen shut) c.close.ensures.seen);
        calls = record {
          steps = steps_then d e from c.copy_after.new.from c.copy_after.new.from to after last steps
              (steps_to d e c.copy_after.new.from after last (g.met.D.Disk.now_has_been c.copy_after.new.from) c.write_firmly.ensures.calls.blocks c.write_firmly.ensures.tells c.write_firmly.ensures.calls.count);
          to_cause = search rules;
          cause = search rules;
        };
      };
    }
