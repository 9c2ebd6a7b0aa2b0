use Rattle.{mg_journal.specs.Held.Store, mg_volume.proofs.Handed.{judged_disk, judged_memory, judged_ok, unfailed_memory, unfailed_ok}}
use Rattle.{mg_volume.specs.PagesOver.ArePagesOver, std.proofs.Common.{◌∙◌, arith, subst, sym}}
use Rattle.mg_volume.proofs.opening.open_pages.Goals as goal

pub recover-requires : goal.recover-requires
recover-requires g c =
    let size = c.requires.frames.size in
    let some = c.requires.frames.some in
    record { looks = record { journal = omega arith; room = c.requires.within_disk; fits = c.requires.fits } }

pub returns-in-Err : goal.returns-in-Err
returns-in-Err g c =
    let calls = c.in-Err.ensures.calls in
    record { opened = tt; contents = c.recover.ensures.contents; any_moment = c.recover.ensures.any_moment; judges_nothing = judged_disk; calls = record { count = calls.count; blocks = calls.blocks; cause = λ _. calls.cause } }

pub returns-in-Err-open : goal.returns-in-Err-open
returns-in-Err-open g c =
    let calls = c.recover.ensures.calls in
    record { opened = tt; contents = c.recover.ensures.contents; any_moment = c.recover.ensures.any_moment; judges_nothing = judged_memory; calls = unfailed_memory g.D.Disk c.args.disk.now c.recover.new.disk calls.count calls.blocks }

pub returns-in-Ok-open : goal.returns-in-Ok-open
returns-in-Ok-open g c =
    let p = c.in-Ok-open.pages in
    let said = c.in-Ok-open.ensures in
    let calls = c.recover.ensures.calls in
    let P : Store → Type 0 = λ s. ArePagesOver g.D.Disk s c.args.entries.items c.args.view.total p c.recover.new.disk in
    record {
      opened = subst P (sym said.made.same)
          (record {
            stands = c.in-Ok.ensures.opened.stands;
            total = c.in-Ok.ensures.opened.total;
            frames = said.made.count;
            table = said.table;
            live = said.made.live ∙ c.in-Ok.ensures.opened.live;
            staged = said.made.bare.staged;
            coming = said.made.coming;
            spelled = said.spelled;
          });
      contents = c.recover.ensures.contents;
      any_moment = c.recover.ensures.any_moment;
      judges_nothing = judged_ok p;
      calls = unfailed_ok g.D.Disk c.args.disk.now c.recover.new.disk p calls.count calls.blocks;
    }
