use Rattle.{mg_disk.specs.{Disk.Image, Runs.{left_still, nothing_none}}, mg_faults.specs.Faults.count_none, mg_model.specs.State.ObjectRow}
use Rattle.{mg_model.specs.Volume.volume, mg_objects.specs.Held.AreApart, mg_pages.specs.Meaning.store_of, mg_volume.proofs.Handed.calls_as}
use Rattle.mg_volume.proofs.{Handed.{judged_memory, judged_ok, judges_as, unfailed_memory, unfailed_ok}, Opened.{ArePages, apart_is, credits_is}}
use Rattle.mg_volume.proofs.Opened.{distinct_is, held_is, leaves_still, live_is, made_is, opens_now, same_objects, sound_is, staged_none, stands_now}
use Rattle.{mg_volume.specs.{Held.VolumeHeld, Meaning.{IsKept, StandsOn, is_live, is_sound, now_of, staged_of}, Opening.Opens}, std.proofs.Common.◌≡◌}
use Rattle.std.{proofs.Common.{◌∙◌, ℕ, List, ap, arith, refl, subst, sym, true}, specs.Option.ForSome}
use Rattle.mg_volume.proofs.opening.open_rows.Goals as goal

pub lists_of-requires-clause-credits : goal.lists_of-requires-clause-credits
lists_of-requires-clause-credits g c =
    let sum = credits_is c.args.rows c.requires.kept in
    omega (arith, c.keep_rules.ensures.at_most_2_62_credits)

pub lists_of-requires-clause-apart : goal.lists_of-requires-clause-apart
lists_of-requires-clause-apart g c = let P : List (ℕ × ObjectRow) → Type 0 = AreApart in subst P (sym (same_objects c.args.rows)) (apart_is c.args.rows c.requires.kept)

pub open_pages-requires-clause-distinct : goal.open_pages-requires-clause-distinct
open_pages-requires-clause-distinct g c = distinct_is c.args.rows c.requires.kept

pub invariant_of-result : goal.invariant_of-result
invariant_of-result g c =
    let rows = c.args.rows in
    let p = c.in-Ok.pages in
    let l = c.in-Some.lists in
    let held = c.in-Some.ensures in
    let made = made_is rows p l.objects l.bank.accounts l.threads (held.objects_are ∙ same_objects rows) held.accounts_are held.threads_are in
    let said = c.in-Ok.ensures.opened in
    let P : VolumeHeld → Type 0 = λ v. IsKept v in
    record { kept = subst P (sym made) (held_is rows c.requires.kept p said.table said.frames); paid = held.paid }

pub returns-in-Ok : goal.returns-in-Ok
returns-in-Ok g c =
    let rows = c.args.rows in
    let kept = c.requires.kept in
    let p = c.in-Ok.pages in
    let l = c.in-Some.lists in
    let held = c.in-Some.ensures in
    let made = made_is rows p l.objects l.bank.accounts l.threads (held.objects_are ∙ same_objects rows) held.accounts_are held.threads_are in
    let said = c.in-Ok.ensures.opened in
    let same = c.requires.total in
    let are : ArePages rows (store_of p) p = record { store_is = refl; total = said.total ∙ same; frames = said.frames; table = said.table; coming = said.coming; spelled = said.spelled } in
    let new = c.open_pages.new.disk in
    let Seen : VolumeHeld → Type 0 = λ v. ForSome (g.D.Disk.seen c.args.disk.now) (λ image. Opens (volume image) v (g.D.Disk.seen new)) in
    let Stands : VolumeHeld → Type 0 = λ v. StandsOn g.D.Disk v new in
    let Sound : VolumeHeld → Type 0 = λ v. (image : Image) → is_sound (now_of v image) ≡ true in
    record {
      opened = record {
        opens = subst Seen (sym made) (opens_now rows kept (store_of p) p are g.D.Disk c.args.view.total same c.args.disk.now new c.requires.told said.stands c.in-Ok.ensures.contents);
        stands = subst Stands (sym made) (stands_now rows kept (store_of p) p are g.D.Disk c.args.view.total same c.args.disk.now new c.requires.told said.stands c.in-Ok.ensures.contents);
        sound = subst Sound (sym made) (sound_is rows kept p said.table said.frames);
        staged = ap staged_of made ∙ staged_none rows p said.staged;
        live = ap is_live made ∙ live_is rows p said.live;
      };
      any_moment = leaves_still rows g.D.Disk c.args.view.total same c.args.disk.now new c.requires.told c.open_pages.ensures.any_moment;
      judges_nothing = judged_ok _;
      calls = unfailed_ok g.D.Disk c.args.disk.now new _ c.open_pages.ensures.calls.count c.open_pages.ensures.calls.blocks;
    }

pub returns-in-Err : goal.returns-in-Err
returns-in-Err g c =
    let rows = c.args.rows in
    let disk = c.args.disk.now in
    let new = c.open_pages.new.disk in
    let told = c.in-Err.ensures in
    record {
      opened = tt;
      any_moment = leaves_still rows g.D.Disk c.args.view.total c.requires.total disk new c.requires.told told.any_moment;
      judges_nothing = judges_as c.in-Err.fault told.judges_nothing;
      calls = calls_as g.D.Disk disk new c.in-Err.fault told.calls;
    }

pub returns-in-None : goal.returns-in-None
returns-in-None g c =
    let disk = c.args.disk.now in
    let been = g.met.D.Disk.now_has_been disk in
    record {
      opened = tt;
      any_moment = λ image told. left_still g.D.Disk disk disk (λ c. volume c ≡ volume image) been (nothing_none g.D.Disk disk been).stops;
      judges_nothing = judged_memory;
      calls = unfailed_memory g.D.Disk disk disk (count_none (g.D.Disk.faults disk) (g.D.Disk.is_spent disk)) refl;
    }
