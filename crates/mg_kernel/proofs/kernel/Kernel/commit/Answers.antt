use Rattle.{mg_disk.specs.BecomesLemmas.becomes-to, mg_kernel.proofs.Standing.{backed-kept, backed-of, sound-of, stands-opened}}
use Rattle.{mg_kernel.specs.Meaning.{is_live, staged_of}, mg_volume.specs.{FormedLemmas.formed_sound, Meaning.now_of, Opening.IsSaved}}
use Rattle.mg_kernel.specs.Meaning as kernel
use Rattle.mg_kernel.proofs.kernel.Kernel.commit.Goals as goal

pub commit-requires : goal.commit-requires
unfolding is_live
commit-requires g c =
    let sound = sound-of g.D.Disk c.args.self.now c.args.disk.now c.requires.stands in
    record { live = c.requires.live; stands = sound.stands; sound = λ image told. formed_sound (now_of c.args.self.now.volume image) (sound.formed image told) }

pub returns-in-Ok-clause-saves : goal.returns-in-Ok-clause-saves
unfolding kernel.now_of
returns-in-Ok-clause-saves g c =
    let done = rw c.in-Ok.is at c.commit.ensures.done in
    record {
      any_moment = c.commit.ensures.any_moment;
      done = λ image told.
          let at = becomes-to (IsSaved c.args.self.now.volume c.commit.new.self) (g.D.Disk.seen c.args.disk.now) (g.D.Disk.seen c.commit.new.disk) image done told in
          record { image = at.0; is = at.1; kept = at.2.kept; now = at.2.now_is };
    }

pub returns-in-Ok-clause-rests : goal.returns-in-Ok-clause-rests
unfolding staged_of
returns-in-Ok-clause-rests g c =
    let ready = rw c.in-Ok.is at c.commit.ensures.ready in
    let none = rw c.in-Ok.is at c.commit.ensures.staged in
    let done = rw c.in-Ok.is at c.commit.ensures.done in
    let k = c.args.self.now in record {
      stands = stands-opened g.D.Disk (record { volume = c.commit.new.self; cache = k.cache }) c.commit.new.disk ready.stands (g.met.D.Disk.seen_bytes c.commit.new.disk) c.is_formed.ensures none ready.sound
          (backed-kept g.D.Disk k.volume c.commit.new.self k.cache c.args.disk.now c.commit.new.disk (backed-of g.D.Disk k c.args.disk.now c.requires.stands) done);
      settled = ready.stands.settled;
      none_staged = none;
    }

pub returns-in-Ok-clause-live : goal.returns-in-Ok-clause-live
unfolding is_live
returns-in-Ok-clause-live g c = let ready = rw c.in-Ok.is at c.commit.ensures.ready in ready.live
