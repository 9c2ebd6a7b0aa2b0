-- What the program keeps, from its words to its exit status: the records of `top_mirror` and of `top_dev`, each where the words spell its
-- command.
use Rattle.std.specs.Prelude.{ℕ, ◌≡◌, Bool, false, true, List, ◌∷◌, IfSome, IsTrue, None, Option, codes, String}
use Rattle.std.specs.declared.alloc.Global.{Global}
use Rattle.{mg_commands.specs.Headline.{Session, session_of}, mg_console.specs.Programs.AfterReads}
use Rattle.{mg_io.specs.Arguments.arguments, mg_mirror.specs.declared.mirror.Side.Side}
use Rattle.mg_mirror_session.specs.{Commands.mirror_of, Headline.{MirrorKeeps, NoMirrorKeeps, session_over}}
use Rattle.{mg_model.specs.Words.same_bytes, mg_serve.specs.Sessions.{DiskUse, SinkUse, SourceUse, use_of}}
use Rattle.{mg_serve.specs.declared.status.Status.Status, mg_window.specs.Attached.Attached}
use Rattle.mg_window_session.specs.{Commands.asks_for, Headline.{DevKeeps, NoDevKeeps}}

-- whether the second word is `mirror`
abbrev pub is_mirror : List (List ℕ) → Bool
is_mirror (left ∷ word ∷ more) = same_bytes word (codes "mirror")
is_mirror words = false

-- What was done where the second word is `mirror`; `alone` is the side that stands alone at the end.
pub record OverMirror {D E S K : Type 0} (words : List (String Global)) (result : Status) (alone : Option Side)
    (left : DiskUse D) (right : DiskUse E) (i : SourceUse S) (o : SinkUse K) (steps steps' : ℕ) : Type 0 where
  pub mirror : IfSome (mirror_of (arguments words)) (λ side. MirrorKeeps (session_over side result alone left right i o steps steps'))
  pub usage : mirror_of (arguments words) ≡ None →
      NoMirrorKeeps o.facts result alone left.old left.new right.old right.new i.old i.new o.old o.new steps steps'

-- What was done with these devices where it is not.
pub record RanDevices {D S K : Type 0} (words : List (String Global)) (windows windows' : Attached) (s : Session D S K) : Type 0 where
  pub dev : IsTrue (asks_for (arguments words) windows) → DevKeeps windows windows' s
  pub usage : asks_for (arguments words) windows ≡ false → NoDevKeeps s.sink.facts s.result windows windows'
      s.disk.old s.disk.new s.source.old s.source.new s.sink.old s.sink.new s.steps s.steps'

-- What the program did, with this status at the end: `left` is the disk in the file of the first word, and `right` the one in the file of
-- the third. With devices the first is read before the lines run, to tell of bases without an object.
pub record Did {D E S K : Type 0} (words : List (String Global)) (result : Status) (left : DiskUse D) (right : DiskUse E)
    (i : SourceUse S) (o : SinkUse K) (windows windows' : Attached) (steps steps' : ℕ) : Type 0 where
  pub mirror : is_mirror (arguments words) ≡ true →
      (alone : Option Side) × OverMirror words result alone left right i o steps steps'
  pub devices : is_mirror (arguments words) ≡ false → AfterReads left.facts left.old (λ found.
      RanDevices words windows windows' (session_of 1 result (use_of left.facts found left.new) i o steps steps'))
      × (right.new ≡ right.old)
