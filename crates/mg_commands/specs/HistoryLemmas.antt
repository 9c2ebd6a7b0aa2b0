-- What runs keep together, by induction over them.
use Rattle.std.{proofs.Common.{refl, sym, ⊎_elim, arith}, specs.Prelude.{ℕ, ◌≡◌, ◌≤◌, List, length, take, Option, Some}}
use Rattle.std.specs.Prelude.{None, IfSome, IsSome, IsSomeAnd}
use Rattle.mg_commands.specs.{Headline.HoldsSince, History.{Finds, Follow, LeftBy, Reaches, Run, Runs, RunsHold}}
use Rattle.{mg_commands.specs.History.{SpellsReached, session}, mg_disk.specs.Disk.Image, mg_model.specs.Lines.lines}
use Rattle.{mg_model.specs.State.State, mg_serve.specs.Sessions.AreHeld}
use Rattle.mg_disk.specs.declared.disk.Disk as disks
use Rattle.mg_io.specs.declared.traits.Sink as sinks
use Rattle.mg_io.specs.declared.traits.Source as sources
use Rattle.mg_commands.specs.History as history

-- the image that reads give
of_told : (told : Option Image) (P : Image → Type 0) → IsSomeAnd told P → (a : Image) × (told ≡ Some a) × P a
of_told None P is = absurd is
of_told (Some a) P is = (a, refl, is)

to_told : (told : Option Image) (P Q : Image → Type 0) → ((a : Image) → P a → Q a) → IsSomeAnd told P → IsSomeAnd told Q
to_told None P Q each is = is
to_told (Some a) P Q each is = each a is

-- what holds of a told input and of the rest of it, or of the input alone
from_rest : (l l' : Option (List ℕ)) (P : List ℕ → List ℕ → Type 0) → IsSomeAnd l (λ input. IsSome l') → IfSome l (λ input. IsSomeAnd l' (λ rest. P input rest))
    → (Out : Type 0) → ((input rest : List ℕ) → P input rest → ((R : List ℕ → List ℕ → Type 0) → R input rest → IfSome l (λ i. IsSomeAnd l' (λ r. R i r))) → Out) → Out
from_rest None l' P told is Out go = absurd told
from_rest (Some input) None P told is Out go = absurd is
from_rest (Some input) (Some rest) P told is Out go = go input rest is (λ R r. r)

from_input : (l l' : Option (List ℕ)) (P : List ℕ → Type 0) → IsSomeAnd l (λ input. IsSome l') → IfSome l P
    → (Out : Type 0) → ((input : List ℕ) → P input → ((R : List ℕ → Type 0) → R input → IfSome l R) → Out) → Out
from_input None l' P told is Out go = absurd told
from_input (Some input) l' P told is Out go = go input is (λ R r. r)

module _ {D S K : Type 0} (d : disks.Ghosts D) (i : sources.Ghosts S) (o : sinks.Ghosts K) where
  -- one run more
  module _ (s : State) (runs : Runs D S K) (r : Run D S K) (finds : Finds d i o s runs r) (before : (c : Image) → LeftBy d i o s runs c → SpellsReached d i o s runs c) where
    -- it begins in a state that is reached, and keeps what a run from that one does
    begun : (u : State) × Reaches d i o s runs u × HoldsSince (r.kept u) (session d i o r).disk (session d i o r).source (session d i o r).sink
    begun =
        let read = of_told (d.seen r.disk) (LeftBy d i o s runs) finds.reads in
        let at = before read.0 read.2 in
        (at.0, at.2, finds.keeps.holds read.0 read.1 at.0 at.1)

    at_end : (c : Image) → LeftBy d i o s (history.Ended runs r) c → SpellsReached d i o s (history.Ended runs r) c
    at_end c may =
        from_rest (i.left r.source) (i.left r.source') _ finds.told begun.2.held (SpellsReached d i o s (history.Ended runs r) c)
        (λ input rest held back.
        ⊎_elim
        (λ none.
        let at = before c (finds.no_others c none.0) in
        (at.0, at.1, (at.0, at.2, back (λ x y. (k : ℕ) × AreHeld (session d i o r).sink x y k × (at.0 ≡ r.kept at.0 (take k (lines x)))) (0, none.1, sym (finds.still at.0)))))
        (λ some.
        let u = begun.0 in
        let t = r.kept u (take some.0 (lines input)) in
        (t, some.2, (u, begun.1, back (λ x y. (k : ℕ) × AreHeld (session d i o r).sink x y k × (t ≡ r.kept u (take k (lines x)))) (some.0, some.1, refl))))
        (held c may))

    within : (c : Image) → LeftBy d i o s (history.CutOff runs r) c → SpellsReached d i o s (history.CutOff runs r) c
    within c was =
        from_input (i.left r.source) (i.left r.source') _ finds.told begun.2.moments (SpellsReached d i o s (history.CutOff runs r) c)
        (λ input leaves back.
        ⊎_elim
        (λ none.
        let at = before c (finds.no_others c none) in
        (at.0, at.1, (at.0, at.2, back (λ x. (k : ℕ) × (k ≤ length (lines x)) × (at.0 ≡ r.kept at.0 (take k (lines x)))) (0, omega arith, sym (finds.still at.0)))))
        (λ some.
        let u = begun.0 in
        let t = r.kept u (take some.0 (lines input)) in
        (t, some.2, (u, begun.1, back (λ x. (k : ℕ) × (k ≤ length (lines x)) × (t ≡ r.kept u (take k (lines x)))) (some.0, some.1, refl))))
        (leaves.each c was))

  all_left : (s : State) (runs : Runs D S K) → Follow d i o s runs → (c : Image) → LeftBy d i o s runs c → SpellsReached d i o s runs c
  all_left s history.None follow c at = (s, at, refl)
  all_left s (history.Ended runs r) follow c may = at_end s runs r follow.1 (all_left s runs follow.0) c may
  all_left s (history.CutOff runs r) follow c was = within s runs r follow.1 (all_left s runs follow.0) c was

  pub runs_hold : RunsHold d i o
  runs_hold = record {
    left = all_left;
    opened = λ s runs follow r finds. to_told (d.seen r.disk) (LeftBy d i o s runs) (SpellsReached d i o s runs) (all_left s runs follow) finds.reads;
  }
