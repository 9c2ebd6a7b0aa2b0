-- From the text that was put of the contents, and what waited of it, to what is kept of the volume whose rows were read.
use Rattle.{mg_check.specs.ReadRuns.only_none, mg_disk.specs.Disk.Image, mg_io.specs.Known.{AppendsPrefix-none, AppendsPrefix}}
use Rattle.{mg_model.specs.{Layout.total_blocks, Replay.replay, State.State, Volume.{Is, volume}}, mg_rules.specs.RowsRead.{IsReadAs, state_in}}
use Rattle.{mg_rules.specs.declared.volume_rows.VolumeRows.VolumeRows, mg_show.specs.{Commands.text_of, Putting.{ShowsRows, status_of}, Writing.Held}}
use Rattle.mg_show.specs.{Writing.{Puts, PutsOf, Adds, Writes}, WritingLemmas.writes_then, declared.{command.Text.Text, faults.ShowFault.ShowFault}}
use Rattle.std.proofs.Common.{ℕ, ◌≡◌, List, [], ◌++◌, None, Some, refl, sym, ap, inl, inr, subst, append-nil, ⊎_elim, ◌∙◌, arith}
use Rattle.std.specs.{Io.KnownBytes.Appends, Option.ForSome, Prelude.Option}
use Rattle.mg_disk.specs.declared.disk.Disk as disks
use Rattle.mg_io.specs.declared.traits.Sink as sinks
use Rattle.mg_serve.specs.declared.status.Status.TheVariants as status
use Rattle.mg_show.specs.declared.faults.ShowFault.TheVariants as fault

-- what was taken, where nothing waited and nothing waits
taken_whole : (a b : Option (List ℕ)) (v text : List ℕ) → v ≡ [] → Adds a b [] v text → Appends a b text
taken_whole a b v text none adds = subst (λ t. Appends a b t) (sym (append-nil adds.put) ∙ ap (λ x. adds.put ++ x) (sym none) ∙ adds.all) adds.took

module _ {D K : Type 0} (facts : disks.Ghosts D) (to : sinks.Ghosts K) (asked : Text) (rows : VolumeRows) (d : D) (s : K) (told : ForSome (facts.seen d) (IsReadAs rows)) where
  -- memory was wanting
  pub not_shown : (facts.time d).has_been (facts.time d).moment → ShowsRows facts to asked status.Memory d d s s
  not_shown been = record {
    done = λ is. absurd (cc);
    prefix = λ image seen. let read = told image seen in (state_in rows read.replayed, read.is, AppendsPrefix-none (to.taken s) (text_of asked (state_in rows read.replayed)));
    reads = only_none facts d been;
    which = inr (inl refl);
    memory = λ is. refl;
    disk_failed = λ is. absurd (cc);
    sink_failed = λ is. absurd (cc);
  }

  -- the text was put, or a first part of it, where nothing waited and nothing had failed
  pub rows_shown : (total : ℕ) (text : Image → List ℕ) (d' : D) (s' s'' : K) (o o' o'' : Held) → total ≡ total_blocks rows.params.frames
      → ((r : Image) → text r ≡ text_of asked (state_in rows r)) → o ≡ record { waiting = []; fault = None }
      → PutsOf facts to (λ image. replay image total) text d d' s s' o o' → Puts to [] s' s'' o' o'' → (o''.fault ≡ None → o''.waiting ≡ [])
      → ShowsRows facts to asked (status_of o''.fault) d d' s s''
  rows_shown total text d' s' s'' o o' o'' is same begins puts rest empty = by_end o''.fault refl
    where
      whole : Writes to puts.told s s'' o o''
      whole = subst (λ t. Writes to t s s'' o o'') (append-nil puts.told) (writes_then to puts.writes rest.writes)

      waits : o.waiting ≡ []
      waits = ap (λ (h : Held). h.waiting) begins

      none : o.fault ≡ None
      none = ap (λ (h : Held). h.fault) begins

      -- what was put is the text of the state
      told_is : (image : Image) → facts.seen d ≡ Some image → (read : IsReadAs rows image) → puts.told ≡ text_of asked (state_in rows read.replayed)
      told_is image seen read = grind arith

      prefix : ForSome (facts.seen d) (λ image. (x : State) × (volume image ≡ Is x) × AppendsPrefix (to.taken s) (to.taken s'') (text_of asked x))
      prefix image seen =
          let read = told image seen in (
            state_in rows read.replayed,
            read.is,
            subst (λ t. AppendsPrefix (to.taken s) (to.taken s'') t)
                (ap (λ w. w ++ puts.told) waits ∙ told_is image seen read) (whole.prefix none),
          )

      by_end : (f : Option ShowFault) → o''.fault ≡ f → ShowsRows facts to asked (status_of f) d d' s s''
      by_end None e = record {
        done = λ _ image seen.
            let read = told image seen in (
              state_in rows read.replayed,
              read.is,
              subst (λ t. Appends (to.taken s) (to.taken s'') t) (told_is image seen read)
                  (taken_whole (to.taken s) (to.taken s'') o''.waiting puts.told (empty e)
                  (subst (λ w. Adds (to.taken s) (to.taken s'') w o''.waiting puts.told) waits (whole.adds e))),
            );
        prefix = prefix;
        reads = puts.reads;
        which = inl refl;
        memory = λ is. absurd (cc);
        disk_failed = λ is. absurd (cc);
        sink_failed = λ is. absurd (cc);
      }
      by_end (Some fault.Disk) e = record {
        done = λ is. absurd (cc);
        prefix = prefix;
        reads = puts.reads;
        which = inr (inr (inl refl));
        memory = λ is. absurd (cc);
        disk_failed = λ is. ⊎_elim (λ (was : o.fault ≡ Some fault.Disk). absurd (cc)) (λ rose. rose) (puts.disk_rose (rest.not_read e));
        sink_failed = λ is. absurd (cc);
      }
      by_end (Some fault.Sink) e = record {
        done = λ is. absurd (cc);
        prefix = prefix;
        reads = puts.reads;
        which = inr (inr (inr refl));
        memory = λ is. absurd (cc);
        disk_failed = λ is. absurd (cc);
        sink_failed = λ is. ⊎_elim (λ (was : o.fault ≡ Some fault.Sink). absurd (cc)) (λ rose. rose) (whole.rose e);
      }
