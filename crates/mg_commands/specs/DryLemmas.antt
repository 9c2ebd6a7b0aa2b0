-- What `dry` keeps is what a run keeps of a fresh volume on a disk that never fails.
use Rattle.std.{proofs.Common.{arith, refl, sym, subst, ◌∙◌, ⊎_elim}, specs.Prelude.{ℕ, ◌≡◌, ◌≢◌, ◌⊎◌, ◌<◌, false}}
use Rattle.std.specs.Prelude.{IsTrue, Option, Some, None}
use Rattle.{mg_commands.specs.Headline.{DryKeeps, EndsRun, RunKeeps, session_of}, mg_disk.specs.Disk.Image}
use Rattle.{mg_disk.specs.{Stops.CountRose, declared.disk.Disk.Ghosts}, mg_layout.specs.MayFormat.IsNoState}
use Rattle.{mg_layout.specs.MayFormat.ReadsFresh, mg_model.specs.{Fresh.fresh, Settings.Settings, Volume.{Is, volume}}}
use Rattle.mg_serve.specs.{Sessions.use_of, declared.status.Status.Status}
use Rattle.mg_io.specs.declared.traits.Sink as sinks
use Rattle.mg_io.specs.declared.traits.Source as sources
use Rattle.mg_serve.specs.declared.status.Status.TheVariants as status

fresh_image : (settings : Settings) (told told' : Option Image) (image : Image) → told ≡ Some image → ReadsFresh settings told told' → (c : Image) × (told' ≡ Some c) × (volume c ≡ Is (fresh settings))
fresh_image settings None told' image is made = absurd (cc)
fresh_image settings (Some before) None image is made = absurd made
fresh_image settings (Some before) (Some c) image is made = (c, refl, made)

no_usage : (result : Status) → EndsRun result → result ≢ status.Usage
no_usage result which = λ h.
    ⊎_elim (λ (e : result ≡ status.NoVolume). cc) (⊎_elim (λ (e : result ≡ status.Done). cc)
    (⊎_elim (λ (e : result ≡ status.Memory). cc) (⊎_elim (λ (e : result ≡ status.Disk). cc) (⊎_elim (λ (e : result ≡ status.Source). cc) (⊎_elim (λ (e : result ≡ status.Sink). cc) (λ (e : result ≡ status.TooLong). cc))))))
    which

no_small : (result : Status) → EndsRun result → result ≢ status.TooSmall
no_small result which = λ h.
    ⊎_elim (λ (e : result ≡ status.NoVolume). cc) (⊎_elim (λ (e : result ≡ status.Done). cc)
    (⊎_elim (λ (e : result ≡ status.Memory). cc) (⊎_elim (λ (e : result ≡ status.Disk). cc) (⊎_elim (λ (e : result ≡ status.Source). cc) (⊎_elim (λ (e : result ≡ status.Sink). cc) (λ (e : result ≡ status.TooLong). cc))))))
    which

-- of a disk whose count is always 0
pub none_rose : (0 < 0) ⊎ IsTrue false → ⊥
none_rose rose = ⊎_elim (λ (less : 0 < 0). omega (arith, less)) (λ (spent : IsTrue false). cc) rose

pub dry_keeps : {D S K : Type 0} (facts : Ghosts D) (from : sources.Ghosts S) (to : sinks.Ghosts K) (settings : Settings) (result : Status) (before d d' : D) (zeros : Image) (source source' : S) (sink sink' : K) (steps steps' : ℕ)
    → facts.seen before ≡ Some zeros → ReadsFresh settings (facts.seen before) (facts.seen d) → (CountRose facts d d' → ⊥)
    → RunKeeps (session_of 64 result (use_of facts d d') (use_of from source source') (use_of to sink sink') steps steps')
    → DryKeeps settings result (use_of from source source') (use_of to sink sink') steps steps'
dry_keeps facts from to settings result before d d' zeros source source' sink sink' steps steps' told made quiet h =
    let (image, seen, is) = fresh_image settings (facts.seen before) (facts.seen d) zeros told made in record {
      answers = h.lines.answers image seen (fresh settings) is;
      cost = h.costs.cost image seen (fresh settings) is;
      counts = h.costs.counts image seen (fresh settings) is;
      ends = h.lines.ends;
      others = (no_usage result h.lines.which, (λ none. none_here image seen is none), (λ disk. quiet (h.lines.disk_failed disk)), no_small result h.lines.which);
      complete = λ no_source no_sink. h.lines.complete image seen (fresh settings) is quiet no_source no_sink;
    }
  where
    none_here : (image : Image) → facts.seen d ≡ Some image → volume image ≡ Is (fresh settings) → result ≡ status.NoVolume → ⊥
    none_here image seen is none = let t = (h.lines.without.none none).0 in subst IsNoState (sym (t.is image seen) ∙ is) t.is_kind
