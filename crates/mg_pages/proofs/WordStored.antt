-- All that a store to a word does, whether its page had a frame or not.
use Rattle.{mg_disk.specs.{Disk.Image, Stops.CountRose, declared.disk.Disk.Ghosts}, mg_journal.specs.Held.Store, mg_model.specs.Layout.body_limit}
use Rattle.{mg_model.specs.Layout.first_frame, mg_pages.proofs.Begun.{binds-begun, sets-begun, sound-begun, spelled-begun, staged-begun}}
use Rattle.mg_pages.proofs.{Changed.{binds-changed, sets-changed, sound-changed, spelled-changed, staged-changed}, Opened.{held-kept, same-shape}}
use Rattle.mg_pages.{proofs.Opened.stands-again, specs.{Entries.HoldsEntries, Held.IsSound, Meaning.{BindsOnly, IsSpelledBy, SameShape, ServesPage}}}
use Rattle.mg_pages.specs.{Meaning.{SetsWord, StagesMore, StandsOn}, Parts.{BindsWord, ChangesWord, KeepsMore, LooksAt, Stores}}
use Rattle.{mg_pages.specs.declared.pages.Pages.Pages, std.{proofs.{Common.{ap, subst, ◌∙◌, ⊎_elim}, lemmas.List.length-set}, specs.Prelude.◌≡◌}}
use Rattle.std.specs.Prelude.{◌≢◌, ◌+◌, ◌/◌, ◌≤◌, ℕ, List, length, OnErr, Option, Result, Some}

pub sound-stored : (told : Option Image) (store : Store) (kept : List (ℕ × List ℕ)) (page index value : ℕ) (frames frames' : List ℕ) (writes writes' : List (ℕ × List ℕ)) → page ≢ 0 → length writes + 2 ≤ body_limit
    → Stores told store kept page index value frames frames' writes writes' → IsSound store.total frames writes → IsSound store.total frames' writes'
sound-stored told store kept page index value frames frames' writes writes' some room stores sound =
    ⊎_elim (λ here. rw (here.0, here.1.more) (sound-changed store.total frames writes page here.1.frame here.1.bytes here.1.holds room sound))
    (λ is. let b = is.begins in rw (b.bound, b.more) (sound-begun store.total frames writes page b.frame b.block b.entries b.lowest some is.unbound room sound)) stores

pub record Stored (told : Option Image) (page index value : ℕ) (p q : Pages) : Type 0 where
  pub shape : SameShape p q
  pub staged : StagesMore 2 p q
  pub binds : BindsOnly page p q
  pub spelled : (image : Image) → told ≡ Some image → IsSpelledBy p image → IsSpelledBy q image
  pub sets : (image : Image) → told ≡ Some image → IsSpelledBy p image → SetsWord p q image page index value

module _ (told : Option Image) (p q : Pages) (page index value : ℕ) (some : page ≢ 0) (keeps : KeepsMore told (first_frame (length p.frames)) p.blocks q.blocks) where
  changed : q.frames ≡ p.frames → ChangesWord told p.blocks.store p.blocks.kept page index value p.frames p.blocks.writes q.blocks.writes → Stored told page index value p q
  changed same is = record {
    shape = same-shape p q keeps.store (ap (λ (xs : List ℕ). length xs) same);
    staged = staged-changed p q page is.frame is.bytes is.holds keeps.store same is.more;
    binds = binds-changed p q page is.frame is.bytes is.holds keeps.store same is.more;
    spelled = λ image seen. spelled-changed p q page is.frame is.bytes is.holds keeps.store same is.more image (keeps.kept image seen);
    sets = λ image seen spelled. sets-changed p q page is.frame is.bytes is.holds keeps.store same is.more image index value spelled (is.are image seen (held-kept p image spelled));
  }

  begun : BindsWord page index value p.frames q.frames p.blocks.writes q.blocks.writes → Stored told page index value p q
  begun is =
      let b = is.begins in
      let hold = subst (λ fs. HoldsEntries fs (b.frame / 512) b.entries) b.bound b.hold in
      record {
        shape = same-shape p q keeps.store (ap (λ (xs : List ℕ). length xs) b.bound ∙ length-set p.frames b.frame page);
        staged = staged-begun p q page b.frame b.block b.entries b.lowest some is.unbound keeps.store b.bound b.more hold;
        binds = binds-begun p q page b.frame b.block b.entries b.lowest some is.unbound keeps.store b.bound b.more hold;
        spelled = λ image seen. spelled-begun p q page b.frame b.block b.entries b.lowest some is.unbound keeps.store b.bound b.more hold image (keeps.kept image seen);
        sets = λ image seen spelled. sets-begun p q page b.frame b.block b.entries b.lowest some is.unbound keeps.store b.bound b.more hold image index value spelled b.are;
      }

  pub stored : Stores told p.blocks.store p.blocks.kept page index value p.frames q.frames p.blocks.writes q.blocks.writes → Stored told page index value p q
  stored stores = ⊎_elim (λ here. changed here.0 here.1) begun stores

-- what it leaves, over reads of blocks
pub serves-stored : {D T T' E E' : Type 0} (facts : Ghosts D) (disk disk' : D) (read : Result T E) (result : Result T' E') (p q : Pages) (page index value : ℕ) → page ≢ 0
    → Stores (facts.seen disk) p.blocks.store p.blocks.kept page index value p.frames q.frames p.blocks.writes q.blocks.writes → LooksAt facts p.blocks q.blocks disk disk' read → OnErr result (CountRose facts disk disk') → StandsOn facts p disk → ServesPage page facts p q disk disk' result
serves-stored facts disk disk' read result p q page index value some stores looks cause stands =
    let keeps = looks.keeps (first_frame (length p.frames)) in
    let is = stored (facts.seen disk) p q page index value some keeps stores in
    record {
      binds = is.binds;
      shape = is.shape;
      staged = is.staged;
      stands = stands-again facts p q disk disk' stands looks.reads.writes.same looks.reads.calls.blocks looks.stands.settled keeps.store is.spelled;
      reads = record { writes = looks.reads.writes; calls = record { count = looks.reads.calls.count; blocks = looks.reads.calls.blocks; cause = cause } };
    }
