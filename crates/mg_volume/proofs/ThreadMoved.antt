-- A thread moves elsewhere, and the words of its block that was staged.
use Rattle.{mg_disk.specs.Disk.{Image, block_at}, mg_model.specs.{Abbreviations.thread_row_bytes, Layout.first_thread_block, Limits.thread_limit}}
use Rattle.mg_model.specs.{Ranges.IsThreadRow, Replay.block_of, Spelling.{Read, thread_bytes, thread_read}, State.{Thread, ThreadRow}}
use Rattle.{mg_pages.specs.declared.pages.Pages.Pages, mg_rows.specs.Laws.{IsSpelledInOneWay, live}, mg_volume.proofs.ByNumber.find-number}
use Rattle.{mg_volume.specs.{Held.VolumeHeld, Meaning.Spelled, Numbered.numbered, RowLists.{row_at, told}, Standing.Respells}, std.proofs.Common.refl}
use Rattle.std.{proofs.{Common.{sym, ap, ◌∙◌, arith}, lemmas.Option.same_Some}, specs.Prelude.{◌≡◌, ◌+◌, ◌-◌, ◌≤◌, ◌==◌, ℕ, List, find, option_map}}
use Rattle.std.specs.Prelude.{IfSome, Option, Some, None}
use Rattle.mg_pages.specs.Meaning as pages

-- a row that is found has a thread
pub unmapped : (o : Option Thread) → option_map (λ (thread : Thread). thread.row) o ≡ None → o ≡ None
unmapped None is = refl
unmapped (Some thread) is = cc

-- a change that makes of the row that is found what another does
pub changes_found : (change other : ThreadRow → ThreadRow) (o : Option Thread) (row : ThreadRow) → option_map (λ (thread : Thread). thread.row) o ≡ Some row → IfSome o (λ thread. change thread.row ≡ other thread.row)
    → IfSome o (λ thread. change thread.row ≡ other row)
changes_found change other None row is same = cc
changes_found change other (Some thread) row is same = same ∙ ap other (same_Some thread.row row is)

live-some : (o : Read ThreadRow) (row : ThreadRow) → live o ≡ Some row → o ≡ Some (Some row)
live-some None row is = cc
live-some (Some None) row is = cc
live-some (Some (Some r)) row is = ap (λ (v : Option ThreadRow). Some v) is

-- the bytes that were staged spelled the row that is held, and so those that are staged now spell the other one
pub moved_read : (v : VolumeHeld) (p : Pages) (t : ℕ) (row row' : ThreadRow) → 1 ≤ t → t ≤ 256 → Some row ≡ option_map (λ (x : ℕ × ThreadRow). x.1) (find (λ (x : ℕ × ThreadRow). x.0 == t) v.threads)
    → (respells : Respells (first_thread_block + t - 1) row row' v.pages p) → IsSpelledInOneWay (λ bytes. live (thread_read bytes)) thread_bytes IsThreadRow → IsThreadRow row' → (image : Image) → Spelled v image → thread_read respells.bytes ≡ Some (Some row')
moved_read v p t row row' low high found respells way range image s =
    let r = pages.coming v.pages image in
    let number : t - 1 + 1 ≡ t = omega arith in
    let here : first_thread_block + (t - 1) ≡ first_thread_block + t - 1 = omega arith in
    let each = (told (λ i. thread_read (thread_row_bytes r i)) 0 thread_limit s.threads s.threads_are).each (t - 1) (omega arith) (omega arith) in
    let held : row_at (t - 1) s.threads ≡ Some row =
    sym (find-number s.threads (t - 1))
    ∙ ap (λ n. option_map (λ (x : ℕ × ThreadRow). x.1) (find (λ (x : ℕ × ThreadRow). x.0 == n) (numbered s.threads))) number
    ∙ ap (λ (xs : List (ℕ × ThreadRow)). option_map (λ (x : ℕ × ThreadRow). x.1) (find (λ (x : ℕ × ThreadRow). x.0 == t) xs)) s.numbered
    ∙ sym found in
    let bytes = block_of r (first_thread_block + (t - 1)) in
    let read : live (thread_read bytes) ≡ Some row = ap (λ (o : Read ThreadRow). live o) (each ∙ ap (λ (o : Option ThreadRow). Some o) held) in
    let are : respells.bytes ≡ thread_bytes row' = respells.are image s.fitting (ap (λ k. block_at r k) (sym here) ∙ sym (way.same bytes row read)) in
    ap thread_read are ∙ live-some (thread_read (thread_bytes row')) row' (way.written row' range)
