-- What is said at an exit that hands a fault on.
use Rattle.{mg_check.specs.declared.examining.OpenFault.{OpenFault, TheVariants.{Disk, Memory}}, mg_disk.specs.Stops.{CountGoes, DiskCallsBy}}
use Rattle.{mg_disk.specs.declared.disk.Disk.Ghosts, mg_faults.specs.Faults.{count_then, then_rose}, mg_volume.specs.Opening.JudgesNothing}
use Rattle.std.{proofs.{Common.{◌∙◌, ap}, lemmas.Bool.{false≢true, true≢false}}, specs.Prelude.{◌≡◌, true, false, Result, Ok, Err}}

pub no : {A : Type 0} → false ≡ true → A
no e = absurd (false≢true e)

pub nor : {A : Type 0} → true ≡ false → A
nor e = absurd (true≢false e)

abbrev fault_or : {T : Type 0} → OpenFault → Result T OpenFault → OpenFault
fault_or f (Ok x) = f
fault_or f (Err e) = e

-- a fault is the same beside any value
pub same_fault : {S T : Type 0} (a b : OpenFault) → ◌≡◌ {A = Result S OpenFault} (Err a) (Err b) → ◌≡◌ {A = Result T OpenFault} (Err a) (Err b)
same_fault {S} {T} a b e = ap (λ (f : OpenFault). let r : Result T OpenFault = Err f in r) (ap (λ (r : Result S OpenFault). fault_or a r) e)

pub judges_as : {S T : Type 0} (f : OpenFault) → JudgesNothing {T = S} (Err f) → JudgesNothing {T = T} (Err f)
judges_as f j = record { no_not = λ e. j.no_not (same_fault f _ e); no_old = λ e. j.no_old (same_fault f _ e); no_damaged = λ e. j.no_damaged (same_fault f _ e) }

pub judged_ok : {T : Type 0} (x : T) → JudgesNothing {T = T} (Ok x)
judged_ok x = record { no_not = λ e. absurd cc; no_old = λ e. absurd cc; no_damaged = λ e. absurd cc }

pub judged_disk : {T : Type 0} → JudgesNothing {T = T} (Err Disk)
judged_disk = record { no_not = λ e. absurd cc; no_old = λ e. absurd cc; no_damaged = λ e. absurd cc }

pub judged_memory : {T : Type 0} → JudgesNothing {T = T} (Err Memory)
judged_memory = record { no_not = λ e. absurd cc; no_old = λ e. absurd cc; no_damaged = λ e. absurd cc }

pub calls_as : {D S T : Type 0} (facts : Ghosts D) (old new : D) (f : OpenFault) → DiskCallsBy facts old new (◌≡◌ {A = Result S OpenFault} (Err f) (Err Disk)) → DiskCallsBy facts old new (◌≡◌ {A = Result T OpenFault} (Err f) (Err Disk))
calls_as facts old new f calls = record { count = calls.count; blocks = calls.blocks; cause = λ e. calls.cause (same_fault f _ e) }

-- what one run and a later one did
pub calls_then : {D : Type 0} (facts : Ghosts D) (old mid new : D) (early late : Type 0) → DiskCallsBy facts old mid early → DiskCallsBy facts mid new late → DiskCallsBy facts old new late
calls_then facts old mid new early late first second = record {
  count = count_then (facts.faults old) (facts.faults mid) (facts.faults new) (facts.is_spent old) (facts.is_spent mid) (facts.is_spent new) first.count second.count;
  blocks = second.blocks ∙ first.blocks;
  cause = λ failed. then_rose (facts.faults old) (facts.faults mid) (facts.faults new) (facts.is_spent old) (facts.is_spent mid) (facts.is_spent new) first.count (second.cause failed);
}

module _ {D T : Type 0} (facts : Ghosts D) where
  -- nothing failed: there is a value, or no memory
  pub unfailed_ok : (old new : D) (x : T) → CountGoes facts old new → facts.block_count new ≡ facts.block_count old → DiskCallsBy facts old new (◌≡◌ {A = Result T OpenFault} (Ok x) (Err Disk))
  unfailed_ok old new x count blocks = record { count = count; blocks = blocks; cause = λ e. absurd cc }

  pub unfailed_memory : (old new : D) → CountGoes facts old new → facts.block_count new ≡ facts.block_count old → DiskCallsBy facts old new (◌≡◌ {A = Result T OpenFault} (Err Memory) (Err Disk))
  unfailed_memory old new count blocks = record { count = count; blocks = blocks; cause = λ e. absurd cc }
