-- What the program promises. An object that does not tell its content has None for it, and a promise on content is then empty.
use Rattle.std.specs.{Io.KnownBytes.Appends, Prelude.{ℕ, ◌+◌, ◌^◌, ◌≡◌, ◌≢◌, ◌⊎◌, List, Option, IsSomeAnd, Result, Ok}}
use Rattle.std.specs.Prelude.{Err}
use Rattle.mg_asm.specs.{Assembled.assembled, FaultText.fault_line, Listed.listed, Printed.printed, Reading.on_ok}
use Rattle.mg_asm.specs.{Stored.store_lines, declared.faults.AsmFault.{AsmFault, TheVariants.At}}
use Rattle.mg_asm_session.specs.declared.{faulty.Faulty.Faulty, words.Command.{Command, TheVariants.{Print, Store}}}
use Rattle.{mg_faults.specs.Faults.Rose, mg_filter.specs.{Whole.{OfWhole, TakesMore}, declared.status.Status.Status}}
use Rattle.mg_io.specs.Known.{AppendsPrefix, TakesAtMost}
use Rattle.mg_filter.specs.declared.status.Status.TheVariants as status
use Rattle.mg_io.specs.declared.traits.Sink as sinks
use Rattle.mg_io.specs.declared.traits.Source as sources

-- the most bytes that a text may have
abbrev pub text_limit : ℕ
text_limit = 2 ^ 24

-- What a text becomes: the lines that store the words that it assembles to, or the text of the words that it lists; or its first fault.
abbrev pub became : Command → List ℕ → Result (List ℕ) AsmFault
became (Store thread address) text = on_ok (store_lines thread address) (assembled text)
became Print text = on_ok printed (listed text)

-- a text became lines, and the sink took them
abbrev pub PutsLines : Result (List ℕ) AsmFault → Option (List ℕ) → Option (List ℕ) → Type 0
PutsLines (Ok lines) taken taken' = Appends taken taken' lines
PutsLines (Err fault) taken taken' = ⊥

-- a text has a fault, and the sink took its line
abbrev pub PutsFault : Result (List ℕ) AsmFault → Option (List ℕ) → Option (List ℕ) → Type 0
PutsFault (Ok lines) taken taken' = ⊥
PutsFault (Err fault) taken taken' = Appends taken taken' (fault_line fault)

-- the sink took some first bytes of the lines, or the sink aside of the line of the fault
abbrev pub PutsPart : Result (List ℕ) AsmFault → Option (List ℕ) → Option (List ℕ) → Option (List ℕ) → Option (List ℕ) → Type 0
PutsPart (Ok lines) taken taken' aside aside' = AppendsPrefix taken taken' lines × (aside' ≡ aside)
PutsPart (Err fault) taken taken' aside aside' = (taken' ≡ taken) × AppendsPrefix aside aside' (fault_line fault)

-- this is the text that the source had, which was read to its end, with its first fault
abbrev pub IsFaulty : Command → Option (List ℕ) → Option (List ℕ) → Option Faulty → Type 0
IsFaulty command left left' faulty = OfWhole left left'
    (λ text. IsSomeAnd faulty (λ f. (f.text.items ≡ text) × (became command text ≡ Err (At f.line f.kind))))

-- What a command keeps: `out` takes what the text became, and `err` its fault.
pub record Keeps {S O E : Type 0} (from : sources.Ghosts S) (to : sinks.Ghosts O) (aside : sinks.Ghosts E) (command : Command)
    (result : Status) (source source' : S) (out out' : O) (err err' : E) : Type 0 where
  -- At the end `out` took what the text became, and nothing else was written.
  pub done : result ≡ status.Done
      → OfWhole (from.left source) (from.left source')
      (λ text. PutsLines (became command text) (to.taken out) (to.taken out')) × (err' ≡ err)
  -- At a fault `err` took its line, and nothing else was written.
  pub fault : result ≡ status.Fault
      → OfWhole (from.left source) (from.left source')
      (λ text. PutsFault (became command text) (aside.taken err) (aside.taken err')) × (out' ≡ out)
  -- A sink that failed took a first part of its text. It fails only if its count of faults rose.
  pub sink : result ≡ status.Sink
      → OfWhole (from.left source) (from.left source')
      (λ text. PutsPart (became command text) (to.taken out) (to.taken out') (aside.taken err) (aside.taken err'))
  pub sink_failed : result ≡ status.Sink → Rose (to.faults out) (to.faults out') (to.is_spent out')
      ⊎ Rose (aside.faults err) (aside.faults err') (aside.is_spent err')
  -- If there was not enough memory, the source failed or the text is too long, nothing was written.
  pub nothing : (result ≡ status.Memory) ⊎ ((result ≡ status.Source) ⊎ (result ≡ status.TooLong)) → (out' ≡ out) × (err' ≡ err)
  -- The source failed only if its count of faults rose.
  pub source_failed : result ≡ status.Source → Rose (from.faults source) (from.faults source') (from.is_spent source')
  -- The text is too long exactly if more was taken than it may have.
  pub too_long : result ≡ status.TooLong → TakesMore text_limit (from.left source) (from.left source')
  pub within : result ≢ status.TooLong → TakesAtMost text_limit (from.left source) (from.left source')
  -- At each status no more is taken than that, and a piece of 4,096 bytes.
  pub bounded : TakesAtMost (text_limit + 4096) (from.left source) (from.left source')
  -- Words that spell a command are no `usage`.
  pub spelled : result ≢ status.Usage
