-- Definitions, in the order in which one reads them. First what the machine holds, and who may reach what.
pub mod Limits
pub mod Settings
pub mod Tariff
pub mod PasswordRows
pub mod State
pub mod Rights
pub mod Access
pub mod Objects
-- The rows of the table of calls, after what they speak of: what is drawn, what is owed, what is refused.
pub mod Draw
pub mod Bank
pub mod Refused
pub mod ObjectCalls
pub mod Domains
pub mod Threads
pub mod BankCalls
-- Scripts and their turns, and one step.
pub mod Script
pub mod Turn
pub mod Step
-- Which accesses a line makes and what they may cost, what a cache of rights keeps, and what each seat of it rests on.
pub mod Accesses
pub mod Keys
pub mod Warmth
pub mod Events
pub mod Kept
pub mod Backed
-- From bytes to lines, and from replies to bytes.
pub mod Words
pub mod Lines
pub mod Ended
pub mod FewSlots
pub mod Print
-- The fresh machine, and what every state keeps.
pub mod Fresh
pub mod Ranges
pub mod WellFormed
-- What an image of a volume spells.
pub mod Layout
pub mod Bytes
pub mod Tests
pub mod Spelling
pub mod Replay
pub mod Volume
-- Names that lemmas, and contracts of the crates above, have for parts of these.
pub mod Abbreviations
-- What the types in src/ rest on: a list in an array, and a count of words.
pub mod Filled
pub mod Counts
-- Lemmas that crates above cite. None of them is part of a statement.
pub mod AccountLemmas
pub mod BytesLemmas
pub mod DrawnLemmas
pub mod FilledLemmas
pub mod KeptListLemmas
pub mod RowLemmas
pub mod StepwiseLemmas
pub mod SuperblockLemmas
pub mod RowTestLemmas
pub mod VolumeLemmas
