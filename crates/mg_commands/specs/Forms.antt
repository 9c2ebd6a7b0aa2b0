-- What the words of a command spell, whatever the volume is called, and parts of them: what the functions that read them promise.
use Rattle.std.specs.Prelude.{ℕ, ◌&&◌, nat_le, List, [], ◌∷◌, if◌then◌else◌, Option, Some, None, codes}
use Rattle.mg_commands.specs.Commands.{dry_of, format_of, gen_of, run_of, settings_of}
use Rattle.mg_model.specs.{Settings.Settings, Words.{and_then, same_bytes}}

-- a byte, if there is one, goes before the others
abbrev pub byte_before : Option ℕ → Option (List ℕ) → Option (List ℕ)
byte_before byte rest = and_then byte (λ b. and_then rest (λ bytes. Some (b ∷ bytes)))

-- `dry FRAMES SEED CREDITS`
abbrev pub dry_words : List ℕ → List ℕ → List ℕ → List ℕ → Option Settings
dry_words word frames seed credits = dry_of ([] ∷ word ∷ frames ∷ seed ∷ credits ∷ [])

-- `format FRAMES SEED CREDITS`
abbrev pub format_usual : List ℕ → List ℕ → List ℕ → List ℕ → Option Settings
format_usual word frames seed credits = format_of ([] ∷ word ∷ frames ∷ seed ∷ credits ∷ [])

-- `format FRAMES SEED CREDITS` with a tariff, if there is one
abbrev pub format_with : Option (List (ℕ × ℕ)) → List ℕ → List ℕ → List ℕ → List ℕ → Option Settings
format_with tariff word frames seed credits =
    if same_bytes word (codes "format") then and_then tariff (λ steps. settings_of (λ _. steps) frames seed credits) else None

-- a batch of this many replies, if it may have as many
abbrev pub batch_within : ℕ → Option ℕ
batch_within batch = if nat_le 1 batch && nat_le batch 64 then Some batch else None

-- `run`
abbrev pub run_alone : List ℕ → Option ℕ
run_alone word = run_of ([] ∷ word ∷ [])

-- `run BATCH`
abbrev pub run_with : List ℕ → List ℕ → Option ℕ
run_with word batch = run_of ([] ∷ word ∷ batch ∷ [])

-- `gen NUMBER LINES`
abbrev pub gen_with : List ℕ → List ℕ → List ℕ → Option (ℕ × ℕ)
gen_with word number count = gen_of ([] ∷ word ∷ number ∷ count ∷ [])
