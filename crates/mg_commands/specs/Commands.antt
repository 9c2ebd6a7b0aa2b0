-- The commands, and the words that spell each.
use Rattle.std.specs.{List.prefix_len, Option.option_or, Prelude.{ℕ, ◌+◌, ◌*◌, ◌==◌, ◌&&◌, Bool, false, nat_le, List}}
use Rattle.std.specs.Prelude.{[], ◌∷◌, length, if◌then◌else◌, Option, Some, None, codes, drop, not, option_map, take}
use Rattle.std.specs.{Prelude.String, declared.alloc.Global.Global}
use Rattle.mg_commands.specs.declared.words.Command.{Command, TheVariants.{Check, Dry, Format, Gen, Run}}
use Rattle.{mg_io.specs.Arguments.arguments, mg_model.specs.{Settings.{Settings, within_limits}, Tariff.is_tariff}}
use Rattle.mg_model.specs.{Tariff.usual_tariff, Words.{and_then, digit_of, number_of, same_bytes}}

-- the byte of two hexadecimal digits, the high one first
abbrev pub byte_of : ℕ → ℕ → Option ℕ
byte_of high low = and_then (digit_of 16 high) (λ h. and_then (digit_of 16 low) (λ l. Some (16 * h + l)))

-- the bytes that pairs of hexadecimal digits spell
abbrev pub bytes_of : List ℕ → Option (List ℕ)
bytes_of [] = Some []
bytes_of (digit ∷ []) = None
bytes_of (high ∷ low ∷ digits) = and_then (byte_of high low) (λ byte. and_then (bytes_of digits) (λ bytes. Some (byte ∷ bytes)))

-- the 32 bytes of a seed
abbrev pub seed_of : List ℕ → Option (List ℕ)
seed_of word = if length word == 64 then bytes_of word else None

-- `FRAMES SEED CREDITS`, with the tariff for this number of frames: the settings, if they are within the limits
abbrev pub settings_of : (ℕ → List (ℕ × ℕ)) → List ℕ → List ℕ → List ℕ → Option Settings
settings_of tariff frames seed credits =
    and_then (number_of frames) (λ f. and_then (seed_of seed) (λ s. and_then (number_of credits) (λ c.
    if within_limits f c then Some record { frames = f; seed = s; credits = c; tariff = tariff f } else None)))

-- `F:R`: the number before the first colon, and the one after it
abbrev pub tariff_step_parts : List ℕ → List ℕ → Option (ℕ × ℕ)
tariff_step_parts from [] = None
tariff_step_parts from (colon ∷ rate) = and_then (number_of from) (λ f. and_then (number_of rate) (λ r. Some (f, r)))

-- how many bytes are before the first colon
abbrev pub before_colon : List ℕ → ℕ
before_colon word = prefix_len (λ b. not (b == 58)) word

abbrev pub tariff_step : List ℕ → Option (ℕ × ℕ)
tariff_step word = tariff_step_parts (take (before_colon word) word) (drop (before_colon word) word)

-- `F:R F:R F:R F:R`, if these steps are a tariff
abbrev pub tariff_of : List ℕ → List ℕ → List ℕ → List ℕ → Option (List (ℕ × ℕ))
tariff_of a b c d =
    and_then (tariff_step a) (λ p. and_then (tariff_step b) (λ q. and_then (tariff_step c) (λ r. and_then (tariff_step d) (λ s.
    if is_tariff (p ∷ q ∷ r ∷ s ∷ []) then Some (p ∷ q ∷ r ∷ s ∷ []) else None))))

-- `VOLUME dry FRAMES SEED CREDITS`
abbrev pub dry_of : List (List ℕ) → Option Settings
dry_of (volume ∷ word ∷ frames ∷ seed ∷ credits ∷ []) =
    if same_bytes word (codes "dry") then settings_of usual_tariff frames seed credits else None
dry_of words = None

-- `VOLUME format FRAMES SEED CREDITS`, and the same with `F:R F:R F:R F:R`
abbrev pub format_of : List (List ℕ) → Option Settings
format_of (volume ∷ word ∷ frames ∷ seed ∷ credits ∷ []) =
    if same_bytes word (codes "format") then settings_of usual_tariff frames seed credits else None
format_of (volume ∷ word ∷ frames ∷ seed ∷ credits ∷ a ∷ b ∷ c ∷ d ∷ []) =
    if same_bytes word (codes "format")
    then and_then (tariff_of a b c d) (λ tariff. settings_of (λ _. tariff) frames seed credits)
    else None
format_of words = None

-- `VOLUME check`
abbrev pub is_check : List (List ℕ) → Bool
is_check (volume ∷ word ∷ []) = same_bytes word (codes "check")
is_check words = false

-- `VOLUME run` and `VOLUME run BATCH`: the number of replies in a batch, 1 to 64
abbrev pub run_of : List (List ℕ) → Option ℕ
run_of (volume ∷ word ∷ []) = if same_bytes word (codes "run") then Some 1 else None
run_of (volume ∷ word ∷ batch ∷ []) =
    if same_bytes word (codes "run") then and_then (number_of batch) (λ n. if nat_le 1 n && nat_le n 64 then Some n else None) else None
run_of words = None

-- a run of this many lines, if it may have as many
abbrev pub lines_within : ℕ → ℕ → Option (ℕ × ℕ)
lines_within number count = if nat_le count 1000000 then Some (number, count) else None

-- `VOLUME gen NUMBER LINES`: the number, and how many lines
abbrev pub gen_of : List (List ℕ) → Option (ℕ × ℕ)
gen_of (volume ∷ word ∷ number ∷ count ∷ []) =
    if same_bytes word (codes "gen") then and_then (number_of number) (λ n. and_then (number_of count) (λ m. lines_within n m)) else None
gen_of words = None

-- the command that these words spell
abbrev pub command_of : List (List ℕ) → Option Command
command_of words =
    option_or (option_map (λ settings. Dry settings) (dry_of words))
    (option_or (option_map (λ settings. Format settings) (format_of words))
    (option_or (if is_check words then Some Check else None)
    (option_or (option_map (λ batch. Run batch) (run_of words)) (option_map (λ run. Gen run.0 run.1) (gen_of words)))))

-- the command that the words of the command line spell
abbrev pub spelled : List (String Global) → Option Command
spelled words = command_of (arguments words)
