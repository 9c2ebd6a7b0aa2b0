-- An image with the lifted blocks spells the lifted state.
use Rattle.mg_migrate.proofs.{Fronts.same_bytes-tells, LiftedBlocks.{at_super, block-of-lifted, closed, length-lifted}, LiftedState.replayed-lifted}
use Rattle.mg_migrate.specs.{Lifted.{IsLifted, lifted}, Spelling1.{BadSuper1, NewSuper1, NotSuper1, OldSuper1, Spells1, Super1Read, super1_bytes}}
use Rattle.{mg_migrate.specs.{Spelling1.super1_read, Version1.{lift_volume, replayed1_volume}}, mg_model.specs.Abbreviations.step_words}
use Rattle.mg_model.specs.{Bytes.{bytes_at, number_at, padded_to, words_bytes}, Layout.{magic, super_block, total_blocks}, Replay.block_of}
use Rattle.mg_model.specs.{Settings.{Settings, within_limits}, Spelling.{Spells, are_settings, super_bytes, super_fields, super_read}}
use Rattle.mg_model.specs.{SuperblockLemmas.super_read-back, Tariff.is_tariff, Volume.{volume, volume_behind}, VolumeLemmas.settled-closed}
use Rattle.{mg_model.specs.{VolumeLemmas.{settled-same, volume-opened}, Words.same_bytes}, std.proofs.Common.{refl, sym, ap, subst, ◌∙◌, arith}}
use Rattle.std.{proofs.lemmas.{Bool.{and_parts, cond_both}, List.{length-append, length-drop, length-replicate, length-take}}, specs.Prelude.{◌≡◌, ℕ}}
use Rattle.std.specs.Prelude.{◌-◌, ◌≤◌, ◌&&◌, nat_lt, true, not, List, [], ◌∷◌, ◌++◌, drop, if◌then◌else◌, length, replicate}

-- what is known of the settings in a superblock of version 1
record AreTold1 (bytes : List ℕ) (settings : Settings) : Type 0 where
  same : super_fields bytes ≡ settings
  rule : are_settings (super_fields bytes) ≡ true
  written : super1_bytes (super_fields bytes) ≡ bytes

told1 : (bytes : List ℕ) (settings : Settings) → super1_read bytes ≡ Spells1 settings → AreTold1 bytes settings
told1 bytes settings is =
    let P : Super1Read → Type 0 = λ o. o ≡ Spells1 settings → AreTold1 bytes settings in
    let passes = are_settings (super_fields bytes) && same_bytes (super1_bytes (super_fields bytes)) bytes in
    let last = if passes then Spells1 (super_fields bytes) else BadSuper1 in
    let newer = if nat_lt 1 (number_at bytes 8) then NewSuper1 else last in
    let older = if nat_lt (number_at bytes 8) 1 then OldSuper1 else newer in
    cond_both (not (same_bytes magic (bytes_at bytes 0 8))) NotSuper1 older P
    (λ _ e. absurd (cc))
    (λ _. cond_both (nat_lt (number_at bytes 8) 1) OldSuper1 newer P
    (λ _ e. absurd (cc))
    (λ _. cond_both (nat_lt 1 (number_at bytes 8)) NewSuper1 last P
    (λ _ e. absurd (cc))
    (λ _. cond_both passes (Spells1 (super_fields bytes)) BadSuper1 P
    (λ t e.
    let parts = and_parts (are_settings (super_fields bytes)) (same_bytes (super1_bytes (super_fields bytes)) bytes) t in
    record { same = (cc); rule = parts.0; written = same_bytes-tells (super1_bytes (super_fields bytes)) bytes parts.1 })
    (λ _ e. absurd (cc)))))
    is

-- a superblock has a whole block
long-padded : (n : ℕ) (xs : List ℕ) → n ≤ length (padded_to n xs)
long-padded n xs = let a = length-append xs (replicate (n - length xs) 0) in let r = length-replicate {A = ℕ} (n - length xs) 0 in omega arith

pub long-super1 : (settings : Settings) → 4096 ≤ length (super1_bytes settings)
long-super1 settings =
    let rest = words_bytes (1 ∷ settings.frames ∷ settings.credits ∷ []) ++ (settings.seed ++ words_bytes (step_words settings.tariff)) in
    let a = length-append magic (padded_to 4088 rest) in
    let p = long-padded 4088 rest in
    let m : length magic ≡ 8 = refl in
    omega arith

pub seed-long : (bytes : List ℕ) → 4096 ≤ length bytes → length (bytes_at bytes 32 32) ≡ 32
seed-long bytes long = let t = length-take 32 (drop 32 bytes) in let d = length-drop 32 bytes in omega arith

pub super-back : (bytes : List ℕ) (settings : Settings) → super1_read bytes ≡ Spells1 settings → super_read (super_bytes settings) ≡ Spells settings
super-back bytes settings is =
    let told = told1 bytes settings is in
    let rules = and_parts (within_limits (super_fields bytes).frames (super_fields bytes).credits) (is_tariff (super_fields bytes).tariff) told.rule in
    let long : 4096 ≤ length bytes = subst (λ (b : List ℕ). 4096 ≤ length b) told.written (long-super1 (super_fields bytes)) in
    subst (λ (s : Settings). super_read (super_bytes s) ≡ Spells s) told.same
    (super_read-back (super_fields bytes) rules.0 rules.1 (seed-long bytes long))

pub volume-lifted : (settings : Settings) (image r c : List (List ℕ)) → super1_read (block_of image super_block) ≡ Spells1 settings → IsLifted settings r c → volume c ≡ lift_volume (replayed1_volume settings r)
volume-lifted settings image r c super is =
    let long = is.long in
    let l = lifted settings r in
    let long_l : total_blocks settings.frames ≤ length l = (let e = length-lifted settings r in omega arith) in
    let block : block_of c super_block ≡ super_bytes settings = is.blocks super_block (omega arith) (omega arith) ∙ at_super settings r in
    volume-opened c (record { long = omega arith; gate = is.opened })
    ∙ ap (λ b. volume_behind c (super_read b)) block
    ∙ ap (volume_behind c) (super-back (block_of image super_block) settings super)
    ∙ settled-same settings c l long long_l (record { each = λ k low high. is.blocks k low high ∙ sym (block-of-lifted settings r k high) })
    ∙ settled-closed settings l long_l (closed settings r)
    ∙ replayed-lifted settings r
