-- Words that give `run` a batch spell the command `run`.
use Rattle.std.proofs.Common.{◌≡◌, ℕ, ◌==◌, Bool, true, false, List, [], ◌∷◌, if◌then◌else◌, Option, Some, None, codes}
use Rattle.std.proofs.{Common.{option_map, ap, refl, arith}, lemmas.Bool.{and_parts, eqb-true}}
use Rattle.std.specs.Option.{option_or}
use Rattle.mg_commands.specs.{Commands.{command_of, run_of}, declared.words.Command.TheVariants.{Check, Run}}
use Rattle.mg_model.specs.Words.{same_bytes}

-- no word is both `check` and `run`
not_both : (word : List ℕ) → same_bytes word (codes "check") ≡ true → same_bytes word (codes "run") ≡ true → ⊥
not_both [] check run = cc
not_both (b ∷ bytes) check run =
    let c : b ≡ 99 = eqb-true b 99 (and_parts (b == 99) _ check).0 in
    let r : b ≡ 114 = eqb-true b 114 (and_parts (b == 114) _ run).0 in
    omega (arith, c, r)

two : (check run : Bool) (n : ℕ) → (check ≡ true → run ≡ true → ⊥) → (if run then Some 1 else None) ≡ Some n
    → option_or (if check then Some Check else None) (option_or (option_map (λ batch. Run batch) (if run then Some 1 else None)) None) ≡ Some (Run n)
two check false n apart is = absurd cc
two true true n apart is = absurd (apart refl refl)
two false true n apart is = ap (λ (o : Option ℕ). option_or (option_map (λ batch. Run batch) o) None) is

pub run_of-spelled : (words : List (List ℕ)) (n : ℕ) → run_of words ≡ Some n → command_of words ≡ Some (Run n)
run_of-spelled [] n is = absurd cc
run_of-spelled (v ∷ []) n is = absurd cc
run_of-spelled (v ∷ word ∷ []) n is = two (same_bytes word (codes "check")) (same_bytes word (codes "run")) n (not_both word) is
run_of-spelled (v ∷ word ∷ batch ∷ []) n is = ap (λ (o : Option ℕ). option_or (option_map (λ batch. Run batch) o) None) is
run_of-spelled (v ∷ word ∷ a ∷ b ∷ more) n is = absurd cc
