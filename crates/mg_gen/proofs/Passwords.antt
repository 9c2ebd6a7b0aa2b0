-- The passwords that the seed of the run's machine draws.
use Rattle.{mg_gen.specs.{Asked.{PasswordsAreDrawn, password_number}, Generated.generated_password}, rand_chacha.specs.Block.block_word}
use Rattle.{rand_chacha.specs.Block.{column_round, diagonal_round, double_rounds, quarter_round}, rand_core.specs.Steps.u32_at, std.proofs.Common.◌≡◌}
use Rattle.std.proofs.{Common.{ℕ, zero, suc, ◌^◌, ◌<◌, ◌≤◌, get_or, refl, ap, subst, arith}, lemmas.Bool.Decides.nat_tests}

pub passwords-drawn : PasswordsAreDrawn
unfolding generated_password block_word double_rounds quarter_round column_round diagonal_round u32_at
passwords-drawn = refl

-- each by its number
pub password-is : PasswordsAreDrawn → (k : ℕ) → 1 ≤ k → k ≤ 5 → password_number k ≡ generated_password k
password-is drawn zero some few = absurd (omega (arith, some))
password-is drawn (suc zero) some few = ap (λ xs. get_or xs 0 0) drawn
password-is drawn (suc (suc zero)) some few = ap (λ xs. get_or xs 1 0) drawn
password-is drawn (suc (suc (suc zero))) some few = ap (λ xs. get_or xs 2 0) drawn
password-is drawn (suc (suc (suc (suc zero)))) some few = ap (λ xs. get_or xs 3 0) drawn
password-is drawn (suc (suc (suc (suc (suc zero))))) some few = ap (λ xs. get_or xs 4 0) drawn
password-is drawn (suc (suc (suc (suc (suc (suc k)))))) some few = absurd (omega (arith, few))

number-fits : (k : ℕ) → password_number k < 2 ^ 64
number-fits k = grind (arith, nat_tests)

pub password-fits : (k : ℕ) → 1 ≤ k → k ≤ 5 → generated_password k < 2 ^ 64
password-fits k some few = subst (λ v. v < 2 ^ 64) (password-is passwords-drawn k some few) (number-fits k)
