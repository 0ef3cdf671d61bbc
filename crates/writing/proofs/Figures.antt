-- The digits of numbers below 1000.
use Rattle.std.proofs.Common.{◌≡◌, ℕ, ◌+◌, ◌/◌, ◌%◌, ◌<◌, ◌≤◌, [], ◌∷◌, arith}
use Rattle.std.proofs.lemmas.Bool.{le-leb, lt-leb}
use Rattle.writing.specs.Decimals.{decimal}

pub one_digit : (n : ℕ) → n < 10 → decimal n ≡ (48 + n % 10) ∷ []
unfolding decimal
one_digit n h =
    let e : n % 10 ≡ n = omega arith in
    rw (le-leb n 9 (omega arith), e)

pub two_digits : (n : ℕ) → 10 ≤ n → n < 100 → decimal n ≡ (48 + n / 10 % 10) ∷ (48 + n % 10) ∷ []
unfolding decimal
two_digits n l h =
    let e : n / 10 % 10 ≡ n / 10 = omega arith in
    rw (lt-leb n 9 (omega arith), le-leb (n / 10) 9 (omega arith), e)

pub three_digits : (n : ℕ) → 100 ≤ n → n < 1000 → decimal n ≡ (48 + n / 10 / 10) ∷ (48 + n / 10 % 10) ∷ (48 + n % 10) ∷ []
unfolding decimal
three_digits n l h =
    rw (lt-leb n 9 (omega arith), lt-leb (n / 10) 9 (omega arith), le-leb (n / 10 / 10) 9 (omega arith))
