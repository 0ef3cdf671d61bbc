-- Numbers in decimal digits.
use Rattle.std.specs.Prelude.{ℕ, zero, suc, ◌+◌, ◌/◌, ◌%◌, cond, List, [], ◌∷◌, ◌++◌, nat_le}

-- at most k digits, the last of them the number's ones
abbrev pub decimal_by : ℕ → ℕ → List ℕ
decimal_by zero n = []
decimal_by (suc k) n = cond (nat_le n 9) ((48 + n) ∷ []) (decimal_by k (n / 10) ++ ((48 + n % 10) ∷ []))

-- the decimal digits of a number of at most ten of them, without leading zeros; 0 is one digit
unfoldable pub decimal : ℕ → List ℕ
decimal n = decimal_by 10 n
