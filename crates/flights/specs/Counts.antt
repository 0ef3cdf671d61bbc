-- Counting.
use Rattle.std.specs.Prelude.{ℕ, zero, suc, Bool, true, false}

-- one more, where the test passed
abbrev pub bump : Bool → ℕ → ℕ
bump true n = suc n
bump false n = n

-- whether there is any
abbrev pub some : ℕ → Bool
some zero = false
some (suc n) = true

-- whether two answers agree
abbrev pub agree : Bool → Bool → Bool
agree true b = b
agree false true = false
agree false false = true
