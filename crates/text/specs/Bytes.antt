-- Classes of bytes, and lists of them.
use Rattle.std.specs.Prelude.{ℕ, Bool, ◌&&◌, ◌||◌, List, nat_le}
use Rattle.std.specs.List.{list_all}

-- a capital letter, A to Z
abbrev pub is_capital : ℕ → Bool
is_capital b = nat_le 65 b && nat_le b 90

-- a decimal digit
abbrev pub is_digit : ℕ → Bool
is_digit b = nat_le 48 b && nat_le b 57

abbrev pub is_capital_or_digit : ℕ → Bool
is_capital_or_digit b = is_capital b || is_digit b

-- whether each element passes the test
abbrev pub each : {X : Type 0} → (X → Bool) → List X → Bool
each = list_all
