-- Numbers of two digits.
use Rattle.std.specs.Prelude.{ℕ, ◌+◌, ◌-◌, ◌*◌, ◌/◌, ◌%◌, cond, List, [], ◌∷◌, Some, None, Option}
use Rattle.text.specs.Bytes.{is_digit}

-- the value of a digit
abbrev pub digit : ℕ → Option ℕ
digit b = cond (is_digit b) (Some (b - 48)) None

abbrev pub tens_and_ones : Option ℕ → Option ℕ → Option ℕ
tens_and_ones None o = None
tens_and_ones (Some a) None = None
tens_and_ones (Some a) (Some b) = Some (10 * a + b)

-- the number that two bytes write
abbrev pub two_digits : ℕ → ℕ → Option ℕ
two_digits a b = tens_and_ones (digit a) (digit b)

-- the number that a text of two digits writes
abbrev pub number : List ℕ → Option ℕ
number [] = None
number (a ∷ []) = None
number (a ∷ b ∷ []) = two_digits a b
number (a ∷ b ∷ c ∷ more) = None

-- the two digits of a number below 100
abbrev pub two_digits_of : ℕ → List ℕ
two_digits_of n = (48 + n / 10) ∷ (48 + n % 10) ∷ []
