-- A table of rows, each a key with its user. The rows stand in the order in which they were added.
use Rattle.std.specs.Prelude.{ℕ, Bool, cond, List, [], ◌∷◌, Some, None, Option}
use Rattle.register.specs.declared.rows.Row.{Row}
use Rattle.register.specs.Users.{number_of}

-- the user in the first row whose key passes the test
abbrev pub first_with : {K : Type 0} → (K → Bool) → List (Row K) → Option ℕ
first_with test [] = None
first_with test (row ∷ rows) = cond (test row.key) (Some (number_of row.user)) (first_with test rows)
