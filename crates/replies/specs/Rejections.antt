-- The text of a rejection.
use Rattle.std.specs.Prelude.{ℕ, cond, List, [], ◌∷◌, ◌++◌, codes, ◌==◌}
use Rattle.writing.specs.Decimals.{decimal}

abbrev pub error_word : ℕ → List ℕ
error_word n = cond (n == 1) (codes " ERROR.") (codes " ERRORS.")

-- the line that rejects the packet with this identifier for a number of errors, and an empty line
abbrev pub rejected : List ℕ → ℕ → List ℕ
rejected id errors = codes "SS " ++ id ++ codes " REJECTED. " ++ decimal errors ++ error_word errors ++ (10 ∷ 10 ∷ [])

-- a faulty line, and the line with the number of its error
abbrev pub fault : List ℕ → ℕ → List ℕ
fault text number = text ++ (10 ∷ codes "ERR ") ++ decimal number ++ (10 ∷ [])
