-- The bodies of an input: its lines, up to each lone point.
use Rattle.std.specs.Prelude.{ℕ, Bool, cond, ◌||◌, List, [], ◌∷◌, ◌++◌, codes, ◌==◌}
use Rattle.std.specs.Str.{bytes_eq}
use Rattle.text.specs.Parts.{onto}

-- the lines of an input, each with its LF; the last may lack it, and no bytes are no line
abbrev pub ended_lines : List ℕ → List (List ℕ)
ended_lines [] = []
ended_lines (x ∷ xs) = cond (x == 10) ((x ∷ []) ∷ ended_lines xs) (onto x (ended_lines xs))

-- a line that is a lone point, with its LF or without
abbrev pub is_point : List ℕ → Bool
is_point line = bytes_eq line (codes ".") || bytes_eq line (codes ".\n")

-- a body that a lone point ends, and one that nothing ends
pub data Body : Type 0 where
  ended : List ℕ → Body
  unended : List ℕ → Body

-- what follows the last lone point is a body if it has any bytes
abbrev pub last_body : List ℕ → List Body
last_body [] = []
last_body (x ∷ xs) = unended (x ∷ xs) ∷ []

-- the bodies of some lines, where `bytes` of the first body came before them
abbrev pub bodies_from : List ℕ → List (List ℕ) → List Body
bodies_from bytes [] = last_body bytes
bodies_from bytes (l ∷ ls) = cond (is_point l) (ended bytes ∷ bodies_from [] ls) (bodies_from (bytes ++ l) ls)

-- the bodies of an input: every line up to a lone point, with its LF
abbrev pub bodies : List ℕ → List Body
bodies input = bodies_from [] (ended_lines input)
