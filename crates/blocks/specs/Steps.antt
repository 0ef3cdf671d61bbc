-- What the private functions give on the way.
use Rattle.std.specs.Prelude.{◌≡◌, ℕ, List, [], ◌∷◌, ◌++◌, length, Some, None, Option}
use Rattle.std.specs.Borrow.{Bor}
use Rattle.blocks.specs.declared.cursor.EndedLines.{EndedLines}
use Rattle.blocks.specs.Bodies.{ended_lines, bodies, last_body, ended}

-- how many bytes the first of some lines has
abbrev pub first_len : List (List ℕ) → ℕ
first_len [] = 0
first_len (l ∷ ls) = length l

-- a cursor gave the first of the lines left, or there was none
abbrev pub YieldsLine : EndedLines → Option (Bor (List ℕ)) → EndedLines → Type 0
YieldsLine s None t = (s.rest.now ≡ []) × (t.rest.now ≡ [])
YieldsLine s (Some l) t = (s.rest.now ≡ l.now ++ t.rest.now) × (ended_lines s.rest.now ≡ l.now ∷ ended_lines t.rest.now)

-- an input that was cut at its first lone point: the body before it, and what follows its line; or that has none
abbrev pub Splits : List ℕ → Option (Bor (List ℕ) × Bor (List ℕ)) → Type 0
Splits input None = bodies input ≡ last_body input
Splits input (Some s) = bodies input ≡ ended s.0.now ∷ bodies s.1.now
