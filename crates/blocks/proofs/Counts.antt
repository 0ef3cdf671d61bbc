-- How many blocks an input can have.
use Rattle.std.proofs.Common.{ℕ, suc, ◌+◌, ◌≤◌, Bool, true, false, cond, eqb, List, [], ◌∷◌, ◌++◌, length, arith}
use Rattle.std.proofs.lemmas.List.{length-map}
use Rattle.text.specs.Parts.{onto}
use Rattle.blocks.specs.Bodies.{Body, ended_lines, is_point, last_body, bodies_from, ended}
use Rattle.blocks.specs.Blocks.{blocks}

onto_most : (x n : ℕ) (ls : List (List ℕ)) → length ls ≤ n → length (onto x ls) ≤ suc n
onto_most x n [] h = omega arith
onto_most x n (l ∷ ls) h = omega arith

line_step : (x n : ℕ) (ls : List (List ℕ)) (t : Bool) → length ls ≤ n → length (cond t ((x ∷ []) ∷ ls) (onto x ls)) ≤ suc n
line_step x n ls true h = omega arith
line_step x n ls false h = onto_most x n ls h

most_lines : (xs : List ℕ) → length (ended_lines xs) ≤ length xs
most_lines [] = omega arith
most_lines (x ∷ xs) = line_step x (length xs) (ended_lines xs) (eqb x 10) (most_lines xs)

last_most : (bytes : List ℕ) → length (last_body bytes) ≤ 1
last_most [] = omega arith
last_most (x ∷ xs) = omega arith

body_step : (b : Body) (n : ℕ) (bs cs : List Body) (t : Bool) → length bs ≤ n → length cs ≤ n → length (cond t (b ∷ bs) cs) ≤ suc n
body_step b n bs cs true h k = omega arith
body_step b n bs cs false h k = omega arith

most_bodies : (bytes : List ℕ) (ls : List (List ℕ)) → length (bodies_from bytes ls) ≤ suc (length ls)
most_bodies bytes [] = last_most bytes
most_bodies bytes (l ∷ ls) = body_step (ended bytes) (suc (length ls)) (bodies_from [] ls) (bodies_from (bytes ++ l) ls) (is_point l) (most_bodies [] ls) (most_bodies (bytes ++ l) ls)

-- there is at most one block more than there are bytes
pub most_blocks : (input : List ℕ) → length (blocks input) ≤ length input + 1
most_blocks input = simp length-map (omega (arith, most_bodies [] (ended_lines input), most_lines input))
