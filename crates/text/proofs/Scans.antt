-- A test of each element, and a text at the front of a buffer.
use Rattle.std.proofs.Common.{◌≡◌, ℕ, ◌≤◌, Bool, true, List, ◌++◌, length, take, Some, ◌∙◌}
use Rattle.std.proofs.lemmas.Bool.{le-leb, and_from}
use Rattle.std.proofs.lemmas.List.Folds.{list_all-append}
use Rattle.text.specs.Bytes.{each}
use Rattle.text.specs.Short.{shortened}

pub each_append : {X : Type 0} (test : X → Bool) (xs ys : List X) → each test xs ≡ true → each test ys ≡ true → each test (xs ++ ys) ≡ true
each_append test xs ys h k = list_all-append test xs ys ∙ and_from (each test xs) (each test ys) h k

-- a text that fits, as it is kept at the front of a buffer
pub shortened_fits : (n : ℕ) (text bytes : List ℕ) → length text ≤ n → take (length text) bytes ≡ text → Some (take (length text) bytes) ≡ shortened n text
shortened_fits n text bytes h e = rw (e, le-leb (length text) n h)
