-- The faulty lines of a packet.
use Rattle.std.specs.Prelude.{ℕ, zero, suc, List, [], ◌∷◌}
use Rattle.text.specs.Lines.{Line}
use Rattle.replies.specs.Rejections.{fault}

-- a faulty line and its number
pub record Fault : Type 0 where
  pub line : Line
  pub number : ℕ

-- the lines whose number is not 0, each with its own number, in their order
abbrev pub faulty : List Line → List ℕ → List Fault
faulty [] ns = []
faulty (l ∷ ls) [] = []
faulty (l ∷ ls) (zero ∷ ns) = faulty ls ns
faulty (l ∷ ls) (suc n ∷ ns) = record { line = l; number = suc n } ∷ faulty ls ns

-- a faulty line as it is printed, with the line of its number below it
abbrev pub fault_text : Fault → List ℕ
fault_text f = fault f.line.text f.number
