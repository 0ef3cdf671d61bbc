-- What stands before the rows of a slot list.
use Rattle.std.specs.Prelude.{ℕ, List, [], ◌∷◌, ◌++◌, codes}
use Rattle.element.specs.Meanings.{Meaning}

-- the line that accepts the packet with this identifier
abbrev pub accepted : List ℕ → List ℕ
accepted id = codes "SS " ++ id ++ (codes " ACCEPTED." ++ (10 ∷ []))

-- the title, an empty line and the words of the columns
abbrev pub list_opening : Meaning → List ℕ
list_opening e =
    codes "SLOT LIST for " ++ e.name ++ (10 ∷ 10 ∷ [])
    ++ codes "ACID ASLOT DEP ARR CTD CTA TYPE EX CX SH " ++ e.word ++ (codes " IGTD" ++ (10 ∷ []))
