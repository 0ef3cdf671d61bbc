-- The words that a program's condition is printed by.
use Rattle.std.specs.Prelude.{ℕ, List, codes}
use Rattle.model.specs.declared.condition.Condition.{Condition}
use Rattle.model.specs.declared.condition.Condition.TheVariants.{NoProgram, On, Off}

abbrev pub word_of : Condition → List ℕ
word_of NoProgram = codes "none"
word_of On = codes "on"
word_of Off = codes "off"
