-- The words of the types.
use Rattle.std.specs.Prelude.{ℕ, List, [], ◌∷◌, codes, Option}
use Rattle.std.specs.List.{find}
use Rattle.std.specs.Str.{bytes_eq}
use Rattle.flights.specs.declared.flight.ControlType.{ControlType}
use Rattle.flights.specs.declared.flight.ControlType.TheVariants.{Gdp, Comp, Blkt, Gs, Sub, Fa, Upd}

abbrev pub word_of : ControlType → List ℕ
word_of Gdp = codes "GDP"
word_of Comp = codes "COMP"
word_of Blkt = codes "BLKT"
word_of Gs = codes "GS"
word_of Sub = codes "SUB"
word_of Fa = codes "FA"
word_of Upd = codes "UPD"

abbrev pub types : List ControlType
types = Gdp ∷ Comp ∷ Blkt ∷ Gs ∷ Sub ∷ Fa ∷ Upd ∷ []

-- the type whose word a text is
abbrev pub type_read : List ℕ → Option ControlType
type_read text = find (λ t. bytes_eq (word_of t) text) types
