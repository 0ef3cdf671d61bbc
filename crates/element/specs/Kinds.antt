-- What the two kinds of elements are.
use Rattle.std.specs.Prelude.{◌≡◌, ℕ, List, refl}
use Rattle.calendar.specs.Identities.{is_airport}
use Rattle.element.specs.contracts.kinds.AirportKindKind.TheImpl as airports
use Rattle.element.specs.contracts.kinds.AreaKindKind.TheImpl as areas
use Rattle.element.specs.Forms.{is_area_name}
use Rattle.element.specs.Pointed.{pointed_meaning, airport_meaning, area_meaning}

pub airports_named : (t : List ℕ) → airports.ghosts.is_name t ≡ is_airport t
airports_named t = refl

pub airports_mean : (code : List ℕ) → pointed_meaning airports.ghosts.word airports.ghosts.serves code ≡ airport_meaning code
airports_mean code = refl

pub areas_named : (t : List ℕ) → areas.ghosts.is_name t ≡ is_area_name t
areas_named t = refl

pub areas_mean : (name : List ℕ) → pointed_meaning areas.ghosts.word areas.ghosts.serves name ≡ area_meaning name
areas_mean name = refl
