-- Flights, and what is asked of a list of them.
use Rattle.std.specs.Prelude.{ℕ, Bool, true, false, cond, List, [], ◌∷◌, Some, None, Option}
use Rattle.calendar.specs.Days.{Minute}
use Rattle.calendar.specs.Identities.{Identity, same_identity}
use Rattle.element.specs.Slots.{Slot, same_slot}
use Rattle.flights.specs.declared.flight.ControlType.{ControlType}
use Rattle.flights.specs.declared.flight.ControlType.TheVariants.{Gdp, Comp, Blkt, Gs, Sub, Fa, Upd}
use Rattle.flights.specs.Counts.{bump}

-- a flight of the table. Without a type it is uncontrolled, and its CTD and CTA are planned times
pub record Flight : Type 0 where
  pub identity : Identity
  pub slot : Option Slot
  pub ctd : Minute
  pub cta : Minute
  pub control : Option ControlType
  pub exempt : Bool
  pub cancelled : Bool
  pub hold : Bool
  pub erta : Option Minute
  pub departed : Bool

-- a pop-up: a flight of type FA. It is controlled and holds no slot
abbrev pub is_pop_up : ControlType → Bool
is_pop_up Gdp = false
is_pop_up Comp = false
is_pop_up Blkt = false
is_pop_up Gs = false
is_pop_up Sub = false
is_pop_up Fa = true
is_pop_up Upd = false

abbrev pub is_slot : Option Slot → Slot → Bool
is_slot None s = false
is_slot (Some r) s = same_slot r s

-- how many flights have this identity
abbrev pub bearers : Identity → List Flight → ℕ
bearers i [] = 0
bearers i (f ∷ fs) = bump (same_identity f.identity i) (bearers i fs)

-- how many flights hold this slot
abbrev pub holders : Slot → List Flight → ℕ
holders s [] = 0
holders s (f ∷ fs) = bump (is_slot f.slot s) (holders s fs)

-- the flight after its departure
abbrev pub departing : Flight → Flight
departing f = record {
  identity = f.identity;
  slot = f.slot;
  ctd = f.ctd;
  cta = f.cta;
  control = f.control;
  exempt = f.exempt;
  cancelled = f.cancelled;
  hold = f.hold;
  erta = f.erta;
  departed = true;
}

-- the flight after the departure of the flight with this identity
abbrev pub departed_as : Identity → Flight → Flight
departed_as i f = cond (same_identity f.identity i) (departing f) f
