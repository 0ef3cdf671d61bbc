-- Worked edges of times, names, the CTA and the flying time.
use Rattle.std.specs.Prelude.{◌≡◌, ℕ, ◌+◌, true, false, List, Some, None, codes}
use Rattle.calendar.specs.Days.{Days, time_read}
use Rattle.element.specs.Slots.{Slot}
use Rattle.element.specs.Meanings.{name_read}
use Rattle.element.specs.Pointed.{airport_meaning}
use Rattle.flights.specs.Flights.{Flight}
use Rattle.flights.specs.Standing.{in_slot}
use Rattle.packets.specs.Messages.{Seat}
use Rattle.packets.specs.StageOne.{ete_fits}

-- base day 30 in a month of 30 days
abbrev pub last_of_month : Days
last_of_month = record { base = 30; month = 30 }

-- the slot names of the airport MPT on these days
abbrev pub names_at_mpt : Slot → List ℕ
names_at_mpt p = (airport_meaning (codes "MPT")).slot_name last_of_month p

-- the minute 1,470 with the letter B
abbrev pub slot_b : Slot
slot_b = record { minute = 1470; letter = 66 }

-- a flight that takes so many minutes
abbrev pub flight_lasting : ℕ → Flight
flight_lasting minutes = record {
  identity = record { id = codes "QAA10"; departure = codes "HIL"; arrival = codes "MPT"; date = codes "06300100" };
  slot = None;
  ctd = 100;
  cta = 100 + minutes;
  control = None;
  exempt = false;
  cancelled = false;
  hold = false;
  erta = None;
  departed = false;
}

-- a seat in which it would take so many minutes
abbrev pub seat_lasting : ℕ → Seat
seat_lasting minutes = record { ctd = 200; cta = 200 + minutes; slot = slot_b }

pub record WorkedEdges : Type 0 where
  pub first_of_month : time_read last_of_month (codes "010030") ≡ Some 1470
  pub last_day : time_read last_of_month (codes "060000") ≡ Some 8640
  pub past_the_days : time_read last_of_month (codes "070000") ≡ None
  pub slot_name_text : name_read names_at_mpt (codes "MPT.010030B") ≡ Some slot_b
  pub no_point : name_read names_at_mpt (codes "MPT010030B") ≡ None
  pub twenty_after : in_slot (Some slot_b) 1490 ≡ true
  pub twenty_one_after : in_slot (Some slot_b) 1491 ≡ false
  pub one_before : in_slot (Some slot_b) 1469 ≡ false
  pub sixty_by_45 : ete_fits (flight_lasting 60) (seat_lasting 105) ≡ true
  pub sixty_by_46 : ete_fits (flight_lasting 60) (seat_lasting 106) ≡ false
  pub ninety_two_by_46 : ete_fits (flight_lasting 92) (seat_lasting 138) ≡ true
