-- Worked texts.
use Rattle.std.specs.Prelude.{◌≡◌, true, false, [], ◌∷◌, ◌++◌, Some, None, codes}
use Rattle.calendar.specs.Days.{Days}
use Rattle.element.specs.Meanings.{Meaning}
use Rattle.element.specs.Pointed.{airport_meaning, area_meaning}
use Rattle.flights.specs.declared.flight.ControlType.TheVariants.{Sub, Fa}
use Rattle.flights.specs.Flights.{Flight}
use Rattle.replies.specs.Rows.{row}
use Rattle.replies.specs.Openings.{accepted, list_opening}
use Rattle.replies.specs.Rejections.{rejected, fault}

-- the airport MPT on base day 30 in a month of 30 days
abbrev pub mpt : Meaning
mpt = airport_meaning (codes "MPT")

abbrev pub last_of_month : Days
last_of_month = record { base = 30; month = 30 }

-- a substituted flight, cancelled and held, in the slot of 010030 with the letter B
abbrev pub held_flight : Flight
held_flight = record {
  identity = record { id = codes "QAA10"; departure = codes "HIL"; arrival = codes "MPT"; date = codes "06300100" };
  slot = Some (record { minute = 1470; letter = 66 });
  ctd = 1410;
  cta = 1470;
  control = Some Sub;
  exempt = false;
  cancelled = true;
  hold = true;
  erta = None;
  departed = false;
}

-- a pop-up with a known arrival time
abbrev pub pop_up_flight : Flight
pop_up_flight = record {
  identity = record { id = codes "QAB7"; departure = codes "HIL"; arrival = codes "MPT"; date = codes "06302300" };
  slot = None;
  ctd = 1410;
  cta = 1470;
  control = Some Fa;
  exempt = true;
  cancelled = false;
  hold = false;
  erta = Some 1471;
  departed = false;
}

-- an uncontrolled flight
abbrev pub planned_flight : Flight
planned_flight = record {
  identity = record { id = codes "QAC1234"; departure = codes "HIL"; arrival = codes "MPT"; date = codes "06302300" };
  slot = None;
  ctd = 1410;
  cta = 1470;
  control = None;
  exempt = false;
  cancelled = false;
  hold = false;
  erta = None;
  departed = false;
}

pub record WorkedTexts : Type 0 where
  pub held_row : row mpt last_of_month held_flight ≡ codes "QAA10 MPT.010030B HIL MPT 302330 010030 SUB - Y Y - 300100" ++ (10 ∷ [])
  pub pop_up_row : row mpt last_of_month pop_up_flight ≡ codes "QAB7 MPT.010030Z HIL MPT 302330 010030 FA Y - - 010031 302300" ++ (10 ∷ [])
  pub planned_row : row mpt last_of_month planned_flight ≡ codes "QAC1234 - HIL MPT 302330 010030 - - - - - 302300" ++ (10 ∷ [])
  pub airport_list : list_opening mpt ≡ codes "SLOT LIST for MPT" ++ (10 ∷ 10 ∷ []) ++ codes "ACID ASLOT DEP ARR CTD CTA TYPE EX CX SH ERTA IGTD" ++ (10 ∷ [])
  pub area_list : list_opening (area_meaning (codes "FCA1")) ≡ codes "SLOT LIST for FCA1" ++ (10 ∷ 10 ∷ []) ++ codes "ACID ASLOT DEP ARR CTD CTA TYPE EX CX SH EENTRY IGTD" ++ (10 ∷ [])
  pub acceptance : accepted (codes "A1") ≡ codes "SS A1 ACCEPTED." ++ (10 ∷ [])
  pub one_error : rejected (codes "A1") 1 ≡ codes "SS A1 REJECTED. 1 ERROR." ++ (10 ∷ 10 ∷ [])
  pub more_errors : rejected (codes "A1") 64 ≡ codes "SS A1 REJECTED. 64 ERRORS." ++ (10 ∷ 10 ∷ [])
  pub faulty_line : fault (codes "QAA10") 207 ≡ codes "QAA10" ++ (10 ∷ []) ++ codes "ERR 207" ++ (10 ∷ [])
