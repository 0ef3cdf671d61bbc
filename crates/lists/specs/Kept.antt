-- What the code reads, as the definitions see it.
use Rattle.std.specs.Prelude.{◌≡◌, ℕ, List, [], Ok, Err, Result}
use Rattle.calendar.specs.declared.days.Days.{Days as KeptDays}
use Rattle.calendar.specs.Days.{days_of}
use Rattle.flights.specs.Flights.{Flight}
use Rattle.lists.specs.declared.columns.Columns.{Columns as LentColumns}
use Rattle.lists.specs.Columns.{Columns}
use Rattle.lists.specs.Lists.{Reading, good, faulty}

abbrev pub columns_of : LentColumns → Columns
columns_of c = record {
  id = c.id.now;
  slot = c.slot.now;
  departure = c.departure.now;
  arrival = c.arrival.now;
  ctd = c.ctd.now;
  cta = c.cta.now;
  control = c.control.now;
  exempt = c.exempt.now;
  cancelled = c.cancelled.now;
  hold = c.hold.now;
  erta = c.erta.now;
  date = c.date.now;
}

-- a reading as the code gives it: the days, with the flights in a table, or the first faulty line, with the table empty
abbrev pub Gave : Reading → Result KeptDays ℕ → List Flight → Type 0
Gave said (Ok d) table = said ≡ good (days_of d) table
Gave said (Err n) table = (said ≡ faulty n) × (table ≡ [])
