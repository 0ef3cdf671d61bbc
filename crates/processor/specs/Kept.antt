-- What a processor holds, as the definitions see it.
use Rattle.calendar.specs.Days.{Days}
use Rattle.flights.specs.declared.table.Table.{Table}
use Rattle.flights.specs.Kept.{flights_of}
use Rattle.model.specs.declared.condition.Condition.{Condition}
use Rattle.model.specs.Model.{Program}

-- the program of a condition, the element's days and a table
abbrev pub program_of : Condition → Days → Table → Program
program_of condition days table = record { condition = condition; days = days; flights = flights_of table }
