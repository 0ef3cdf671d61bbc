use Rattle.std.proofs.Common.{vec_items, rules}
use Rattle.calendar.specs.Identities.{identity_of}
use Rattle.flights.proofs.Scans.{any_bearer}
use Rattle.flights.proofs.table.Table.has.Goals as goal

pub returns : goal.returns
returns c = rw (← c.self.view_is, ← any_bearer (identity_of c.args.identity.now) (vec_items c.self.inside.flights)) (search rules)
