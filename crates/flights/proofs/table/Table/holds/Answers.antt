use Rattle.std.proofs.Common.{vec_items, rules}
use Rattle.element.specs.Kept.{slot_of}
use Rattle.flights.proofs.Scans.{any_holder}
use Rattle.flights.proofs.table.Table.holds.Goals as goal

pub returns : goal.returns
returns c = rw (← c.self.view_is, ← any_holder (slot_of c.args.slot.now) (vec_items c.self.inside.flights)) (search rules)
