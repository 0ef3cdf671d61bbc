use Rattle.std.proofs.Common.{arith, inl}
use Rattle.text.proofs.Cuts.{most_parts}
use Rattle.text.proofs.lines.count_fields.Goals as goal

pub count-requires-clause-fits : goal.count-requires-clause-fits
count-requires-clause-fits c = inl (rw c.new.ensures (omega (arith, most_parts 32 c.args.line.now)))
