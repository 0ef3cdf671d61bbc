use Rattle.std.proofs.Common.{arith}
use Rattle.processor.proofs.Shortness.{short_first}
use Rattle.processor.proofs.lines.first_line.Goals as goal

pub returns-clause-short : goal.returns-clause-short
returns-clause-short c =
    rw c.unwrap_or.ensures (short_first c.args.rest.now c.next.new.self c.next.result _ c.next.ensures.steps (omega arith))
