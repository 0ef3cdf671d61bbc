use Rattle.std.proofs.Common.{arith}
use Rattle.blocks.proofs.Counts.{most_blocks}
use Rattle.desk.proofs.serve.Goals as goal

pub overflow_add-answered : goal.overflow_add-answered
overflow_add-answered g c = omega (arith, most_blocks c.args.input.now, c.loop-block.invariant.0, c.well_formed)
