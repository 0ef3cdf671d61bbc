use Rattle.std.proofs.Common.{rules}
use Rattle.blocks.proofs.Cuts.{lines_taken}
use Rattle.blocks.proofs.cursor.EndedLinesIterator.next.Goals as goal

pub returns-clause-steps : goal.returns-clause-steps
returns-clause-steps c = search (rules, lines_taken)

pub returns-clause-goes : goal.returns-clause-goes
returns-clause-goes c = record { on = λ _. (tt, tt, search rules); keeps = tt; rests = λ _. tt }
