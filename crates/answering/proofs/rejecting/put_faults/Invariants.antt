use Rattle.std.proofs.Common.{◌+◌, ◌*◌, ◌≤◌, take}
use Rattle.std.specs.List.{flat_map}
use Rattle.writing.specs.Writers.{Puts}
use Rattle.answering.proofs.Faults.{row_fault}
use Rattle.answering.proofs.rejecting.put_faults.Given as goal

abbrev pub invariant-loop-row : goal.invariant-loop-row
invariant-loop-row l =
    Puts l.initial.reply (flat_map row_fault (take l.row-index l.rows)) l.reply
    × (l.reply.written ≤ l.initial.reply.written + 169 * l.row-index)
