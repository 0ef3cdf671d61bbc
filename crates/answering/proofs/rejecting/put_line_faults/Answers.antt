use Rattle.std.proofs.Common.{rules}
use Rattle.writing.proofs.Writes.{◌then◌, wrote_from_start}
use Rattle.answering.specs.Replies.{rejected_lines}
use Rattle.answering.proofs.rejecting.put_line_faults.Goals as goal

pub returns : goal.returns
unfolding rejected_lines
returns c =
    let puts = (rw c.count_faults.ensures.count at c.put_rejected.ensures.puts) then c.put_faults.ensures.puts in
    record { wrote = wrote_from_start puts c.new-reply.ensures.buffer c.new-reply.ensures.none_written (search rules) c.written.ensures }
