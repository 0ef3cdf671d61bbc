use Rattle.std.proofs.Common.{rules}
use Rattle.writing.proofs.Writes.{◌then◌, wrote_from_start}
use Rattle.answering.specs.Replies.{rejected_first}
use Rattle.answering.proofs.rejecting.put_first_fault.Goals as goal

pub returns : goal.returns
unfolding rejected_first
returns c =
    let puts = c.put_rejected.ensures.puts then c.put_fault.ensures.puts in
    record { wrote = wrote_from_start puts c.new-reply.ensures.buffer c.new-reply.ensures.none_written (search rules) c.written.ensures }
