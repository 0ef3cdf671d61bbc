use Rattle.std.proofs.Common.{rules}
use Rattle.writing.proofs.Writes.{◌then◌, wrote_from_start}
use Rattle.answering.specs.Replies.{refused_request}
use Rattle.answering.proofs.reporting.put_refused_request.Goals as goal

pub returns : goal.returns
unfolding refused_request
returns c =
    let puts = c.put.ensures.puts then c.put_fault.ensures.puts in
    record { wrote = wrote_from_start puts c.new-reply.ensures.buffer c.new-reply.ensures.none_written (search rules) c.written.ensures }
