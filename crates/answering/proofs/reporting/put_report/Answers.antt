use Rattle.std.proofs.Common.{rules}
use Rattle.writing.proofs.Writes.{◌then◌, wrote_from_start}
use Rattle.answering.specs.Replies.{reported_list}
use Rattle.answering.proofs.reporting.put_report.Goals as goal

pub returns : goal.returns
unfolding reported_list
returns g c = record {
  wrote = λ t k.
      let puts = c.put_list_opening.ensures.puts then c.put_rows.ensures.puts t k in
      wrote_from_start puts c.new-reply.ensures.buffer c.new-reply.ensures.none_written (search rules) c.written.ensures;
}
