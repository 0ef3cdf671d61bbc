use Rattle.std.proofs.Common.{rules}
use Rattle.packets.specs.Verdict.{messages_of, is_named}
use Rattle.plan.specs.Rows.{rows_of, messages_in}
use Rattle.writing.proofs.Writes.{◌then◌, wrote_from_start}
use Rattle.answering.specs.Replies.{accepted_list}
use Rattle.answering.proofs.accepting.put_acceptance.Goals as goal

pub returns : goal.returns
unfolding accepted_list
returns g c =
    let named = is_named (messages_of (messages_in (rows_of c.args.plan.now))) in
    let puts = c.put_accepted.ensures.puts then c.put_list_opening.ensures.puts then c.put_rows.ensures.puts named (λ f b k. search rules) in
    record { wrote = wrote_from_start puts c.new-reply.ensures.buffer c.new-reply.ensures.none_written (search rules) c.written.ensures }
