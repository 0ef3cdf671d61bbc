use Rattle.writing.proofs.Writes.{◌then◌}
use Rattle.replies.proofs.fields.put_field.Goals as goal

pub returns-clause-puts : goal.returns-clause-puts
returns-clause-puts c = c.put.ensures.puts then c.put_byte.ensures.puts
