use Rattle.writing.proofs.Writes.{◌then◌}
use Rattle.replies.proofs.openings.put_list_opening.Goals as goal

pub returns-clause-puts : goal.returns-clause-puts
returns-clause-puts g c =
    c.put.ensures.puts then (rw c.name.ensures at c.put-2.ensures.puts) then c.put-3.ensures.puts then c.put-4.ensures.puts
    then (rw c.column_word.ensures at c.put-5.ensures.puts) then c.put-6.ensures.puts
