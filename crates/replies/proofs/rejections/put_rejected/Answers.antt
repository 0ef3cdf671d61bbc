use Rattle.writing.proofs.Writes.{◌then◌}
use Rattle.replies.proofs.rejections.put_rejected.Goals as goal

pub returns-clause-puts : goal.returns-clause-puts
returns-clause-puts c =
    c.put.ensures.puts then c.put-2.ensures.puts then c.put-3.ensures.puts then c.put_number.ensures.puts
    then (rw c.error_word.ensures.word at c.put-4.ensures.puts) then c.put-5.ensures.puts
