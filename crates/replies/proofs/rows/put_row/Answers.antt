use Rattle.std.proofs.Common.{List, ℕ, drop, ap, ◌∙◌}
use Rattle.writing.proofs.Writes.{◌then◌}
use Rattle.replies.specs.Rows.{row}
use Rattle.replies.proofs.rows.put_row.Goals as goal

pub returns-clause-puts : goal.returns-clause-puts
unfolding row
returns-clause-puts g c =
    let rest = c.past_two.ensures.rest ∙ ap (λ (l : List ℕ). drop 2 l) c.date.ensures.text in
    (rw c.id.ensures.text at c.put_field.ensures.puts)
    then (rw (c.as_bytes.ensures ∙ c.slot_shown.ensures) at c.put_field-2.ensures.puts)
    then (rw c.departure.ensures.text at c.put_field-3.ensures.puts)
    then (rw c.arrival.ensures.text at c.put_field-4.ensures.puts)
    then c.put_time.ensures.puts
    then c.put_time-2.ensures.puts
    then (rw c.type_shown.ensures.word at c.put_field-5.ensures.puts)
    then (rw c.mark.ensures.letter at c.put_field-6.ensures.puts)
    then (rw c.mark-2.ensures.letter at c.put_field-7.ensures.puts)
    then (rw c.mark-3.ensures.letter at c.put_field-8.ensures.puts)
    then c.put_time-3.ensures.puts
    then ((rw rest at c.put.ensures.puts) then c.put_byte.ensures.puts)
