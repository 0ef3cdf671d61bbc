use Rattle.std.proofs.Common.{sym, ap, ◌∙◌}
use Rattle.text.specs.Lines.{line_of, lines_left}
use Rattle.messages.specs.Kept.{identifier_of}
use Rattle.plan.specs.Rows.{rows_of, numbers_of}
use Rattle.processor.specs.Packet.{Outcome, answered}
use Rattle.processor.specs.Held.{setting, program}
use Rattle.processor.proofs.Saying.{judged_rows}
use Rattle.processor.proofs.state.Processor.headed.Goals as goal

pub returns-in-Ok-clause-sends : goal.returns-in-Ok-clause-sends
returns-in-Ok-clause-sends g c =
    let s = setting c.args.self.now in
    let p = program c.args.self.now in
    let plan = c.in-Ok.plan in
    let id = identifier_of c.args.id.now in
    let ready = c.in-Ok.ensures in
    c.conclude.ensures.sends
    ∙ ap (λ (o : Outcome). answered p c.args.reply.now o)
    (judged_rows s p (rows_of plan) (lines_left c.args.rest) (numbers_of plan) id ready.rows ∙ sym (ready.outcome id (line_of c.args.first)))
