use Rattle.std.proofs.Common.{List, rules, tests, ap, ◌∙◌}
use Rattle.flights.specs.Counts.{some}
use Rattle.calendar.specs.Identities.{identity_of}
use Rattle.packets.specs.Messages.{Message, names}
use Rattle.packets.specs.StageTwo.{count}
use Rattle.packets.specs.Verdict.{messages_of}
use Rattle.plan.specs.Rows.{Row, messages_in}
use Rattle.plan.proofs.row.Plan.names.Goals as goal

pub returns : goal.returns
returns c =
    let test = λ (n : Message). names n (identity_of c.args.flight.now.identity) in
    c.any_message.ensures test (λ m b k. search (rules, tests))
    ∙ ap (λ (rs : List Row). some (count test (messages_of (messages_in rs)))) c.filled.ensures.rows
