use Rattle.std.proofs.Common.{◌≡◌, List, map, sym, ap, ◌∙◌, rules, arith}
use Rattle.flights.specs.Flights.{Flight}
use Rattle.flights.specs.Kept.{flights_of}
use Rattle.messages.specs.Kept.{identifier_of}
use Rattle.packets.specs.Amended.{amended}
use Rattle.packets.specs.Verdict.{messages_of}
use Rattle.plan.specs.Rows.{rows_of, numbers_of, messages_in}
use Rattle.answering.specs.Replies.{line_in}
use Rattle.model.specs.Model.{program_stands}
use Rattle.model.specs.Refusals.{number}
use Rattle.processor.specs.Held.{setting, program}
use Rattle.processor.specs.Kept.{program_of}
use Rattle.processor.proofs.Saying.{lines_said, acceptance_said, none_passes, fault_fails}
use Rattle.processor.proofs.state.Processor.conclude.Goals as goal

pub put_line_faults-second-requires-clause-few : goal.put_line_faults-second-requires-clause-few
put_line_faults-second-requires-clause-few g c = omega (arith, c.filled.ensures.count, c.args.plan.now.few)

pub returns-in-Some-clause-sends : goal.returns-in-Some-clause-sends
returns-in-Some-clause-sends g c =
    let plan = c.args.plan.now in
    let ns = numbers_of plan in
    let why = c.in-Some.why in
    lines_said (setting c.args.self.now) (program c.args.self.now) (identifier_of c.args.id.now) (map line_in (rows_of plan)) (messages_in (rows_of plan)) ns (number why) c.put_line_faults-second.result c.args.reply.now c.put_line_faults-second.new.out
    (fault_fails why ns c.in-Some.ensures) c.in-Some.ensures
    (rw (c.as_bytes.ensures.text, c.filled.ensures.rows, c.filled.ensures.numbers) at c.put_line_faults-second.ensures.wrote)

pub invariant_of-self : goal.invariant_of-self
invariant_of-self g c =
    let s = setting c.args.self.now in
    let p = program c.args.self.now in
    let passes = none_passes (numbers_of c.args.plan.now) (sym c.in_default.ensures) in
    let amends : flights_of c.amend.new.self ≡ map (amended (messages_of (messages_in (rows_of c.args.plan.now)))) p.flights = c.amend.ensures _ (λ f f' k. search rules) in
    record { stands = ap (λ (fs : List Flight). program_stands s.element (record { condition = p.condition; days = p.days; flights = fs })) amends ∙ c.requires.stands passes }

pub returns-clause-sends : goal.returns-clause-sends
returns-clause-sends g c =
    let s = setting c.args.self.now in
    let p = program c.args.self.now in
    let plan = c.args.plan.now in
    let os = messages_in (rows_of plan) in
    let ns = numbers_of plan in
    let amends : flights_of c.amend.new.self ≡ map (amended (messages_of os)) p.flights = c.amend.ensures _ (λ f f' k. search rules) in
    acceptance_said s p (program_of p.condition p.days c.amend.new.self) (identifier_of c.args.id.now) (map line_in (rows_of plan)) os ns c.accept.result c.args.reply.now c.accept.new.reply
    (none_passes ns (sym c.in_default.ensures))
    (ap (λ (fs : List Flight). record { condition = p.condition; days = p.days; flights = fs }) amends)
    (rw amends at c.accept.ensures.wrote)
