use Rattle.std.proofs.Common.{List, [], true, false, rules, refl, ap, ◌∙◌}
use Rattle.register.specs.Users.{number_of as user_number}
use Rattle.packets.specs.StageOne.{fault_alone}
use Rattle.checks.specs.Held.{setting, program}
use Rattle.plan.specs.Rows.{Row, rows_of, numbers_of, messages_in, each_beside, fault_beside}
use Rattle.plan.proofs.Stages.{judged}
use Rattle.plan.proofs.row.Plan.judge.Goals as goal

pub returns-then-is_none-clause-numbers : goal.returns-then-is_none-clause-numbers
returns-then-is_none-clause-numbers g c =
    let s = setting g.R.Register g.E.Element c.args.checker.now in
    let p = program g.R.Register g.E.Element c.args.checker.now in
    let u = user_number c.args.checker.now.user in
    let os = messages_in (rows_of c.args.self.now) in
    judged s p u os (numbers_of c.mark.new.self) (c.mark.ensures.numbers (λ before o. fault_alone s p u o) (λ a r e h. search rules))
    false (numbers_of c.mark-then-is_none.new.self) c.first_fault.result c.if-is_none.ensures c.first_fault.ensures
    (c.mark-then-is_none.ensures.numbers (fault_beside s p u os) (λ a r e h. search rules) ∙ ap (λ (rs : List Row). each_beside (fault_beside s p u os) [] (messages_in rs)) c.mark.ensures.rows)

pub returns-else-is_none-clause-numbers : goal.returns-else-is_none-clause-numbers
returns-else-is_none-clause-numbers g c =
    let s = setting g.R.Register g.E.Element c.args.checker.now in
    let p = program g.R.Register g.E.Element c.args.checker.now in
    let u = user_number c.args.checker.now.user in
    judged s p u (messages_in (rows_of c.args.self.now)) (numbers_of c.mark.new.self) (c.mark.ensures.numbers (λ before o. fault_alone s p u o) (λ a r e h. search rules))
    true (numbers_of c.mark.new.self) c.first_fault.result c.if-is_none.ensures c.first_fault.ensures refl
