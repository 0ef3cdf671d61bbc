use Rattle.std.proofs.Common.{◌≡◌, List, map, Some, Option, sym, ap, ◌∙◌}
use Rattle.std.specs.Option.{option_map}
use Rattle.text.specs.Lines.{lines_left}
use Rattle.register.specs.Users.{number_of as user_number}
use Rattle.packets.specs.Messages.{Message, message_read}
use Rattle.packets.specs.Verdict.{messages_of, all_pass, line_numbers}
use Rattle.packets.proofs.Lasting.{packet_stands}
use Rattle.plan.specs.Rows.{Row, rows_of, numbers_of, messages_in, row_read}
use Rattle.model.specs.declared.condition.Condition.{Condition}
use Rattle.model.specs.Model.{Program, at_work, program_stands}
use Rattle.processor.specs.Held.{setting, program}
use Rattle.processor.specs.Packet.{amended_program}
use Rattle.processor.proofs.Saying.{condition_on, ready_outcome, messages_back}
use Rattle.processor.proofs.state.Processor.judged.Goals as goal

pub returns : goal.returns
returns g c =
    let old = c.args.self.now in
    let s = setting old in
    let p = program old in
    let u = user_number c.in_ok-user.user in
    let ls = lines_left c.args.rest in
    let os = map (message_read s.element p.days) ls in
    let start = rw c.in_ok-plan.ensures.ok_part at c.read.ensures in
    let known : s.user c.args.sender.now ≡ Some u = sym c.user_of.ensures ∙ ap (option_map user_number) c.in_ok-user.ensures.ok_part in
    let on = sym c.in_ok-allows.ensures in
    let rows : rows_of c.in_ok-plan.plan ≡ map (row_read s.element p.days) ls = rw (c.naming-naming.ensures.element, c.naming-naming.ensures.days) at start.1 in
    let read : messages_in (rows_of c.in_ok-plan.plan) ≡ os = ap messages_in rows ∙ messages_back s p ls in
    let working : at_work p.days p.flights ≡ p =
    ap (λ (k : Condition). record { condition = k; days = p.days; flights = p.flights }) (sym (condition_on old.condition on)) in
    let numbers : numbers_of c.judge.new.self ≡ line_numbers s p u os =
    c.judge.ensures.numbers
    ∙ ap (λ (q : Program). line_numbers s q u (messages_in (rows_of c.in_ok-plan.plan))) working
    ∙ ap (λ (ms : List (Option Message)). line_numbers s p u ms) read in
    record {
      rows = c.judge.ensures.rows ∙ rows;
      stands = λ h pass.
          ap (λ (rs : List Row). program_stands s.element (amended_program p (messages_of (messages_in rs)))) c.judge.ensures.rows
          ∙ ap (λ (ms : List (Option Message)). program_stands s.element (amended_program p (messages_of ms))) read
          ∙ packet_stands s p u ls h (ap all_pass (sym numbers) ∙ pass);
      outcome = ready_outcome s p c.args.sender.now ls u (numbers_of c.judge.new.self) start.0 known on numbers;
    }
