-- A call of another leaves a program alike for the user, but for the slots that its SC lines name.
use Rattle.std.proofs.Common.{◌≡◌, ℕ, true, false, eqb, List, ◌++◌, map, sym, ap, ◌∙◌, subst, arith}
use Rattle.text.specs.Lines.{Line}
use Rattle.element.specs.Slots.{Slot}
use Rattle.flights.specs.Counts.{some}
use Rattle.flights.specs.Flights.{holders}
use Rattle.packets.specs.Messages.{message_read}
use Rattle.packets.specs.Amended.{amended}
use Rattle.packets.specs.StageTwo.{count}
use Rattle.packets.specs.Verdict.{messages_of}
use Rattle.packets.proofs.Others.{all_alone, other_same}
use Rattle.packets.proofs.Shifts.{makes}
use Rattle.model.specs.Model.{Setting, Program, Input, program_stands}
use Rattle.histories.specs.Slots.{times, slots_created, created}
use Rattle.histories.specs.Laws.{AlikeFor}
use Rattle.histories.proofs.Passing.{Passed}
use Rattle.histories.proofs.Making.{not_in, makes_few, holders_after}

module _ {S : Type 0} (s : Setting S) (u : ℕ) (but : List Slot) (p q : Program) (a : AlikeFor s u but p q) where
  -- slots left out besides
  pub wider : (more : List Slot) → AlikeFor s u (more ++ but) p q
  wider more = record { condition = a.condition; days = a.days; flights = a.flights; held = λ x h. a.held x (not_in x more but h).1 }

  same_first : (p' : Program) (but' : List Slot) → p' ≡ p → AlikeFor s u but' p q → AlikeFor s u but' p' q
  same_first p' but' e b = subst (λ (r : Program). AlikeFor s u but' r q) (sym e) b

  -- a packet of another user that passes
  module _ (stands : program_stands s.element p ≡ true) (sender : S) (input : Input) (p' : Program) (k : Passed s p sender input.lines p') (other : eqb u k.user ≡ false) where
    pub passed_alike : AlikeFor s u (created s.element p.days input.lines ++ but) p' q
    passed_alike =
        let os = map (message_read s.element p.days) k.messages in
        let ms = messages_of os in
        let made = created s.element p.days input.lines in
        subst (λ (r : Program). AlikeFor s u (made ++ but) r q) (sym k.amends) (record {
          condition = a.condition;
          days = a.days;
          flights = other_same s p k.user u ms p.flights q.flights (all_alone s p k.user os k.pass) other a.flights;
          held = λ x h.
              let out = not_in x made but h in
              let named : times x made ≡ times x (slots_created os) = ap (λ (ls : List Line). times x (created s.element p.days ls)) k.split in
              let few = makes_few x os in
              let none : count (makes x) ms ≡ 0 = omega arith in
              let grown = holders_after s p k.user k.messages stands k.pass x in
              let same : holders x (map (amended ms) p.flights) ≡ holders x p.flights = omega arith in
              ap some same ∙ a.held x out.1;
        })
