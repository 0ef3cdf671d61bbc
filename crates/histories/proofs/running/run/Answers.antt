use Rattle.std.proofs.Common.{◌≡◌, ◌<◌, length, sym, ◌∙◌, subst, ap₂, arith}
use Rattle.std.proofs.lemmas.Bool.{and_parts}
use Rattle.element.specs.Meanings.{Meaning}
use Rattle.flights.specs.Standing.{table_stands}
use Rattle.model.specs.Model.{Setting, setting_of}
use Rattle.processor.specs.Held.{setting, program}
use Rattle.histories.specs.declared.turn.Turn.{Turn}
use Rattle.histories.specs.Running.{Taken}
use Rattle.histories.proofs.Going.{going_turn, going_end}
use Rattle.histories.proofs.Lawfully.{lawful}
use Rattle.histories.proofs.running.run.Goals as goal

pub loop-turn-preserved : goal.loop-turn-preserved
loop-turn-preserved g c =
    let start = c.args.processor.now in
    let old = c.loop-turn.processor in
    let p = program old in
    let p' = program c.take.new.processor in
    let inv = c.loop-turn.invariant in
    let same : setting old ≡ setting start =
    ap₂ (λ (r : g.row.R.Denot) (m : Meaning). setting_of (g.R.Register.owner r) (g.R.Register.carrier r) m) inv.0.register inv.0.element in
    let i = c.loop-turn.turn-index in
    let h : i < length c.loop-turn.turns = omega arith in (
      record { register = c.take.ensures.keeps.register ∙ inv.0.register; element = c.take.ensures.keeps.element ∙ inv.0.element },
      going_turn (setting start) (program start) p p' c.args.turns.now c.loop-turn.turns i c.turn-item.result c.take.new.turn inv.1 h c.turn-item.is
          (subst (λ (k : Setting g.row.R-Sender.Denot). Taken k p p' c.turn-item.result c.take.new.turn) same
          (subst (λ (x : Turn g.row.R-Sender.Denot). Taken (setting old) p p' x c.take.new.turn) (sym c.turn-item.is) c.take.ensures.takes)),
    )

pub returns : goal.returns
returns g c =
    let start = c.args.processor.now in
    let s = setting start in
    let p₀ = program start in
    let p = program c.loop-turn.processor in
    let turns = c.args.turns.now in
    let inv = c.loop-turn.invariant in
    let ran = going_end s p₀ p turns c.loop-turn.turns c.loop-turn.turn-index inv.1 (omega arith) in
    let none = (and_parts (table_stands s.element p₀.flights) _ start.stands).1 in
    record { ran = ran; lawful = lawful s p₀ p turns c.loop-turn.turns none ran; keeps = inv.0 }
