use Rattle.std.proofs.Common.{refl, arith}
use Rattle.std.proofs.lemmas.List.{with_items_is}
use Rattle.processor.specs.Held.{setting, program}
use Rattle.histories.proofs.Going.{taken_from}
use Rattle.histories.proofs.running.take.Goals as goal

pub returns-clause-takes : goal.returns-clause-takes
returns-clause-takes g c =
    let old = c.args.processor.now in
    let t = c.args.turn.now in
    taken_from (setting old) (program old) (program c.make-turn.new.processor) t _ c.make-turn.result c.as_mut_slice.result.now c.make-turn.new.buffer c.make-turn.ensures.does c.as_mut_slice.ensures.value (with_items_is t.buffer c.make-turn.new.buffer (omega arith)) refl refl
