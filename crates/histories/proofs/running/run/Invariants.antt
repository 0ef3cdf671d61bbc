use Rattle.processor.specs.Held.{Keeps, setting, program}
use Rattle.histories.proofs.Going.{Going}
use Rattle.histories.proofs.running.run.Given as goal

abbrev pub invariant-loop-turn : goal.invariant-loop-turn
invariant-loop-turn g l =
    let start = l.initial.processor in
    Keeps start l.processor
    × Going (setting start) (program start) (program l.processor) l.initial.turns l.turns l.turn-index
