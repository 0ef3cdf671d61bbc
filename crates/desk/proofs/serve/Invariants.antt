use Rattle.std.proofs.Common.{◌≡◌, ◌+◌, length}
use Rattle.blocks.specs.Blocks.{blocks, blocks_left}
use Rattle.processor.specs.Held.{Keeps, setting, program}
use Rattle.desk.specs.Told.{after_all}
use Rattle.desk.proofs.serve.Given as goal

abbrev pub invariant-loop-block : goal.invariant-loop-block
invariant-loop-block g l =
    let start = l.initial.processor in
    (l.answered + length (blocks_left l.block-iterator) ≡ length (blocks l.input))
    × Keeps start l.processor
    × (after_all (setting start) (program l.processor) (blocks_left l.block-iterator) ≡ after_all (setting start) (program start) (blocks l.input))
