-- What the blocks of an input say.
use Rattle.std.specs.Prelude.{ℕ, List, map}
use Rattle.blocks.specs.declared.cursor.Blocks.{Blocks}
use Rattle.blocks.specs.Told.{Told, not_understood}
use Rattle.blocks.specs.Understood.{understood}
use Rattle.blocks.specs.Bodies.{Body, ended, unended, bodies}

-- what a body says: one that no point ends is never understood
abbrev pub said_by : Body → Told
said_by (ended body) = understood body
said_by (unended body) = not_understood

-- what the blocks of an input say, in their order
abbrev pub blocks : List ℕ → List Told
blocks input = map said_by (bodies input)

-- what a cursor has yet to give
abbrev pub blocks_left : Blocks → List Told
blocks_left c = blocks c.rest.now
