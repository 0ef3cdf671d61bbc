-- What a block can say.
use Rattle.std.specs.Prelude.{ℕ, Bool, List, Some, None, Option}
use Rattle.blocks.specs.declared.block.Block.{Block}
use Rattle.blocks.specs.declared.block.Block.TheVariants.{Issue, Switch, Purge, Depart}

pub data Told : Type 0 where
  -- this list: the whole body
  issue : List ℕ → Told
  -- on, or off
  switch : Bool → Told
  purge : Told
  -- id, departure, arrival, date
  depart : List ℕ → List ℕ → List ℕ → List ℕ → Told
  not_understood : Told

-- a block of the code, as the definitions see it; none is one that is not understood
abbrev pub told_of : Option Block → Told
told_of (Some (Issue list)) = issue list.now
told_of (Some (Switch way)) = switch way
told_of (Some Purge) = purge
told_of (Some (Depart n)) = depart n.id.now n.departure.now n.arrival.now n.date.now
told_of None = not_understood
