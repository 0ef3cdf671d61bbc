use Rattle.std.proofs.Common.{◌≡◌, ℕ, List, [], Option, take}
use Rattle.packets.specs.Messages.{Message}
use Rattle.plan.specs.Rows.{rows_of, numbers_of, messages_in, Finds, each_beside}
use Rattle.plan.proofs.row.Plan.mark.Given as goal

-- the rows stay, and those so far have their numbers
abbrev pub invariant-loop-i : goal.invariant-loop-i
invariant-loop-i g l = record {
  callable : goal.F-IsAlwaysCallable g l.check;
  rows : rows_of l.self ≡ rows_of l.initial.self;
  count : l.self.count ≡ l.initial.self.count;
  numbers : (gives : List (Option Message) → Option Message → ℕ) → Finds (rows_of l.initial.self) (goal.F-post g l.check) gives
      → take l.i (numbers_of l.self) ≡ take l.i (each_beside gives [] (messages_in (rows_of l.initial.self)));
}
