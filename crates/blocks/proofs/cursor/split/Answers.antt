use Rattle.std.proofs.Common.{rules}
use borrow.Author.Tests.{tests}
use Rattle.blocks.proofs.Cuts.{point_found, none_found}
use Rattle.blocks.proofs.cursor.split.Goals as goal

pub returns-in_err-point : goal.returns-in_err-point
returns-in_err-point c = rw c.from_residual.ensures (none_found _ _ (λ l b q k. search (rules, tests)) _ _ _ c.find.ensures.ran c.in_err-point.was)

pub overflow_sub-before : goal.overflow_sub-before
overflow_sub-before c = (point_found _ _ (λ l b q k. search (rules, tests)) _ _ _ _ c.find.ensures.ran c.in_ok-point.was).0

pub slice_bounds-before-count : goal.slice_bounds-before-count
slice_bounds-before-count c = (point_found _ _ (λ l b q k. search (rules, tests)) _ _ _ _ c.find.ensures.ran c.in_ok-point.was).1

pub returns : goal.returns
returns c = (point_found _ _ (λ l b q k. search (rules, tests)) _ _ _ _ c.find.ensures.ran c.in_ok-point.was).2
