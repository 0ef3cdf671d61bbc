use Rattle.std.proofs.Common.{◌≡◌, ◌++◌, map}
use Rattle.std.specs.List.{AllByRecursion}
use Rattle.text.specs.Lines.{lines_left}
use Rattle.calendar.specs.Days.{days_of}
use Rattle.plan.specs.Rows.{rows_of, numbers_of, row_read}
use Rattle.plan.proofs.row.Plan.read.Given as goal

-- the rows so far and those of the lines to come are the rows of all lines
abbrev pub invariant-loop-line : goal.invariant-loop-line
invariant-loop-line g l =
    let read = row_read (g.E.Element.means l.naming.element.now) (days_of l.naming.days) in
    record {
      rows : rows_of l.plan ++ map read (lines_left l.line-iterator) ≡ map read (lines_left l.lines);
      numbers : AllByRecursion (λ n. n ≡ 0) (numbers_of l.plan);
    }
