use Rattle.std.proofs.Common.{◌≡◌, true, false, Option, MatchOption, List, ◌++◌, map, sym, ap, ◌∙◌, subst, arith}
use Rattle.std.proofs.ByRecursion.{All-push}
use Rattle.std.specs.List.{AllByRecursion}
use Rattle.text.specs.Lines.{line_of, lines_left}
use Rattle.text.specs.declared.lines.Lines.{Lines}
use Rattle.text.proofs.Cuts.{short_line}
use Rattle.calendar.specs.Days.{days_of}
use Rattle.messages.specs.Headers.{has_places}
use Rattle.plan.specs.declared.row.Plan.{Plan}
use Rattle.plan.specs.Rows.{Row, row_of, rows_of, number_of, numbers_of, row_read}
use Rattle.plan.proofs.RowSteps.{count_rows, filled_more, too_many, none_there, all_there}
use Rattle.plan.proofs.row.Plan.read.Goals as goal

pub loop-line-init : goal.loop-line-init
loop-line-init g c =
    let read = row_read (g.E.Element.means c.args.naming.now.element.now) (days_of c.args.naming.now.days) in
    record {
      rows = ap (λ (rows : List Row). rows ++ map read (lines_left c.into_iter-line-iterator.result)) c.new-plan.ensures.rows
          ∙ ap (λ (ls : Lines). map read (lines_left ls)) c.into_iter-line-iterator.ensures.into_iter_gives;
      numbers = subst (AllByRecursion (λ n. n ≡ 0)) (sym c.new-plan.ensures.numbers) tt;
    }

pub row_of-requires : goal.row_of-requires
row_of-requires g c = short_line c.loop-line.line-iterator c.next.new.self c.in-Some.line c.in-Some.ensures.steps

pub loop-line-preserved : goal.loop-line-preserved
loop-line-preserved g c =
    let read = row_read (g.E.Element.means c.args.naming.now.element.now) (days_of c.args.naming.now.days) in
    let was = c.loop-line.plan in
    record {
      rows = filled_more read (rows_of was) (rows_of c.push.new.self) (lines_left c.loop-line.line-iterator) (lines_left c.next.new.self) (lines_left c.args.lines) (line_of c.in-Some.line) (row_of c.row_of.result)
          c.loop-line.invariant.rows c.in-Some.ensures.steps c.row_of.ensures.row c.in_ok-push.ensures.rows;
      numbers = subst (AllByRecursion (λ n. n ≡ 0)) (sym c.in_ok-push.ensures.numbers) (All-push (λ n. n ≡ 0) (numbers_of was) (number_of c.row_of.result) c.loop-line.invariant.numbers c.row_of.ensures.number);
    }

pub returns-in_err-push : goal.returns-in_err-push
returns-in_err-push g c =
    let read = row_read (g.E.Element.means c.args.naming.now.element.now) (days_of c.args.naming.now.days) in
    let p = c.loop-line.plan in
    subst (λ (o : Option Plan). MatchOption o (has_places (lines_left c.args.lines) ≡ false) (λ p. (has_places (lines_left c.args.lines) ≡ true) × (rows_of p ≡ map read (lines_left c.args.lines)) × AllByRecursion (λ n. n ≡ 0) (numbers_of p))) (sym c.from_residual.ensures)
    (too_many read (rows_of p) (lines_left c.loop-line.line-iterator) (lines_left c.next.new.self) (lines_left c.args.lines)
    (line_of c.in-Some.line) c.loop-line.invariant.rows c.in-Some.ensures.steps (count_rows p ∙ c.in_err-push.ensures.full))

pub returns-then-plan-eq0 : goal.returns-then-plan-eq0
returns-then-plan-eq0 g c =
    let read = row_read (g.E.Element.means c.args.naming.now.element.now) (days_of c.args.naming.now.days) in
    let p = c.loop-line.plan in
    none_there read (rows_of p) (lines_left c.loop-line.line-iterator) (lines_left c.args.lines)
    c.loop-line.invariant.rows c.in-None.ensures.steps.0 (count_rows p ∙ c.if-plan-eq0.true)

pub returns-else-plan-eq0 : goal.returns-else-plan-eq0
returns-else-plan-eq0 g c =
    let read = row_read (g.E.Element.means c.args.naming.now.element.now) (days_of c.args.naming.now.days) in
    let p = c.loop-line.plan in
    let n = count_rows p in
    let there = all_there read (rows_of p) (lines_left c.loop-line.line-iterator) (lines_left c.args.lines)
    c.loop-line.invariant.rows c.in-None.ensures.steps.0 (omega (arith, c.if-plan-eq0.false, n)) (omega (arith, p.few, n)) in
    (there.0, there.1, c.loop-line.invariant.numbers)
