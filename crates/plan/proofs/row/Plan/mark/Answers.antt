use Rattle.std.proofs.Common.{◌<◌, [], length, ap, ◌∙◌, arith}
use Rattle.model.specs.Refusals.{number_or_zero}
use Rattle.plan.specs.Rows.{rows_of, numbers_of, messages_in, each_beside}
use Rattle.plan.proofs.Numbers.{number_err}
use Rattle.plan.proofs.RowSteps.{count_rows, count_numbers}
use Rattle.plan.proofs.Stages.{numbered_more, numbered_all, found_at, length_each}
use Rattle.plan.proofs.row.Plan.mark.Goals as goal

pub loop-i-preserved : goal.loop-i-preserved
loop-i-preserved g c =
    let old = c.args.self.now in
    let was = c.loop-i.self in
    let i = c.loop-i.i in
    let rs = rows_of old in
    let all = c.filled-all.result.now in
    let inv = c.loop-i.invariant in
    let n = count_rows old in
    let m = count_numbers was in
    let in_all : i < length all = omega (arith, c.filled-all.ensures.count, inv.count, c.loop-i-test.true) in
    let in_numbers : i < length (numbers_of was) = omega (arith, m, inv.count, c.loop-i-test.true) in
    record {
      callable = inv.callable;
      rows = c.set_fault.ensures.rows ∙ inv.rows;
      count = c.set_fault.ensures.count ∙ inv.count;
      numbers = λ gives k.
          let value =
          ap number_or_zero c.err-fault.ensures.value
          ∙ number_err c.check.result
          ∙ k _ c.check.result (c.filled-all.ensures.rows ∙ inv.rows) c.check.ensures
          ∙ found_at gives all rs i c.index-all-i.result (c.filled-all.ensures.rows ∙ inv.rows) in_all c.index-all-i.is in
          numbered_more (numbers_of was) (numbers_of c.set_fault.new.self) (each_beside gives [] (messages_in rs)) i (number_or_zero c.err-fault.result) in_numbers
          (omega (arith, length_each gives rs, n, c.loop-i-test.true)) (inv.numbers gives k) c.set_fault.ensures.numbers value;
    }

pub returns-clause-numbers : goal.returns-clause-numbers
returns-clause-numbers g c = λ gives k.
    let old = c.args.self.now in
    let was = c.loop-i.self in
    let rs = rows_of old in
    let inv = c.loop-i.invariant in
    let n = count_rows old in
    let m = count_numbers was in
    numbered_all (numbers_of was) (each_beside gives [] (messages_in rs)) c.loop-i.i (omega (arith, m, inv.count, c.loop-i-test.false)) (omega (arith, length_each gives rs, n, c.loop-i-test.false)) (inv.numbers gives k)
