use Rattle.std.proofs.Common.{arith}
use Rattle.writing.specs.Writers.{Puts}
use Rattle.writing.proofs.Writes.{puts_none}
use Rattle.writing.proofs.Each.{each_more, each_all}
use Rattle.answering.proofs.Faults.{row_fault, faults_joined, fault_none, fault_some}
use Rattle.plan.specs.Rows.{row_of, number_of}
use Rattle.answering.proofs.rejecting.put_faults.Goals.{in-Some, in_default}
use Rattle.answering.proofs.rejecting.put_faults.Goals as goal

pub loop-row-init : goal.loop-row-init
loop-row-init c = (puts_none c.args.reply.now, omega arith)

pub loop-row-preserved : goal.loop-row-preserved
loop-row-preserved c =
    let row = c.row-item.result in
    let one : Puts c.loop-row.reply (row_fault row) c.match-fault.reply =
    elim c.match-fault.branch [
      | in-Some w ↦ rw (w.reply-is, fault_some (row_of row).line w.in-Some.refusal (number_of row) w.in-Some.ensures) (rw (w.text.ensures.text, w.number.ensures.number) at w.put_fault.ensures.puts)
      | in_default w ↦ rw (w.reply-is, fault_none (row_of row).line (number_of row) w.in_default.ensures) (puts_none c.loop-row.reply)
    ] in (
      each_more row_fault c.args.rows.now c.loop-row.row-index row c.loop-row-test.true c.row-item.is c.loop-row.invariant.0 one,
      elim c.match-fault.branch [
        | in-Some w ↦ rw w.reply-is (omega (arith, w.put_fault.ensures.most, c.loop-row.invariant.1))
        | in_default w ↦ rw w.reply-is (omega (arith, c.loop-row.invariant.1))
      ],
    )

pub returns : goal.returns
returns c = record { puts = rw (← faults_joined c.args.rows.now) (each_all row_fault c.args.rows.now c.loop-row.row-index c.loop-row-test.false c.loop-row.invariant.0) }
