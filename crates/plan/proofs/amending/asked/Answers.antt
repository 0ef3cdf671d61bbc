use Rattle.std.proofs.Common.{◌<◌, length, arith}
use Rattle.calendar.specs.Identities.{identity_of}
use Rattle.packets.specs.Messages.{seat_of}
use Rattle.packets.specs.Amended.{cancel_of, erta_of}
use Rattle.plan.proofs.Counting.{first_later, first_end}
use Rattle.plan.proofs.amending.asked.Goals as goal

pub loop-row-preserved : goal.loop-row-preserved
loop-row-preserved c =
    let i = identity_of c.args.identity.now in
    let rows = c.args.rows.now in
    let k = c.loop-row.row-index in
    let row = c.row-item.result in
    let h : k < length rows = omega arith in
    record {
      seat = first_later i seat_of rows k row _ _ _ h c.row-item.is c.or-change.ensures.seat c.loop-row.invariant.seat;
      cancel = first_later i cancel_of rows k row _ _ _ h c.row-item.is c.or-change.ensures.cancel c.loop-row.invariant.cancel;
      erta = first_later i erta_of rows k row _ _ _ h c.row-item.is c.or-change.ensures.erta c.loop-row.invariant.erta;
    }

pub returns : goal.returns
returns c =
    let i = identity_of c.args.identity.now in
    let rows = c.args.rows.now in
    let k = c.loop-row.row-index in
    record {
      seat = first_end i seat_of rows k _ _ (omega arith) c.loop-row.invariant.seat;
      cancel = first_end i cancel_of rows k _ _ (omega arith) c.loop-row.invariant.cancel;
      erta = first_end i erta_of rows k _ _ (omega arith) c.loop-row.invariant.erta;
    }
