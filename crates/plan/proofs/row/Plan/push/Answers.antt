use Rattle.std.proofs.Common.{◌<◌, length, rules}
use Rattle.plan.specs.Rows.{row_of, number_of}
use Rattle.plan.proofs.RowSteps.{stored_more}
use Rattle.plan.proofs.row.Plan.push.Goals as goal

pub returns : goal.returns
returns c =
    let xs = c.args.self.now.rows in
    let n = c.args.self.now.count in
    let h : n < length xs = search rules in
    record { full = tt; rows = stored_more row_of xs n c.args.row h; numbers = stored_more number_of xs n c.args.row h }
