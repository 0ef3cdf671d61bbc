use Rattle.std.proofs.Common.{◌≤◌, length, ap, arith, length-take}
use Rattle.text.specs.Short.{text_of}
use Rattle.plan.proofs.row.Row.text.Goals as goal

pub returns : goal.returns
returns c =
    let t = c.args.self.now.text in
    let short : length (text_of t) ≤ 160 = simp length-take (omega (arith, t.short)) in
    record { text = c.as_bytes.ensures; short = omega (arith, ap length c.as_bytes.ensures, short) }
