use Rattle.std.proofs.Common.{arith}
use Rattle.writing.proofs.Figures.{one_digit, two_digits, three_digits}
use Rattle.writing.proofs.writer.Writer.put_number.Goals as goal

pub returns-then-n-lt10 : goal.returns-then-n-lt10
returns-then-n-lt10 c =
    let puts = rw (← one_digit c.args.n (omega arith)) at c.put.ensures.puts in
    record { puts = puts; most = omega (arith, c.put.ensures.puts.wrote.end) }

pub returns-then-n-lt100 : goal.returns-then-n-lt100
returns-then-n-lt100 c =
    let puts = rw (← two_digits c.args.n (omega arith) (omega arith)) at c.put-then-n-lt100.ensures.puts in
    record { puts = puts; most = omega (arith, c.put-then-n-lt100.ensures.puts.wrote.end) }

pub returns : goal.returns
returns c =
    let puts = rw (← three_digits c.args.n (omega arith) (omega arith)) at c.put-2.ensures.puts in
    record { puts = puts; most = omega (arith, c.put-2.ensures.puts.wrote.end) }
