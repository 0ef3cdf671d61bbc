use Rattle.text.proofs.Cuts.{clip_all, clip_over}
use Rattle.text.proofs.lines.Line.new.Goals as goal

pub returns-then-all-le160 : goal.returns-then-all-le160
returns-then-all-le160 c = clip_all 160 c.args.all.now c.if-all-le160.true

pub returns-else-all-le160 : goal.returns-else-all-le160
returns-else-all-le160 c = clip_over 160 c.args.all.now c.if-all-le160.false
