use Rattle.std.proofs.Common.{ap, ◌∙◌, refl}
use Rattle.std.proofs.lemmas.Iterator.Consumers.{nth_from_yields_List, YieldsList-from_first}
use Rattle.text.specs.Parts.{at}
use Rattle.text.specs.Lines.{fields, fields_left}
use Rattle.text.proofs.Cuts.{nth_or_empty}
use Rattle.text.proofs.lines.field_at.Goals as goal

pub returns : goal.returns
returns c =
    let all = fields c.args.line.now in
    let nth = nth_from_yields_List c.nth.result c.nth.new.self c.args.k c.nth.ensures.ran (YieldsList-from_first at fields_left all c.new.ensures) in
    ap at c.unwrap_or.ensures ∙ nth_or_empty c.nth.result _ all c.args.k nth refl
