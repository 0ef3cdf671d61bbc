use Rattle.std.proofs.Common.{map, take, refl, sym, ap, ◌∙◌}
use Rattle.std.proofs.Math.Seq.{take-set-lt, map-set_same}
use Rattle.std.proofs.lemmas.List.{take-map, map-set}
use Rattle.plan.specs.Rows.{row_of, number_of}
use Rattle.plan.proofs.row.Plan.set_fault.Goals as goal

pub returns : goal.returns
returns c =
    let xs = c.args.self.now.rows in
    let k = c.args.self.now.count in
    let i = c.args.i in
    record {
      rows = sym (take-map row_of k _) ∙ ap (take k) (map-set_same row_of xs i _ c.index-self-i.result refl) ∙ take-map row_of k xs;
      numbers = ap (map number_of) (take-set-lt k xs i _ c.requires) ∙ map-set number_of (take k xs) i _;
      count = refl;
    }
