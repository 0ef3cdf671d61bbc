use Rattle.std.proofs.Common.{rules, tests}
use Rattle.std.proofs.lemmas.Iterator.{YieldsList-from_slice}
use Rattle.std.proofs.lemmas.Iterator.Search.{find_from_yields_List}
use Rattle.register.specs.Keys.{is_spelt}
use Rattle.register.proofs.Firsts.{first_found}
use Rattle.register.proofs.rows.Rows+CarrierCode.user_spelt.Goals as goal

pub returns : goal.returns
returns c =
    let e =
    find_from_yields_List (λ row. is_spelt row.key c.args.text.now) _ _ c.find.result c.find.ensures.ran (YieldsList-from_slice c.args.self.now cc) (λ x b q k. search (rules, tests)) in
    search (rules, first_found (λ code. is_spelt code c.args.text.now) c.args.self.now)
