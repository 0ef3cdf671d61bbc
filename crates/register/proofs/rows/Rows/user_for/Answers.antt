use Rattle.std.proofs.Common.{rules, tests}
use Rattle.std.proofs.lemmas.Iterator.{YieldsList-from_slice}
use Rattle.std.proofs.lemmas.Iterator.Search.{find_from_yields_List}
use Rattle.register.proofs.Firsts.{first_found}
use Rattle.register.proofs.rows.Rows.user_for.Goals as goal

pub returns : goal.returns
returns g c =
    let e =
    find_from_yields_List (λ row. g.K.PartialEq.eq row.key c.args.key.now) _ _ c.find.result c.find.ensures.ran (YieldsList-from_slice c.args.self.now cc) (λ x b q k. search (rules, tests)) in
    search (rules, first_found (λ k. g.K.PartialEq.eq k c.args.key.now) c.args.self.now)
