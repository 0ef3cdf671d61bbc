use Rattle.std.proofs.Common.{Bor, None, Some, rules, tests, sym, ap, ◌∙◌}
use Rattle.std.specs.Option.{is_some, option_map}
use Rattle.std.proofs.lemmas.Iterator.{YieldsList-from_slice}
use Rattle.std.proofs.lemmas.Iterator.Search.{find_from_yields_List}
use Rattle.packets.specs.Verdict.{first_number}
use Rattle.model.specs.Refusals.{number_or_zero}
use Rattle.plan.specs.declared.row.Row.{Row as KeptRow}
use Rattle.plan.proofs.Numbers.{first_found}
use Rattle.plan.proofs.row.Plan.first_fault.Goals as goal

pub returns-in_err-row : goal.returns-in_err-row
returns-in_err-row c =
    let rows = c.filled.result.now in
    let e = find_from_yields_List (λ (r : KeptRow). is_some r.fault) _ _ c.find.result c.find.ensures.ran (YieldsList-from_slice rows cc) (λ x b q k. search (rules, tests)) in
    ap number_or_zero c.from_residual.ensures
    ∙ first_found rows None (sym (ap (option_map (λ (x : Bor KeptRow). x.now)) c.in_err-row.was) ∙ e)
    ∙ ap first_number c.filled.ensures.numbers

pub returns : goal.returns
returns c =
    let rows = c.filled.result.now in
    let e = find_from_yields_List (λ (r : KeptRow). is_some r.fault) _ _ c.find.result c.find.ensures.ran (YieldsList-from_slice rows cc) (λ x b q k. search (rules, tests)) in
    first_found rows (Some c.in_ok-row.row.now) (sym (ap (option_map (λ (x : Bor KeptRow). x.now)) c.in_ok-row.was) ∙ e)
    ∙ ap first_number c.filled.ensures.numbers
