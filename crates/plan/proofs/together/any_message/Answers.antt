use Rattle.std.proofs.Common.{rules, tests, sym, ◌∙◌}
use Rattle.std.proofs.lemmas.Iterator.{YieldsList-from_slice}
use Rattle.std.proofs.lemmas.Iterator.Consumers.{YieldsList-from_filter_map}
use Rattle.std.proofs.lemmas.Iterator.Search.{any_from_yields_List}
use Rattle.substitutions.specs.Kept.{kept_message}
use Rattle.plan.proofs.Counting.{any_message}
use Rattle.plan.proofs.together.any_message.Goals as goal

pub returns : goal.returns
returns g c t k =
    any_from_yields_List (λ m. t (kept_message m)) _ _ _ c.any.ensures.ran
    (YieldsList-from_filter_map _ (λ r. r.message) (YieldsList-from_slice c.args.rows.now cc) c.filter_map.ensures.closure (λ x r q k. search (rules, tests)))
    (λ x b q h. search (rules, tests, k))
    ∙ sym (any_message t c.args.rows.now)
