use Rattle.std.proofs.Common.{rules}
use Rattle.lists.proofs.Given.{given_is}
use Rattle.lists.proofs.columns.read_control.Goals as goal

pub returns : goal.returns
returns c = given_is _ _ c.read_given.result _ c.read_given.ensures.absent c.read_given.ensures.given (λ r k. search rules)
