use Rattle.std.specs.Prelude.{is_ok}
use Rattle.register.proofs.Offers.{offered}
use Rattle.register.proofs.user_register.UserRegister.add_sender.Goals as goal

pub returns-clause-senders : goal.returns-clause-senders
returns-clause-senders g c =
    offered (λ asked sender. g.S.PartialEq.eq sender asked) (is_ok c.add.result) c.args.sender c.args.user _ _ c.add.ensures.told c.add.ensures.rows
