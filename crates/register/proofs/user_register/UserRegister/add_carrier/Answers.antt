use Rattle.std.proofs.Common.{rules}
use Rattle.register.specs.Keys.{is_spelt}
use Rattle.register.proofs.Offers.{offered}
use Rattle.register.proofs.user_register.UserRegister.add_carrier.Goals as goal

pub returns-clause-carriers : goal.returns-clause-carriers
returns-clause-carriers g c = search (rules, offered (λ text code. is_spelt code text))
