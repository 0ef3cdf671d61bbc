use Rattle.std.proofs.Common.{rules}
use Rattle.checks.proofs.checker.Checker.fault_alone.Goals as goal

pub returns-in_err-refuse-7 : goal.returns-in_err-refuse-7
returns-in_err-refuse-7 g c = search rules
