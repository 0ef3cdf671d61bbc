-- The pair that a call answers, from what came of it in the code.
use Rattle.std.specs.Prelude.{ℕ, Ok, Err, Result}
use Rattle.model.specs.Refusals.{number}
use Rattle.processor.specs.declared.calls.Failure.{Failure}

-- 0 and the second number; else the number of the refusal and that of the failure
abbrev pub pair_of : Result ℕ Failure → ℕ × ℕ
pair_of (Ok second) = (0, second)
pair_of (Err failure) = (number failure.why, failure.second)
