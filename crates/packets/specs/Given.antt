-- What a tag gives.
use Rattle.std.specs.Prelude.{Bool, true, false, Some, None, Option}

-- there is no such tag, its value is not valid, or it is this
pub data Given (X : Type 0) : Type 0 where
  absent : Given X
  invalid : Given X
  given : X → Given X

abbrev pub from_read : {X : Type 0} → Option X → Given X
from_read None = invalid
from_read (Some x) = given x

abbrev pub is_invalid : {X : Type 0} → Given X → Bool
is_invalid absent = false
is_invalid invalid = true
is_invalid (given x) = false

abbrev pub is_absent : {X : Type 0} → Given X → Bool
is_absent absent = true
is_absent invalid = false
is_absent (given x) = false

abbrev pub value : {X : Type 0} → Given X → Option X
value absent = None
value invalid = None
value (given x) = Some x
