-- The meaning of a register.
use Rattle.std.specs.Prelude.{ℕ, Bool, List, length}
use Rattle.register.specs.declared.rows.Rows.{Rows}
use Rattle.register.specs.declared.user_register.UserRegister.{UserRegister}
use Rattle.register.specs.Keys.{is_spelt}
use Rattle.register.specs.Tables.{first_with}
use Rattle.register.specs.Known.{Known}

-- what a table knows: the first row that a question is about decides
abbrev pub known_by : {K Q : Type 0} → (Q → K → Bool) → Rows K → Known Q
known_by about t = record { says = λ asked. first_with (about asked) t; size = length t }

-- a sender is asked for by its key, where `same` says which keys are the same
abbrev pub senders_of : {S : Type 0} → (S → S → Bool) → UserRegister S → Known S
senders_of same t = known_by (λ asked sender. same sender asked) t.senders

-- a carrier is asked for by the text of its code
abbrev pub carriers_of : {S : Type 0} → UserRegister S → Known (List ℕ)
carriers_of t = known_by (λ text code. is_spelt code text) t.carriers
