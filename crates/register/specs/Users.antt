-- Users.
use Rattle.std.specs.Prelude.{ℕ}
use Rattle.register.specs.declared.user.User.{User}

-- a user's number, which is all that clauses see of it
abbrev pub number_of : User → ℕ
number_of u = u
