-- What a register knows of its senders, or of the carriers.
use Rattle.std.specs.Prelude.{◌≡◌, ℕ, ◌+◌, Bool, cond, None, Option, nat_lt}
use Rattle.std.specs.Option.{option_or}
use Rattle.std.specs.Bool.{then_some}

-- the user that each question is answered by, if any, and the number of rows that this is kept in
pub record Known (Q : Type 0) : Type 0 where
  pub says : Q → Option ℕ
  pub size : ℕ

-- nobody is known
pub record Blank {Q : Type 0} (k : Known Q) : Type 0 where
  pub says : (asked : Q) → k.says asked ≡ None
  pub size : k.size ≡ 0

-- A row with this user was offered, and `about` says which questions are about it. It is added where there are fewer
-- than 64 rows: then a question is answered as before where it was answered before, else by this user where it is about
-- the row. Otherwise it is refused, and nothing changes.
pub record Offered {Q : Type 0} (added : Bool) (about : Q → Bool) (user : ℕ) (before after : Known Q) : Type 0 where
  pub told : added ≡ nat_lt before.size 64
  pub says : (asked : Q) → after.says asked ≡ cond added (option_or (before.says asked) (then_some (about asked) user)) (before.says asked)
  pub size : after.size ≡ cond added (before.size + 1) before.size

-- nothing changed
pub record Unchanged {Q : Type 0} (before after : Known Q) : Type 0 where
  pub says : (asked : Q) → after.says asked ≡ before.says asked
  pub size : after.size ≡ before.size
