-- What a row that is offered does to what a table knows.
use Rattle.std.proofs.Common.{◌≡◌, ◌+◌, Bool, true, false, cond, ltb, List, [], ◌∷◌, ◌++◌, length, refl, ap, ◌∙◌, length-append}
use Rattle.std.specs.Option.{option_or}
use Rattle.std.specs.Bool.{then_some}
use Rattle.register.specs.declared.user.User.{User}
use Rattle.register.specs.declared.rows.Row.{Row}
use Rattle.register.specs.declared.rows.Rows.{Rows}
use Rattle.register.specs.Users.{number_of}
use Rattle.register.specs.Tables.{first_with}
use Rattle.register.specs.Known.{Offered}
use Rattle.register.specs.Registers.{known_by}
use Rattle.register.proofs.Firsts.{first_push}

-- with one row more, or none
says : {K : Type 0} (test : K → Bool) (added : Bool) (rows : List (Row K)) (row : Row K) → first_with test (cond added (rows ++ row ∷ []) rows) ≡ cond added (option_or (first_with test rows) (then_some (test row.key) (number_of row.user))) (first_with test rows)
says test true rows row = first_push test rows row
says test false rows row = refl

size : {X : Type 0} (added : Bool) (xs : List X) (x : X) → length (cond added (xs ++ x ∷ []) xs) ≡ cond added (length xs + 1) (length xs)
size true xs x = length-append xs (x ∷ [])
size false xs x = refl

pub offered : {K Q : Type 0} (about : Q → K → Bool) (added : Bool) (key : K) (user : User) (t t' : Rows K) → added ≡ ltb (length t) 64 → t' ≡ cond added (t ++ record { key = key; user = user } ∷ []) (t) → Offered added (λ asked. about asked key) (number_of user) (known_by about t) (known_by about t')
offered about added key user t t' told rows =
    record {
      told = told;
      says = λ asked. ap (first_with (about asked)) rows ∙ says (about asked) added (t) (record { key = key; user = user });
      size = ap length rows ∙ size added (t) (record { key = key; user = user });
    }
