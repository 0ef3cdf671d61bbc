-- The first row whose key passes a test.
use Rattle.std.proofs.Common.{◌≡◌, Bool, true, false, cond, List, [], ◌∷◌, ◌++◌, Some, None, Option, refl, ap, ◌∙◌}
use Rattle.std.specs.Option.{option_map, option_or}
use Rattle.std.specs.List.{find}
use Rattle.std.specs.Bool.{then_some}
use Rattle.register.specs.declared.rows.Row.{Row}
use Rattle.register.specs.Users.{number_of}
use Rattle.register.specs.Tables.{first_with}

found : {X Y : Type 0} (f : X → Y) (b : Bool) (x : X) (r : Option X) → option_map f (cond b (Some x) r) ≡ cond b (Some (f x)) (option_map f r)
found f true x r = refl
found f false x r = refl

-- it is the first of the rows that does
pub first_found : {K : Type 0} (test : K → Bool) (rows : List (Row K)) → option_map (λ row. number_of row.user) (find (λ row. test row.key) rows) ≡ first_with test rows
first_found test [] = refl
first_found test (row ∷ rows) = found (λ r. number_of r.user) (test row.key) row _ ∙ ap (λ r. cond (test row.key) (Some (number_of row.user)) r) (first_found test rows)

only : {U : Type 0} (b : Bool) (u : U) → cond b (Some u) None ≡ then_some b u
only true u = refl
only false u = refl

one_more : {U : Type 0} (b : Bool) (u : U) (p q o : Option U) → p ≡ option_or q o → cond b (Some u) p ≡ option_or (cond b (Some u) q) o
one_more true u p q o e = refl
one_more false u p q o e = e

-- a row at the end decides only where none before it does
pub first_push : {K : Type 0} (test : K → Bool) (rows : List (Row K)) (row : Row K) → first_with test (rows ++ row ∷ []) ≡ option_or (first_with test rows) (then_some (test row.key) (number_of row.user))
first_push test [] row = only (test row.key) (number_of row.user)
first_push test (x ∷ rows) row = one_more (test x.key) (number_of x.user) _ _ _ (first_push test rows row)
