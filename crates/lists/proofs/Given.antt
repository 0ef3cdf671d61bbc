-- A column that is read where it is not absent.
use Rattle.std.proofs.Common.{◌≡◌, Bool, true, false, cond, Some, None, Option, refl, ap, ◌∙◌}
use Rattle.std.specs.Option.{option_map}

inside : {T X : Type 0} (view : T → X) (r : Option T) → option_map (option_map view) (option_map Some r) ≡ option_map Some (option_map view r)
inside view None = refl
inside view (Some x) = refl

-- the result as the definitions see it, where `said` is what the column says
pub given_as : {T X : Type 0} (view : T → X) (said : Option X) (b : Bool) (result : Option (Option T)) (gives : Option T → Type 0) → (b ≡ true → result ≡ Some None) → (b ≡ false → (r : Option T) × gives r × (result ≡ option_map Some r)) → ((r : Option T) → gives r → option_map view r ≡ said) → option_map (option_map view) result ≡ cond b (Some None) (option_map Some said)
given_as view said true result gives absent given reads = ap (option_map (option_map view)) (absent refl)
given_as view said false result gives absent given reads =
    let g = given refl in
    ap (option_map (option_map view)) g.2 ∙ (inside view g.0 ∙ ap (option_map Some) (reads g.0 g.1))

-- the same, where the definitions see the value itself
pub given_is : {T : Type 0} (said : Option T) (b : Bool) (result : Option (Option T)) (gives : Option T → Type 0) → (b ≡ true → result ≡ Some None) → (b ≡ false → (r : Option T) × gives r × (result ≡ option_map Some r)) → ((r : Option T) → gives r → r ≡ said) → result ≡ cond b (Some None) (option_map Some said)
given_is said true result gives absent given reads = absent refl
given_is said false result gives absent given reads = let g = given refl in g.2 ∙ ap (option_map Some) (reads g.0 g.1)
