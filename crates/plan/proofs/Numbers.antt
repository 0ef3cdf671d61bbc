-- The first fault of rows.
use Rattle.std.proofs.Common.{◌≡◌, ℕ, zero, suc, true, false, not, ◌&&◌, cond, eqb, List, [], ◌∷◌, map, Some, None, Option, Ok, Err, Result, sym, refl, ap, ◌∙◌, arith}
use Rattle.std.proofs.lemmas.Bool.{ne_eqb}
use Rattle.std.specs.List.{find}
use Rattle.std.specs.Option.{is_some, option_and_then}
use Rattle.std.specs.Result.{result_err}
use Rattle.packets.specs.Verdict.{all_pass, first_number}
use Rattle.model.specs.declared.refusal.Refusal.{Refusal}
use Rattle.model.specs.Refusals.{number, number_or_zero, number_of as fault_number}
use Rattle.model.proofs.Refused.{refused}
use Rattle.plan.specs.declared.row.Row.{Row as KeptRow}
use Rattle.plan.specs.Rows.{number_of}

first_here : (n : ℕ) (ns : List ℕ) → eqb n 0 ≡ false → first_number (n ∷ ns) ≡ n
first_here zero ns h = let no : true ≡ false = h in absurd (let z : ◌≡◌ {A = ℕ} 0 1 = cc in omega arith)
first_here (suc n) ns h = refl

-- the fault of the first row that has one
here : (f : Option Refusal) (r : KeptRow) (rest : Option KeptRow) (ns : List ℕ) → r.fault ≡ f → number_or_zero (option_and_then (λ (r : KeptRow). r.fault) rest) ≡ first_number ns
    → number_or_zero (option_and_then (λ (r : KeptRow). r.fault) (cond (is_some f) (Some r) rest)) ≡ first_number (number_or_zero f ∷ ns)
here None r rest ns e h = h
here (Some f) r rest ns e h = ap number_or_zero e ∙ sym (first_here (number f) ns (refused f))

found : (rows : List KeptRow) → number_or_zero (option_and_then (λ (r : KeptRow). r.fault) (find (λ (r : KeptRow). is_some r.fault) rows)) ≡ first_number (map number_of rows)
found [] = refl
found (r ∷ rows) = here r.fault r (find (λ (r : KeptRow). is_some r.fault) rows) (map number_of rows) refl (found rows)

pub first_found : (rows : List KeptRow) (o : Option KeptRow) → o ≡ find (λ (r : KeptRow). is_some r.fault) rows → number_or_zero (option_and_then (λ (r : KeptRow). r.fault) o) ≡ first_number (map number_of rows)
first_found rows o e = ap (λ p. number_or_zero (option_and_then (λ (r : KeptRow). r.fault) p)) e ∙ found rows

-- all pass where there is no first fault
passes : (ns : List ℕ) → eqb (first_number ns) 0 ≡ all_pass ns
passes [] = refl
passes (zero ∷ ns) = passes ns
passes (suc n ∷ ns) = let e = ne_eqb (suc n) 0 (λ z. omega (arith, z)) in e ∙ sym (ap (λ b. b && all_pass ns) e)

none_number : (f : Option Refusal) → not (is_some f) ≡ eqb (number_or_zero f) 0
none_number None = refl
none_number (Some r) = sym (refused r)

pub none_passes : (f : Option Refusal) (ns : List ℕ) → number_or_zero f ≡ first_number ns → not (is_some f) ≡ all_pass ns
none_passes f ns e = none_number f ∙ ap (λ n. eqb n 0) e ∙ passes ns

-- the number of what a check answers
pub number_err : (r : Result (Unit {0}) Refusal) → number_or_zero (result_err r) ≡ fault_number r
number_err (Ok x) = refl
number_err (Err f) = refl
