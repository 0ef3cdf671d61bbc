-- A rejection for its lines lists the faulty ones.
use Rattle.std.proofs.Common.{◌≡◌, ℕ, zero, suc, false, List, [], ◌∷◌, ◌++◌, length, refl, ap, ◌∙◌, arith}
use Rattle.std.specs.List.{flat_map}
use Rattle.text.specs.Lines.{Line}
use Rattle.packets.specs.Verdict.{all_pass, first_number}
use Rattle.replies.specs.Rejections.{rejected}
use Rattle.answering.specs.Replies.{faults, fault_lines, rejected_lines}
use Rattle.answering.specs.Listing.{Fault, faulty, fault_text}

faults_counted : (ls : List Line) (ns : List ℕ) → length ns ≡ length ls → faults ns ≡ length (faulty ls ns)
faults_counted [] [] e = refl
faults_counted [] (n ∷ ns) e = absurd (omega arith)
faults_counted (l ∷ ls) [] e = absurd (omega arith)
faults_counted (l ∷ ls) (zero ∷ ns) e = faults_counted ls ns (omega arith)
faults_counted (l ∷ ls) (suc n ∷ ns) e = ap suc (faults_counted ls ns (omega arith))

faults_joined : (ls : List Line) (ns : List ℕ) → fault_lines ls ns ≡ flat_map fault_text (faulty ls ns)
faults_joined [] ns = refl
faults_joined (l ∷ ls) [] = refl
faults_joined (l ∷ ls) (zero ∷ ns) = faults_joined ls ns
faults_joined (l ∷ ls) (suc n ∷ ns) = ap (λ (t : List ℕ). fault_text (record { line = l; number = suc n }) ++ t) (faults_joined ls ns)

-- the text of the rejection
pub listed : (id : List ℕ) (ls : List Line) (ns : List ℕ) → length ns ≡ length ls → rejected_lines id ls ns ≡ rejected id (length (faulty ls ns)) ++ flat_map fault_text (faulty ls ns)
unfolding rejected_lines
listed id ls ns e =
    ap (λ (n : ℕ). rejected id n ++ fault_lines ls ns) (faults_counted ls ns e)
    ∙ ap (λ (t : List ℕ). rejected id (length (faulty ls ns)) ++ t) (faults_joined ls ns)

-- the first of the faulty lines, and those after it
pub record Foremost (ls : List Line) (ns : List ℕ) : Type 0 where
  pub fault : Fault
  pub more : List Fault
  pub all : faulty ls ns ≡ fault ∷ more
  pub first : first_number ns ≡ fault.number

-- where not all lines pass, there is one
pub foremost : (ls : List Line) (ns : List ℕ) → length ns ≡ length ls → all_pass ns ≡ false → Foremost ls ns
foremost [] [] e fail = absurd (let z : ◌≡◌ {A = ℕ} 0 1 = cc in omega arith)
foremost [] (n ∷ ns) e fail = absurd (omega arith)
foremost (l ∷ ls) [] e fail = absurd (omega arith)
foremost (l ∷ ls) (zero ∷ ns) e fail =
    let rest = foremost ls ns (omega arith) fail in
    record { fault = rest.fault; more = rest.more; all = rest.all; first = rest.first }
foremost (l ∷ ls) (suc n ∷ ns) e fail =
    record { fault = record { line = l; number = suc n }; more = faulty ls ns; all = refl; first = refl }
