-- Faulty lines, counted and written.
use Rattle.std.proofs.Common.{◌≡◌, ℕ, zero, suc, ◌+◌, Bool, true, false, cond, eqb, List, [], ◌∷◌, ◌++◌, map, Some, None, Option, refl, sym, ap, ◌∙◌, one-add}
use Rattle.std.specs.List.{count_by, flat_map}
use Rattle.std.specs.Option.{is_some}
use Rattle.std.proofs.lemmas.Bool.{true≢false}
use Rattle.std.proofs.lemmas.List.Recursion.{is_count_by}
use Rattle.text.specs.Lines.{Line}
use Rattle.flights.specs.Counts.{bump}
use Rattle.model.specs.declared.refusal.Refusal.{Refusal}
use Rattle.model.specs.Refusals.{number, number_or_zero}
use Rattle.model.proofs.Refused.{refused}
use Rattle.plan.specs.declared.row.Row.{Row as KeptRow}
use Rattle.plan.specs.Rows.{row_of, number_of}
use Rattle.replies.specs.Rejections.{fault}
use Rattle.answering.specs.Replies.{fault_of, is_fault, faults, fault_lines, line_in}

pub faults_counted : (rows : List KeptRow) → faults (map number_of rows) ≡ count_by (λ r. is_fault (number_of r)) rows
faults_counted rows = is_count_by (λ rs. faults (map number_of rs)) (λ r. is_fault (number_of r)) refl (λ r rs. bumped (is_fault (number_of r)) (faults (map number_of rs))) rows where
  bumped : (b : Bool) (n : ℕ) → bump b n ≡ cond b (1 + n) n
  bumped true n = sym (one-add n)
  bumped false n = refl

-- what is written of a row
abbrev pub row_fault : KeptRow → List ℕ
row_fault r = fault_of (row_of r).line (number_of r)

pub faults_joined : (rows : List KeptRow) → flat_map row_fault rows ≡ fault_lines (map line_in (map row_of rows)) (map number_of rows)
faults_joined [] = refl
faults_joined (r ∷ rows) = ap (λ (l : List ℕ). row_fault r ++ l) (faults_joined rows)

faulty : (n : ℕ) → eqb n 0 ≡ false → is_fault n ≡ true
faulty zero h = absurd (true≢false h)
faulty (suc n) h = refl

pub faulty_where : (o : Option Refusal) (n : ℕ) → number_or_zero o ≡ n → is_some o ≡ is_fault n
faulty_where None n e = ap is_fault e
faulty_where (Some r) n e = sym (faulty (number r) (refused r)) ∙ ap is_fault e

pub fault_none : (l : Line) (n : ℕ) → 0 ≡ n → fault_of l n ≡ []
fault_none l n e = ap (fault_of l) (sym e)

printed : (l : Line) (n : ℕ) → eqb n 0 ≡ false → fault_of l n ≡ fault l.text n
printed l zero h = absurd (true≢false h)
printed l (suc n) h = refl

pub fault_some : (l : Line) (r : Refusal) (n : ℕ) → number r ≡ n → fault_of l n ≡ fault l.text (number r)
fault_some l r n e = ap (fault_of l) (sym e) ∙ printed l (number r) (refused r)
