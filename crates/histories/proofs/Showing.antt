-- Flights that are the same to a user show the same to it.
use Rattle.std.proofs.Common.{◌≡◌, ℕ, Bool, false, cond, List, [], ◌∷◌, ◌++◌, is_some, sym, refl, ap, ◌∙◌}
use Rattle.std.proofs.lemmas.Bool.{and_left, cond-false}
use Rattle.std.specs.List.{AllZip, AllByRecursion}
use Rattle.calendar.specs.Days.{Days}
use Rattle.calendar.specs.Identities.{Identity}
use Rattle.element.specs.Meanings.{Meaning}
use Rattle.flights.specs.Counts.{bump, some}
use Rattle.flights.specs.Flights.{Flight}
use Rattle.packets.specs.Messages.{Message, names}
use Rattle.packets.specs.StageOne.{owns}
use Rattle.packets.specs.StageTwo.{count}
use Rattle.packets.specs.Verdict.{is_named}
use Rattle.packets.specs.Laws.{SameTo}
use Rattle.packets.proofs.Deciding.{by_test}
use Rattle.packets.proofs.Alike.{same_owner}
use Rattle.packets.proofs.Accepted.{Alone}
use Rattle.packets.proofs.Others.{none_named}
use Rattle.replies.specs.Rows.{row, row_for, rows}
use Rattle.model.specs.Model.{Setting, Program}
use Rattle.processor.specs.Report.{reports}
use Rattle.histories.specs.Sights.{records_of}

module _ {S : Type 0} (s : Setting S) (u : ℕ) where
  -- the records of the user
  pub records_same : (fs gs : List Flight) → AllZip (SameTo s u) fs gs → records_of s u fs ≡ records_of s u gs
  records_same [] [] a = refl
  records_same [] (g ∷ gs) a = absurd a
  records_same (f ∷ fs) [] a = absurd a
  records_same (f ∷ fs) (g ∷ gs) a =
      let rest = records_same fs gs a.1 in
      by_test (owns s u f)
      (λ q. ap (λ (h : Flight). cond (owns s u h) (h ∷ records_of s u fs) (records_of s u fs)) (a.0.own q) ∙ ap (λ (r : List Flight). cond (owns s u g) (g ∷ r) r) rest)
      (λ q.
      cond-false (owns s u f) (f ∷ records_of s u fs) (records_of s u fs) q
      ∙ (rest ∙ sym (cond-false (owns s u g) (g ∷ records_of s u gs) (records_of s u gs) (sym (same_owner s u f g a.0.identity) ∙ q))))

  -- the rows of a choice of the user's flights only
  module _ (e : Meaning) (d : Days) (chosen : Flight → Bool) (own : (f : Flight) → owns s u f ≡ false → chosen f ≡ false) where
    row_same : (f g : Flight) → SameTo s u f g → row_for e d chosen f ≡ row_for e d chosen g
    row_same f g a =
        by_test (owns s u f)
        (λ q. ap (row_for e d chosen) (a.own q))
        (λ q.
        cond-false (chosen f) (row e d f) [] (own f q)
        ∙ sym (cond-false (chosen g) (row e d g) [] (own g (sym (same_owner s u f g a.identity) ∙ q))))

    pub rows_same : (fs gs : List Flight) → AllZip (SameTo s u) fs gs → rows e d chosen fs ≡ rows e d chosen gs
    rows_same [] [] a = refl
    rows_same [] (g ∷ gs) a = absurd a
    rows_same (f ∷ fs) [] a = absurd a
    rows_same (f ∷ fs) (g ∷ gs) a =
        ap (λ (t : List ℕ). t ++ rows e d chosen fs) (row_same f g a.0) ∙ ap (λ (t : List ℕ). row_for e d chosen g ++ t) (rows_same fs gs a.1)

  -- a report lists flights of the user only
  pub reports_own : (f : Flight) → owns s u f ≡ false → reports s u f ≡ false
  reports_own f q = and_left (owns s u f) (is_some f.control) q

  -- a packet whose lines pass alone names flights of the user only
  unnamed_count : (i : Identity) (ms : List Message) → AllByRecursion (λ m. names m i ≡ false) ms → some (count (λ m. names m i) ms) ≡ false
  unnamed_count i [] a = refl
  unnamed_count i (m ∷ ms) a = ap (λ b. some (bump b (count (λ m. names m i) ms))) a.0 ∙ unnamed_count i ms a.1

  pub named_own : (p : Program) (ms : List Message) → AllByRecursion (Alone s p u) ms → (f : Flight) → owns s u f ≡ false → is_named ms f ≡ false
  named_own p ms a f q = unnamed_count f.identity ms (none_named s p u ms f a q)
