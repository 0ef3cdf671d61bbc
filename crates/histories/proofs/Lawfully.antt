-- A history that is run keeps the laws.
use Rattle.std.proofs.Common.{◌≡◌, true, List, map, sym, subst, ap₂}
use Rattle.flights.specs.Flights.{Flight}
use Rattle.model.specs.declared.condition.Condition.{Condition}
use Rattle.model.specs.declared.condition.Condition.TheVariants.{NoProgram}
use Rattle.model.specs.Model.{Setting, Program, none_without}
use Rattle.histories.specs.declared.turn.Turn.{Turn}
use Rattle.histories.specs.Runs.{fresh, after, Event, events}
use Rattle.histories.specs.Ledgers.{ledger, given}
use Rattle.histories.specs.Laws.{OneHolder}
use Rattle.histories.specs.Turns.{call_of}
use Rattle.histories.specs.Running.{Ran, Lawful, numbered}
use Rattle.histories.proofs.Ledger.{table_empty, one_holder}
use Rattle.histories.proofs.Isolation.{sees_from, sees_only_its_own}
use Rattle.histories.proofs.Going.{numbers_told}

-- without a program and without flights
is_fresh : (p : Program) → none_without p.condition p.flights ≡ true → p.condition ≡ NoProgram → p ≡ fresh p.days
is_fresh p none e =
    ap₂ (λ (c : Condition) (fs : List Flight). record { condition = c; days = p.days; flights = fs }) e (table_empty p.condition p.flights e none)

pub lawful : {S : Type 0} (s : Setting S) (p p' : Program) (ts ts' : List (Turn S)) → none_without p.condition p.flights ≡ true → Ran s p p' ts ts' → Lawful s p p' ts ts'
lawful {S} s p p' ts ts' none ran = record {
  holders = λ e.
      let start = is_fresh p none e in
      let law : OneHolder s (after s p (map call_of ts)) (ledger s.element (events s p (map call_of ts))) (λ u. given s u (events s p (map call_of ts))) =
      subst (λ (q : Program). OneHolder s (after s q (map call_of ts)) (ledger s.element (events s q (map call_of ts))) (λ u. given s u (events s q (map call_of ts)))) (sym start)
      (one_holder s p.days (map call_of ts)) in
      let told : OneHolder s (after s p (map call_of ts)) (ledger s.element (numbered ts ts')) (λ u. given s u (numbered ts ts')) =
      subst (λ (es : List (Event S)). OneHolder s (after s p (map call_of ts)) (ledger s.element es) (λ u. given s u es)) (sym (numbers_told s p ts ts' ran.said)) law in
      subst (λ (q : Program). OneHolder s q (ledger s.element (numbered ts ts')) (λ u. given s u (numbered ts ts'))) (sym ran.ends) told;
  sees = λ u k. sees_only_its_own s u p.days (map call_of ts) k;
  every_holder = λ d h. one_holder s d h;
  every_sight = λ u d h k. sees_only_its_own s u d h k;
  from_alike = sees_from s;
}
