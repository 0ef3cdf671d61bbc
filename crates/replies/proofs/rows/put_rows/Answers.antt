use Rattle.std.proofs.Common.{◌≡◌, cond, [], refl, ap, ◌∙◌, arith}
use Rattle.std.proofs.lemmas.Fn.{says_at}
use Rattle.std.proofs.lemmas.List.Folds.{flat_map-map}
use Rattle.calendar.specs.Days.{days_of}
use Rattle.flights.specs.Kept.{flight_of}
use Rattle.writing.specs.Writers.{Puts}
use Rattle.writing.proofs.Writes.{puts_none}
use Rattle.writing.proofs.Each.{each_more, each_all}
use Rattle.replies.specs.Rows.{row, row_for}
use Rattle.replies.proofs.rows.put_rows.Goals.{then-choice, else-choice}
use Rattle.replies.proofs.rows.put_rows.Goals as goal

pub loop-flight-init : goal.loop-flight-init
loop-flight-init g c = ((λ t k. puts_none c.args.reply.now), refl, omega arith)

pub loop-flight-preserved : goal.loop-flight-preserved
loop-flight-preserved g c = (
  (λ t k.
      let e = g.E.Element.means c.args.naming.now.element.now in
      let d = days_of c.args.naming.now.days in
      let x = c.flight-item.result in
      let chosen : c.choice.result ≡ t (flight_of x) = k x c.choice.result (says_at g.C.Fn c.choice.ensures refl) in
      let text : cond c.choice.result (row e d (flight_of x)) [] ≡ row_for e d t (flight_of x) = ap (λ b. cond b (row e d (flight_of x)) []) chosen in
      let one : Puts c.loop-flight.reply (row_for e d t (flight_of x)) c.if-choice.reply =
      elim c.if-choice.branch [
        | then-choice w ↦ rw (← text, w.if-choice.true, w.reply-is) w.put_row.ensures.puts
        | else-choice w ↦ rw (← text, w.if-choice.false, w.reply-is) (puts_none c.loop-flight.reply)
      ] in
      each_more (λ f. row_for e d t (flight_of f)) c.args.flights.now c.loop-flight.flight-index x c.loop-flight-test.true c.flight-item.is (c.loop-flight.invariant.0 t k) one),
  elim c.if-choice.branch [
    | then-choice w ↦ rw w.reply-is (w.put_row.ensures.puts.size ∙ c.loop-flight.invariant.1)
    | else-choice w ↦ rw w.reply-is c.loop-flight.invariant.1
  ],
  elim c.if-choice.branch [
    | then-choice w ↦ rw w.reply-is (omega (arith, w.put_row.ensures.most, c.loop-flight.invariant.2))
    | else-choice w ↦ rw w.reply-is (omega (arith, c.loop-flight.invariant.2))
  ],
)

pub returns-clause-puts : goal.returns-clause-puts
returns-clause-puts g c t k =
    let text = row_for (g.E.Element.means c.args.naming.now.element.now) (days_of c.args.naming.now.days) t in
    rw (flat_map-map text flight_of c.args.flights.now)
    (each_all (λ f. text (flight_of f)) c.args.flights.now c.loop-flight.flight-index c.loop-flight-test.false (c.loop-flight.invariant.0 t k))
