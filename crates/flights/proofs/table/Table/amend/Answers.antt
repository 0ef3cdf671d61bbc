use Rattle.std.proofs.Common.{◌≤◌, map, get_or, set, length, sym, refl, ap, ◌∙◌, arith, take_all, append-nil}
use Rattle.std.proofs.lemmas.Fn.{says_at}
use Rattle.std.proofs.lemmas.List.{map-set, length-map, get_or-map, drop_all, with_items_is}
use Rattle.std.proofs.lemmas.List.Edits.{map_over_more}
use Rattle.flights.specs.Kept.{flight_of}
use Rattle.flights.proofs.table.Table.amend.Goals as goal

pub loop-flight-init : goal.loop-flight-init
loop-flight-init g c h k = refl

pub loop-flight-preserved : goal.loop-flight-preserved
loop-flight-preserved g c h k =
    let before = map flight_of c.deref_mut-flight-items.result.now in
    let now = c.loop-flight.flight-items in
    let i = c.loop-flight.flight-index in
    let x = get_or now i c.flight-item.result in
    map-set flight_of now i c.change.result
    ∙ ap (set (map flight_of now) i) (k x c.change.result (says_at g.F.Fn c.change.ensures refl))
    ∙ map_over_more h before (map flight_of now) i (flight_of x) (omega (arith, length-map c.deref_mut-flight-items.result.now flight_of)) (c.loop-flight.invariant h k)
    (sym (get_or-map flight_of now i c.flight-item.result (flight_of x) (omega arith)))

pub returns : goal.returns
returns g c h k =
    let items = c.deref_mut-flight-items.result.now in
    let i = c.loop-flight.flight-index in
    let past : length (map flight_of items) ≤ i = omega (arith, length-map items flight_of) in
    ap (map flight_of) (with_items_is c.self.inside.flights c.loop-flight.flight-items (omega (arith, c.self.inside.flights.ok.0, ap length c.deref_mut-flight-items.ensures.value)))
    ∙ (c.loop-flight.invariant h k
    ∙ (rw (take_all i (map flight_of items) past, drop_all i (map flight_of items) past) (append-nil (map h (map flight_of items)))
    ∙ (ap (λ fs. map h (map flight_of fs)) c.deref_mut-flight-items.ensures.value ∙ ap (map h) c.self.view_is)))
