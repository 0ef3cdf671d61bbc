use Rattle.std.proofs.Common.{◌≡◌}
use Rattle.calendar.specs.Days.{days_of}
use Rattle.element.specs.Meanings.{name_read}
use Rattle.element.proofs.ElementNames.{kept_days}
use Rattle.flights.specs.Kept.{flight_of}
use Rattle.replies.specs.Names.{pair_shown, slot_shown}
use Rattle.replies.proofs.Shown.{kept_pair, shown_reads, names_read_again}
use Rattle.replies.proofs.names.read_again.Goals as goal

pub returns : goal.returns
returns g c =
    let means = g.E.Element.means c.args.naming.now.element.now in
    let names = means.slot_name (days_of c.args.naming.now.days) in
    let shown : c.as_bytes.result.now ≡ slot_shown means (days_of c.args.naming.now.days) (flight_of c.args.flight.now) = cc in
    let reads : name_read names c.as_bytes.result.now ≡ pair_shown (flight_of c.args.flight.now) =
    rw shown
    (shown_reads means (days_of c.args.naming.now.days) (pair_shown (flight_of c.args.flight.now)) (g.met.E.Element.formed c.args.naming.now.element.now)
    (g.met.E.Element.apart c.args.naming.now.element.now) (kept_days c.args.naming.now.days) (kept_pair c.args.flight.now)) in
    record { pair = cc; law = names_read_again }
