use Rattle.std.proofs.Common.{◌≡◌, map, drop}
use Rattle.std.specs.Option.{option_map}
use Rattle.calendar.specs.Days.{minute_of}
use Rattle.calendar.specs.Identities.{identity_of}
use Rattle.element.specs.Meanings.{or_else}
use Rattle.packets.specs.Messages.{seat_of}
use Rattle.packets.specs.Amended.{first_for, cancel_of, erta_of}
use Rattle.packets.specs.Verdict.{messages_of}
use Rattle.substitutions.specs.Kept.{kept_seat}
use Rattle.plan.specs.Rows.{row_of, messages_in}
use Rattle.plan.proofs.amending.asked.Given as goal

-- what is asked so far, or else by the rows to come, is what all rows ask
abbrev pub invariant-loop-row : goal.invariant-loop-row
invariant-loop-row l =
    let i = identity_of l.identity in
    let all = messages_of (messages_in (map row_of l.rows)) in
    let rest = messages_of (messages_in (map row_of (drop l.row-index l.rows))) in
    record {
      seat : or_else (option_map kept_seat l.change.seat) (first_for i seat_of rest) ≡ first_for i seat_of all;
      cancel : or_else l.change.cancel (first_for i cancel_of rest) ≡ first_for i cancel_of all;
      erta : or_else (option_map minute_of l.change.erta) (first_for i erta_of rest) ≡ first_for i erta_of all;
    }
