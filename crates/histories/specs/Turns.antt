-- Turns of the code, as the definitions see them.
use Rattle.std.specs.Prelude.{ℕ, List, Some, None, vec_items, Option}
use Rattle.model.specs.Model.{Call, Answer, input_of, issue, switch, purge, packet, report}
use Rattle.processor.specs.Held.{departure_of}
use Rattle.histories.specs.declared.turn.Call.{Call as KeptCall}
use Rattle.histories.specs.declared.turn.Call.TheVariants.{Issue, Switch, Depart, Purge, Packet, Report}
use Rattle.histories.specs.declared.turn.Turn.{Turn}

-- the call that a turn makes: a packet or a report takes the turn's buffer
abbrev pub call_with : {S : Type 0} → KeptCall S → List ℕ → Call S
call_with (Issue list) buffer = issue list.now
call_with (Switch on) buffer = switch on
call_with (Depart flight) buffer = departure_of flight
call_with Purge buffer = purge
call_with (Packet sender input) buffer = packet sender (input_of input.now) buffer
call_with (Report sender input) buffer = report sender (input_of input.now) buffer

abbrev pub call_of : {S : Type 0} → Turn S → Call S
call_of t = call_with t.call (vec_items t.buffer)

-- the buffer of a call that has one
abbrev pub buffer_with : {S : Type 0} → KeptCall S → List ℕ → Option (List ℕ)
buffer_with (Issue list) buffer = None
buffer_with (Switch on) buffer = None
buffer_with (Depart flight) buffer = None
buffer_with Purge buffer = None
buffer_with (Packet sender input) buffer = Some buffer
buffer_with (Report sender input) buffer = Some buffer

-- the answer that stands in a turn after its call
abbrev pub answer_of : {S : Type 0} → Turn S → Answer
answer_of t = record { number = t.pair.0; second = t.pair.1; buffer = buffer_with t.call (vec_items t.buffer) }
