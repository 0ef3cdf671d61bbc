-- What the processor does at a call.
use Rattle.std.specs.Prelude.{◌≡◌, ℕ, true, List, Some}
use Rattle.model.specs.Model.{Setting, Program, Call, Answer, issue, switch, depart, purge, packet, report, answer, program_stands}
use Rattle.processor.specs.Operator.{issued, switched, purged, departed}
use Rattle.processor.specs.Packet.{sent}
use Rattle.processor.specs.Report.{reported}

abbrev pub step : {S : Type 0} → Setting S → Program → Call S → Program × Answer
step s p (issue list) = issued s p list
step s p (switch on) = switched p on
step s p (depart id departure arrival date) = departed p id departure arrival date
step s p purge = purged p
step s p (packet sender input buffer) = sent s p sender input buffer
step s p (report sender input buffer) = reported s p sender input buffer

-- a call leaves this program and answers this pair, as the definition says
abbrev pub Does : {S : Type 0} → Setting S → Program → Call S → Program → ℕ × ℕ → Type 0
Does s p call after pair = (after, answer pair) ≡ step s p call

-- this program, and the answer of this pair with a buffer
abbrev pub sending : Program → ℕ × ℕ → List ℕ → Program × Answer
sending after pair buffer = (after, record { number = pair.0; second = pair.1; buffer = Some buffer })

-- the same of a call with a buffer
abbrev pub Sends : {S : Type 0} → Setting S → Program → Call S → Program → ℕ × ℕ → List ℕ → Type 0
Sends s p call after pair buffer = sending after pair buffer ≡ step s p call

-- the standing rules last over a call
abbrev pub Lasts : {S : Type 0} → Setting S → Program → Program → Type 0
Lasts s p after = program_stands s.element p ≡ true → program_stands s.element after ≡ true
