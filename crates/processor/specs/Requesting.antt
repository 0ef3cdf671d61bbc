-- What becomes of a request, as the code finds it.
use Rattle.std.specs.Prelude.{List, Ok, Err, Result}
use Rattle.text.specs.Lines.{Line}
use Rattle.register.specs.declared.user.User.{User}
use Rattle.register.specs.Users.{number_of}
use Rattle.answering.specs.Replies.{reported_list}
use Rattle.model.specs.declared.refusal.Refusal.{Refusal}
use Rattle.model.specs.Refusals.{number}
use Rattle.model.specs.Model.{Setting, Program}
use Rattle.processor.specs.Packet.{Outcome, accepts}
use Rattle.processor.specs.Report.{reports, refuses}

-- it is granted to a user, or refused
abbrev pub request_outcome : {S : Type 0} → Setting S → Program → List Line → Result User Refusal → Outcome
request_outcome s p ls (Ok u) = accepts p (reported_list s.element p.days (reports s (number_of u)) p.flights)
request_outcome s p ls (Err why) = refuses ls (number why)
