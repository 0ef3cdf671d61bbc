-- The verdict of the code on the lines of a packet with a header.
use Rattle.std.specs.Prelude.{◌≡◌, ℕ, true, List, map, Ok, Err, Result}
use Rattle.text.specs.Lines.{Line}
use Rattle.packets.specs.Messages.{message_read}
use Rattle.packets.specs.Verdict.{all_pass, messages_of}
use Rattle.plan.specs.declared.row.Plan.{Plan}
use Rattle.plan.specs.Rows.{rows_of, numbers_of, row_read, messages_in}
use Rattle.model.specs.declared.refusal.Refusal.{Refusal}
use Rattle.model.specs.Refusals.{number}
use Rattle.model.specs.Model.{Setting, Program, program_stands}
use Rattle.processor.specs.Packet.{amended_program, rejects_first, judged, by_lines}

-- the rows are those of the lines, with their numbers; where all pass, what they make of the program keeps the standing rules
pub record Ready {S : Type 0} (s : Setting S) (p : Program) (sender : S) (ls : List Line) (plan : Plan) : Type 0 where
  pub rows : rows_of plan ≡ map (row_read s.element p.days) ls
  pub stands : program_stands s.element p ≡ true → all_pass (numbers_of plan) ≡ true → program_stands s.element (amended_program p (messages_of (messages_in (rows_of plan)))) ≡ true
  pub outcome : (id : List ℕ) (first : Line) → by_lines s p sender id first ls ≡ judged s p id ls (map (message_read s.element p.days) ls) (numbers_of plan)

-- a plan that is ready, or a refusal that its first line is answered by
abbrev pub Judges : {S : Type 0} → Setting S → Program → S → List Line → Result Plan Refusal → Type 0
Judges s p sender ls (Ok plan) = Ready s p sender ls plan
Judges s p sender ls (Err why) = (id : List ℕ) (first : Line) → by_lines s p sender id first ls ≡ rejects_first id first (number why)
