-- A line that is taken is short.
use Rattle.std.proofs.Common.{◌≤◌, length, Some, None, Option}
use Rattle.std.specs.Option.{unwrap_or}
use Rattle.std.specs.Iterator.{YieldsFirstBy}
use Rattle.text.specs.Lines.{line_of, lines_left}
use Rattle.text.specs.declared.lines.Line.{Line}
use Rattle.text.specs.declared.lines.Lines.{Lines}
use Rattle.text.proofs.Cuts.{short_line}

pub short_first : (before after : Lines) (o : Option Line) (other : Line) → YieldsFirstBy line_of lines_left before o after → length other.text.now ≤ 160 → length (unwrap_or o other).text.now ≤ 160
short_first before after None other steps h = h
short_first before after (Some line) other steps h = short_line before after line steps
