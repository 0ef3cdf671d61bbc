-- Lines and fields of an input.
use Rattle.std.specs.Prelude.{ℕ, Bool, List, map, length, take, nat_le}
use Rattle.text.specs.declared.lines.Line.{Line as LentLine}
use Rattle.text.specs.declared.lines.Lines.{Lines}
use Rattle.text.specs.declared.lines.Fields.{Fields}
use Rattle.text.specs.Parts.{parts, parts_of, chomped}

-- a line as it is kept: its first 160 bytes, and whether that is all of it; a longer line is unreadable
pub record Line : Type 0 where
  pub text : List ℕ
  pub readable : Bool

abbrev pub clipped : List ℕ → Line
clipped l = record { text = take 160 l; readable = nat_le (length l) 160 }

-- the lines of an input: each is ended by LF, and the last may lack it; no bytes are one empty line
abbrev pub lines : List ℕ → List Line
lines bytes = map clipped (parts 10 (chomped 10 bytes))

-- the fields of a line, parted by exactly one space each
abbrev pub fields : List ℕ → List (List ℕ)
fields line = parts 32 line

-- a line of the code, as the definitions see it
abbrev pub line_of : LentLine → Line
line_of l = record { text = l.text.now; readable = l.readable }

-- what a cursor over lines has yet to give
abbrev pub lines_left : Lines → List Line
lines_left c = map clipped (parts_of 10 c.rest)

-- what a cursor over fields has yet to give
abbrev pub fields_left : Fields → List (List ℕ)
fields_left c = parts_of 32 c.rest
