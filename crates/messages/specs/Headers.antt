-- The form of a packet: its header, and how many message lines it has.
use Rattle.std.specs.Prelude.{ℕ, Bool, cond, ◌&&◌, List, [], length, take, drop, Some, None, codes, Option, ◌==◌, nat_le, slice_index, slice_index_or}
use Rattle.std.specs.Str.{bytes_eq}
use Rattle.text.specs.Bytes.{is_capital, is_digit, is_capital_or_digit, each}
use Rattle.text.specs.Lines.{Line, fields}

-- three capital letters, ten digits, a point, two capital letters or digits
abbrev pub is_identifier : List ℕ → Bool
is_identifier t =
    (length t == 16) && each is_capital (take 3 t) && each is_digit (take 10 (drop 3 t)) && slice_index t 13 == 46 && each is_capital_or_digit (drop 14 t)

-- the field with k fields before it
abbrev pub column : List ℕ → ℕ → List ℕ
column line k = slice_index_or (fields line) k []

-- the identifier of a header: a readable line of SS and an identifier
abbrev pub header_read : Line → Option (List ℕ)
header_read l =
    cond (l.readable && length (fields l.text) == 2 && bytes_eq (column l.text 0) (codes "SS") && is_identifier (column l.text 1))
    (Some (column l.text 1))
    None

-- a packet has 1 to 64 message lines
abbrev pub has_places : List Line → Bool
has_places ls = nat_le 1 (length ls) && nat_le (length ls) 64
