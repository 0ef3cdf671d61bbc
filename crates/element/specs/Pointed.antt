-- The slot names of the two elements: the element's name, a point, a time and a letter.
use Rattle.std.specs.Prelude.{ℕ, Bool, true, cond, ◌&&◌, List, [], ◌∷◌, ◌++◌, length, take, drop, None, codes, Option, ◌==◌, nat_le, slice_index}
use Rattle.std.specs.Option.{option_map}
use Rattle.std.specs.Str.{bytes_eq}
use Rattle.text.specs.Bytes.{is_capital}
use Rattle.calendar.specs.Days.{Days, time_read, time_written}
use Rattle.element.specs.Slots.{Slot}
use Rattle.element.specs.Meanings.{Meaning}

-- what follows the element's name: a point, the six digits of the minute, the letter
abbrev pub suffix : Days → Slot → List ℕ
suffix d p = 46 ∷ (time_written d p.minute ++ (p.letter ∷ []))

abbrev pub pointed_name : List ℕ → Days → Slot → List ℕ
pointed_name name d p = name ++ suffix d p

-- an element whose slot names are its name, a point, a time and a letter
abbrev pub pointed_meaning : List ℕ → (List ℕ → List ℕ → Bool) → List ℕ → Meaning
pointed_meaning word serves name = record {
  name = name;
  word = word;
  serves = λ t. serves name t;
  slot_name = λ d p. pointed_name name d p;
}

-- an airport serves only itself
abbrev pub airport_meaning : List ℕ → Meaning
airport_meaning code = record {
  name = code;
  word = codes "ERTA";
  serves = λ t. bytes_eq t code;
  slot_name = λ d p. pointed_name code d p;
}

-- a flow constrained area serves all airports
abbrev pub area_meaning : List ℕ → Meaning
area_meaning name = record {
  name = name;
  word = codes "EENTRY";
  serves = λ t. true;
  slot_name = λ d p. pointed_name name d p;
}

abbrev pub with_letter : ℕ → ℕ → Slot
with_letter letter m = record { minute = m; letter = letter }

-- how the code reads what follows the element's name
abbrev pub suffix_read : Days → List ℕ → Option Slot
suffix_read d t =
    cond (length t == 8 && slice_index t 0 == 46 && is_capital (slice_index t 7))
    (option_map (with_letter (slice_index t 7)) (time_read d (take 6 (drop 1 t))))
    None

-- how the code reads a name; that this is what the names alone define is proved
abbrev pub pointed_read : List ℕ → Days → List ℕ → Option Slot
pointed_read name d t =
    cond (nat_le (length name) (length t) && bytes_eq (take (length name) t) name) (suffix_read d (drop (length name) t)) None
