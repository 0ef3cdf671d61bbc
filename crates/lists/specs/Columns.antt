-- The columns of a flight line, and what each of them says.
use Rattle.std.specs.Prelude.{ℕ, Bool, true, false, cond, ◌&&◌, List, [], length, Some, None, codes, Option, ◌==◌, slice_index_or}
use Rattle.std.specs.Option.{option_map}
use Rattle.std.specs.Str.{bytes_eq}
use Rattle.text.specs.Lines.{Line, fields}
use Rattle.calendar.specs.Days.{Days, Minute, time_read}
use Rattle.element.specs.Slots.{Slot}
use Rattle.element.specs.Meanings.{Meaning, name_read}
use Rattle.flights.specs.declared.flight.ControlType.{ControlType}
use Rattle.flights.specs.Words.{type_read}

-- ACID, ASLOT, DEP, ARR, CTD, CTA, TYPE, EX, CX, SH, ERTA (or the element's word for it) and IGTD
pub record Columns : Type 0 where
  pub id : List ℕ
  pub slot : List ℕ
  pub departure : List ℕ
  pub arrival : List ℕ
  pub ctd : List ℕ
  pub cta : List ℕ
  pub control : List ℕ
  pub exempt : List ℕ
  pub cancelled : List ℕ
  pub hold : List ℕ
  pub erta : List ℕ
  pub date : List ℕ

-- the field with k fields before it
abbrev pub column : List ℕ → ℕ → List ℕ
column line k = slice_index_or (fields line) k []

-- a readable line of twelve fields
abbrev pub columns_read : Line → Option Columns
columns_read l =
    cond (l.readable && length (fields l.text) == 12)
    (Some (record {
      id = column l.text 0;
      slot = column l.text 1;
      departure = column l.text 2;
      arrival = column l.text 3;
      ctd = column l.text 4;
      cta = column l.text 5;
      control = column l.text 6;
      exempt = column l.text 7;
      cancelled = column l.text 8;
      hold = column l.text 9;
      erta = column l.text 10;
      date = column l.text 11;
    }))
    None

-- "-" stands for what is absent
abbrev pub is_absent : List ℕ → Bool
is_absent t = bytes_eq t (codes "-")

-- what a column says, where it is not absent
abbrev pub given_read : {X : Type 0} → Option X → List ℕ → Option (Option X)
given_read said t = cond (is_absent t) (Some None) (option_map Some said)

-- a slot name of the element, or none
abbrev pub slot_read : Meaning → Days → List ℕ → Option (Option Slot)
slot_read e d t = given_read (name_read (e.slot_name d) t) t

-- a time, or none
abbrev pub erta_read : Days → List ℕ → Option (Option Minute)
erta_read d t = given_read (time_read d t) t

-- one of the seven types, or none for an uncontrolled flight
abbrev pub control_read : List ℕ → Option (Option ControlType)
control_read t = given_read (type_read t) t

-- a mark is "Y", or "-" where it is not set
abbrev pub mark_read : List ℕ → Option Bool
mark_read t = cond (bytes_eq t (codes "Y")) (Some true) (cond (is_absent t) (Some false) None)
