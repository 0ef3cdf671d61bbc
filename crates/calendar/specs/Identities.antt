-- What identifies a flight.
use Rattle.std.specs.Prelude.{ℕ, Bool, cond, ◌&&◌, List, length, take, drop, Some, None, Option, nat_le}
use Rattle.std.specs.Str.{bytes_eq}
use Rattle.text.specs.Bytes.{is_capital, is_capital_or_digit, each}
use Rattle.text.specs.Short.{text_of}
use Rattle.calendar.specs.declared.identity.Identity.{Identity as KeptIdentity}
use Rattle.calendar.specs.Dates.{is_date}

-- a flight's ID, its departure and arrival airport, and its original departure date (IGTD)
pub record Identity : Type 0 where
  pub id : List ℕ
  pub departure : List ℕ
  pub arrival : List ℕ
  pub date : List ℕ

-- three capital letters, the carrier code, and then 1 to 4 capital letters or digits
abbrev pub is_id : List ℕ → Bool
is_id t = nat_le 4 (length t) && nat_le (length t) 7 && each is_capital (take 3 t) && each is_capital_or_digit (drop 3 t)

-- 3 or 4 capital letters or digits
abbrev pub is_airport : List ℕ → Bool
is_airport t = nat_le 3 (length t) && nat_le (length t) 4 && each is_capital_or_digit t

-- a text, where it has the form asked for
abbrev pub text_where : Bool → List ℕ → Option (List ℕ)
text_where fits t = cond fits (Some t) None

abbrev pub identity_from : Option (List ℕ) → Option (List ℕ) → Option (List ℕ) → Option (List ℕ) → Option Identity
identity_from None dep arr date = None
identity_from (Some id) None arr date = None
identity_from (Some id) (Some dep) None date = None
identity_from (Some id) (Some dep) (Some arr) None = None
identity_from (Some id) (Some dep) (Some arr) (Some date) = Some (record { id = id; departure = dep; arrival = arr; date = date })

-- the identity that four texts write: none where one of them has not its form
abbrev pub identity_read : List ℕ → List ℕ → List ℕ → List ℕ → Option Identity
identity_read id dep arr date =
    identity_from (text_where (is_id id) id) (text_where (is_airport dep) dep) (text_where (is_airport arr) arr) (text_where (is_date date) date)

-- the carrier code: the first three letters of the ID
abbrev pub carrier_of : Identity → List ℕ
carrier_of i = take 3 i.id

abbrev pub same_identity : Identity → Identity → Bool
same_identity a b =
    bytes_eq a.id b.id && (bytes_eq a.departure b.departure && (bytes_eq a.arrival b.arrival && bytes_eq a.date b.date))

-- an identity of the code, as the definitions see it
abbrev pub identity_of : KeptIdentity → Identity
identity_of i = record { id = text_of i.id; departure = text_of i.departure; arrival = text_of i.arrival; date = text_of i.date }
