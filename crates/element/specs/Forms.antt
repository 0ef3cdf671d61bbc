-- The names of flow constrained areas.
use Rattle.std.specs.Prelude.{ℕ, Bool, ◌&&◌, List, length, take, drop, codes, nat_le}
use Rattle.std.specs.Str.{bytes_eq}
use Rattle.text.specs.Bytes.{is_capital_or_digit, each}

-- FCA and 1 to 3 capital letters or digits
abbrev pub is_area_name : List ℕ → Bool
is_area_name t = nat_le 4 (length t) && nat_le (length t) 6 && bytes_eq (take 3 t) (codes "FCA") && each is_capital_or_digit (drop 3 t)
