-- What the rows of a register are found by.
use Rattle.std.specs.Prelude.{ℕ, Bool, ◌&&◌, List, length, ◌==◌}
use Rattle.std.specs.Str.{bytes_eq}
use Rattle.text.specs.Bytes.{is_capital, each}
use Rattle.register.specs.declared.keys.Client.{Client}
use Rattle.register.specs.declared.keys.Capitals.{Capitals}

-- whether a text is n capital letters
abbrev pub are_capitals : ℕ → List ℕ → Bool
are_capitals n text = length text == n && each is_capital text

-- the letters of an address or a carrier code
abbrev pub letters_of : {n : ℕ} → Capitals n → List ℕ
letters_of c = c.letters

-- whether two clients are the same: by the IP number and by the tag
abbrev pub is_client : Client → Client → Bool
is_client a b = a.ip == b.ip && a.tag == b.tag

-- whether two addresses are the same
abbrev pub is_address : Capitals 7 → Capitals 7 → Bool
is_address a b = bytes_eq a.letters b.letters

-- whether a carrier code is spelt so
abbrev pub is_spelt : Capitals 3 → List ℕ → Bool
is_spelt code text = bytes_eq code.letters text
