-- A text that is no carrier code is the code of no carrier.
use Rattle.std.proofs.Common.{◌≡◌, ℕ, false, List, [], ◌∷◌, None, refl, rules}
use Rattle.std.proofs.lemmas.Slice.Eq.{bytes_eq-Decides}
use Rattle.register.specs.declared.rows.Row.{Row}
use Rattle.register.specs.declared.keys.Capitals.{Capitals}
use Rattle.register.specs.Keys.{is_spelt, are_capitals}
use Rattle.register.specs.Tables.{first_with}

unlike : (code : Capitals 3) (text : List ℕ) → are_capitals 3 text ≡ false → is_spelt code text ≡ false
unlike code text h = search (rules, bytes_eq-Decides code.letters text, code.exact, code.capitals)

pub unspelt : (text : List ℕ) → are_capitals 3 text ≡ false → (rows : List (Row (Capitals 3))) → first_with (λ code. is_spelt code text) rows ≡ None
unspelt text h [] = refl
unspelt text h (row ∷ rows) = rw (unlike row.key text h) (unspelt text h rows)
