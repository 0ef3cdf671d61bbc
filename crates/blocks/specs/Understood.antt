-- What a body says, by the fields of its first line.
use Rattle.std.specs.Prelude.{ℕ, true, false, cond, List, [], ◌∷◌, take, drop, codes}
use Rattle.std.specs.List.{prefix_len}
use Rattle.std.specs.Str.{bytes_eq}
use Rattle.text.specs.Parts.{is_other}
use Rattle.text.specs.Lines.{fields}
use Rattle.blocks.specs.Told.{Told, issue, switch, purge, depart, not_understood}

-- the bytes before the first LF
abbrev pub first_line : List ℕ → List ℕ
first_line body = take (prefix_len (is_other 10) body) body

-- the first LF and all that follows it
abbrev pub from_lf : List ℕ → List ℕ
from_lf body = drop (prefix_len (is_other 10) body) body

-- SWITCH: one field, ON or OFF
abbrev pub switching : List (List ℕ) → Told
switching [] = not_understood
switching (way ∷ []) = cond (bytes_eq way (codes "ON")) (switch true) (cond (bytes_eq way (codes "OFF")) (switch false) not_understood)
switching (way ∷ f ∷ fs) = not_understood

-- PURGE: no field
abbrev pub purging : List (List ℕ) → Told
purging [] = purge
purging (f ∷ fs) = not_understood

-- DEPART: four fields
abbrev pub departing : List (List ℕ) → Told
departing [] = not_understood
departing (id ∷ []) = not_understood
departing (id ∷ dep ∷ []) = not_understood
departing (id ∷ dep ∷ arr ∷ []) = not_understood
departing (id ∷ dep ∷ arr ∷ date ∷ []) = depart id dep arr date
departing (id ∷ dep ∷ arr ∷ date ∷ f ∷ fs) = not_understood

-- a body of one line: its first field, and the others
abbrev pub one_line : List ℕ → List (List ℕ) → Told
one_line word others =
    cond (bytes_eq word (codes "SWITCH")) (switching others)
    (cond (bytes_eq word (codes "PURGE")) (purging others)
    (cond (bytes_eq word (codes "DEPART")) (departing others) not_understood))

-- a body, by the fields of its first line: of these only ISSUE lets further lines follow
abbrev pub said : List ℕ → List (List ℕ) → Told
said body [] = not_understood
said body (word ∷ others) =
    cond (bytes_eq word (codes "ISSUE")) (issue body)
    (cond (bytes_eq (from_lf body) (codes "\n")) (one_line word others) not_understood)

-- what a body says; no bytes are one empty field, which says nothing
abbrev pub understood : List ℕ → Told
understood body = said body (fields (first_line body))
