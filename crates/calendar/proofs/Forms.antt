-- Texts that have the form asked for, as their parts say it.
use Rattle.std.proofs.Common.{◌≡◌, ℕ, ◌-◌, ◌≤◌, Bool, true, List, length, take, drop, sym, ap, ◌∙◌, arith}
use Rattle.std.proofs.lemmas.Bool.{le-leb}
use Rattle.std.proofs.lemmas.Slice.{between_to_end}
use Rattle.text.specs.Bytes.{is_capital, is_capital_or_digit, each}
use Rattle.calendar.specs.Identities.{is_id}

pub is_id_fact : (t : List ℕ) (r : Bool) → 4 ≤ length t → length t ≤ 7 → each is_capital (take 3 t) ≡ true → r ≡ each is_capital_or_digit (take (length t - 3) (drop 3 t)) → r ≡ is_id t
is_id_fact t r least most letters rest =
    rest ∙ ap (each is_capital_or_digit) (between_to_end t 3 (length t) (omega arith))
    ∙ sym (rw (le-leb 4 (length t) least, le-leb (length t) 7 most, letters))
