-- Texts that are identifiers, as their parts say it.
use Rattle.std.proofs.Common.{◌≡◌, ℕ, ◌-◌, Bool, true, List, length, get_or, take, drop, sym, ap, ◌∙◌, arith, eq-eqb}
use Rattle.std.proofs.lemmas.Slice.{between_to_end}
use Rattle.text.specs.Bytes.{is_capital, is_digit, is_capital_or_digit, each}
use Rattle.messages.specs.Headers.{is_identifier}

pub is_identifier_fact : (t : List ℕ) (r : Bool) → length t ≡ 16 → get_or t 13 0 ≡ 46 → each is_capital (take 3 t) ≡ true → each is_digit (take 10 (drop 3 t)) ≡ true → r ≡ each is_capital_or_digit (take (length t - 14) (drop 14 t)) → r ≡ is_identifier t
is_identifier_fact t r long point letters digits rest =
    rest ∙ ap (each is_capital_or_digit) (between_to_end t 14 (length t) (omega arith))
    ∙ sym (rw (eq-eqb (length t) 16 long, letters, digits, eq-eqb (get_or t 13 0) 46 point))
