use Rattle.std.proofs.Common.{◌≡◌, ℕ, ◌-◌, ◌≤◌, Bool, true, false, cond, eqb, List, length, get_or, take, drop, Some, None, Option, refl, ap, sym, ◌∙◌, arith}
use Rattle.std.specs.Option.{option_map}
use Rattle.std.proofs.lemmas.Bool.{eqb-true}
use Rattle.std.proofs.lemmas.List.{length-take-le, length-drop}
use Rattle.text.specs.Bytes.{is_capital}
use Rattle.calendar.specs.Days.{Days, days_of, minute_of, time_read}
use Rattle.element.specs.Slots.{Slot}
use Rattle.element.specs.Pointed.{with_letter, suffix_read}
use Rattle.element.proofs.names.read_suffix.Goals as goal

-- a time has six digits
six_long : (d : Days) (t : List ℕ) (m : ℕ) (b : Bool) → eqb (length t) 6 ≡ b → time_read d t ≡ Some m → length t ≡ 6
six_long d t m true e h = eqb-true (length t) 6 e
six_long d t m false e h = let no : time_read d t ≡ None = rw e in cc

-- so a point, a time and a letter are eight bytes
suffix_whole : (d : Days) (t : List ℕ) (m : ℕ) (p : Option Slot) → 2 ≤ length t → get_or t 0 0 ≡ 46 → time_read d (take (length t - 1 - 1) (drop 1 t)) ≡ Some m → p ≡ cond (is_capital (get_or t (length t - 1) 0)) (Some (with_letter (get_or t (length t - 1) 0) m)) None → p ≡ suffix_read d t
suffix_whole d t m p long point time e =
    let l = length-drop 1 t in
    let six : length (take (length t - 1 - 1) (drop 1 t)) ≡ 6 = six_long d _ m _ refl time in
    let same : length (take (length t - 1 - 1) (drop 1 t)) ≡ length t - 1 - 1 = length-take-le (length t - 1 - 1) (drop 1 t) (omega arith) in
    let whole : length t ≡ 8 = omega arith in
    let timed : time_read d (take 6 (drop 1 t)) ≡ Some m = ap (λ k. time_read d (take k (drop 1 t))) (sym six ∙ same) ∙ time in
    let last : length t - 1 ≡ 7 = omega arith in
    let read : suffix_read d t ≡ cond (is_capital (get_or t 7 0)) (Some (with_letter (get_or t 7 0) m)) None =
    rw (whole, point) (ap (λ o. cond (is_capital (get_or t 7 0)) (option_map (with_letter (get_or t 7 0)) o) None) timed) in
    e ∙ ap (λ k. cond (is_capital (get_or t k 0)) (Some (with_letter (get_or t k 0) m)) None) last ∙ sym read

pub returns : goal.returns
returns c =
    suffix_whole (days_of c.args.days.now) c.args.text.now (minute_of c.in_ok-read_time.field-0) _ (omega arith) (omega arith) (sym c.read_time.ensures.value ∙ ap (option_map minute_of) c.in_ok-read_time.was) c.new.ensures
