-- Proofs of the laws of the airport and the flow constrained area: their texts have their form, and two different pairs never
-- share a name. There is no definition here that a contract uses. They stand in specs/ because the impls cite them, and an impl
-- may cite only what its crate has there.
use Rattle.std.specs.Prelude.{◌≡◌, ℕ, ◌+◌, ◌/◌, ◌%◌, ◌<◌, ◌≤◌, Bool, true, ◌&&◌, ◌||◌, List, [], ◌∷◌, ◌++◌, length, take, drop, Some, ◌==◌, nat_le, refl, codes}
use Rattle.std.proofs.Common.{sym, ap, ◌∙◌, arith, length-append, take-append-drop}
use Rattle.std.proofs.lemmas.Bool.{and_parts, and_from, leb-true, le-leb, or_left}
use Rattle.std.proofs.lemmas.Slice.Eq.{bytes_eq-Decides}
use Rattle.std.proofs.lemmas.List.{take_at, drop_at}
use Rattle.std.proofs.lemmas.Bool.Decides.{nat_tests}
use Rattle.std.specs.Str.{bytes_eq}
use Rattle.text.specs.Bytes.{is_capital, is_capital_or_digit, each}
use Rattle.text.proofs.Scans.{each_append}
use Rattle.calendar.specs.Days.{Days, is_days, day_after, time_written}
use Rattle.calendar.specs.Digits.{two_digits_of}
use Rattle.calendar.proofs.Reading.{Month, reads_written}
use Rattle.element.specs.Slots.{Slot, is_pair}
use Rattle.element.specs.Meanings.{NamesApart, is_slot_name, Formed}
use Rattle.element.specs.Pointed.{suffix, pointed_name, suffix_read, pointed_read, pointed_meaning, airport_meaning, area_meaning}
use Rattle.calendar.specs.Identities.{is_airport}
use Rattle.element.specs.Forms.{is_area_name}

pub month_of : (d : Days) → is_days d ≡ true → Month d
month_of d h = record {
  from = grind (arith, nat_tests);
  within = grind (arith, nat_tests);
  least = grind (arith, nat_tests);
  most = grind (arith, nat_tests);
}

record Pair (p : Slot) : Type 0 where
  week : p.minute < 10080
  capital : is_capital p.letter ≡ true

pair_of : (p : Slot) → is_pair p ≡ true → Pair p
pair_of p h =
    let parts = and_parts (nat_le p.minute 10079) _ h in
    record { week = omega (arith, leb-true p.minute 10079 parts.0); capital = parts.1 }

suffix_back : (d : Days) (p : Slot) → is_days d ≡ true → is_pair p ≡ true → suffix_read d (suffix d p) ≡ Some p
suffix_back d p days h =
    let q = pair_of p h in
    rw (q.capital, reads_written d p.minute (month_of d days) q.week)

pub pointed_back : (name : List ℕ) (d : Days) (p : Slot) → is_days d ≡ true → is_pair p ≡ true → pointed_read name d (pointed_name name d p) ≡ Some p
pointed_back name d p days h =
    let long : length name ≤ length (name ++ suffix d p) = simp length-append (omega arith) in
    rw (le-leb (length name) (length (name ++ suffix d p)) long, take_at name (suffix d p) (length name) refl, drop_at name (suffix d p) (length name) refl, (bytes_eq-Decides name name).1 refl)
    (suffix_back d p days h)

-- two different pairs never share such a name
pub pointed_apart : (name : List ℕ) (d : Days) → is_days d ≡ true → NamesApart (pointed_name name d)
pointed_apart name d days p q hp hq e =
    let a = pointed_back name d p days hp in
    let b = pointed_back name d q days hq in
    let both : Some p ≡ Some q = sym a ∙ ap (pointed_read name d) e ∙ b in
    cc

-- the form of such a name
abbrev named : ℕ → Bool
named b = is_capital_or_digit b || b == 46

each_named : (xs : List ℕ) → each is_capital_or_digit xs ≡ true → each named xs ≡ true
each_named [] h = refl
each_named (x ∷ xs) h =
    let parts = and_parts (is_capital_or_digit x) (each is_capital_or_digit xs) h in
    and_from (named x) (each named xs) (or_left (is_capital_or_digit x) (x == 46) parts.0) (each_named xs parts.1)

two_named : (n : ℕ) → n < 100 → each named (two_digits_of n) ≡ true
two_named n h = grind (arith, nat_tests)

suffix_named : (d : Days) (p : Slot) → is_days d ≡ true → is_pair p ≡ true → each named (suffix d p) ≡ true
suffix_named d p days h =
    let w = month_of d days in
    let q = pair_of p h in
    let a : day_after d (p.minute / 1440) < 100 = grind (arith, nat_tests) in
    let b : p.minute % 1440 / 60 < 100 = omega arith in
    let c : p.minute % 60 < 100 = omega arith in
    let l : each named (p.letter ∷ []) ≡ true = rw q.capital in
    each_append named (time_written d p.minute) (p.letter ∷ [])
    (each_append named (two_digits_of (day_after d (p.minute / 1440))) (two_digits_of (p.minute % 1440 / 60) ++ two_digits_of (p.minute % 60)) (two_named _ a)
    (each_append named (two_digits_of (p.minute % 1440 / 60)) (two_digits_of (p.minute % 60)) (two_named _ b) (two_named _ c)))
    l

pub pointed_formed_at : (name : List ℕ) (d : Days) (p : Slot) → length name ≤ 6 → each is_capital_or_digit name ≡ true → is_days d ≡ true → is_pair p ≡ true → is_slot_name (pointed_name name d p) ≡ true
pointed_formed_at name d p short chars days h =
    let n : length (pointed_name name d p) ≡ length name + 8 = length-append name (suffix d p) in
    and_from _ _ (and_from _ _ (le-leb 1 (length (pointed_name name d p)) (omega arith)) (le-leb (length (pointed_name name d p)) 14 (omega arith)))
    (each_append named name (suffix d p) (each_named name chars) (suffix_named d p days h))

pub airport_short : (t : List ℕ) → is_airport t ≡ true → length t ≤ 6
airport_short t h =
    let parts = and_parts (nat_le 3 (length t) && nat_le (length t) 4) _ h in
    omega (arith, leb-true (length t) 4 (and_parts (nat_le 3 (length t)) _ parts.0).1)

pub airport_letters : (t : List ℕ) → is_airport t ≡ true → each is_capital_or_digit t ≡ true
airport_letters t h = (and_parts (nat_le 3 (length t) && nat_le (length t) 4) _ h).1

pub area_short : (t : List ℕ) → is_area_name t ≡ true → length t ≤ 6
area_short t h =
    let parts = and_parts (nat_le 4 (length t) && nat_le (length t) 6 && bytes_eq (take 3 t) (codes "FCA")) _ h in
    let sizes = and_parts (nat_le 4 (length t) && nat_le (length t) 6) _ parts.0 in
    omega (arith, leb-true (length t) 6 (and_parts (nat_le 4 (length t)) _ sizes.0).1)

pub area_letters : (t : List ℕ) → is_area_name t ≡ true → each is_capital_or_digit t ≡ true
area_letters t h =
    let parts = and_parts (nat_le 4 (length t) && nat_le (length t) 6 && bytes_eq (take 3 t) (codes "FCA")) _ h in
    let same = (and_parts (nat_le 4 (length t) && nat_le (length t) 6) _ parts.0).1 in
    let front : take 3 t ≡ codes "FCA" = (bytes_eq-Decides (take 3 t) (codes "FCA")).0 same in
    ap (each is_capital_or_digit) (sym (take-append-drop 3 t))
    ∙ each_append is_capital_or_digit (take 3 t) (drop 3 t) (ap (each is_capital_or_digit) front) parts.1

-- the texts of such an element have their form
pub pointed_formed : (word : List ℕ) (serves : List ℕ → List ℕ → Bool) (name : List ℕ) → length name ≤ 6 → each is_capital_or_digit name ≡ true → length word ≤ 6 → Formed (pointed_meaning word serves name)
pointed_formed word serves name short chars short_word = record {
  short_name = short;
  short_word = short_word;
  slot_names = λ d p days k. pointed_formed_at name d p short chars days k;
}

-- the texts of an airport have their form
pub airport_formed : (code : List ℕ) → is_airport code ≡ true → Formed (airport_meaning code)
airport_formed code h = pointed_formed (codes "ERTA") (λ name t. bytes_eq t name) code (airport_short code h) (airport_letters code h) (omega arith)

-- the texts of a flow constrained area have their form
pub area_formed : (name : List ℕ) → is_area_name name ≡ true → Formed (area_meaning name)
area_formed name h = pointed_formed (codes "EENTRY") (λ name t. true) name (area_short name h) (area_letters name h) (omega arith)
