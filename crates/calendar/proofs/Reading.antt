-- A time is read as a minute exactly when it is that minute's six digits.
use Rattle.std.proofs.Common.{◌≡◌, ℕ, ◌+◌, ◌*◌, ◌/◌, ◌%◌, ◌<◌, ◌≤◌, Bool, true, false, cond, eqb, List, [], ◌∷◌, length, get_or, Some, None, Option, refl, ap, ◌∙◌, arith}
use Rattle.std.proofs.lemmas.Bool.Decides.{nat_tests}
use Rattle.std.proofs.lemmas.Bool.{eqb-true}
use Rattle.std.proofs.lemmas.Slice.Eq.{text_from_reads}
use Rattle.calendar.specs.Digits.{digit, tens_and_ones, two_digits}
use Rattle.calendar.specs.Days.{Days, minute_at, minute_from, time_read, day_after, time_written, ReadsItsDigits}

-- what holds of the days that the code keeps
pub record Month (d : Days) : Type 0 where
  pub from : 1 ≤ d.base
  pub within : d.base ≤ d.month
  pub least : 28 ≤ d.month
  pub most : d.month ≤ 31

digit_back : (k : ℕ) → k < 10 → digit (48 + k) ≡ Some k
digit_back k h = grind (arith, nat_tests)

two_back : (n : ℕ) → n < 100 → two_digits (48 + n / 10) (48 + n % 10) ≡ Some n
two_back n h =
    let a : n / 10 < 10 = omega arith in
    let b : n % 10 < 10 = omega arith in
    let e : 10 * (n / 10) + n % 10 ≡ n = omega arith in
    rw (digit_back (n / 10) a, digit_back (n % 10) b, e)

minute_back : (d : Days) (m : ℕ) → Month d → m < 10080 → minute_at d (day_after d (m / 1440)) (m % 1440 / 60) (m % 60) ≡ Some m
minute_back d m w h = grind (arith, nat_tests)

-- the digits of a minute are read as that minute
pub reads_written : (d : Days) (m : ℕ) → Month d → m < 10080 → time_read d (time_written d m) ≡ Some m
reads_written d m w h =
    let a : day_after d (m / 1440) < 100 = grind (arith, nat_tests) in
    let b : m % 1440 / 60 < 100 = omega arith in
    let e : m % 60 < 100 = omega arith in
    rw (two_back (day_after d (m / 1440)) a, two_back (m % 1440 / 60) b, two_back (m % 60) e) (minute_back d m w h)

record Digit (a k : ℕ) : Type 0 where
  is : a ≡ 48 + k
  low : k < 10

digit_of : (a k : ℕ) → digit a ≡ Some k → Digit a k
digit_of a k h = record { is = grind (arith, nat_tests); low = grind (arith, nat_tests) }

record Two (a b n : ℕ) : Type 0 where
  first : a ≡ 48 + n / 10
  second : b ≡ 48 + n % 10

two_from : (a b n : ℕ) (x y : Option ℕ) → digit a ≡ x → digit b ≡ y → tens_and_ones x y ≡ Some n → Two a b n
two_from a b n None y p q h = let z : ◌≡◌ {A = ℕ} 0 1 = cc in absurd (omega arith)
two_from a b n (Some k) None p q h = let z : ◌≡◌ {A = ℕ} 0 1 = cc in absurd (omega arith)
two_from a b n (Some k) (Some l) p q h =
    let e : 10 * k + l ≡ n = cc in
    let i : Digit a k = digit_of a k p in
    let j : Digit b l = digit_of b l q in
    record { first = omega arith; second = omega arith }

two_of : (a b n : ℕ) → two_digits a b ≡ Some n → Two a b n
two_of a b n h = two_from a b n (digit a) (digit b) refl refl h

record Parts (d : Days) (dd hh mm m : ℕ) : Type 0 where
  days : dd ≡ day_after d (m / 1440)
  hours : hh ≡ m % 1440 / 60
  minutes : mm ≡ m % 60

parts_of_fact : (d : Days) (dd hh mm m : ℕ) → Month d → minute_at d dd hh mm ≡ Some m → Parts d dd hh mm m
parts_of_fact d dd hh mm m w h = record { days = grind (arith, nat_tests); hours = grind (arith, nat_tests); minutes = grind (arith, nat_tests) }

six : (d : Days) (m a b c e f g : ℕ) (x y z : Option ℕ) → Month d → two_digits a b ≡ x → two_digits c e ≡ y → two_digits f g ≡ z → minute_from d x y z ≡ Some m → (a ∷ b ∷ c ∷ e ∷ f ∷ g ∷ []) ≡ time_written d m
six d m a b c e f g None y z w p q r h = let no : ◌≡◌ {A = ℕ} 0 1 = cc in absurd (omega arith)
six d m a b c e f g (Some dd) None z w p q r h = let no : ◌≡◌ {A = ℕ} 0 1 = cc in absurd (omega arith)
six d m a b c e f g (Some dd) (Some hh) None w p q r h = let no : ◌≡◌ {A = ℕ} 0 1 = cc in absurd (omega arith)
six d m a b c e f g (Some dd) (Some hh) (Some mm) w p q r h =
    let i : Two a b dd = two_of a b dd p in
    let j : Two c e hh = two_of c e hh q in
    let k : Two f g mm = two_of f g mm r in
    let l : Parts d dd hh mm m = parts_of_fact d dd hh mm m w h in
    cc

alone : (d : Days) (m : ℕ) (t : List ℕ) (b : Bool) → eqb (length t) 6 ≡ b → Month d → cond b (minute_from d (two_digits (get_or t 0 0) (get_or t 1 0)) (two_digits (get_or t 2 0) (get_or t 3 0)) (two_digits (get_or t 4 0) (get_or t 5 0))) None ≡ Some m → t ≡ time_written d m
alone d m t true e w h =
    text_from_reads t (get_or t 0 0 ∷ get_or t 1 0 ∷ get_or t 2 0 ∷ get_or t 3 0 ∷ get_or t 4 0 ∷ get_or t 5 0 ∷ []) (eqb-true (length t) 6 e) (refl, (refl, (refl, (refl, (refl, (refl, tt))))))
    ∙ six d m _ _ _ _ _ _ _ _ _ w refl refl refl h
alone d m t false e w h = let no : ◌≡◌ {A = ℕ} 0 1 = cc in absurd (omega arith)

-- and no other text is
pub written_alone : (d : Days) (m : ℕ) (t : List ℕ) → Month d → time_read d t ≡ Some m → t ≡ time_written d m
written_alone d m t w h = alone d m t (eqb (length t) 6) refl w h

pub reads_its_digits : (d : Days) (t : List ℕ) → Month d → ReadsItsDigits d t
reads_its_digits d t w = record {
  only = λ m h. written_alone d m t w h;
  every = λ m h e. ap (time_read d) e ∙ reads_written d m w h;
}
