-- What a controlled element means, and what reading one of its slot names yields.
use Rattle.std.specs.Prelude.{◌≡◌, ℕ, zero, suc, ◌+◌, ◌≤◌, Bool, true, cond, ◌&&◌, ◌||◌, List, length, Some, None, Option, ◌==◌, nat_le}
use Rattle.std.specs.Str.{bytes_eq}
use Rattle.text.specs.Bytes.{is_capital_or_digit, each}
use Rattle.calendar.specs.Days.{Days, is_days}
use Rattle.element.specs.Slots.{Slot, is_pair}

-- what an element is, apart from the days that it lies on now: its name, its word for the last column but one of a slot
-- list, the arrival airports that it serves, and for the days given one name for each pair of minute and letter
pub record Meaning : Type 0 where
  pub name : List ℕ
  pub word : List ℕ
  pub serves : List ℕ → Bool
  pub slot_name : Days → Slot → List ℕ

-- 1 to 14 capital letters, digits and points
abbrev pub is_slot_name : List ℕ → Bool
is_slot_name t = nat_le 1 (length t) && nat_le (length t) 14 && each (λ b. is_capital_or_digit b || b == 46) t

-- the texts have their form: the name and the word at most 6 bytes, each slot name 1 to 14 capital letters, digits and points
pub record Formed (e : Meaning) : Type 0 where
  pub short_name : length e.name ≤ 6
  pub short_word : length e.word ≤ 6
  pub slot_names : (d : Days) (p : Slot) → is_days d ≡ true → is_pair p ≡ true → is_slot_name (e.slot_name d p) ≡ true

-- two different pairs never share a name
abbrev pub NamesApart : (Slot → List ℕ) → Type 0
NamesApart names = (p q : Slot) → is_pair p ≡ true → is_pair q ≡ true → names p ≡ names q → p ≡ q

-- the law of an element: whatever its days, two different pairs never share a name
abbrev pub SlotNamesApart : Meaning → Type 0
SlotNamesApart e = (d : Days) → is_days d ≡ true → NamesApart (e.slot_name d)

abbrev pub or_else : {X : Type 0} → Option X → Option X → Option X
or_else None y = y
or_else (Some x) y = Some x

-- what f first gives at a number below n
abbrev pub first_below : {X : Type 0} → ℕ → (ℕ → Option X) → Option X
first_below zero f = None
first_below (suc n) f = or_else (first_below n f) (f n)

-- the pair of a minute and the k-th letter after A
abbrev pub pair_at : ℕ → ℕ → Slot
pair_at m k = record { minute = m; letter = 65 + k }

-- the pair, where the text is its name
abbrev pub pair_named : (Slot → List ℕ) → List ℕ → Slot → Option Slot
pair_named names t p = cond (bytes_eq (names p) t) (Some p) None

-- what reading a text yields, by the names of the pairs alone: the pair whose name it is. It is used by two lemmas, that the
-- name of a pair reads as that pair and that a text that is nobody's name reads as none, and is never unfolded elsewhere
unfoldable pub name_read : (Slot → List ℕ) → List ℕ → Option Slot
name_read names t = first_below 10080 (λ m. first_below 26 (λ k. pair_named names t (pair_at m k)))

-- reading yields a pair exactly when the text is that pair's name
pub record ReadsItsName (names : Slot → List ℕ) (t : List ℕ) : Type 0 where
  pub only : (p : Slot) → name_read names t ≡ Some p → (is_pair p ≡ true) × (names p ≡ t)
  pub every : (p : Slot) → is_pair p ≡ true → names p ≡ t → name_read names t ≡ Some p
