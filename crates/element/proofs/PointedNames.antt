-- Names made of the element's name, a point, a time and a letter are read as the names alone define.
use Rattle.std.specs.Prelude.{◌≡◌, ℕ, ◌<◌, Bool, true, false, cond, ◌&&◌, List, [], ◌∷◌, ◌++◌, length, take, drop, Some, None, Option, ◌==◌, nat_le, slice_index, refl}
use Rattle.std.proofs.Common.{sym, ap, ◌∙◌, arith, take-append-drop}
use Rattle.std.proofs.lemmas.Bool.{and_from, eqb-true, le-leb}
use Rattle.std.proofs.lemmas.Slice.Eq.{bytes_eq-Decides, text_from_reads}
use Rattle.std.proofs.lemmas.Bool.Decides.{nat_tests}
use Rattle.std.specs.Option.{option_map}
use Rattle.std.specs.Str.{bytes_eq}
use Rattle.text.specs.Bytes.{is_capital}
use Rattle.calendar.specs.Days.{Days, is_days, minute_from, time_read, time_written}
use Rattle.calendar.specs.Digits.{two_digits}
use Rattle.calendar.proofs.Reading.{Month, written_alone}
use Rattle.element.specs.Slots.{Slot, is_pair}
use Rattle.element.specs.Meanings.{name_read}
use Rattle.element.specs.Pointed.{suffix, pointed_name, with_letter, suffix_read, pointed_read}
use Rattle.element.proofs.NameReading.{name_reads, reads_none}
use Rattle.element.specs.ElementLaws.{month_of, pointed_back, pointed_apart}

-- a time that is read lies in the week
week_of : (d : Days) (x y z : Option ℕ) (m : ℕ) → Month d → minute_from d x y z ≡ Some m → m < 10080
week_of d None y z m w h = let no : ◌≡◌ {A = ℕ} 0 1 = cc in absurd (omega arith)
week_of d (Some dd) None z m w h = let no : ◌≡◌ {A = ℕ} 0 1 = cc in absurd (omega arith)
week_of d (Some dd) (Some hh) None m w h = let no : ◌≡◌ {A = ℕ} 0 1 = cc in absurd (omega arith)
week_of d (Some dd) (Some hh) (Some mm) m w h = grind (arith, nat_tests)

-- what was read, and of which text
record Was (d : Days) (t : List ℕ) (p : Slot) : Type 0 where
  pair : is_pair p ≡ true
  text : t ≡ suffix d p

was_from : (d : Days) (b c e f g h l : ℕ) (p : Slot) (o : Option ℕ) → Month d → is_capital l ≡ true → time_read d (b ∷ c ∷ e ∷ f ∷ g ∷ h ∷ []) ≡ o → option_map (with_letter l) o ≡ Some p → Was d (46 ∷ b ∷ c ∷ e ∷ f ∷ g ∷ h ∷ l ∷ []) p
was_from d b c e f g h l p None w cap q r = let no : ◌≡◌ {A = ℕ} 0 1 = cc in absurd (omega arith)
was_from d b c e f g h l p (Some m) w cap q r =
    let is : with_letter l m ≡ p = cc in
    let low : m < 10080 = week_of d (two_digits b c) (two_digits e f) (two_digits g h) m w q in
    let digits : (b ∷ c ∷ e ∷ f ∷ g ∷ h ∷ []) ≡ time_written d m = written_alone d m (b ∷ c ∷ e ∷ f ∷ g ∷ h ∷ []) w q in
    record {
      pair = ap is_pair (sym is) ∙ and_from _ _ (le-leb m 10079 (omega arith)) cap;
      text = ap (λ t. 46 ∷ (t ++ (l ∷ []))) digits ∙ ap (suffix d) is;
    }

was_eight : (d : Days) (a b c e f g h l : ℕ) (p : Slot) (x y : Bool) → Month d → (a == 46) ≡ x → is_capital l ≡ y → cond (x && y) (option_map (with_letter l) (time_read d (b ∷ c ∷ e ∷ f ∷ g ∷ h ∷ []))) None ≡ Some p → Was d (a ∷ b ∷ c ∷ e ∷ f ∷ g ∷ h ∷ l ∷ []) p
was_eight d a b c e f g h l p true true w i j k =
    let r = was_from d b c e f g h l p (time_read d (b ∷ c ∷ e ∷ f ∷ g ∷ h ∷ [])) w j refl k in
    record { pair = r.pair; text = ap (λ n. n ∷ b ∷ c ∷ e ∷ f ∷ g ∷ h ∷ l ∷ []) (eqb-true a 46 i) ∙ r.text }
was_eight d a b c e f g h l p true false w i j k = let no : ◌≡◌ {A = ℕ} 0 1 = cc in absurd (omega arith)
was_eight d a b c e f g h l p false y w i j k = let no : ◌≡◌ {A = ℕ} 0 1 = cc in absurd (omega arith)

was_long : (d : Days) (t : List ℕ) (p : Slot) (x : Bool) → Month d → (length t == 8) ≡ x → cond (x && slice_index t 0 == 46 && is_capital (slice_index t 7)) (option_map (with_letter (slice_index t 7)) (time_read d (take 6 (drop 1 t)))) None ≡ Some p → Was d t p
was_long d t p false w e h = let no : ◌≡◌ {A = ℕ} 0 1 = cc in absurd (omega arith)
was_long d t p true w e h =
    let u = slice_index t 0 ∷ slice_index t 1 ∷ slice_index t 2 ∷ slice_index t 3 ∷ slice_index t 4 ∷ slice_index t 5 ∷ slice_index t 6 ∷ slice_index t 7 ∷ [] in
    let is : t ≡ u = text_from_reads t u (eqb-true (length t) 8 e) (refl, (refl, (refl, (refl, (refl, (refl, (refl, (refl, tt)))))))) in
    let six : take 6 (drop 1 t) ≡ take 6 (drop 1 u) = ap (λ l. take 6 (drop 1 l)) is in
    let k = ap (λ l. cond (slice_index t 0 == 46 && is_capital (slice_index t 7)) (option_map (with_letter (slice_index t 7)) (time_read d l)) None) (sym six) ∙ h in
    let r = was_eight d _ _ _ _ _ _ _ _ p (slice_index t 0 == 46) (is_capital (slice_index t 7)) w refl refl k in
    record { pair = r.pair; text = is ∙ r.text }

suffix_only : (d : Days) (t : List ℕ) (p : Slot) → is_days d ≡ true → suffix_read d t ≡ Some p → Was d t p
suffix_only d t p days h = was_long d t p (length t == 8) (month_of d days) refl h

-- what was read, and of which name
pub record Wrote (name : List ℕ) (d : Days) (t : List ℕ) (p : Slot) : Type 0 where
  pub pair : is_pair p ≡ true
  pub text : t ≡ pointed_name name d p

wrote_from : (name : List ℕ) (d : Days) (t : List ℕ) (p : Slot) (x y : Bool) → is_days d ≡ true → nat_le (length name) (length t) ≡ x → bytes_eq (take (length name) t) name ≡ y → cond (x && y) (suffix_read d (drop (length name) t)) None ≡ Some p → Wrote name d t p
wrote_from name d t p true true days i j h =
    let r = suffix_only d (drop (length name) t) p days h in
    let front : take (length name) t ≡ name = (bytes_eq-Decides (take (length name) t) name).0 j in
    record { pair = r.pair; text = sym (take-append-drop (length name) t) ∙ ap (λ l. l ++ drop (length name) t) front ∙ ap (λ l. name ++ l) r.text }
wrote_from name d t p true false days i j h = let no : ◌≡◌ {A = ℕ} 0 1 = cc in absurd (omega arith)
wrote_from name d t p false y days i j h = let no : ◌≡◌ {A = ℕ} 0 1 = cc in absurd (omega arith)

pointed_only : (name : List ℕ) (d : Days) (t : List ℕ) (p : Slot) → is_days d ≡ true → pointed_read name d t ≡ Some p → Wrote name d t p
pointed_only name d t p days h = wrote_from name d t p (nat_le (length name) (length t)) (bytes_eq (take (length name) t) name) days refl refl h

none_or_read : (name : List ℕ) (d : Days) (t : List ℕ) (o : Option Slot) → is_days d ≡ true → pointed_read name d t ≡ o → o ≡ name_read (pointed_name name d) t
none_or_read name d t None days h =
    sym (reads_none (pointed_name name d) t (λ p hp e.
    let back = ap (pointed_read name d) (sym e) ∙ pointed_back name d p days hp in
    let no : ◌≡◌ {A = ℕ} 0 1 = cc in
    omega arith))
none_or_read name d t (Some p) days h =
    let r = pointed_only name d t p days h in
    sym (ap (name_read (pointed_name name d)) r.text ∙ name_reads (pointed_name name d) p (pointed_apart name d days) r.pair)

-- the code reads what the names alone define
pub pointed_is : (name : List ℕ) (d : Days) (t : List ℕ) → is_days d ≡ true → pointed_read name d t ≡ name_read (pointed_name name d) t
pointed_is name d t days = none_or_read name d t (pointed_read name d t) days refl
