-- The two lemmas by which reading a name is used.
use Rattle.std.specs.Prelude.{◌≡◌, ℕ, zero, suc, ◌+◌, ◌-◌, ◌<◌, Bool, true, false, cond, List, Some, None, Option, ◌==◌, ◌≢◌, nat_le, refl}
use Rattle.std.proofs.Common.{sym, ap, ◌∙◌, arith}
use Rattle.std.proofs.lemmas.Bool.{and_parts, and_from, leb-true, le-leb}
use Rattle.std.proofs.lemmas.Slice.Eq.{bytes_eq-Decides}
use Rattle.std.proofs.lemmas.Bool.Decides.{nat_tests}
use Rattle.std.specs.Str.{bytes_eq}
use Rattle.element.specs.Slots.{Slot, is_pair}
use Rattle.element.specs.Meanings.{NamesApart, or_else, first_below, pair_at, pair_named, name_read, ReadsItsName}

-- where a search below n ended
pub record Hit {X : Type 0} (n : ℕ) (f : ℕ → Option X) (x : X) : Type 0 where
  pub at : ℕ
  pub below : at < n
  pub gave : f at ≡ Some x

hit_more : {X : Type 0} {n : ℕ} {f : ℕ → Option X} {x : X} → Hit n f x → Hit (suc n) f x
hit_more h = record { at = h.at; below = omega arith; gave = h.gave }

hit_from : {X : Type 0} (n : ℕ) (f : ℕ → Option X) (x : X) (o : Option X) → (o ≡ Some x → Hit n f x) → or_else o (f n) ≡ Some x → Hit (suc n) f x
hit_from n f x None ih h = record { at = n; below = omega arith; gave = h }
hit_from n f x (Some y) ih h = hit_more (ih h)

found_below : {X : Type 0} (n : ℕ) (f : ℕ → Option X) (x : X) → first_below n f ≡ Some x → Hit n f x
found_below zero f x h = let z : ◌≡◌ {A = ℕ} 0 1 = cc in absurd (omega arith)
found_below (suc n) f x h = hit_from n f x (first_below n f) (found_below n f x) h

-- where it gave nothing, f gives nothing below n
none_from : {X : Type 0} (n k : ℕ) (f : ℕ → Option X) (o : Option X) → (o ≡ None → k < n → f k ≡ None) → or_else o (f n) ≡ None → k < suc n → f k ≡ None
none_from n k f None ih h l = last (k == n) refl where
  last : (b : Bool) → (k == n) ≡ b → f k ≡ None
  last true e = let q : k ≡ n = grind (arith, nat_tests) in ap f q ∙ h
  last false e = let q : k < n = grind (arith, nat_tests) in ih refl q
none_from n k f (Some y) ih h l = let z : ◌≡◌ {A = ℕ} 0 1 = cc in absurd (omega arith)

none_below : {X : Type 0} (n k : ℕ) (f : ℕ → Option X) → first_below n f ≡ None → k < n → f k ≡ None
none_below zero k f h l = absurd (omega arith)
none_below (suc n) k f h l = none_from n k f (first_below n f) (none_below n k f) h l

-- the pair named is the one asked about, and the text is its name
pub record Named (names : Slot → List ℕ) (t : List ℕ) (p : Slot) : Type 0 where
  pub pair : is_pair p ≡ true
  pub name : names p ≡ t

named_from : (names : Slot → List ℕ) (t : List ℕ) (p q : Slot) (b : Bool) → bytes_eq (names p) t ≡ b → cond b (Some p) None ≡ Some q → (p ≡ q) × (names p ≡ t)
named_from names t p q true e h = (cc, (bytes_eq-Decides (names p) t).0 e)
named_from names t p q false e h = let z : ◌≡◌ {A = ℕ} 0 1 = cc in absurd (omega arith)

at_pair : (m k : ℕ) → m < 10080 → k < 26 → is_pair (pair_at m k) ≡ true
at_pair m k h l = and_from _ _ (le-leb m 10079 (omega arith)) (and_from _ _ (le-leb 65 (65 + k) (omega arith)) (le-leb (65 + k) 90 (omega arith)))

named_at : (names : Slot → List ℕ) (t : List ℕ) (q : Slot) (m : ℕ) → m < 10080 → first_below 26 (λ k. pair_named names t (pair_at m k)) ≡ Some q → Named names t q
named_at names t q m h e =
    let hit = found_below 26 (λ k. pair_named names t (pair_at m k)) q e in
    let r = named_from names t (pair_at m hit.at) q (bytes_eq (names (pair_at m hit.at)) t) refl hit.gave in
    record { pair = ap is_pair (sym r.0) ∙ at_pair m hit.at h hit.below; name = ap names (sym r.0) ∙ r.1 }

-- what is read of a text is a pair whose name it is
read_named : (names : Slot → List ℕ) (t : List ℕ) (q : Slot) → name_read names t ≡ Some q → Named names t q
unfolding name_read
read_named names t q e =
    let hit = found_below 10080 (λ m. first_below 26 (λ k. pair_named names t (pair_at m k))) q e in
    named_at names t q hit.at hit.below hit.gave

-- a pair by its minute and its letter
as_pair : (p : Slot) → is_pair p ≡ true → pair_at p.minute (p.letter - 65) ≡ p
as_pair p h =
    let parts = and_parts (nat_le p.minute 10079) _ h in
    let low = leb-true 65 p.letter (and_parts (nat_le 65 p.letter) _ parts.1).0 in
    let e : 65 + (p.letter - 65) ≡ p.letter = omega arith in
    ap (λ l. record { minute = p.minute; letter = l }) e

not_named : (names : Slot → List ℕ) (p : Slot) → pair_named names (names p) p ≢ None
not_named names p h =
    let same : bytes_eq (names p) (names p) ≡ true = (bytes_eq-Decides (names p) (names p)).1 refl in
    let e : cond (bytes_eq (names p) (names p)) (Some p) None ≡ Some p = ap (λ b. cond b (Some p) None) same in
    let z : ◌≡◌ {A = ℕ} 0 1 = cc in
    omega arith

read_not_none : (names : Slot → List ℕ) (p : Slot) → is_pair p ≡ true → name_read names (names p) ≢ None
unfolding name_read
read_not_none names p h e =
    let parts = and_parts (nat_le p.minute 10079) _ h in
    let week : p.minute < 10080 = omega (arith, leb-true p.minute 10079 parts.0) in
    let letters = and_parts (nat_le 65 p.letter) _ parts.1 in
    let k = p.letter - 65 in
    let few : k < 26 = omega (arith, leb-true 65 p.letter letters.0, leb-true p.letter 90 letters.1) in
    let inner = none_below 10080 p.minute (λ m. first_below 26 (λ j. pair_named names (names p) (pair_at m j))) e week in
    let none = none_below 26 k (λ j. pair_named names (names p) (pair_at p.minute j)) inner few in
    not_named names p (ap (pair_named names (names p)) (sym (as_pair p h)) ∙ none)

name_from : (names : Slot → List ℕ) (p : Slot) (o : Option Slot) → NamesApart names → is_pair p ≡ true → name_read names (names p) ≡ o → name_read names (names p) ≡ Some p
name_from names p None apart h e = absurd (read_not_none names p h e)
name_from names p (Some q) apart h e =
    let n = read_named names (names p) q e in
    e ∙ ap (λ x. Some x) (apart q p n.pair h n.name)

-- the name of a pair reads as that pair
pub name_reads : (names : Slot → List ℕ) (p : Slot) → NamesApart names → is_pair p ≡ true → name_read names (names p) ≡ Some p
name_reads names p apart h = name_from names p (name_read names (names p)) apart h refl

none_or : (names : Slot → List ℕ) (t : List ℕ) (o : Option Slot) → ((p : Slot) → is_pair p ≡ true → names p ≢ t) → name_read names t ≡ o → name_read names t ≡ None
none_or names t None nobody e = e
none_or names t (Some q) nobody e = let n = read_named names t q e in absurd (nobody q n.pair n.name)

-- a text that is nobody's name reads as none
pub reads_none : (names : Slot → List ℕ) (t : List ℕ) → ((p : Slot) → is_pair p ≡ true → names p ≢ t) → name_read names t ≡ None
reads_none names t nobody = none_or names t (name_read names t) nobody refl

-- so reading yields a pair exactly when the text is its name
pub reads_its_name : (names : Slot → List ℕ) (t : List ℕ) → NamesApart names → ReadsItsName names t
reads_its_name names t apart = record {
  only = λ p e. (let n = read_named names t p e in (n.pair, n.name));
  every = λ p h e. ap (name_read names) (sym e) ∙ name_reads names p apart h;
}
