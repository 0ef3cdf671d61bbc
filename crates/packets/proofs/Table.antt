-- The standing rules of a table, as facts.
use Rattle.std.proofs.Common.{◌≡◌, ℕ, zero, suc, ◌+◌, ◌≤◌, Bool, true, false, not, List, [], ◌∷◌, ◌++◌, length, Some, None, Option, sym, refl, ap, ◌∙◌, arith, length-append}
use Rattle.std.proofs.lemmas.Bool.{both_ways, and_parts, and_from, not-true, leb-true, le-leb}
use Rattle.std.specs.List.{AllByRecursion}
use Rattle.calendar.specs.Identities.{Identity, same_identity}
use Rattle.element.specs.Slots.{Slot, same_slot}
use Rattle.element.specs.Meanings.{Meaning}
use Rattle.flights.specs.Counts.{bump, some}
use Rattle.flights.specs.Flights.{Flight, is_slot, bearers, holders}
use Rattle.flights.specs.Standing.{flight_stands, new_identity, free_slot, new_slot, has_place, joins, stands_after, table_stands}
use Rattle.packets.proofs.Deciding.{by_test, identity_true, identity_refl, slot_refl, is_slot_fact}

pub some_false : (n : ℕ) → some n ≡ false → n ≡ 0
some_false zero h = refl
some_false (suc n) h = absurd (both_ways true h refl)

pub some_true : (n : ℕ) → some n ≡ true → 1 ≤ n
some_true zero h = absurd (both_ways false refl h)
some_true (suc n) h = omega arith

pub none_some : (n : ℕ) → n ≡ 0 → not (some n) ≡ true
none_some n h = ap (λ k. not (some k)) h

-- a test that passed adds one
pub bump_adds : (b : Bool) (n : ℕ) → bump b n ≡ bump b 0 + n
bump_adds true n = omega arith
bump_adds false n = omega arith

pub bump_true : (b : Bool) (n : ℕ) → b ≡ true → bump b n ≡ suc n
bump_true b n e = ap (λ t. bump t n) e

pub bump_false : (b : Bool) (n : ℕ) → b ≡ false → bump b n ≡ n
bump_false b n e = ap (λ t. bump t n) e

bearers_after : (i : Identity) (before : List Flight) (f : Flight) → bearers i (before ++ f ∷ []) ≡ bump (same_identity f.identity i) (bearers i before)
bearers_after i [] f = refl
bearers_after i (g ∷ before) f =
    let ih = bearers_after i before f in
    let a = bump_adds (same_identity g.identity i) (bearers i (before ++ f ∷ [])) in
    let b = bump_adds (same_identity g.identity i) (bearers i before) in
    let c = bump_adds (same_identity f.identity i) (bearers i before) in
    let d = bump_adds (same_identity f.identity i) (bearers i (g ∷ before)) in
    omega arith

holders_after : (x : Slot) (before : List Flight) (f : Flight) → holders x (before ++ f ∷ []) ≡ bump (is_slot f.slot x) (holders x before)
holders_after x [] f = refl
holders_after x (g ∷ before) f =
    let ih = holders_after x before f in
    let a = bump_adds (is_slot g.slot x) (holders x (before ++ f ∷ [])) in
    let b = bump_adds (is_slot g.slot x) (holders x before) in
    let c = bump_adds (is_slot f.slot x) (holders x before) in
    let d = bump_adds (is_slot f.slot x) (holders x (g ∷ before)) in
    omega arith

-- no two flights have one identity or one slot, there are at most 512, and each keeps its own rules
pub record Rules (e : Meaning) (fs : List Flight) : Type 0 where
  pub stand : AllByRecursion (λ f. flight_stands e f ≡ true) fs
  pub identities : (i : Identity) → bearers i fs ≤ 1
  pub slots : (x : Slot) → holders x fs ≤ 1
  pub few : length fs ≤ 512

record Joins (e : Meaning) (before : List Flight) (f : Flight) : Type 0 where
  stands : flight_stands e f ≡ true
  identity : new_identity before f ≡ true
  slot : new_slot before f ≡ true
  place : length before ≤ 511

joins_parts : (e : Meaning) (before : List Flight) (f : Flight) → joins e before f ≡ true → Joins e before f
joins_parts e before f h =
    let p = and_parts _ (has_place before) h in
    let q = and_parts _ (new_slot before f) p.0 in
    let r = and_parts (flight_stands e f) (new_identity before f) q.0 in
    record { stands = r.0; identity = r.1; slot = q.1; place = leb-true (length before) 511 p.1 }

joins_from : (e : Meaning) (before : List Flight) (f : Flight) → Joins e before f → joins e before f ≡ true
joins_from e before f j =
    and_from _ _ (and_from _ _ (and_from _ _ j.stands j.identity) j.slot) (le-leb (length before) 511 j.place)

identity_adds : (before : List Flight) (f : Flight) (i : Identity) → new_identity before f ≡ true → bearers i before ≤ 1 → bump (same_identity f.identity i) (bearers i before) ≤ 1
identity_adds before f i h k =
    by_test (same_identity f.identity i)
    (λ e.
    let z = some_false (bearers f.identity before) (not-true _ h) in
    let z' : bearers i before ≡ 0 = (ap (λ j. bearers j before) (sym (identity_true f.identity i e)) ∙ z) in
    rw e (omega arith))
    (λ e. rw e k)

slot_adds : (before : List Flight) (o : Option Slot) (x : Slot) → free_slot before o ≡ true → holders x before ≤ 1 → bump (is_slot o x) (holders x before) ≤ 1
slot_adds before o x h k =
    by_test (is_slot o x)
    (λ e.
    let h' : free_slot before (Some x) ≡ true = (ap (free_slot before) (sym (is_slot_fact o x e)) ∙ h) in
    let z = some_false (holders x before) (not-true _ h') in
    rw e (omega arith))
    (λ e. rw e k)

each_stands : (e : Meaning) (before fs : List Flight) → stands_after e before fs ≡ true → AllByRecursion (λ f. flight_stands e f ≡ true) fs
each_stands e before [] h = tt
each_stands e before (f ∷ fs) h =
    let p = and_parts (joins e before f) _ h in
    ((joins_parts e before f p.0).stands, each_stands e (before ++ f ∷ []) fs p.1)

bearers_few : (e : Meaning) (before fs : List Flight) → stands_after e before fs ≡ true → (i : Identity) → bearers i before ≤ 1 → bearers i fs + bearers i before ≤ 1
bearers_few e before [] h i k = omega arith
bearers_few e before (f ∷ fs) h i k =
    let p = and_parts (joins e before f) _ h in
    let a = identity_adds before f i (joins_parts e before f p.0).identity k in
    let b = bearers_after i before f in
    let ih = bearers_few e (before ++ f ∷ []) fs p.1 i (omega arith) in
    let c = bump_adds (same_identity f.identity i) (bearers i fs) in
    let d = bump_adds (same_identity f.identity i) (bearers i before) in
    omega arith

holders_few : (e : Meaning) (before fs : List Flight) → stands_after e before fs ≡ true → (x : Slot) → holders x before ≤ 1 → holders x fs + holders x before ≤ 1
holders_few e before [] h x k = omega arith
holders_few e before (f ∷ fs) h x k =
    let p = and_parts (joins e before f) _ h in
    let a = slot_adds before f.slot x (joins_parts e before f p.0).slot k in
    let b = holders_after x before f in
    let ih = holders_few e (before ++ f ∷ []) fs p.1 x (omega arith) in
    let c = bump_adds (is_slot f.slot x) (holders x fs) in
    let d = bump_adds (is_slot f.slot x) (holders x before) in
    omega arith

places : (e : Meaning) (before fs : List Flight) → stands_after e before fs ≡ true → length before ≤ 512 → length fs + length before ≤ 512
places e before [] h k = omega arith
places e before (f ∷ fs) h k =
    let p = and_parts (joins e before f) _ h in
    let a = (joins_parts e before f p.0).place in
    let b = length-append before (f ∷ []) in
    let ih = places e (before ++ f ∷ []) fs p.1 (omega arith) in
    omega arith

pub rules_of : (e : Meaning) (fs : List Flight) → table_stands e fs ≡ true → Rules e fs
rules_of e fs h = record {
  stand = each_stands e [] fs h;
  identities = λ i. let a = bearers_few e [] fs h i (omega arith) in omega arith;
  slots = λ x. let a = holders_few e [] fs h x (omega arith) in omega arith;
  few = let a = places e [] fs h (omega arith) in omega arith;
}

identity_new : (before : List Flight) (f : Flight) (n : ℕ) → bump (same_identity f.identity f.identity) n + bearers f.identity before ≤ 1 → new_identity before f ≡ true
identity_new before f n h =
    let a = bump_true (same_identity f.identity f.identity) n (identity_refl f.identity) in
    none_some (bearers f.identity before) (omega arith)

slot_new : (before : List Flight) (o : Option Slot) (n : Slot → ℕ) → ((x : Slot) → bump (is_slot o x) (n x) + holders x before ≤ 1) → free_slot before o ≡ true
slot_new before None n h = refl
slot_new before (Some x) n h =
    let a = bump_true (same_slot x x) (n x) (slot_refl x) in
    let b = h x in
    none_some (holders x before) (omega arith)

stands_from : (e : Meaning) (before fs : List Flight) → AllByRecursion (λ f. flight_stands e f ≡ true) fs → ((i : Identity) → bearers i fs + bearers i before ≤ 1) → ((x : Slot) → holders x fs + holders x before ≤ 1) → length fs + length before ≤ 512 → stands_after e before fs ≡ true
stands_from e before [] a i x n = refl
stands_from e before (f ∷ fs) a i x n =
    and_from _ _
    (joins_from e before f (record {
      stands = a.0;
      identity = identity_new before f (bearers f.identity fs) (i f.identity);
      slot = slot_new before f.slot (λ y. holders y fs) x;
      place = omega arith;
    }))
    (stands_from e (before ++ f ∷ []) fs a.1
    (λ j.
    let h = i j in
    let b = bearers_after j before f in
    let c = bump_adds (same_identity f.identity j) (bearers j fs) in
    let d = bump_adds (same_identity f.identity j) (bearers j before) in
    omega arith)
    (λ y.
    let h = x y in
    let b = holders_after y before f in
    let c = bump_adds (is_slot f.slot y) (holders y fs) in
    let d = bump_adds (is_slot f.slot y) (holders y before) in
    omega arith)
    (let b = length-append before (f ∷ []) in omega arith))

pub rules_stand : (e : Meaning) (fs : List Flight) → Rules e fs → table_stands e fs ≡ true
rules_stand e fs r =
    stands_from e [] fs r.stand
    (λ i. let a = r.identities i in omega arith)
    (λ x. let a = r.slots x in omega arith)
    (let a = r.few in omega arith)
