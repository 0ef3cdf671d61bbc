-- A departure leaves the standing rules as they were.
use Rattle.std.proofs.Common.{◌≡◌, Bool, true, false, cond, not, ◌&&◌, leb, List, [], ◌∷◌, ◌++◌, map, Some, None, Option, sym, refl, ap, ◌∙◌}
use Rattle.calendar.specs.Identities.{Identity, same_identity}
use Rattle.element.specs.Slots.{Slot}
use Rattle.element.specs.Meanings.{Meaning}
use Rattle.flights.specs.Counts.{bump, some}
use Rattle.flights.specs.Flights.{Flight, is_slot, bearers, holders, departing, departed_as}
use Rattle.flights.specs.Standing.{flight_stands, new_identity, free_slot, new_slot, has_place, joins, stands_after, table_stands}
use Rattle.std.proofs.lemmas.List.{length-map, map-append}

identity_kept : (b : Bool) (f : Flight) → (cond b (departing f) f).identity ≡ f.identity
identity_kept true f = refl
identity_kept false f = refl

slot_kept : (b : Bool) (f : Flight) → (cond b (departing f) f).slot ≡ f.slot
slot_kept true f = refl
slot_kept false f = refl

stands_kept : (e : Meaning) (b : Bool) (f : Flight) → flight_stands e (cond b (departing f) f) ≡ flight_stands e f
stands_kept e true f = refl
stands_kept e false f = refl

module _ (i : Identity) where
  bearers_kept : (j : Identity) (fs : List Flight) → bearers j (map (departed_as i) fs) ≡ bearers j fs
  bearers_kept j [] = refl
  bearers_kept j (f ∷ fs) =
      ap (λ k. bump (same_identity k j) (bearers j (map (departed_as i) fs))) (identity_kept (same_identity f.identity i) f)
      ∙ ap (bump (same_identity f.identity j)) (bearers_kept j fs)

  holders_kept : (s : Slot) (fs : List Flight) → holders s (map (departed_as i) fs) ≡ holders s fs
  holders_kept s [] = refl
  holders_kept s (f ∷ fs) =
      ap (λ o. bump (is_slot o s) (holders s (map (departed_as i) fs))) (slot_kept (same_identity f.identity i) f)
      ∙ ap (bump (is_slot f.slot s)) (holders_kept s fs)

  free_kept : (before : List Flight) (o : Option Slot) → free_slot (map (departed_as i) before) o ≡ free_slot before o
  free_kept before None = refl
  free_kept before (Some s) = ap (λ n. not (some n)) (holders_kept s before)

  joins_kept : (e : Meaning) (before : List Flight) (f : Flight) → joins e (map (departed_as i) before) (departed_as i f) ≡ joins e before f
  joins_kept e before f =
      let b = same_identity f.identity i in
      let before' = map (departed_as i) before in
      let p : flight_stands e (departed_as i f) ≡ flight_stands e f = stands_kept e b f in
      let q : new_identity before' (departed_as i f) ≡ new_identity before f =
      ap (λ j. not (some (bearers j before'))) (identity_kept b f) ∙ ap (λ n. not (some n)) (bearers_kept f.identity before) in
      let r : new_slot before' (departed_as i f) ≡ new_slot before f = ap (free_slot before') (slot_kept b f) ∙ free_kept before f.slot in
      let s : has_place before' ≡ has_place before = ap (λ n. leb n 511) (length-map before (departed_as i)) in
      cc

  after_kept : (e : Meaning) (before fs : List Flight) → stands_after e (map (departed_as i) before) (map (departed_as i) fs) ≡ stands_after e before fs
  after_kept e before [] = refl
  after_kept e before (f ∷ fs) =
      ap (λ b. b && stands_after e (map (departed_as i) before ++ departed_as i f ∷ []) (map (departed_as i) fs)) (joins_kept e before f)
      ∙ ap (λ b. joins e before f && b)
      (ap (λ l. stands_after e l (map (departed_as i) fs)) (sym (map-append (departed_as i) before (f ∷ []))) ∙ after_kept e (before ++ f ∷ []) fs)

  pub departed_stands : (e : Meaning) (fs : List Flight) → table_stands e (map (departed_as i) fs) ≡ table_stands e fs
  departed_stands e fs = after_kept e [] fs
