-- Where no SC line of another names a slot of the user's SC lines, each packet of the user names none that others have named.
use Rattle.std.proofs.Common.{◌≡◌, ℕ, zero, suc, true, false, cond, List, [], ◌∷◌, ◌++◌, map, sym, refl, ap, ◌∙◌, subst}
use Rattle.std.proofs.ByRecursion.{All-append, All-weaker}
use Rattle.std.proofs.lemmas.Bool.{cond-true, cond-false}
use Rattle.std.specs.List.{AllByRecursion}
use Rattle.element.specs.Slots.{Slot, same_slot}
use Rattle.flights.specs.Counts.{bump, some}
use Rattle.packets.proofs.Deciding.{by_test, slot_sym}
use Rattle.model.specs.Model.{Setting, Call, issue, switch, depart, purge, packet, report}
use Rattle.histories.specs.Runs.{Event}
use Rattle.histories.specs.Callers.{stranger, caller_of, is_of}
use Rattle.histories.specs.Slots.{times, is_in}
use Rattle.histories.specs.Forces.{Force, force_after, created_under}
use Rattle.histories.specs.Claims.{Claim, claim_as, claims_of, claims_from, Apart, AllApart}

all_left : {X : Type 0} (P : X → Type 0) (xs ys : List X) → AllByRecursion P (xs ++ ys) → AllByRecursion P xs
all_left P [] ys a = tt
all_left P (x ∷ xs) ys a = (a.0, all_left P xs ys a.1)

all_right : {X : Type 0} (P : X → Type 0) (xs ys : List X) → AllByRecursion P (xs ++ ys) → AllByRecursion P ys
all_right P [] ys a = a
all_right P (x ∷ xs) ys a = all_right P xs ys a.1

all_unmap : {X Y : Type 0} (P : Y → Type 0) (f : X → Y) (xs : List X) → AllByRecursion P (map f xs) → AllByRecursion (λ x. P (f x)) xs
all_unmap P f [] a = tt
all_unmap P f (x ∷ xs) a = (a.0, all_unmap P f xs a.1)

all_none : {X Y : Type 0} (P : X → Y → Type 0) (ys : List Y) → AllByRecursion (λ y. AllByRecursion (λ x. P x y) []) ys
all_none P [] = tt
all_none P (y ∷ ys) = (tt, all_none P ys)

all_zip : {Y : Type 0} (P Q R : Y → Type 0) → ((y : Y) → P y → Q y → R y) → (ys : List Y) → AllByRecursion P ys → AllByRecursion Q ys → AllByRecursion R ys
all_zip P Q R f [] a b = tt
all_zip P Q R f (y ∷ ys) a b = (f y a.0 b.0, all_zip P Q R f ys a.1 b.1)

all_swap : {X Y : Type 0} (P : X → Y → Type 0) (xs : List X) (ys : List Y) → AllByRecursion (λ x. AllByRecursion (P x) ys) xs → AllByRecursion (λ y. AllByRecursion (λ x. P x y) xs) ys
all_swap P [] ys a = all_none P ys
all_swap P (x ∷ xs) ys a = all_zip (P x) (λ y. AllByRecursion (λ x. P x y) xs) (λ y. AllByRecursion (λ x. P x y) (x ∷ xs)) (λ y p q. (p, q)) ys a.0 (all_swap P xs ys a.1)

-- a slot that differs from each is not among them
out : (y : Slot) (xs : List Slot) → AllByRecursion (λ x. same_slot y x ≡ false) xs → is_in y xs ≡ false
out y [] a = refl
out y (x ∷ xs) a = ap (λ b. some (bump b (times y xs))) (slot_sym x y ∙ a.0) ∙ out y xs a.1

module _ {S : Type 0} (s : Setting S) (u : ℕ) where
  -- the slots that others have named under the issue in force, after a call
  abbrev pub named_after : Force → List Slot → Call S → ℕ → List Slot
  named_after f but (issue list) zero = []
  named_after f but (issue list) (suc n) = but
  named_after f but (switch on) n = but
  named_after f but (depart id departure arrival date) n = but
  named_after f but purge n = but
  named_after f but (packet sender input buffer) n =
      cond (is_of (caller_of s (packet sender input buffer)) u) but (created_under s.element f.days input.lines ++ but)
  named_after f but (report sender input buffer) n = but

  -- a packet of the user names none of them
  abbrev pub Clear : Force → List Slot → Call S → Type 0
  Clear f but (issue list) = Unit {0}
  Clear f but (switch on) = Unit {0}
  Clear f but (depart id departure arrival date) = Unit {0}
  Clear f but purge = Unit {0}
  Clear f but (packet sender input buffer) =
      is_of (caller_of s (packet sender input buffer)) u ≡ true → AllByRecursion (λ y. is_in y but ≡ false) (created_under s.element f.days input.lines)
  Clear f but (report sender input buffer) = Unit {0}

  abbrev pub ClearAll : Force → List Slot → List (Event S) → Type 0
  ClearAll f but [] = Unit {0}
  ClearAll f but (v ∷ vs) = Clear f but v.call × ClearAll (force_after s.element f v.call v.number) (named_after f but v.call v.number) vs

  -- no claim of the user under this issue names the slot
  abbrev Avoids : ℕ → List Claim → Slot → Type 0
  Avoids n cs x = AllByRecursion (λ a. is_of a.by u ≡ true → a.issue ≡ n → same_slot a.slot x ≡ false) cs

  later : (n : ℕ) (cs ds : List Claim) (but : List Slot) → AllByRecursion (Avoids n (cs ++ ds)) but → AllByRecursion (Avoids n ds) but
  later n cs ds but e = All-weaker _ _ (λ x a. all_right _ cs ds a) but e

  clear_now : (c : Call S) (f : Force) (but : List Slot) (ds : List Claim) → AllByRecursion (Avoids f.issues (claims_of s f c ++ ds)) but → Clear f but c
  clear_now (issue list) f but ds e = tt
  clear_now (switch on) f but ds e = tt
  clear_now (depart id departure arrival date) f but ds e = tt
  clear_now purge f but ds e = tt
  clear_now (packet sender input buffer) f but ds e =
      λ mine.
      let who = caller_of s (packet sender input buffer) in
      let made = created_under s.element f.days input.lines in
      let cs = map (claim_as who f.issues) made in
      let one = All-weaker _ (λ x. AllByRecursion (λ a. is_of a.by u ≡ true → a.issue ≡ f.issues → same_slot a.slot x ≡ false) cs) (λ x a. all_left _ cs ds a) but e in
      let two = all_swap (λ (x : Slot) (a : Claim). is_of a.by u ≡ true → a.issue ≡ f.issues → same_slot a.slot x ≡ false) but cs one in
      let three = all_unmap _ (claim_as who f.issues) made two in
      All-weaker _ _ (λ y a. out y but (All-weaker _ _ (λ x h. h mine refl) but a)) made three
  clear_now (report sender input buffer) f but ds e = tt

  clear_later : (c : Call S) (n : ℕ) (f : Force) (but : List Slot) (ds : List Claim) → AllByRecursion (Avoids f.issues (claims_of s f c ++ ds)) but → AllApart u (claims_of s f c ++ ds) →
      AllByRecursion (Avoids (force_after s.element f c n).issues ds) (named_after f but c n)
  clear_later (issue list) zero f but ds e a = tt
  clear_later (issue list) (suc n) f but ds e a = e
  clear_later (switch on) n f but ds e a = e
  clear_later (depart id departure arrival date) n f but ds e a = e
  clear_later purge zero f but ds e a = e
  clear_later purge (suc n) f but ds e a = e
  clear_later (packet sender input buffer) n f but ds e a =
      let who = caller_of s (packet sender input buffer) in
      let made = created_under s.element f.days input.lines in
      let cs = map (claim_as who f.issues) made in
      by_test (is_of who u)
      (λ t. subst (AllByRecursion (Avoids f.issues ds)) (sym (cond-true (is_of who u) but (made ++ but) t)) (later f.issues cs ds but e))
      (λ t.
      let one = all_right (λ x. AllByRecursion (Apart u x) (cs ++ ds)) cs ds a in
      let two = All-weaker _ (λ x. AllByRecursion (Apart u x) cs) (λ x h. all_left _ cs ds h) ds one in
      let three = all_unmap _ (claim_as who f.issues) made (all_swap (Apart u) ds cs two) in
      let new : AllByRecursion (Avoids f.issues ds) made = All-weaker _ _ (λ x h. All-weaker _ _ (λ a k mine same. k mine t same) ds h) made three in
      subst (AllByRecursion (Avoids f.issues ds)) (sym (cond-false (is_of who u) but (made ++ but) t))
      (All-append (Avoids f.issues ds) made but new (later f.issues cs ds but e)))
  clear_later (report sender input buffer) n f but ds e a = e

  apart_right : (cs ds : List Claim) → AllApart u (cs ++ ds) → AllApart u ds
  apart_right cs ds a = All-weaker _ _ (λ x h. all_right _ cs ds h) ds (all_right _ cs ds a)

  clear_from : (vs : List (Event S)) (f : Force) (but : List Slot) → AllByRecursion (Avoids f.issues (claims_from s f vs)) but → AllApart u (claims_from s f vs) → ClearAll f but vs
  clear_from [] f but e a = tt
  clear_from (v ∷ vs) f but e a =
      let g = force_after s.element f v.call v.number in (
        clear_now v.call f but (claims_from s g vs) e,
        clear_from vs g (named_after f but v.call v.number) (clear_later v.call v.number f but (claims_from s g vs) e a) (apart_right (claims_of s f v.call) (claims_from s g vs) a),
      )

  -- by the claims of a whole history, and the slots that others have named before it
  pub all_clear : (vs : List (Event S)) (f : Force) (but : List Slot) → AllApart u (map (claim_as stranger f.issues) but ++ claims_from s f vs) → ClearAll f but vs
  all_clear vs f but a =
      let bs = map (claim_as stranger f.issues) but in
      let ds = claims_from s f vs in
      let one = all_right (λ x. AllByRecursion (Apart u x) (bs ++ ds)) bs ds a in
      let two = All-weaker _ (λ x. AllByRecursion (Apart u x) bs) (λ x h. all_left _ bs ds h) ds one in
      let three = all_unmap _ (claim_as stranger f.issues) but (all_swap (Apart u) ds bs two) in
      clear_from vs f but (All-weaker _ _ (λ x h. All-weaker _ _ (λ a k mine same. k mine refl same) ds h) but three) (apart_right bs ds a)
