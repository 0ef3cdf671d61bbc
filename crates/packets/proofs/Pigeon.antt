-- How often something stands in a list, and the pigeonhole.
use Rattle.std.proofs.Common.{◌≡◌, ℕ, ◌+◌, ◌≤◌, Bool, true, cond, List, [], ◌∷◌, length, Some, None, Option, sym, refl, ap, ◌∙◌, arith}
use Rattle.flights.specs.Counts.{bump}
use Rattle.packets.proofs.Deciding.{by_test}
use Rattle.packets.proofs.Table.{bump_adds, bump_true}

-- how often x stands in a list
abbrev pub occurs : {X : Type 0} → (X → X → Bool) → X → List X → ℕ
occurs same x [] = 0
occurs same x (y ∷ ys) = bump (same y x) (occurs same x ys)

-- the list and one more, where there is one
abbrev pub push : {X : Type 0} → Option X → List X → List X
push None xs = xs
push (Some x) xs = x ∷ xs

-- the list without the first x
abbrev without : {X : Type 0} → (X → X → Bool) → X → List X → List X
without same x [] = []
without same x (y ∷ ys) = cond (same y x) ys (y ∷ without same x ys)

module _ {X : Type 0} (same : X → X → Bool) (is : (a b : X) → same a b ≡ true → a ≡ b) (self : (a : X) → same a a ≡ true) where
  without_occurs : (x : X) (ys : List X) (z : X) → 1 ≤ occurs same x ys → occurs same z ys ≡ bump (same x z) (occurs same z (without same x ys))
  without_occurs x [] z h = absurd (omega arith)
  without_occurs x (y ∷ ys) z h =
      by_test (same y x)
      (λ e. rw e (ap (λ w. bump (same w z) (occurs same z ys)) (is y x e)))
      (λ e.
      let k : 1 ≤ occurs same x ys = (rw e at h) in
      let ih = without_occurs x ys z k in
      let a = bump_adds (same y z) (occurs same z ys) in
      let b = bump_adds (same x z) (occurs same z (without same x ys)) in
      let c = bump_adds (same y z) (occurs same z (without same x ys)) in
      let d = bump_adds (same x z) (bump (same y z) (occurs same z (without same x ys))) in
      rw e (omega arith))

  without_length : (x : X) (ys : List X) → 1 ≤ occurs same x ys → length ys ≡ 1 + length (without same x ys)
  without_length x [] h = absurd (omega arith)
  without_length x (y ∷ ys) h =
      by_test (same y x)
      (λ e. rw e (omega arith))
      (λ e. let k : 1 ≤ occurs same x ys = (rw e at h) in let ih = without_length x ys k in rw e (omega arith))

  -- a list where nothing stands more often than in another of its length has the same elements as often
  pub pigeon : (xs ys : List X) → ((z : X) → occurs same z xs ≤ occurs same z ys) → length xs ≡ length ys → (z : X) → occurs same z xs ≡ occurs same z ys
  pigeon [] [] h e z = refl
  pigeon [] (y ∷ ys) h e z = absurd (omega arith)
  pigeon (x ∷ xs) ys h e z =
      let a = bump_true (same x x) (occurs same x xs) (self x) in
      let c : 1 ≤ occurs same x ys = (let b = h x in omega arith) in
      let less : (w : X) → occurs same w xs ≤ occurs same w (without same x ys) =
      (λ w.
      let q = h w in
      let r = without_occurs x ys w c in
      let i = bump_adds (same x w) (occurs same w xs) in
      let j = bump_adds (same x w) (occurs same w (without same x ys)) in
      omega arith) in
      let len : length xs ≡ length (without same x ys) = (let q = without_length x ys c in omega arith) in
      let ih = pigeon xs (without same x ys) less len z in
      ap (bump (same x z)) ih ∙ sym (without_occurs x ys z c)
