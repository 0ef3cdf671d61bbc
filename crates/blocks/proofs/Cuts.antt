-- An input cut after its first line, and at its first lone point.
use Rattle.std.proofs.Common.{◌≡◌, ℕ, suc, ◌+◌, ◌-◌, ◌<◌, ◌≤◌, Bool, true, false, cond, not, eqb, List, [], ◌∷◌, ◌++◌, length, take, drop, Some, None, Option, refl, sym, subst, ap, ◌∙◌, arith, append-nil, append_assoc, take-append-drop}
use Rattle.std.specs.List.{prefix_len, FoldsTo}
use Rattle.std.proofs.lemmas.List.{length-append}
use Rattle.std.proofs.lemmas.List.Sums.{prefix_len-le-length}
use lib.Seq.{take-append_seam}
use Rattle.text.specs.Parts.{onto, is_other}
use Rattle.blocks.specs.Bodies.{ended_lines, is_point, bodies_from, bodies, last_body, ended}
use Rattle.std.specs.Iterator.{YieldsThen, FindsItem}
use Rattle.std.specs.Fn.{CalledAt}
use Rattle.std.specs.Option.{MatchOption}
use Rattle.std.specs.Bool.{⊤}
use Rattle.std.specs.Borrow.{Bor}
use denote.Param.Members.{Mut}
use Rattle.blocks.specs.declared.cursor.EndedLines.{EndedLines}
use Rattle.blocks.specs.Steps.{first_len, YieldsLine}

pub run_within : (b : ℕ) (xs : List ℕ) → prefix_len (is_other b) xs ≤ length xs
run_within b xs = prefix_len-le-length (is_other b) xs

onto_len : (x : ℕ) (ls : List (List ℕ)) → first_len (onto x ls) ≡ suc (first_len ls)
onto_len x [] = refl
onto_len x (l ∷ ls) = refl

more : (x n : ℕ) (xs : List ℕ) (t : Bool) → (n < length xs → n + 1 ≡ first_len (ended_lines xs)) → cond (not t) (1 + n) 0 < length (x ∷ xs) → cond (not t) (1 + n) 0 + 1 ≡ first_len (cond t ((x ∷ []) ∷ ended_lines xs) (onto x (ended_lines xs)))
more x n xs true ih h = refl
more x n xs false ih h = let l : n < length xs = omega arith in omega (arith, ih l, onto_len x (ended_lines xs))

-- how long the first line is, where an LF ends it
pub first_ended : (xs : List ℕ) → prefix_len (is_other 10) xs < length xs → prefix_len (is_other 10) xs + 1 ≡ first_len (ended_lines xs)
first_ended [] h = absurd (omega arith)
first_ended (x ∷ xs) h = more x (prefix_len (is_other 10) xs) xs (eqb x 10) (first_ended xs) h

all : (x n : ℕ) (xs : List ℕ) (t : Bool) → (length xs ≤ n → n ≡ first_len (ended_lines xs)) → length (x ∷ xs) ≤ cond (not t) (1 + n) 0 → cond (not t) (1 + n) 0 ≡ first_len (cond t ((x ∷ []) ∷ ended_lines xs) (onto x (ended_lines xs)))
all x n xs true ih h = absurd (omega arith)
all x n xs false ih h = let l : length xs ≤ n = omega arith in omega (arith, ih l, onto_len x (ended_lines xs))

-- and where none does
pub first_open : (xs : List ℕ) → length xs ≤ prefix_len (is_other 10) xs → prefix_len (is_other 10) xs ≡ first_len (ended_lines xs)
first_open [] h = refl
first_open (x ∷ xs) h = all x (prefix_len (is_other 10) xs) xs (eqb x 10) (first_open xs) h

cut_onto : (x : ℕ) (xs : List ℕ) (ls : List (List ℕ)) → ls ≡ take (first_len ls) xs ∷ ended_lines (drop (first_len ls) xs) → onto x ls ≡ take (first_len (onto x ls)) (x ∷ xs) ∷ ended_lines (drop (first_len (onto x ls)) (x ∷ xs))
cut_onto x xs [] h = let no : ◌≡◌ {A = ℕ} 0 1 = cc in absurd (omega arith)
cut_onto x xs (l ∷ ls) h = cc

cut_step : (x : ℕ) (xs : List ℕ) (t : Bool) → (0 < length xs → ended_lines xs ≡ take (first_len (ended_lines xs)) xs ∷ ended_lines (drop (first_len (ended_lines xs)) xs)) → let ls = cond t ((x ∷ []) ∷ ended_lines xs) (onto x (ended_lines xs)) in ls ≡ take (first_len ls) (x ∷ xs) ∷ ended_lines (drop (first_len ls) (x ∷ xs))
cut_step x xs true ih = refl
cut_step x [] false ih = refl
cut_step x (y ∷ ys) false ih = cut_onto x (y ∷ ys) (ended_lines (y ∷ ys)) (ih (omega arith))

-- the first line, and the lines of what follows it
pub lines_first : (xs : List ℕ) → 0 < length xs → ended_lines xs ≡ take (first_len (ended_lines xs)) xs ∷ ended_lines (drop (first_len (ended_lines xs)) xs)
lines_first [] h = absurd (omega arith)
lines_first (x ∷ xs) h = cut_step x xs (eqb x 10) (lines_first xs)

pub lines_taken : (xs front back : List ℕ) (n : ℕ) → 0 < length xs → n ≡ first_len (ended_lines xs) → front ≡ take n xs → back ≡ drop n xs → (xs ≡ front ++ back) × (ended_lines xs ≡ front ∷ ended_lines back)
lines_taken xs front back n h e f b = (
  sym (ap (λ l. l ++ back) f ∙ ap (λ l. take n xs ++ l) b ∙ take-append-drop n xs),
  lines_first xs h ∙ rw (f, b, e),
)

-- what a search for the first lone point has found, where `bytes` of the first body came before
abbrev Found : List ℕ → EndedLines → Option (Bor (List ℕ)) → EndedLines → Type 0
Found bytes s None u = bodies_from bytes (ended_lines s.rest.now) ≡ last_body (bytes ++ s.rest.now)
Found bytes s (Some l) u = (front : List ℕ) × (s.rest.now ≡ front ++ (l.now ++ u.rest.now)) × (bodies_from bytes (ended_lines s.rest.now) ≡ ended (bytes ++ front) ∷ bodies u.rest.now)

found_now : (bytes : List ℕ) (s u : EndedLines) (r : Option (Bor (List ℕ))) → YieldsLine s r u → MatchOption r ⊤ (λ l. is_point l.now ≡ true) → Found bytes s r u
found_now bytes s u None h p = rw h.0 (sym (ap last_body (append-nil bytes)))
found_now bytes s u (Some l) h p = ([], h.0, ap (bodies_from bytes) h.1 ∙ rw (p, append-nil bytes))

found_later : (bytes : List ℕ) (s t u : EndedLines) (l : Bor (List ℕ)) (r : Option (Bor (List ℕ))) → YieldsLine s (Some l) t → is_point l.now ≡ false → Found (bytes ++ l.now) t r u → Found bytes s r u
found_later bytes s t u l None h p f = ap (bodies_from bytes) h.1 ∙ rw p (f ∙ ap last_body (append_assoc bytes l.now t.rest.now ∙ ap (λ (x : List ℕ). bytes ++ x) (sym h.0)))
found_later bytes s t u l (Some k) h p f = (
  l.now ++ f.0,
  h.0 ∙ ap (λ (x : List ℕ). l.now ++ x) f.1 ∙ sym (append_assoc l.now f.0 (k.now ++ u.rest.now)),
  ap (bodies_from bytes) h.1 ∙ rw p (f.2 ∙ ap (λ (x : List ℕ). ended x ∷ bodies u.rest.now) (append_assoc bytes l.now f.0)),
)

-- the bytes before the point
front_len : (input front point after : List ℕ) → input ≡ front ++ (point ++ after) → length input ≡ length front + (length point + length after)
front_len input front point after h = ap length h ∙ length-append front (point ++ after) ∙ ap (λ (n : ℕ). length front + n) (length-append point after)

front_taken : (input front point after : List ℕ) → input ≡ front ++ (point ++ after) → take (length input - length point - length after) input ≡ front
front_taken input front point after h =
    let n : length input - length point - length after ≡ length front = omega (arith, front_len input front point after h) in
    rw n (ap (take (length front)) h ∙ take-append_seam front (point ++ after))

module _ {F : Type 0} (g : Mut F (Bor (Bor (List ℕ)) × Unit {0}) Bool) (f : F) (tests : (l : Bor (List ℕ)) (b : Bool) (q : F) → CalledAt g f l b q → (q ≡ f) × (b ≡ is_point l.now)) where
  here : (p : F) (r : Option (Bor (List ℕ))) → p ≡ f → MatchOption r ⊤ (λ l. (h : F) × CalledAt g p l true h) → MatchOption r ⊤ (λ l. is_point l.now ≡ true)
  here p None e m = tt
  here p (Some l) e m = sym (tests l true m.0 (rw (← e) m.1)).1

  found : (xs : List (Bor (List ℕ))) (bytes : List ℕ) (s u : EndedLines) (r : Option (Bor (List ℕ))) (p j : F) → p ≡ f → YieldsThen YieldsLine s xs r u → FoldsTo (λ p x q. CalledAt g p x false q) p xs j → MatchOption r ⊤ (λ l. (h : F) × CalledAt g j l true h) → Found bytes s r u
  found [] bytes s u r p j e y c m = found_now bytes s u r (rw y.1 y.2) (here j r (sym c ∙ e) m)
  found (l ∷ xs) bytes s u r p j e y c m =
      let t = tests l false c.0 (rw (← e) c.1) in
      found_later bytes s y.1.0 u l r y.1.1 (sym t.1) (found xs (bytes ++ l.now) y.1.0 u r c.0 j t.0 (y.0, y.1.2, y.2) c.2 m)

  found_first : (s u : EndedLines) (r q : Option (Bor (List ℕ))) → FindsItem YieldsLine g s f r u → r ≡ q → Found [] s q u
  found_first s u r q ran e = subst (λ (o : Option (Bor (List ℕ))). Found [] s o u) e (found ran.0 [] s u r f ran.1 refl ran.2 ran.3 ran.4)

  -- the first lone point stands in these bytes, or none does
  pub point_found : (s u : EndedLines) (r : Option (Bor (List ℕ))) (l : Bor (List ℕ)) → FindsItem YieldsLine g s f r u → r ≡ Some l → let xs = s.rest.now in (length l.now ≤ length xs) × (length u.rest.now ≤ length xs - length l.now) × (bodies xs ≡ ended (take (length xs - length l.now - length u.rest.now) xs) ∷ bodies u.rest.now)
  point_found s u r l ran e =
      let f = found_first s u r (Some l) ran e in
      let n = front_len s.rest.now f.0 l.now u.rest.now f.1 in
      (omega (arith, n), omega (arith, n), rw (front_taken s.rest.now f.0 l.now u.rest.now f.1) f.2)

  pub none_found : (s u : EndedLines) (r : Option (Bor (List ℕ))) → FindsItem YieldsLine g s f r u → r ≡ None → bodies s.rest.now ≡ last_body s.rest.now
  none_found s u r ran e = found_first s u r None ran e
