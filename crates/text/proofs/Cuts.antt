use Rattle.std.proofs.Common.{◌≡◌, ℕ, suc, ◌+◌, ◌<◌, ◌≤◌, Bool, true, false, cond, not, eqb, leb, List, [], ◌∷◌, map, length, get_or, take, drop, Some, None, Option, sym, refl, ap, ◌∙◌, add-one, one-add, ◌++◌, ltb, arith}
use Rattle.std.proofs.lemmas.Bool.{le-leb, lt-leb, eq-eqb, ne_eqb, ltb-true, ltb-false}
use Rattle.std.proofs.lemmas.List.{take_all, length-take, length-map}
use Rattle.std.proofs.lemmas.List.Sums.{prefix_len-le-length}
use Rattle.std.specs.List.{prefix_len, position, slice_get}
use Rattle.std.specs.Option.{unwrap_or, option_map}
use Rattle.std.specs.Borrow.{Bor}
use Rattle.std.proofs.lemmas.Option.{unwrap_or-slice_get, none-some}
use Rattle.text.specs.Parts.{parts, parts_of, onto, is_other, chomped, at}
use Rattle.text.specs.Lines.{Line, lines, clipped, line_of, lines_left}
use Rattle.text.specs.declared.lines.Line.{Line as LentLine}
use Rattle.text.specs.declared.lines.Lines.{Lines}

more : (b x n : ℕ) (xs : List ℕ) (t : Bool) → (n < length xs → parts b xs ≡ take n xs ∷ parts b (drop (n + 1) xs)) → cond (not t) (1 + n) 0 < length (x ∷ xs) → cond t ([] ∷ parts b xs) (onto x (parts b xs)) ≡ take (cond (not t) (1 + n) 0) (x ∷ xs) ∷ parts b (drop (cond (not t) (1 + n) 0 + 1) (x ∷ xs))
more b x n xs true ih h = refl
more b x n xs false ih h = let l : n < length xs = omega arith in rw (ih l, one-add, add-one, add-one)

-- the first part, where a byte b follows it
parts_more : (b : ℕ) (xs : List ℕ) → prefix_len (is_other b) xs < length xs → parts b xs ≡ take (prefix_len (is_other b) xs) xs ∷ parts b (drop (prefix_len (is_other b) xs + 1) xs)
parts_more b [] h = absurd (omega arith)
parts_more b (x ∷ xs) h = more b x (prefix_len (is_other b) xs) xs (eqb x b) (parts_more b xs) h

all : (b x n : ℕ) (xs : List ℕ) (t : Bool) → (length xs ≤ n → parts b xs ≡ xs ∷ []) → length (x ∷ xs) ≤ cond (not t) (1 + n) 0 → cond t ([] ∷ parts b xs) (onto x (parts b xs)) ≡ (x ∷ xs) ∷ []
all b x n xs true ih h = absurd (omega arith)
all b x n xs false ih h = let l : length xs ≤ n = omega arith in rw (ih l)

-- the only part
parts_all : (b : ℕ) (xs : List ℕ) → length xs ≤ prefix_len (is_other b) xs → parts b xs ≡ xs ∷ []
parts_all b [] h = refl
parts_all b (x ∷ xs) h = all b x (prefix_len (is_other b) xs) xs (eqb x b) (parts_all b xs) h

found : (n m k : ℕ) (t : Bool) → ltb n m ≡ t → cond t (Some n) None ≡ Some k → (n ≡ k) × (n < m)
found n m k true e h = (ap (λ o. unwrap_or o 0) h, ltb-true n m e)
found n m k false e h = absurd (none-some k h)

not_found : (n m : ℕ) (t : Bool) → ltb n m ≡ t → cond t (Some n) None ≡ None → m ≤ n
not_found n m true e h = absurd (none-some n (sym h))
not_found n m false e h = ltb-false n m e

-- the same, where the first byte b was looked for
pub parts_at : (b k : ℕ) (xs : List ℕ) → position (λ x. eqb x b) xs ≡ Some k → parts b xs ≡ take k xs ∷ parts b (drop (k + 1) xs)
parts_at b k xs h =
    let f = found (prefix_len (is_other b) xs) (length xs) k _ refl h in
    parts_more b xs f.1 ∙ ap (λ n. take n xs ∷ parts b (drop (n + 1) xs)) f.0

pub parts_whole : (b : ℕ) (xs : List ℕ) → position (λ x. eqb x b) xs ≡ None → parts b xs ≡ xs ∷ []
parts_whole b xs h = parts_all b xs (not_found (prefix_len (is_other b) xs) (length xs) _ refl h)

or_else : (n m : ℕ) (t : Bool) → ltb n m ≡ t → n ≤ m → unwrap_or (cond t (Some n) None) m ≡ n
or_else n m true e h = refl
or_else n m false e h = let g = ltb-false n m e in omega (arith, g)

pub first_or_len : (b : ℕ) (xs : List ℕ) → unwrap_or (position (λ x. eqb x b) xs) (length xs) ≡ prefix_len (is_other b) xs
first_or_len b xs = or_else (prefix_len (is_other b) xs) (length xs) _ refl (prefix_len-le-length (is_other b) xs)

-- over any limit, since `take 160` would open 160 times
pub clip_all : (n : ℕ) (l : List ℕ) → length l ≤ n → ◌≡◌ {A = Line} (record { text = l; readable = true }) (record { text = take n l; readable = leb (length l) n })
clip_all n l h = rw (take_all n l h, le-leb (length l) n h)

pub clip_over : (n : ℕ) (l : List ℕ) → n < length l → ◌≡◌ {A = Line} (record { text = take n l; readable = false }) (record { text = take n l; readable = leb (length l) n })
clip_over n l h = rw (lt-leb (length l) n h)

clip_short : (n : ℕ) (l : List ℕ) → length (take n l) ≤ n
clip_short n l = rw length-take (omega arith)

-- there is at most one part more than there are bytes
onto_most : (x n : ℕ) (ls : List (List ℕ)) → 1 ≤ n → length ls ≤ n → length (onto x ls) ≤ n
onto_most x n [] h k = omega arith
onto_most x n (l ∷ ls) h k = omega arith

most_step : (x n : ℕ) (ls : List (List ℕ)) (t : Bool) → length ls ≤ n + 1 → length (cond t ([] ∷ ls) (onto x ls)) ≤ suc n + 1
most_step x n ls true h = omega arith
most_step x n ls false h = onto_most x (suc n + 1) ls (omega arith) (omega arith)

pub most_parts : (b : ℕ) (xs : List ℕ) → length (parts b xs) ≤ length xs + 1
most_parts b [] = omega arith
most_parts b (x ∷ xs) = most_step x (length xs) (parts b xs) (eqb x b) (most_parts b xs)

-- a list with its last byte
push_front : (b y z last : ℕ) (ys : List ℕ) (t : Bool) → cond t (y ∷ z ∷ ys) (y ∷ z ∷ ys ++ last ∷ []) ≡ y ∷ cond t (z ∷ ys) (z ∷ ys ++ last ∷ [])
push_front b y z last ys true = refl
push_front b y z last ys false = refl

push_one : (y last : ℕ) (t : Bool) → y ∷ cond t [] (last ∷ []) ≡ cond t (y ∷ []) (y ∷ last ∷ [])
push_one y last true = refl
push_one y last false = refl

pub chomped_push : (b last : ℕ) (front : List ℕ) → chomped b (front ++ last ∷ []) ≡ cond (eqb last b) front (front ++ last ∷ [])
chomped_push b last [] = refl
chomped_push b last (y ∷ []) = push_one y last (eqb last b)
chomped_push b last (y ∷ z ∷ ys) = ap (λ l. y ∷ l) (chomped_push b last (z ∷ ys)) ∙ sym (push_front b y z last ys (eqb last b))

pub chomped_taken : (b last : ℕ) (front xs : List ℕ) → xs ≡ front ++ last ∷ [] → last ≡ b → front ≡ chomped b xs
chomped_taken b last front xs h e = sym (ap (chomped b) h ∙ chomped_push b last front ∙ rw (eq-eqb last b e))

pub chomped_kept : (b last : ℕ) (front xs : List ℕ) → xs ≡ front ++ last ∷ [] → (last ≡ b → ⊥) → xs ≡ chomped b xs
chomped_kept b last front xs h e = h ∙ sym (ap (chomped b) h ∙ chomped_push b last front ∙ rw (ne_eqb last b e))

-- without the last byte there are no more bytes
one_le : (t : Bool) (x : ℕ) → length (cond t [] (x ∷ [])) ≤ 1
one_le true x = omega arith
one_le false x = omega arith

pub chomped_le : (b : ℕ) (xs : List ℕ) → length (chomped b xs) ≤ length xs
chomped_le b [] = omega arith
chomped_le b (x ∷ []) = one_le (eqb x b) x
chomped_le b (x ∷ y ∷ xs) = let h = chomped_le b (y ∷ xs) in omega arith

pub most_lines : (xs : List ℕ) → length (lines xs) ≤ length xs + 1
most_lines xs = simp length-map (omega (arith, most_parts 10 (chomped 10 xs), chomped_le 10 xs))

-- what `nth` gave of an iterator that has these texts left, and the empty text where it gave none
unwrapped : (r : Option (Bor (List ℕ))) (d : Bor (List ℕ)) → (unwrap_or r d).now ≡ unwrap_or (option_map at r) d.now
unwrapped None d = refl
unwrapped (Some x) d = refl

pub nth_or_empty : (r : Option (Bor (List ℕ))) (d : Bor (List ℕ)) (xs : List (List ℕ)) (k : ℕ) → option_map at r ≡ slice_get xs k → d.now ≡ [] → (unwrap_or r d).now ≡ get_or xs k []
nth_or_empty r d xs k h e = unwrapped r d ∙ rw (h, e) (unwrap_or-slice_get xs k [])

-- an item of a cursor over lines has at most 160 bytes of text
clipped_short : (ls : List (List ℕ)) (x : Line) (rest : List Line) → map clipped ls ≡ x ∷ rest → length x.text ≤ 160
clipped_short [] x rest h = absurd (omega (arith, ap length h))
clipped_short (l ∷ ls) x rest h = let e : take 160 l ≡ x.text = ap (λ ys. (get_or ys 0 x).text) h in rw (← e) (clip_short 160 l)

pub short_line : (before after : Lines) (x : LentLine) → lines_left before ≡ line_of x ∷ lines_left after → length x.text.now ≤ 160
short_line before after x h = clipped_short (parts_of 10 before.rest) (line_of x) (lines_left after) h
