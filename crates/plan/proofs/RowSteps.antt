-- Steps of the loops over rows.
use Rattle.std.proofs.Common.{◌≡◌, ℕ, zero, suc, ◌+◌, ◌<◌, ◌≤◌, true, false, leb, List, [], ◌∷◌, ◌++◌, map, length, get_or, take, set, sym, ap, ◌∙◌, append_assoc, append-nil, arith, length-append}
use Rattle.std.proofs.lemmas.Bool.{and_from, and_left, and_right, le-leb, lt-leb}
use Rattle.text.specs.Lines.{Line}
use Rattle.std.proofs.lemmas.List.{length-map, length-take-le, map-append, take_more_set}
use Rattle.plan.specs.declared.row.Row.{Row as KeptRow}
use Rattle.plan.specs.declared.row.Plan.{Plan}
use Rattle.plan.specs.Rows.{Row, row_of, rows_of, number_of, numbers_of, message_at}
use Rattle.messages.specs.Headers.{has_places}

-- the message of a row that the code reads at a place
pub message_there : (rows : List KeptRow) (i : ℕ) (x : KeptRow) → i < length rows → x ≡ get_or rows i x → (row_of x).message ≡ message_at (map row_of rows) i
message_there [] i x l e = absurd (omega arith)
message_there (r ∷ rs) zero x l e = ap (λ y. (row_of y).message) e
message_there (r ∷ rs) (suc i) x l e = message_there rs i x (omega arith) e

-- how many rows are filled
length_filled : {X Y : Type 0} (f : X → Y) (k : ℕ) (xs : List X) → k ≤ length xs → length (map f (take k xs)) ≡ k
length_filled f k xs h = length-map (take k xs) f ∙ length-take-le k xs h

pub count_rows : (p : Plan) → length (rows_of p) ≡ p.count
count_rows p = length_filled row_of p.count p.rows (omega (arith, p.few, p.whole))

pub count_numbers : (p : Plan) → length (numbers_of p) ≡ p.count
count_numbers p = length_filled number_of p.count p.rows (omega (arith, p.few, p.whole))

-- one more behind the first n
pub stored_more : {X Y : Type 0} (f : X → Y) (xs : List X) (n : ℕ) (x : X) → n < length xs → map f (take (n + 1) (set xs n x)) ≡ map f (take n xs) ++ f x ∷ []
stored_more f xs n x h = ap (map f) (take_more_set xs n x h) ∙ map-append f (take n xs) (x ∷ [])

-- the rows so far and the lines to come
module _ (f : Line → Row) where
  total : (rows : List Row) (left start : List Line) → rows ++ map f left ≡ map f start → length rows + length left ≡ length start
  total rows left start inv =
      let a = length-append rows (map f left) in
      let b = length-map left f in
      let c = length-map start f in
      let d = ap length inv in
      omega arith

  pub filled_more : (rows rows' : List Row) (left rest start : List Line) (l : Line) (r : Row) → rows ++ map f left ≡ map f start → left ≡ l ∷ rest → r ≡ f l → rows' ≡ rows ++ r ∷ [] → rows' ++ map f rest ≡ map f start
  filled_more rows rows' left rest start l r inv e row push =
      ap (λ (k : List Row). k ++ map f rest) push
      ∙ append_assoc rows (r ∷ []) (map f rest)
      ∙ ap (λ (y : Row). rows ++ y ∷ map f rest) row
      ∙ (sym (ap (λ (k : List Line). rows ++ map f k) e) ∙ inv)

  pub too_many : (rows : List Row) (left rest start : List Line) (l : Line) → rows ++ map f left ≡ map f start → left ≡ l ∷ rest → length rows ≡ 64 → has_places start ≡ false
  too_many rows left rest start l inv e n =
      let t = total rows left start inv in
      let k = ap length e in
      let more : 64 < length start = omega arith in
      and_right (leb 1 (length start)) (leb (length start) 64) (lt-leb (length start) 64 more)

  pub none_there : (rows : List Row) (left start : List Line) → rows ++ map f left ≡ map f start → left ≡ [] → length rows ≡ 0 → has_places start ≡ false
  none_there rows left start inv e n =
      let t = total rows left start inv in
      let k = ap length e in
      let none : length start < 1 = omega arith in
      and_left (leb 1 (length start)) (leb (length start) 64) (lt-leb 1 (length start) none)

  pub all_there : (rows : List Row) (left start : List Line) → rows ++ map f left ≡ map f start → left ≡ [] → 1 ≤ length rows → length rows ≤ 64 → (has_places start ≡ true) × (rows ≡ map f start)
  all_there rows left start inv e least most =
      let t = total rows left start inv in
      let k = ap length e in (
        and_from (leb 1 (length start)) (leb (length start) 64) (le-leb 1 (length start) (omega arith)) (le-leb (length start) 64 (omega arith)),
        sym (append-nil rows) ∙ (sym (ap (λ (j : List Line). rows ++ map f j) e) ∙ inv),
      )
